use Rattle.std.proofs.Common.{◌≡◌, ◌^◌, ◌-◌, min, take}
use Rattle.segment_run.specs.Choice.{events_beside, largest_part}
use Rattle.segment_run.proofs.choice.is_worth_threads.Given as goal

abbrev pub invariant-loop-load : goal.invariant-loop-load
invariant-loop-load l = record {
  largest_is : l.largest ≡ largest_part (take l.load-index l.loads);
  beside_is : l.beside ≡ min (events_beside (take l.load-index l.loads)) (2 ^ 32 - 1);
}
