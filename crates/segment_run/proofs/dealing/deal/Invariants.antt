use Rattle.std.proofs.Common.{◌≡◌, ◌+◌, ◌≤◌, length}
use Rattle.std.specs.List.{All}
use Rattle.std.specs.Prelude.{vec_capacity}
use Rattle.segment_run.proofs.DealLemmas.{Dealing}
use Rattle.segment_run.proofs.dealing.deal.Given as goal

abbrev pub invariant-loop-worker : goal.invariant-loop-worker
invariant-loop-worker g l = record {
  seated : g.B.Switchboard.seated l.board l.seat;
  others : All (λ j. g.B.Switchboard.seated l.board j.seat) l.jobs.items;
  few : length l.jobs.items ≤ l.worker;
  dealing : Dealing (λ j. j.worker) (λ j. g.B.Switchboard.known j.seat) l.trace l.segment (g.B.Switchboard.known l.fn.seat) l.worker l.jobs.items (g.B.Switchboard.known l.seat);
  room : 9 ≤ vec_capacity l.jobs;
  lent : length l.unused.items + length l.jobs.items ≡ 9;
  kept : vec_capacity l.unused ≡ vec_capacity l.fn.unused;
}
