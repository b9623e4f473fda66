use Rattle.std.proofs.Common.{◌≡◌, ◌+◌, length}
use Rattle.std.specs.Prelude.{All}
use Rattle.exchange_events.specs.Sound.{Fits}
use Rattle.exchange_tests.proofs.tests.traces.push_frames.Given as goal

abbrev pub invariant-loop-number : goal.invariant-loop-number
invariant-loop-number l = record {
  count : length l.events.items + 1 ≡ length l.fn.events.items + l.number;
  fits : All (Fits 2) l.events.items;
}
