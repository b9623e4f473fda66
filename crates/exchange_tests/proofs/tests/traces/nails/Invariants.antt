use Rattle.std.proofs.Common.{◌≡◌, ◌*◌, length}
use Rattle.std.specs.Prelude.{All}
use Rattle.exchange_events.specs.Sound.{Fits}
use Rattle.exchange_tests.proofs.tests.traces.nails.Given as goal

abbrev pub invariant-loop-place : goal.invariant-loop-place
invariant-loop-place l = record {
  count : length l.events.items ≡ 2 * l.place;
  fits : All (Fits 4) l.events.items;
}
