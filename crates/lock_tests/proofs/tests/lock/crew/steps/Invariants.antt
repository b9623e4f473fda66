use Rattle.std.proofs.Common.{◌≡◌, length}
use Rattle.turn_lock.specs.Locks.{IsSeatOf}
use Rattle.lock_tests.proofs.tests.lock.crew.steps.Given as goal

abbrev pub invariant-loop-i : goal.invariant-loop-i
invariant-loop-i g l = record {
  lock : IsSeatOf l.fn.lock l.seat;
  number : l.seat.known.number ≡ l.fn.seat.known.number;
  made : l.seat.known.made ≡ l.fn.seat.known.made;
  kept : length l.seat.known.kept ≡ length l.fn.seat.known.kept;
}
