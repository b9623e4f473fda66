use Rattle.std.proofs.Common.{◌≡◌, length}
use Rattle.turn_lock.specs.Locks.{IsSeatOf}
use Rattle.lock_tests.proofs.tests.lock.crew.step_all.Given as goal

abbrev pub invariant-loop-number : goal.invariant-loop-number
invariant-loop-number g l = record {
  zero : IsSeatOf l.fn.lock l.zero;
  one : IsSeatOf l.fn.lock l.one;
  two : IsSeatOf l.fn.lock l.two;
  number : l.zero.known.number ≡ l.fn.zero.known.number;
  made : l.zero.known.made ≡ l.fn.zero.known.made;
  kept : length l.zero.known.kept ≡ length l.fn.zero.known.kept;
}
