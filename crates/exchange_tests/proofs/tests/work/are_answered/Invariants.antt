use Rattle.std.proofs.Common.{◌≡◌, ◌+◌, ◌≤◌, IsTrue, length}
use Rattle.exchange_tests.proofs.tests.work.are_answered.Given as goal

abbrev pub invariant-loop-number : goal.invariant-loop-number
invariant-loop-number g l = record {
  zero : g.B.Switchboard.seated l.board l.zero;
  one : g.B.Switchboard.seated l.board l.one;
  baton : IsTrue (g.B.Switchboard.known l.zero).baton;
  zero_left : length l.fn.steps ≤ (g.B.Switchboard.known l.zero).left + l.number-index;
  one_left : length l.fn.steps ≤ (g.B.Switchboard.known l.one).left + l.number-index;
  number : (g.B.Switchboard.known l.zero).number ≡ (g.B.Switchboard.known l.fn.zero).number;
  made : (g.B.Switchboard.known l.zero).made ≡ (g.B.Switchboard.known l.fn.zero).made;
  kept : length (g.B.Switchboard.known l.zero).kept ≡ length (g.B.Switchboard.known l.fn.zero).kept;
}
