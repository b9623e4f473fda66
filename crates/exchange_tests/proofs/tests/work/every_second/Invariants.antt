use Rattle.std.proofs.Common.{◌≡◌, ◌+◌, ◌≤◌, length}
use Rattle.exchange_tests.proofs.tests.work.every_second.Given as goal

abbrev pub invariant-loop-i : goal.invariant-loop-i
invariant-loop-i g l = record {
  seated : g.B.Switchboard.seated l.board l.seat;
  left : l.count ≤ (g.B.Switchboard.known l.seat).left + l.i;
  number : (g.B.Switchboard.known l.seat).number ≡ (g.B.Switchboard.known l.fn.seat).number;
  made : (g.B.Switchboard.known l.seat).made ≡ (g.B.Switchboard.known l.fn.seat).made;
  kept : length (g.B.Switchboard.known l.seat).kept ≡ length (g.B.Switchboard.known l.fn.seat).kept;
  granted : l.granted ≤ l.i;
}
