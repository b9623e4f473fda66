-- The knowledge of a seat after a step. Source: this project.
use Rattle.std.specs.Prelude.{◌≡◌, ◌+◌, ◌≤◌, length}
use Rattle.seat_history.specs.declared.seat_knowledge.SeatKnowledge.{SeatKnowledge}

-- at most one turn was used, and the number, the baton and the seats made and joined are unchanged
pub record HasStepped (v w : SeatKnowledge) : Type 0 where
  pub left : v.left ≤ w.left + 1
  pub baton : w.baton ≡ v.baton
  pub number : w.number ≡ v.number
  pub made : w.made ≡ v.made
  pub kept : length w.kept ≡ length v.kept
