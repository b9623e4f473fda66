use Rattle.std.proofs.Common.{inl, inr, arith}
use Rattle.std.proofs.lemmas.Bool.{cases_lt}
use Rattle.frame_buffer.proofs.idle.is_idle.Goals as goal

pub returns-then-are_idle-clause-octets : goal.returns-then-are_idle-clause-octets
returns-then-are_idle-clause-octets c idle at near = elim (cases_lt at 16) [
  | inl low ↦ c.are_idle.ensures.octets c.if-are_idle.true at (omega arith) low
  | inr high ↦ c.are_idle-then-are_idle.ensures.octets idle at (omega (arith, high)) near
]
