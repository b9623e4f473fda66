use Rattle.std.proofs.Common.{◌≡◌}
use Rattle.number_plan.specs.Bounds.{leading}
use Rattle.number_plan.proofs.digits.bounds_of.Given as goal

-- the bounds of the octets so far
abbrev pub invariant-loop-place : goal.invariant-loop-place
invariant-loop-place l = record {
  least : l.bounds.least ≡ leading 0 l.place l.octets;
  greatest : l.bounds.greatest ≡ leading 255 l.place l.octets;
}
