-- The octets of a message are octets, wherever they are read.
use Rattle.std.proofs.Common.{ℕ, ◌<◌, List, inl, inr, sym, subst, arith, get_or}
use Rattle.std.specs.Prelude.{All, length}
use Rattle.std.proofs.lemmas.Bool.{cases_lt}
use Rattle.std.proofs.Math.ListN.{get_or-eq_default}

pub octets_small : (octets : List ℕ) → All (λ octet. octet < 256) octets → (i : ℕ) → get_or octets i 0 < 256
octets_small octets all i = elim (cases_lt i (length octets)) [
  | inl inside ↦ all i 0 inside
  | inr beyond ↦ subst (λ n. n < 256) (sym (get_or-eq_default octets 0 beyond)) (omega arith)
]
