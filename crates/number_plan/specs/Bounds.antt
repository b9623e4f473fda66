-- The first octets of a string as one number. A string that begins with some octets has its number between two bounds.
use Rattle.std.specs.Prelude.{◌≡◌, ℕ, zero, suc, ◌+◌, ◌*◌, ◌<◌, List, get_or}
use Rattle.number_plan.specs.declared.digits.Bounds.{Bounds}

-- the first octets as one number, with `other` for each octet that the string does not have
unfoldable pub leading : ℕ → ℕ → List ℕ → ℕ
leading other zero octets = 0
leading other (suc n) octets = leading other n octets * 256 + get_or octets n other

-- the least and the greatest number of eight octets that begin with these
pub record AreBounds (digits : List ℕ) (bounds : Bounds) : Type 0 where
  pub octets : (i : ℕ) → get_or digits i 0 < 256
  pub least : bounds.least ≡ leading 0 8 digits
  pub greatest : bounds.greatest ≡ leading 255 8 digits
