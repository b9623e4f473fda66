-- A text that is only appended to begins with the text that it was, and its pieces are one line.
use Rattle.std.proofs.Common.{◌≡◌, ℕ, Bool, true, false, cond, Result, Ok, Err, OnOk, is_ok, List, ◌++◌, length, take, refl, append_assoc}
use Rattle.std.proofs.Transfers.{starts_with_of_append, starts_with_of_eq}

-- octets are appended if the allocation succeeds
pub front_of_extend : (b : Bool) (was more now : List ℕ) → now ≡ cond b (was ++ more) was → take (length was) now ≡ was
front_of_extend true was more now e = starts_with_of_append now was more e
front_of_extend false was more now e = starts_with_of_eq now was e

-- three texts are appended, and the end of the line if the allocation succeeds
pub line_of : {E : Type 0} (r : Result (Unit {0}) E) (out first second third moved sent end a b c d : List ℕ) → a ≡ out ++ first ++ second ++ third → b ≡ a ++ moved → c ≡ b ++ sent
    → d ≡ cond (is_ok r) (c ++ end) c → OnOk r (d ≡ out ++ (first ++ second ++ third ++ moved ++ sent ++ end))
line_of (Ok done) out first second third moved sent end a b c d e1 e2 e3 e4 = rw (e4, e3, e2, e1) (simp append_assoc refl)
line_of (Err error) out first second third moved sent end a b c d e1 e2 e3 e4 = tt
