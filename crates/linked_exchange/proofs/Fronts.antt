-- A text that is only appended to begins with the text that it was.
use Rattle.std.proofs.Common.{◌≡◌, ℕ, Result, Ok, Err, OnOk, OnErr, List, ◌++◌, length, take}
use Rattle.std.proofs.Transfers.{starts_with_of_append, starts_with_of_eq}

-- a line is appended if no allocation fails
pub front_of_result : {E : Type 0} (r : Result (Unit {0}) E) (was more now : List ℕ) → OnOk r (now ≡ was ++ more) → OnErr r (now ≡ was) → take (length was) now ≡ was
front_of_result (Ok done) was more now appended kept = starts_with_of_append now was more appended
front_of_result (Err error) was more now appended kept = starts_with_of_eq now was kept
