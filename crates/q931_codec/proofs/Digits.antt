-- Where one element fails a test, they don't all pass it.
use Rattle.std.proofs.Common.{◌≡◌, ℕ, zero, suc, ◌<◌, Bool, false, List, [], ◌∷◌, length, get_or, map, arith}
use Rattle.std.specs.List.{list_all}
use Rattle.std.proofs.lemmas.Bool.{and_left, and_right}

pub not_all : (test : ℕ → Bool) (f : ℕ → ℕ) (xs : List ℕ) (i d : ℕ) → i < length xs → test (f (get_or xs i d)) ≡ false → list_all test (map f xs) ≡ false
not_all test f [] i d lt other = absurd (omega arith)
not_all test f (y ∷ ys) zero d lt other = and_left (test (f y)) (list_all test (map f ys)) other
not_all test f (y ∷ ys) (suc i) d lt other = and_right (test (f y)) (list_all test (map f ys)) (not_all test f ys i d (omega arith) other)
