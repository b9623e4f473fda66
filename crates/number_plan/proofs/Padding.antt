-- A list in an array that is padded with zeros.
use Rattle.std.proofs.Common.{◌≡◌, ℕ, suc, ◌+◌, ◌-◌, ◌<◌, List, ◌∷◌, length, drop, get_or, replicate, refl, sym, ap, ◌∙◌, arith}
use Rattle.std.specs.Prelude.{slice_set}
use Rattle.std.proofs.lemmas.List.{drop_more, drop-set-lt}

first_zero : (k m v : ℕ) (rest : List ℕ) → k ≡ suc m → v ∷ rest ≡ replicate k 0 → rest ≡ replicate m 0
first_zero k m v rest is pads = ap (λ (l : List ℕ). drop 1 l) (pads ∙ ap (λ n. replicate n 0) is)

-- one entry of the padding is written
pub still_padded : (xs : List ℕ) (count at v : ℕ) → at ≡ count → length xs ≡ 32 → count < 32 → drop count xs ≡ replicate (32 - count) 0 → drop (count + 1) (slice_set xs at v) ≡ replicate (32 - (count + 1)) 0
still_padded xs count at v is size few pads =
    drop-set-lt (count + 1) xs at v (omega (arith, is))
    ∙ first_zero (32 - count) (32 - (count + 1)) (get_or xs count 0) (drop (count + 1) xs) (omega (arith, few)) (sym (drop_more xs count 0 (omega (arith, size, few))) ∙ pads)
