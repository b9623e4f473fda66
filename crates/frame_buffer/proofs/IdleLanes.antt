-- The mask of lanes that all fail a test.
use Rattle.std.proofs.Common.{◌≡◌, ℕ, suc, ◌<◌, Bool, true, false, true≢false, List, [], ◌∷◌, length, get_or, refl, arith}
use Rattle.std.specs.Simd.Lanes.{mask_l}

-- no bit of it is set
pub empty_mask : (ms : List Bool) → ((lane : ℕ) → lane < length ms → get_or ms lane false ≡ false) → mask_l ms ≡ 0
empty_mask [] fails = refl
empty_mask (true ∷ ms) fails = absurd (true≢false (fails 0 (omega arith)))
empty_mask (false ∷ ms) fails = omega (arith, empty_mask ms (λ lane near. fails (suc lane) (omega (arith, near))))
