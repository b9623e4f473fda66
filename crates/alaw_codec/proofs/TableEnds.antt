-- A value beyond the table takes the code at the table's end.
use Rattle.std.proofs.Common.{◌≡◌, ℕ, suc, ◌<◌, ◌≤◌, min, true, false, int_le, ℤ, pos, negsuc, ap, ◌∙◌, ⊎_elim, arith}
use Rattle.std.specs.Int.{int_min, int_max}
use Rattle.std.proofs.lemmas.Int.{ints, clamps}
use Rattle.std.proofs.lemmas.Bool.{le-leb}
use Rattle.circuit_model.specs.ALaw.{octet_of_interval, interval_of, compress}
use Rattle.circuit_model.proofs.PortSeats.{below_or_not}

abbrev pub clamped : ℤ → ℤ
clamped value = int_max (negsuc 4094) (int_min value (pos 4095))

compress_above : (n : ℕ) → 4096 ≤ n → compress (pos 4095) ≡ compress (pos n)
compress_above n far =
    let positive : int_le (pos 0) (pos n) ≡ true = le-leb 0 n (omega arith) in
    let size : min 4095 4095 ≡ min n 4095 = omega arith in
    rw positive (ap (λ m. octet_of_interval true (interval_of m)) size)

compress_below : (n : ℕ) → 4095 ≤ n → compress (negsuc 4094) ≡ compress (negsuc n)
compress_below n far = let size : min 4095 4095 ≡ min (suc n) 4095 = omega arith in ap (λ m. octet_of_interval false (interval_of m)) size

pub compress-clamped : (value : ℤ) → compress (clamped value) ≡ compress value
compress-clamped (pos n) =
    ⊎_elim
    (λ (near : n < 4096). let same : clamped (pos n) ≡ pos n = omega (arith, ints, clamps) in ap compress same)
    (λ (far : 4096 ≤ n). let end : clamped (pos n) ≡ pos 4095 = omega (arith, ints, clamps) in ap compress end ∙ compress_above n far)
    (below_or_not n 4096)
compress-clamped (negsuc n) =
    ⊎_elim
    (λ (near : n < 4095). let same : clamped (negsuc n) ≡ negsuc n = omega (arith, ints, clamps) in ap compress same)
    (λ (far : 4095 ≤ n). let end : clamped (negsuc n) ≡ negsuc 4094 = omega (arith, ints, clamps) in ap compress end ∙ compress_below n far)
    (below_or_not n 4095)
