-- The order of the file is lawful.
use Rattle.std.proofs.Common.{◌≡◌, ℕ, zero, suc, ◌+◌, ◌-◌, ◌<◌, ◌≤◌, true, nat_lt, List, [], ◌∷◌, length, take, slice_index, get_or, Contains, refl, arith, ◌∙◌, ap, inl, inr, if◌then◌else◌}
use Rattle.std.specs.List.{range_with_len}
use Rattle.std.proofs.lemmas.Bool.{ltb-true, le-leb, cases_lt}
use Rattle.std.proofs.lemmas.List.Sums.{sum_by-cons}
use Rattle.std.proofs.lemmas.List.FromFn.{length-range_with_len, get_or-range_with_len}
use Rattle.exchange_events.specs.declared.trace.Trace.{Trace}
use Rattle.circuit_model.proofs.Slots.{true_or_false}
use Rattle.exchange_events.specs.Orders.{IsLawful, IsLawfulPrefix, Precedes, segment_of, file_order}

-- whether a segment ends before event n, as a number
abbrev ended_before : ℕ → ℕ → ℕ
ended_before n last = if nat_lt last n then 1 else 0

ended_rises : (m n last : ℕ) → n ≤ m → ended_before n last ≤ ended_before m last
ended_rises m n last below =
    elim (true_or_false (nat_lt last n)) [
      | inl before ↦
          let first : last < n = ltb-true last n before in
          let later : nat_lt last m ≡ true = le-leb (suc last) m (omega (arith, first, below)) in
          rw (before, later) (omega arith)
      | inr after ↦ rw after (omega arith)
    ]

-- fewer segments end before an earlier event
segment_rises : (ends : List ℕ) (m n : ℕ) → n ≤ m → segment_of ends n ≤ segment_of ends m
segment_rises [] m n below = omega arith
segment_rises (last ∷ ends) m n below =
    let at_n : segment_of (last ∷ ends) n ≡ ended_before n last + segment_of ends n = sum_by-cons (ended_before n) last ends in
    let at_m : segment_of (last ∷ ends) m ≡ ended_before m last + segment_of ends m = sum_by-cons (ended_before m) last ends in
    omega (arith, at_n, at_m, ended_rises m n last below, segment_rises ends m n below)

-- what has to precede an event has a lower number
precedes_below : (t : Trace) (m n : ℕ) → Precedes t m n → m < n
precedes_below t m n (inl earlier) =
    elim (cases_lt m n) [
      | inl below ↦ below
      | inr above ↦ let rises = segment_rises t.segments m n above in absurd (omega (arith, rises, earlier))
    ]
precedes_below t m n (inr same) = same.1

take_range : (a n k : ℕ) → k ≤ n → take k (range_with_len a n) ≡ range_with_len a k
take_range a n zero within = refl
take_range a zero (suc k) within = absurd (omega arith)
take_range a (suc n) (suc k) within = ap (λ ms. a ∷ ms) (take_range (a + 1) n k (omega arith))

-- the numbers of the first events of the file
number_at : (count k d : ℕ) → k < length (file_order count) → (get_or (file_order count) k d ≡ 1 + k) × (k < count)
number_at count k d within =
    let below : k < count = omega (arith, length-range_with_len 1 count, within) in
    (get_or-range_with_len 1 count k d below, below)

holds_number : (count m : ℕ) → 1 ≤ m → m ≤ count → Contains (file_order count) m
holds_number count m low high =
    let same : 1 + (m - 1) ≡ m = omega arith in
    (m - 1, omega (arith, length-range_with_len 1 count, low, high), get_or-range_with_len 1 count (m - 1) m (omega arith) ∙ same)

pub lawful_begun : (t : Trace) (count : ℕ) → count ≤ length t.events → IsLawfulPrefix t (file_order count)
lawful_begun t count within = record {
  known = λ k d inside. let at = number_at count k d inside in rw at.0 (omega arith, let below = at.1 in omega (arith, below, within));
  distinct = λ i j d below inside same.
      let first : i < length (file_order count) = omega (arith, below, inside) in
      let at_i = number_at count i d first in
      let at_j = number_at count j d inside in
      omega (arith, at_i.0, at_j.0, same, below);
  waits = λ k inside m is precedes.
      let at = number_at count k 0 inside in
      let below = rw at.0 at (precedes_below t m (slice_index (file_order count) k) precedes) in
      let early : m ≤ k = omega (arith, below) in
      rw (take_range 1 count k (let lt = at.1 in omega (arith, lt))) (holds_number k m is.0 early);
}

pub lawful_whole : (t : Trace) → IsLawful t (file_order (length t.events))
lawful_whole t = record { begun = lawful_begun t (length t.events) (omega arith); whole = λ n is. holds_number (length t.events) n is.0 is.1 }
