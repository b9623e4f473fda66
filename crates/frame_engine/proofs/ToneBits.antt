-- Words with a bit for each place of a line that receives a tone.
use Rattle.std.proofs.Common.{◌≡◌, ℕ, ◌+◌, ◌*◌, ◌%◌, ◌^◌, ◌<◌, List, refl, ap, ◌∙◌, sym, inl, inr, w32, arith}
use Rattle.std.specs.Prelude.{bit_and, slice_index_or}
use Rattle.std.specs.Int.{bit_at, bit_not, trailing_zeros}
use Rattle.std.proofs.lemmas.Bool.{cases_eq, cases_lt}
use Rattle.std.proofs.lemmas.Nat.{and_le_l}
use Rattle.std.proofs.lemmas.Nat.Bits.{bit_at_clear_same, bit_at-trailing_zeros}
use Rattle.circuit_model.specs.declared.circuit.Kind.{Kind}
use Rattle.control_memory.specs.declared.heard.Heard.{Heard}
use Rattle.control_memory.specs.declared.heard.Heard.TheVariants.{Silent, Path, Tone}
use Rattle.control_memory.specs.HeardRows.{heard_on, HasToneBits, tone_bit}

-- a source with the bit of a tone is a tone
pub tone_only : (heard : Heard) → tone_bit heard ≡ 1 → ((kind : Kind) (since : ℕ) → heard ≡ Tone kind since → ⊥) → ⊥
tone_only Silent is none = absurd (omega (arith, is))
tone_only (Path since) is none = absurd (omega (arith, is))
tone_only (Tone kind since) is none = none kind since refl

-- a word without its lowest bit is smaller
pub lowest_cleared : (word k : ℕ) → k < 32 → bit_at word k ≡ 1 → bit_and word (bit_not w32 (1 * 2 ^ k % 2 ^ 32)) < word
lowest_cleared word k within is =
    let left : ℕ = bit_and word (bit_not w32 (1 * 2 ^ k % 2 ^ 32)) in
    let gone : bit_at left k ≡ 0 = bit_at_clear_same w32 word k within in
    elim (cases_eq left word) [
      | inl same ↦ absurd (let both : bit_at left k ≡ bit_at word k = ap (λ x. bit_at x k) same in omega arith)
      | inr other ↦ omega (arith, and_le_l word (bit_not w32 (1 * 2 ^ k % 2 ^ 32)))
    ]

-- the lowest bit of a part of the word is a place that receives a tone
pub lowest_tone : (heard : List Heard) (places left : ℕ) → HasToneBits heard 0 places → ((k : ℕ) → k < 32 → bit_at left k ≡ 1 → bit_at places k ≡ 1) → (left ≡ 0 → ⊥) → left < 2 ^ 32
    → (trailing_zeros w32 left < 30) × (bit_at left (trailing_zeros w32 left) ≡ 1) × (tone_bit (slice_index_or heard (trailing_zeros w32 left) Silent) ≡ 1)
lowest_tone heard places left has within some fits =
    let t : ℕ = trailing_zeros w32 left in
    let first = bit_at-trailing_zeros w32 left (omega (arith, some)) fits in
    let small : t < 32 = first.0 in
    let set : bit_at places t ≡ 1 = within t small first.1 in
    let low : t < 30 = elim (cases_lt t 30) [ inl early ↦ early | inr late ↦ absurd (omega (arith, set, has.rest t late small)) ] in
    let row : t ≡ 30 * 0 + t = omega arith in
    (low, first.1, ap (λ n. tone_bit (slice_index_or heard n Silent)) row ∙ sym (has.places t low) ∙ set)

-- the word of a line is one of its row
pub row_bits : (heard row : List Heard) (line word : ℕ) → HasToneBits heard line word → ((place : ℕ) → place < 30 → slice_index_or row place Silent ≡ heard_on heard line place) → HasToneBits row 0 word
row_bits heard row line word has same = record {
  places = λ place near.
      let row_start : 30 * 0 + place ≡ place = omega arith in
      has.places place near ∙ sym (ap tone_bit (ap (λ n. slice_index_or row n Silent) row_start ∙ same place near));
  rest = has.rest;
}
