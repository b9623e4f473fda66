-- Rows of what slots hear, line after line.
use Rattle.std.proofs.Common.{◌≡◌, ℕ, zero, suc, ◌+◌, ◌*◌, ◌/◌, ◌%◌, ◌^◌, ◌<◌, List, length, length-set, get_or, set, replicate, get_or-set_other, get_or-set_same, refl, sym, ap, ◌∙◌, ◌⊎◌, inl, inr, w64, arith}
use Rattle.std.specs.Prelude.{bit_or}
use Rattle.std.specs.Int.{bit_at}
use Rattle.std.proofs.lemmas.Bool.{cases_eq}
use Rattle.std.proofs.lemmas.Nat.Bits.{bit_at-lt, bit_at_or, bit_at_set_same, bit_at_set_other, bit_at-zero}
use Rattle.std.proofs.lemmas.List.{ext_get_or}
use Rattle.std.proofs.lemmas.Nat.{mod_below}
use Rattle.std.proofs.Math.Nat.{div-add-mod}
use Rattle.control_memory.specs.declared.heard.Heard.{Heard}
use Rattle.control_memory.specs.declared.heard.Heard.TheVariants.{Silent}
use Rattle.control_memory.specs.HeardRows.{heard_on, tone_bit, HasToneBits, AreHeardOn}

pub get_or-replicate_nothing_heard : (n k : ℕ) → get_or (replicate n Silent) k Silent ≡ Silent
get_or-replicate_nothing_heard zero k = refl
get_or-replicate_nothing_heard (suc n) zero = refl
get_or-replicate_nothing_heard (suc n) (suc k) = get_or-replicate_nothing_heard n k

-- one slot written, the mark of its line, and the bit of its place
pub heard_set : (lines : ℕ) (heard : List Heard) (marks : ℕ) (tones : List ℕ) (line n : ℕ) (h : Heard) (word : ℕ) → AreHeardOn lines heard marks tones → line ≡ n / 30 → n < 30 * lines
    → bit_at word (n % 30) ≡ tone_bit h → ((k : ℕ) → k < 32 → (k ≡ n % 30 → ⊥) → bit_at word k ≡ bit_at (get_or tones line 0) k)
    → AreHeardOn lines (set heard n h) (bit_or marks (1 * 2 ^ (line % 64) % 2 ^ 64)) (set tones line word)
heard_set lines heard marks tones line n h word is at inside bit others = record {
  size = length-set heard n h ∙ is.size;
  silent = λ l inside unmarked p p_near.
      elim (cases_eq (l % 64) (line % 64)) [
        | inl same ↦
            let there : bit_at (bit_or marks (1 * 2 ^ (line % 64) % 2 ^ 64)) (l % 64) ≡ 1 = ap (bit_at (bit_or marks (1 * 2 ^ (line % 64) % 2 ^ 64))) same ∙ bit_at_set_same w64 marks (line % 64) (mod_below line 64 (omega arith)) in
            absurd (cc)
        | inr other ↦
            get_or-set_other heard n (30 * l + p) h Silent (λ e. other (ap (λ k. k % 64) (same_line l p n p_near e ∙ sym at)))
            ∙ is.silent l inside (sym (bit_at_set_other w64 marks (line % 64) (mod_below line 64 (omega arith)) (l % 64) other) ∙ unmarked) p p_near
      ];
  words = length-set tones line word ∙ is.words;
  toned = λ l inside. elim (cases_eq l line) [
    | inl same ↦ rw same (here)
    | inr other ↦ there l inside other
  ];
}
  where
    same_line : (l p n : ℕ) → p < 30 → 30 * l + p ≡ n → l ≡ n / 30
    same_line l p n near e = let whole = div-add-mod n 30 in let rest = mod_below n 30 (omega arith) in omega (arith, near, e, whole, rest)

    whole : 30 * line + n % 30 ≡ n
    whole = ap (λ l. 30 * l + n % 30) at ∙ div-add-mod n 30

    near : line < lines
    near = omega (arith, whole, inside)

    written : get_or (set tones line word) line 0 ≡ word
    written = get_or-set_same tones line word 0 (omega (arith, near, is.words))

    here : HasToneBits (set heard n h) line (get_or (set tones line word) line 0)
    here = record {
      places = λ p p_near. ap (λ w. bit_at w p) written ∙ elim (cases_eq p (n % 30)) [
        | inl same ↦
            ap (bit_at word) same ∙ bit
            ∙ sym (ap tone_bit (ap (λ k. get_or (set heard n h) k Silent) (ap (λ k. 30 * line + k) same ∙ whole) ∙ get_or-set_same heard n h Silent (omega (arith, inside, is.size))))
        | inr other ↦
            others p (omega (arith, p_near)) other ∙ (is.toned line near).places p p_near
            ∙ sym (ap tone_bit (get_or-set_other heard n (30 * line + p) h Silent (λ e. other (omega (arith, e, whole)))))
      ];
      rest = λ p from p_near. ap (λ w. bit_at w p) written
          ∙ others p p_near (λ e. let small = mod_below n 30 (omega arith) in omega (arith, e, from, small)) ∙ (is.toned line near).rest p from p_near;
    }

    there : (l : ℕ) → l < lines → (l ≡ line → ⊥) → HasToneBits (set heard n h) l (get_or (set tones line word) l 0)
    there l l_inside other =
        let kept = get_or-set_other tones line l word 0 (λ e. other e) in record {
          places = λ p p_near. ap (λ w. bit_at w p) kept ∙ (is.toned l l_inside).places p p_near
              ∙ sym (ap tone_bit (get_or-set_other heard n (30 * l + p) h Silent (λ e. other (same_line l p n p_near e ∙ sym at))));
          rest = λ p from p_near. ap (λ w. bit_at w p) kept ∙ (is.toned l l_inside).rest p from p_near;
        }

-- without a word no place receives a tone, as in rows where nothing is heard
pub no_tones : (heard : List Heard) (line word : ℕ) → ((k : ℕ) → get_or heard k Silent ≡ Silent) → word ≡ 0 → HasToneBits heard line word
no_tones heard line word silent none = record {
  places = λ p near. ap (λ w. bit_at w p) none ∙ bit_at-zero p ∙ sym (ap tone_bit (silent (30 * line + p)));
  rest = λ p from near. ap (λ w. bit_at w p) none ∙ bit_at-zero p;
}

-- rows that agree place by place are the same rows
pub same_rows : (lines : ℕ) (a b : List Heard) → length a ≡ 30 * lines → length b ≡ 30 * lines → ((line place : ℕ) → line < lines → place < 30 → heard_on a line place ≡ heard_on b line place) → a ≡ b
same_rows lines a b size_a size_b agree = ext_get_or Silent a b (size_a ∙ sym size_b) (λ k inside.
    let whole = div-add-mod k 30 in
    let rest = mod_below k 30 (omega arith) in
    let line : k / 30 < lines = omega (arith, inside, size_a, whole) in
    sym (ap (λ i. get_or a i Silent) whole) ∙ agree (k / 30) (k % 30) line rest ∙ ap (λ i. get_or b i Silent) whole)

-- who is marked in neither of two words is not marked in m, and not in n
pub first_unmarked : (m n k : ℕ) → bit_at (bit_or m n) k ≡ 0 → bit_at m k ≡ 0
first_unmarked m n k none = omega (arith, bit_at_or m n k, none)

pub second_unmarked : (m n k : ℕ) → bit_at (bit_or m n) k ≡ 0 → bit_at n k ≡ 0
second_unmarked m n k none = omega (arith, bit_at_or m n k, none)

-- a bit is 0 or 1
either : (m k : ℕ) → (bit_at m k ≡ 0) ⊎ (bit_at m k ≡ 1)
either m k = elim (cases_eq (bit_at m k) 0) [ inl none ↦ inl none | inr some ↦ inr (omega (arith, some, bit_at-lt m k)) ]

-- where the marked rows of two tables are taken over and the others are as they were, all are taken over
pub taken_over : (lines : ℕ) (old other new : List Heard) (marks others : ℕ) (tones more : List ℕ) → AreHeardOn lines old marks tones → AreHeardOn lines other others more → length new ≡ 30 * lines
    → ((line place : ℕ) → line < lines → place < 30 → bit_at (bit_or marks others) (line % 64) ≡ 1 → heard_on new line place ≡ heard_on other line place)
    → ((line place : ℕ) → line < lines → place < 30 → bit_at (bit_or marks others) (line % 64) ≡ 0 → heard_on new line place ≡ heard_on old line place)
    → new ≡ other
taken_over lines old other new marks others tones more here there size taken kept = same_rows lines new other size there.size (λ line place inside near.
    elim (either (bit_or marks others) (line % 64)) [
      | inl bare ↦
          kept line place inside near bare ∙ here.silent line inside (first_unmarked marks others (line % 64) bare) place near
          ∙ sym (there.silent line inside (second_unmarked marks others (line % 64) bare) place near)
      | inr marked ↦ taken line place inside near marked
    ])
