-- The words of used slots.
use Rattle.std.proofs.Common.{◌≡◌, ◌≢◌, ℕ, zero, suc, ◌^◌, ◌<◌, ◌≤◌, false, Option, Some, None, List, length, get_or, set, replicate, eq-eqb, arith, refl, sym, ap, ◌∙◌, inl, inr, length-set, get_or-set_same, get_or-set_other}
use Rattle.std.specs.Prelude.{bit_or, bit_and, is_none, ◌&&◌}
use Rattle.std.specs.Int.{bit_at, bit_not, trailing_zeros, w64}
use Rattle.std.specs.Int.Count.{trailing_of_zero}
use Rattle.std.proofs.lemmas.Bool.{cases_lt, cases_eq}
use Rattle.std.proofs.lemmas.Nat.{one_shl}
use Rattle.std.proofs.lemmas.Nat.Bits.{bit_at-zero, bit_at-lt, bit_at_or, bit_at-pow_same, bit_at-pow_other, bit_at_not, bit_at-trailing_zeros, bit_at_clear_same, bit_at_clear_other}
use Rattle.std.proofs.lemmas.List.{get_or-replicate, length-replicate, get_or_read}
use Rattle.std.proofs.lemmas.Map.Views.{exact_unsigned_eq}
use Rattle.paull_matrix.specs.Numbers.{lowest}
use Rattle.paull_matrix.specs.Marks.{mark, lacks, marked, unmarked, IsMarked}
use Rattle.paull_matrix.proofs.Bools.{false_unless}
use Rattle.paull_matrix.proofs.Numbers.{lowest_is, lowest_of_none, lowest_same}

-- a bit that is set or cleared, and the others
set_here : (n s : ℕ) → bit_at (bit_or n (2 ^ s)) s ≡ 1
set_here n s = omega (arith, bit_at_or n (2 ^ s) s, bit_at-pow_same s, bit_at-lt n s)

set_other : (n s t : ℕ) → t ≢ s → bit_at (bit_or n (2 ^ s)) t ≡ bit_at n t
set_other n s t apart = omega (arith, bit_at_or n (2 ^ s) t, bit_at-pow_other s t apart)

clear_here : (n s : ℕ) → s < 64 → bit_at (bit_and n (bit_not w64 (2 ^ s))) s ≡ 0
clear_here n s within = ap (λ m. bit_at (bit_and n (bit_not w64 m)) s) (sym (one_shl s 64 within)) ∙ bit_at_clear_same w64 n s within

clear_other : (n s t : ℕ) → s < 64 → t < 64 → t ≢ s → bit_at (bit_and n (bit_not w64 (2 ^ s))) t ≡ bit_at n t
clear_other n s t within below apart = ap (λ m. bit_at (bit_and n (bit_not w64 m)) t) (sym (one_shl s 64 within)) ∙ bit_at_clear_other w64 n s within t below apart

-- another word for a line, where it differs in one slot
another_word : (lines slots : ℕ) (words : List ℕ) (before after : ℕ → ℕ → Option ℕ) (line s word : ℕ) → IsMarked lines slots words before → line < lines
    → bit_at word s ≡ mark (after line s)
    → ((t : ℕ) → t < slots → t ≢ s → bit_at word t ≡ bit_at (get_or words line 0) t)
    → ((k t : ℕ) → (k ≡ line → t ≡ s → ⊥) → after k t ≡ before k t)
    → IsMarked lines slots (set words line word) after
another_word lines slots words before after line s word marks inside here others same = record {
  each_line = length-set words line word ∙ marks.each_line;
  each_slot = λ k t below within. elim (cases_eq k line) [
    | inl one ↦ rw one (ap (λ n. bit_at n t) (get_or-set_same words line word 0 (rw marks.each_line inside)) ∙ elim (cases_eq t s) [
      | inl slot ↦ rw slot here
      | inr other ↦ others t within other ∙ marks.each_slot line t inside within ∙ ap mark (sym (same line t (λ _ slot. other slot)))
    ])
    | inr apart ↦ ap (λ n. bit_at n t) (get_or-set_other words line k word 0 apart) ∙ marks.each_slot k t below within ∙ ap mark (sym (same k t (λ one _. apart one)))
  ];
}

-- a slot that is taken, and one that is left
pub marks_taken : (lines slots : ℕ) (words : List ℕ) (before after : ℕ → ℕ → Option ℕ) (line s x : ℕ) → IsMarked lines slots words before → line < lines
    → after line s ≡ Some x
    → ((k t : ℕ) → (k ≡ line → t ≡ s → ⊥) → after k t ≡ before k t)
    → IsMarked lines slots (marked words line s) after
marks_taken lines slots words before after line s x marks inside taken same =
    another_word lines slots words before after line s _ marks inside
    (set_here (get_or words line 0) s ∙ ap mark (sym taken))
    (λ t within other. set_other (get_or words line 0) s t other) same

pub marks_left : (lines slots : ℕ) (words : List ℕ) (before after : ℕ → ℕ → Option ℕ) (line s : ℕ) → IsMarked lines slots words before → line < lines → s < slots → slots ≤ 59
    → after line s ≡ None
    → ((k t : ℕ) → (k ≡ line → t ≡ s → ⊥) → after k t ≡ before k t)
    → IsMarked lines slots (unmarked words line s) after
marks_left lines slots words before after line s marks inside slot few left same =
    another_word lines slots words before after line s _ marks inside
    (clear_here (get_or words line 0) s (omega arith) ∙ ap mark (sym left))
    (λ t within other. clear_other (get_or words line 0) s t (omega arith) (omega arith) other) same

pub marks_none : (lines slots : ℕ) (look : ℕ → ℕ → Option ℕ) → ((line s : ℕ) → look line s ≡ None) → IsMarked lines slots (replicate lines 0) look
marks_none lines slots look none = record {
  each_line = length-replicate lines 0;
  each_slot = λ line s below within. ap (λ n. bit_at n s) (get_or-replicate lines line 0 0 below) ∙ bit_at-zero s ∙ ap mark (sym (none line s));
}

-- a clear bit says that nothing is there
lacks_none : (word s : ℕ) (o : Option ℕ) → bit_at word s ≡ mark o → lacks word s ≡ is_none o
lacks_none word s None e = eq-eqb (bit_at word s) 0 e
lacks_none word s (Some x) e = false_unless _ (λ clear. let zero = exact_unsigned_eq (bit_at word s) 0 clear in omega arith)

pub lacks_look : (lines slots : ℕ) (words : List ℕ) (look : ℕ → ℕ → Option ℕ) (line s : ℕ) → IsMarked lines slots words look → line < lines → s < slots → lacks (get_or words line 0) s ≡ is_none (look line s)
lacks_look lines slots words look line s marks below within = lacks_none (get_or words line 0) s (look line s) (marks.each_slot line s below within)

pub lacks_both : (one other s : ℕ) → lacks (bit_or one other) s ≡ (lacks one s && lacks other s)
lacks_both one other s = cases (bit_at one s) (bit_at other s) refl refl (bit_at-lt one s) (bit_at-lt other s)
  where
    cases : (a b : ℕ) → bit_at one s ≡ a → bit_at other s ≡ b → a < 2 → b < 2 → lacks (bit_or one other) s ≡ (lacks one s && lacks other s)
    cases zero zero e f _ _ = rw (bit_at_or one other s, e, f) refl
    cases zero (suc zero) e f _ _ = rw (bit_at_or one other s, e, f) refl
    cases (suc zero) zero e f _ _ = rw (bit_at_or one other s, e, f) refl
    cases (suc zero) (suc zero) e f _ _ = rw (bit_at_or one other s, e, f) refl
    cases (suc (suc a)) b e f l m = absurd (omega arith)
    cases zero (suc (suc b)) e f l m = absurd (omega arith)
    cases (suc zero) (suc (suc b)) e f l m = absurd (omega arith)

-- the bits below the lowest clear bit are set, and it is clear
set_below : (word t : ℕ) → word < 2 ^ 64 → t < 64 → t < trailing_zeros w64 (bit_not w64 word) → bit_at word t ≡ 1
set_below word t fits within below = elim (cases_lt 0 (bit_not w64 word)) [
  | inl some ↦ omega (arith, (bit_at-trailing_zeros w64 (bit_not w64 word) some (omega arith)).2 t below, bit_at_not w64 word t fits within, bit_at-lt word t)
  | inr full ↦
      let zero : bit_not w64 word ≡ 0 = omega arith in
      let off : bit_at (bit_not w64 word) t ≡ 0 = ap (λ n. bit_at n t) zero ∙ bit_at-zero t in
      omega (arith, bit_at_not w64 word t fits within, bit_at-lt word t)
]

clear_at : (word : ℕ) → word < 2 ^ 64 → trailing_zeros w64 (bit_not w64 word) < 64 → bit_at word (trailing_zeros w64 (bit_not w64 word)) ≡ 0
clear_at word fits within = elim (cases_lt 0 (bit_not w64 word)) [
  | inl some ↦ omega (arith, (bit_at-trailing_zeros w64 (bit_not w64 word) some (omega arith)).1, bit_at_not w64 word (trailing_zeros w64 (bit_not w64 word)) fits within, bit_at-lt word (trailing_zeros w64 (bit_not w64 word)))
  | inr full ↦
      let zero : bit_not w64 word ≡ 0 = omega arith in
      let all : trailing_zeros w64 (bit_not w64 word) ≡ 64 = ap (trailing_zeros w64) zero ∙ trailing_of_zero 64 in
      absurd (omega arith)
]

lacks_not : (word t : ℕ) → bit_at word t ≡ 1 → lacks word t ≡ false
lacks_not word t e = false_unless _ (λ clear. let zero = exact_unsigned_eq (bit_at word t) 0 clear in omega arith)

-- the lowest slot that a word lacks
pub lacks_lowest : (word slots : ℕ) → word < 2 ^ 64 → slots ≤ 59 → trailing_zeros w64 (bit_not w64 word) < slots → lowest (lacks word) slots ≡ Some (trailing_zeros w64 (bit_not w64 word))
lacks_lowest word slots fits few below =
    lowest_is (lacks word) slots (trailing_zeros w64 (bit_not w64 word)) (eq-eqb _ 0 (clear_at word fits (omega arith))) below
    (λ t less. lacks_not word t (set_below word t fits (omega arith) less))

pub lowest-lacks_nowhere : (word slots : ℕ) → word < 2 ^ 64 → slots ≤ 59 → slots ≤ trailing_zeros w64 (bit_not w64 word) → lowest (lacks word) slots ≡ None
lowest-lacks_nowhere word slots fits few beyond =
    lowest_of_none (lacks word) slots (λ t less clear. let full = lacks_not word t (set_below word t fits (omega arith) (omega arith)) in cc)

-- the lowest slot that a line's word lacks, and the lowest that two lines' words lack: n is the line as it was read
word_read : (words : List ℕ) (lines line n word : ℕ) → length words ≡ lines → line < lines → n ≡ line → word ≡ get_or words n word → word ≡ get_or words line 0
word_read words lines line n word each below same read = get_or_read words n word (rw (same, each) below) read 0 ∙ ap (λ k. get_or words k 0) same

pub word_lowest : (lines slots : ℕ) (words : List ℕ) (look : ℕ → ℕ → Option ℕ) (line n word : ℕ) → IsMarked lines slots words look → line < lines → n ≡ line → word ≡ get_or words n word
    → lowest (lacks word) slots ≡ lowest (λ s. is_none (look line s)) slots
word_lowest lines slots words look line n word marks below same read =
    lowest_same (lacks word) (λ s. is_none (look line s)) slots
    (λ s within. ap (λ w. lacks w s) (word_read words lines line n word marks.each_line below same read) ∙ lacks_look lines slots words look line s marks below within)

pub words_lowest : (lines slots : ℕ) (words others : List ℕ) (look other_look : ℕ → ℕ → Option ℕ) (line other n k word other_word : ℕ)
    → IsMarked lines slots words look → line < lines → n ≡ line → word ≡ get_or words n word
    → IsMarked lines slots others other_look → other < lines → k ≡ other → other_word ≡ get_or others k other_word
    → lowest (lacks (bit_or word other_word)) slots ≡ lowest (λ s. is_none (look line s) && is_none (other_look other s)) slots
words_lowest lines slots words others look other_look line other n k word other_word marks below same read other_marks other_below other_same other_read =
    lowest_same (lacks (bit_or word other_word)) (λ s. is_none (look line s) && is_none (other_look other s)) slots
    (λ s within. lacks_both word other_word s ∙ rw (one s within, two s within) refl)
  where
    one : (s : ℕ) → s < slots → lacks word s ≡ is_none (look line s)
    one s within = ap (λ w. lacks w s) (word_read words lines line n word marks.each_line below same read) ∙ lacks_look lines slots words look line s marks below within

    two : (s : ℕ) → s < slots → lacks other_word s ≡ is_none (other_look other s)
    two s within = ap (λ w. lacks w s) (word_read others lines other k other_word other_marks.each_line other_below other_same other_read) ∙ lacks_look lines slots others other_look other s other_marks other_below within
