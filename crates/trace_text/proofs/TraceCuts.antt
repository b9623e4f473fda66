-- Lines and words, cut off at the beginning of a row of octets.
use Rattle.std.proofs.Common.{◌≡◌, ◌≢◌, ℕ, zero, suc, ◌+◌, ◌<◌, ◌≤◌, not, map, subst, ◌∙◌, Bool, true, false, eqb, List, [], ◌∷◌, length, get_or, take, drop, Option, Some, None, unwrap_or, option_map, refl, sym, ap, arith}
use Rattle.std.specs.Prelude.{position}
use lib.Count.{count_trailing_zeros}
use Rattle.std.specs.List.{slice_split, prefix_len}
use Rattle.std.specs.Simd.Lanes.{chunk, mask_l}
use Rattle.std.proofs.lemmas.Bool.{eqb-true, ne_eqb}
use Rattle.std.proofs.lemmas.List.{take_all, drop_all}
use Rattle.std.proofs.lemmas.Simd.{length-chunk, trailing_mask_l, run_in_chunk_fails, run_in_chunk_stops}
use Rattle.memchr.specs.Find.{IsFirstByte, is_byte}
use Rattle.trace_text.specs.TraceWords.{lines, words, cut_at, is_octet}

-- the mark is at place k, and at no place before
pub record IsFirstMark (mark : ℕ) (octets : List ℕ) (k : ℕ) : Type 0 where
  pub within : k < length octets
  pub here : is_octet mark (get_or octets k 0) ≡ true
  pub before : (j : ℕ) → j < k → is_octet mark (get_or octets j 0) ≡ false

-- the mark is nowhere
abbrev pub NoMark : ℕ → List ℕ → Type 0
NoMark mark octets = (j : ℕ) → j < length octets → is_octet mark (get_or octets j 0) ≡ false

not_true : (b : Bool) → (b ≡ true → ⊥) → b ≡ false
not_true true h = absurd (h refl)
not_true false h = refl

pub first_found : (mark : ℕ) (octets : List ℕ) (k : ℕ) → IsFirstByte (is_byte mark) octets (Some k) → IsFirstMark mark octets k
first_found mark octets k h = record { within = h.0.high; here = h.1; before = λ j lt. not_true _ (h.0.before j (omega arith) lt) }

pub NoMark_not_found : (mark : ℕ) (octets : List ℕ) → IsFirstByte (is_byte mark) octets None → NoMark mark octets
NoMark_not_found mark octets h j lt = not_true _ (h j (omega arith) lt)

-- the first mark, if a mask has it among the first thirty-two octets
some_bit : (m : ℕ) → count_trailing_zeros 64 m < 32 → 0 < m
unfolding count_trailing_zeros
some_bit zero near = let e : 64 < 32 = near in absurd (omega (arith, e))
some_bit (suc m) near = omega arith

both_ways : (b : Bool) → b ≡ true → b ≡ false → ⊥
both_ways true holds fails = absurd cc
both_ways false holds fails = absurd cc

pub near_found : (mark : ℕ) (octets : List ℕ) (m : ℕ) → 32 ≤ length octets → m ≡ mask_l (map (λ x. eqb x mark) (chunk 0 32 octets)) → count_trailing_zeros 64 m < 32
    → IsFirstByte (is_byte mark) octets (Some (count_trailing_zeros 64 m))
near_found mark octets m room hits near =
    let long : length (chunk 0 32 octets) ≡ 32 = length-chunk 0 32 octets room in
    let counted : count_trailing_zeros 64 m ≡ prefix_len (λ x. not (eqb x mark)) (chunk 0 32 octets) =
    ap (count_trailing_zeros 64) hits ∙ trailing_mask_l (λ x. eqb x mark) 64 (chunk 0 32 octets) (omega (arith, long)) (subst (λ n. 0 < n) hits (some_bit m near)) in
    let at : 0 + count_trailing_zeros 64 m ≡ count_trailing_zeros 64 m = omega arith in (
      record {
        low = omega arith;
        high = omega (arith, near, room);
        before = λ k from below is. both_ways _ is (run_in_chunk_fails (λ x. eqb x mark) octets 0 32 (count_trailing_zeros 64 m) 0 room counted k from (omega (arith, below)));
      },
      subst (λ k. eqb (get_or octets k 0) mark ≡ true) at (run_in_chunk_stops (λ x. eqb x mark) octets 0 32 (count_trailing_zeros 64 m) 0 room counted near),
    )

rest_mark : (mark x : ℕ) (xs : List ℕ) (k : ℕ) → IsFirstMark mark (x ∷ xs) (suc k) → IsFirstMark mark xs k
rest_mark mark x xs k h = record { within = let w : suc k < length (x ∷ xs) = h.within in omega arith; here = h.here; before = λ j lt. h.before (suc j) (omega arith) }

-- the first line ends before the first line feed
pub lines_cut : (octets : List ℕ) (k : ℕ) → IsFirstMark 10 octets k → lines octets ≡ take k octets ∷ lines (drop (suc k) octets)
lines_cut [] k h = absurd (let w = h.within in omega arith)
lines_cut (x ∷ xs) zero h = let e : eqb x 10 ≡ true = h.here in rw e refl
lines_cut (x ∷ xs) (suc k) h = let e : eqb x 10 ≡ false = h.before 0 (omega arith) in rw (e, lines_cut xs k (rest_mark 10 x xs k h)) refl

-- octets without a line feed are one line
pub lines_whole : (octets : List ℕ) → 0 < length octets → NoMark 10 octets → lines octets ≡ octets ∷ []
lines_whole [] lt h = absurd (omega arith)
lines_whole (x ∷ []) lt h = let e : eqb x 10 ≡ false = h 0 (omega arith) in rw e refl
lines_whole (x ∷ y ∷ ys) lt h = let e : eqb x 10 ≡ false = h 0 (omega arith) in rw (e, lines_whole (y ∷ ys) (omega arith) (λ j l. h (suc j) (omega arith))) refl

split_cut : (mark : ℕ) (octets : List ℕ) (k : ℕ) → IsFirstMark mark octets k → slice_split (is_octet mark) octets ≡ take k octets ∷ slice_split (is_octet mark) (drop (suc k) octets)
split_cut mark [] k h = absurd (let w = h.within in omega arith)
split_cut mark (x ∷ xs) zero h = let e : eqb x mark ≡ true = h.here in rw e refl
split_cut mark (x ∷ xs) (suc k) h = let e : eqb x mark ≡ false = h.before 0 (omega arith) in rw (e, split_cut mark xs k (rest_mark mark x xs k h)) refl

split_whole : (mark : ℕ) (octets : List ℕ) → NoMark mark octets → slice_split (is_octet mark) octets ≡ octets ∷ []
split_whole mark [] h = refl
split_whole mark (x ∷ xs) h = let e : eqb x mark ≡ false = h 0 (omega arith) in rw (e, split_whole mark xs (λ j l. h (suc j) (omega arith))) refl

-- a space before the first word is passed over
pub words_skip : (octets : List ℕ) → words (32 ∷ octets) ≡ words octets
words_skip octets = refl

drop_cut : (octets : List ℕ) (k : ℕ) → IsFirstMark 32 octets k → words (drop k octets) ≡ words (drop (suc k) octets)
drop_cut [] k h = absurd (let w = h.within in omega arith)
drop_cut (x ∷ xs) zero h = let e : eqb x 32 ≡ true = h.here in rw e refl
drop_cut (x ∷ xs) (suc k) h = drop_cut xs k (rest_mark 32 x xs k h)

-- the first word ends before the first space after it
pub words_cut : (x : ℕ) (xs : List ℕ) (k : ℕ) → is_octet 32 x ≡ false → IsFirstMark 32 (x ∷ xs) k → words (x ∷ xs) ≡ take k (x ∷ xs) ∷ words (drop k (x ∷ xs))
words_cut x xs zero e h = absurd (let t : is_octet 32 x ≡ true = h.here in cc)
words_cut x xs (suc k) e h =
    rw (split_cut 32 (x ∷ xs) (suc k) h) (ap (λ (rest : List (List ℕ)). take (suc k) (x ∷ xs) ∷ rest) (sym (drop_cut (x ∷ xs) (suc k) h)))

pub words_whole : (x : ℕ) (xs : List ℕ) → NoMark 32 (x ∷ xs) → words (x ∷ xs) ≡ (x ∷ xs) ∷ []
words_whole x xs h = rw (split_whole 32 (x ∷ xs) h) refl

not_space : (x : ℕ) → x ≢ 32 → is_octet 32 x ≡ false
not_space x h = ne_eqb x 32 h

-- the first word of octets that don't begin with a space ends at the first space, or with the octets
pub words_end : (octets : List ℕ) (r : Option ℕ) → 0 < length octets → get_or octets 0 0 ≢ 32 → IsFirstByte (is_byte 32) octets r
    → words octets ≡ take (unwrap_or r (length octets)) octets ∷ words (drop (unwrap_or r (length octets)) octets)
words_end [] r lt h found = absurd (omega arith)
words_end (x ∷ xs) None lt h found =
    rw (take_all (suc (length xs)) (x ∷ xs) (omega arith), drop_all (suc (length xs)) (x ∷ xs) (omega arith)) (words_whole x xs (NoMark_not_found 32 (x ∷ xs) found))
words_end (x ∷ xs) (Some k) lt h found = words_cut x xs k (not_space x h) (first_found 32 (x ∷ xs) k found)

-- the first word isn't empty
pub end_above : (octets : List ℕ) (r : Option ℕ) → 0 < length octets → get_or octets 0 0 ≢ 32 → IsFirstByte (is_byte 32) octets r → 0 < unwrap_or r (length octets)
end_above octets None lt h found = lt
end_above octets (Some zero) lt h found = absurd (let e : eqb (get_or octets 0 0) 32 ≡ true = found.1 in h (eqb-true _ _ e))
end_above octets (Some (suc k)) lt h found = omega arith

-- the two parts of a word, where the place of the mark was found
pub cut_from : (mark : ℕ) (word : List ℕ) (r : Option ℕ) → r ≡ position (is_octet mark) word → option_map (λ at. (take at word, drop (at + 1) word)) r ≡ cut_at mark word
cut_from mark word r e = ap (option_map (λ at. (take at word, drop (at + 1) word))) e
