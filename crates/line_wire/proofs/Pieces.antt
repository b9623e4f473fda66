-- The lines of an input of which a prefix was read.
use Rattle.std.proofs.Common.{◌≡◌, ◌⊎◌, ◌<◌, ℕ, Bool, true, false, eqb, List, [], ◌∷◌, ◌++◌, length, refl, sym, ap, subst, ◌∙◌, arith, inl, inr, append_assoc, append-nil, length-append}
use Rattle.std.specs.List.{onto_first}
use Rattle.trace_text.specs.TraceWords.{AreEnded, lines, max_line_len}
use Rattle.trace_text.proofs.LineLemmas.{first_step, lines_behind}
use Rattle.line_wire.specs.Following.{AreFirst, EndsLong}

-- ---- the last of some lines

none_last : (before : List (List ℕ)) (line : List ℕ) → [] ≡ before ++ line ∷ [] → ⊥
none_last before line is = let long = ap length is in omega (arith, long, length-append before (line ∷ []))

first_of : (a b : List ℕ) (xs ys : List (List ℕ)) → a ∷ xs ≡ b ∷ ys → a ≡ b
first_of a b xs ys is = grind (arith, is)

others_of : (a b : List ℕ) (xs ys : List (List ℕ)) → a ∷ xs ≡ b ∷ ys → xs ≡ ys
others_of a b xs ys is = grind (arith, is)

pub same_last : (xs ys : List (List ℕ)) (a b : List ℕ) → xs ++ a ∷ [] ≡ ys ++ b ∷ [] → a ≡ b
same_last [] [] a b is = first_of a b [] [] is
same_last [] (y ∷ ys) a b is = absurd (none_last ys b (others_of a y [] (ys ++ b ∷ []) is))
same_last (x ∷ xs) [] a b is = absurd (none_last xs a (sym (others_of x b (xs ++ a ∷ []) [] is)))
same_last (x ∷ xs) (y ∷ ys) a b is = same_last xs ys a b (others_of x y (xs ++ a ∷ []) (ys ++ b ∷ []) is)

-- ---- more octets after a line

-- the last of these lines goes on in more octets, and further lines may follow it
pub record GoesOn (octets more : List ℕ) (before : List (List ℕ)) (line : List ℕ) : Type 0 where
  pub rest : List ℕ
  pub others : List (List ℕ)
  pub are : lines (octets ++ more) ≡ before ++ (line ++ rest) ∷ others

-- after one octet in front of them
module _ (x : ℕ) (octets more : List ℕ) (step : (before : List (List ℕ)) (line : List ℕ) → lines octets ≡ before ++ line ∷ [] → GoesOn octets more before line) where
  abbrev all : List (List ℕ)
  all = lines (octets ++ more)

  fed : eqb x 10 ≡ true → (before : List (List ℕ)) (line : List ℕ) → [] ∷ lines octets ≡ before ++ line ∷ [] → GoesOn (x ∷ octets) more before line
  fed feed [] line is = record {
    rest = [];
    others = all;
    are = ap (first_step x all) feed ∙ ap (λ (l : List ℕ). (l ++ []) ∷ all) (first_of [] line (lines octets) [] is);
  }
  fed feed (b ∷ before) line is =
      let on = step before line (others_of [] b (lines octets) (before ++ line ∷ []) is) in
      let same : [] ≡ b = first_of [] b (lines octets) (before ++ line ∷ []) is in
      record { rest = on.rest; others = on.others; are = ap (first_step x all) feed ∙ (λ i. same i ∷ on.are i) }

  module _ (other : eqb x 10 ≡ false) where
    alone : (line : List ℕ) → x ∷ [] ≡ line → (ls : List (List ℕ)) → all ≡ ls → GoesOn (x ∷ octets) more [] line
    alone line is [] none = record {
      rest = [];
      others = [];
      are = ap (first_step x all) other ∙ (ap (onto_first x) none ∙ ap (λ (l : List ℕ). (l ++ []) ∷ []) is);
    }
    alone line is (l ∷ ls) some = record {
      rest = l;
      others = ls;
      are = ap (first_step x all) other ∙ (ap (onto_first x) some ∙ ap (λ (k : List ℕ). (k ++ l) ∷ ls) is);
    }

    unfed : (old before : List (List ℕ)) (line : List ℕ) → lines octets ≡ old → onto_first x old ≡ before ++ line ∷ [] → GoesOn (x ∷ octets) more before line
    unfed [] [] line none is = alone line (first_of (x ∷ []) line [] [] is) all refl
    unfed [] (b ∷ before) line none is = absurd (none_last before line (others_of (x ∷ []) b [] (before ++ line ∷ []) is))
    unfed (l ∷ ls) [] line some is =
        let on = step [] l (some ∙ ap (λ (k : List (List ℕ)). l ∷ k) (others_of (x ∷ l) line ls [] is)) in
        let same : x ∷ l ≡ line = first_of (x ∷ l) line ls [] is in
        record {
          rest = on.rest;
          others = on.others;
          are = ap (first_step x all) other ∙ (ap (onto_first x) on.are ∙ ap (λ (k : List ℕ). (k ++ on.rest) ∷ on.others) same);
        }
    unfed (l ∷ ls) (b ∷ before) line some is =
        let on = step (l ∷ before) line (some ∙ ap (λ (k : List (List ℕ)). l ∷ k) (others_of (x ∷ l) b ls (before ++ line ∷ []) is)) in
        let same : x ∷ l ≡ b = first_of (x ∷ l) b ls (before ++ line ∷ []) is in
        record {
          rest = on.rest;
          others = on.others;
          are = ap (first_step x all) other ∙ (ap (onto_first x) on.are ∙ ap (λ (k : List ℕ). k ∷ (before ++ (line ++ on.rest) ∷ on.others)) same);
        }

  one_more : (b : Bool) → eqb x 10 ≡ b → (before : List (List ℕ)) (line : List ℕ) → first_step x (lines octets) b ≡ before ++ line ∷ [] → GoesOn (x ∷ octets) more before line
  one_more true feed before line is = fed feed before line is
  one_more false other before line is = unfed other (lines octets) before line refl is

pub goes_on : (octets more : List ℕ) (before : List (List ℕ)) (line : List ℕ) → lines octets ≡ before ++ line ∷ [] → GoesOn octets more before line
goes_on [] more before line is = absurd (none_last before line is)
goes_on (x ∷ octets) more before line is = one_more x octets more (goes_on octets more) (eqb x 10) refl before line is

-- ---- the first lines of an input that has ended if nothing is left

-- the row at the place of a line in the input: the line itself, or one that goes on, and then both are too long
pub record IsInInput (bytes : List ℕ) (before : List (List ℕ)) (line : List ℕ) : Type 0 where
  pub row : List ℕ
  pub others : List (List ℕ)
  pub are : lines bytes ≡ before ++ row ∷ others
  pub same : (row ≡ line) ⊎ ((max_line_len < length line) × (max_line_len < length row))

module _ (bytes heard left : List ℕ) (before : List (List ℕ)) (line : List ℕ) (all : bytes ≡ heard ++ left) (a : AreFirst (left ≡ []) heard (before ++ line ∷ [])) where
  bytes_are : bytes ≡ a.whole ++ (a.rest ++ left)
  bytes_are = all ∙ (ap (λ (l : List ℕ). l ++ left) a.parts ∙ append_assoc a.whole a.rest left)

  at_end : a.rest ≡ [] → (left ≡ []) ⊎ EndsLong (before ++ line ∷ []) → IsInInput bytes before line
  at_end none (inl over) = record {
    row = line;
    others = [];
    are = ap lines (bytes_are ∙ ((λ i. a.whole ++ (none i ++ over i)) ∙ append-nil a.whole)) ∙ sym a.are;
    same = inl refl;
  }
  at_end none (inr (front, last, is, long)) =
      let on = goes_on a.whole (a.rest ++ left) before line (sym a.are) in
      let longer : max_line_len < length line = subst (λ (l : List ℕ). max_line_len < length l) (sym (same_last before front line last is)) long in
      record {
        row = line ++ on.rest;
        others = on.others;
        are = ap lines bytes_are ∙ on.are;
        same = inr (longer, omega (arith, longer, length-append line on.rest));
      }

  by_end : AreEnded a.whole ⊎ ((a.rest ≡ []) × ((left ≡ []) ⊎ EndsLong (before ++ line ∷ []))) → IsInInput bytes before line
  by_end (inl ended) = record {
    row = line;
    others = lines (a.rest ++ left);
    are =
        ap lines bytes_are
        ∙ (lines_behind a.whole (a.rest ++ left) ended
        ∙ (ap (λ (ls : List (List ℕ)). ls ++ lines (a.rest ++ left)) (sym a.are)
        ∙ append_assoc before (line ∷ []) (lines (a.rest ++ left))));
    same = inl refl;
  }
  by_end (inr (none, why)) = at_end none why

  pub in_input : IsInInput bytes before line
  in_input = by_end a.ended
