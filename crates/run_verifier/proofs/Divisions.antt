-- How an input is divided: at the first of its lines that is the divider.
use Rattle.std.proofs.Common.{◌≡◌, ◌≢◌, ℕ, ◌+◌, ◌-◌, ◌<◌, Bool, true, false, eqb, List, [], ◌∷◌, ◌++◌, length, take, refl, sym, ap, subst, ◌∙◌, arith, inl, inr, append_assoc, append-nil, length-append}
use Rattle.std.specs.Prelude.{All}
use Rattle.std.specs.List.{onto_first}
use Rattle.std.proofs.lemmas.Bool.{eqb-true}
use Rattle.std.proofs.lemmas.List.{append_cancel_left}
use Rattle.std.proofs.lemmas.List.Elements.{All-nil, All-cons, All-head, All-tail}
use Rattle.std.proofs.Math.Seq.{take-append_seam}
use Rattle.trace_text.specs.TraceWords.{AreEnded, lines}
use Rattle.trace_text.proofs.LineLemmas.{HasLines, NoFeed, fed_line, first_step, has_lines, lines_behind, unfed_line}
use Rattle.run_verifier.specs.Checking.{HaveNoDivider, IsDivided, By_line, By_end, By_none, IsFirstLine, Fed, Unfed, divider}

-- ---- the lines of octets

-- lines, each with its line feed
abbrev unlines : List (List ℕ) → List ℕ
unlines [] = []
unlines (line ∷ others) = line ++ 10 ∷ unlines others

fed_back : (front : List ℕ) → unlines (lines (front ++ 10 ∷ [])) ≡ front ++ 10 ∷ []
fed_back [] = refl
fed_back (x ∷ front) = go (fed_back front) (eqb x 10) refl
  where
    has : HasLines front []
    has = has_lines front []

    go : (back : unlines (lines (front ++ 10 ∷ [])) ≡ front ++ 10 ∷ []) (b : Bool) → eqb x 10 ≡ b → unlines (lines (x ∷ (front ++ 10 ∷ []))) ≡ x ∷ (front ++ 10 ∷ [])
    go back true e =
        ap (λ (c : Bool). unlines (first_step x (lines (front ++ 10 ∷ [])) c)) e
        ∙ (λ i. sym (eqb-true x 10 e) i ∷ back i)
    go back false e =
        ap (λ (c : Bool). unlines (first_step x (lines (front ++ 10 ∷ [])) c)) e
        ∙ ap (λ (l : List (List ℕ)). unlines (onto_first x l)) has.alone
        ∙ ap (λ (l : List ℕ). x ∷ l) (sym (ap unlines has.alone) ∙ back)

ended_back : (octets : List ℕ) → AreEnded octets → unlines (lines octets) ≡ octets
ended_back octets (inl none) = subst (λ (o : List ℕ). unlines (lines o) ≡ o) (sym none) refl
ended_back octets (inr (front, is)) = subst (λ (o : List ℕ). unlines (lines o) ≡ o) (sym is) (fed_back front)

-- ---- one division

-- the lines of an input with a divider
record HasDivider (bytes trace : List ℕ) : Type 0 where
  ended : AreEnded trace
  before : HaveNoDivider trace
  others : List (List ℕ)
  are : lines bytes ≡ lines trace ++ divider ∷ others

by_line : (bytes trace report : List ℕ) → AreEnded trace → HaveNoDivider trace → bytes ≡ trace ++ (divider ++ 10 ∷ report) → HasDivider bytes trace
by_line bytes trace report ended before is = record {
  ended = ended;
  before = before;
  others = lines report;
  are = ap lines is ∙ lines_behind trace (divider ++ 10 ∷ report) ended;
}

by_end : (bytes trace : List ℕ) → AreEnded trace → HaveNoDivider trace → bytes ≡ trace ++ divider → HasDivider bytes trace
by_end bytes trace ended before is = record { ended = ended; before = before; others = []; are = ap lines is ∙ lines_behind trace divider ended }

module _ {X : Type 0} (d : X) where
  same_before : (xs ys a b : List X) → All (λ x. x ≢ d) xs → All (λ x. x ≢ d) ys → xs ++ d ∷ a ≡ ys ++ d ∷ b → xs ≡ ys
  same_before [] [] a b none also same = refl
  same_before [] (y ∷ ys) a b none also same = let first : y ≡ d = cc in absurd (All-head (λ x. x ≢ d) y ys also first)
  same_before (x ∷ xs) [] a b none also same = let first : x ≡ d = cc in absurd (All-head (λ x. x ≢ d) x xs none first)
  same_before (x ∷ xs) (y ∷ ys) a b none also same =
      let first : x ≡ y = cc in
      let rest : xs ++ d ∷ a ≡ ys ++ d ∷ b = cc in
      λ i. first i ∷ same_before xs ys a b (All-tail (λ x. x ≢ d) x xs none) (All-tail (λ x. x ≢ d) y ys also) rest i

  not_within : (xs a : List X) → All (λ x. x ≢ d) (xs ++ d ∷ a) → ⊥
  not_within [] a none = All-head (λ x. x ≢ d) d a none refl
  not_within (x ∷ xs) a none = not_within xs a (All-tail (λ x. x ≢ d) x (xs ++ d ∷ a) none)

one_front : (bytes trace also : List ℕ) → HasDivider bytes trace → HasDivider bytes also → trace ≡ also
one_front bytes trace also one other =
    sym (ended_back trace one.ended)
    ∙ ap unlines (same_before divider (lines trace) (lines also) one.others other.others one.before other.before (sym one.are ∙ other.are))
    ∙ ended_back also other.ended

never_none : (bytes trace : List ℕ) → HasDivider bytes trace → HaveNoDivider bytes → ⊥
never_none bytes trace has none = not_within divider (lines trace) has.others (subst (All (λ line. line ≢ divider)) has.are none)

-- what is behind equal fronts
same_behind : (bytes trace also xs ys : List ℕ) → trace ≡ also → bytes ≡ trace ++ xs → bytes ≡ also ++ ys → xs ≡ ys
same_behind bytes trace also xs ys same is other = append_cancel_left trace xs ys (sym is ∙ other ∙ ap (λ (t : List ℕ). t ++ ys) (sym same))

never_fed : (report : List ℕ) → divider ++ 10 ∷ report ≡ divider → ⊥
never_fed report same = let long = ap (λ (l : List ℕ). length l) same in omega (arith, long)

pub one_division : (bytes trace report also other : List ℕ) → IsDivided bytes trace report → IsDivided bytes also other → (trace ≡ also) × (report ≡ other)
one_division bytes trace report also other (By_line e n is) (By_line f m at) =
    let same = one_front bytes trace also (by_line bytes trace report e n is) (by_line bytes also other f m at) in
    (same, append_cancel_left (divider ++ 10 ∷ []) report other (same_behind bytes trace also (divider ++ 10 ∷ report) (divider ++ 10 ∷ other) same is at))
one_division bytes trace report also other (By_line e n is) (By_end f m at none) =
    let same = one_front bytes trace also (by_line bytes trace report e n is) (by_end bytes also f m at) in
    absurd (never_fed report (same_behind bytes trace also (divider ++ 10 ∷ report) divider same is at))
one_division bytes trace report also other (By_line e n is) (By_none m at none) = absurd (never_none bytes trace (by_line bytes trace report e n is) m)
one_division bytes trace report also other (By_end e n is empty) (By_line f m at) =
    let same = one_front bytes trace also (by_end bytes trace e n is) (by_line bytes also other f m at) in
    absurd (never_fed other (sym (same_behind bytes trace also divider (divider ++ 10 ∷ other) same is at)))
one_division bytes trace report also other (By_end e n is empty) (By_end f m at none) =
    (one_front bytes trace also (by_end bytes trace e n is) (by_end bytes also f m at), empty ∙ sym none)
one_division bytes trace report also other (By_end e n is empty) (By_none m at none) = absurd (never_none bytes trace (by_end bytes trace e n is) m)
one_division bytes trace report also other (By_none n is empty) (By_line f m at) = absurd (never_none bytes also (by_line bytes also other f m at) n)
one_division bytes trace report also other (By_none n is empty) (By_end f m at none) = absurd (never_none bytes also (by_end bytes also f m at) n)
one_division bytes trace report also other (By_none n is empty) (By_none m at none) = (is ∙ sym at, empty ∙ sym none)

-- ---- a division, line by line

-- no line is left
pub divided_none : IsDivided [] [] []
divided_none = By_none (All-nil (λ line. line ≢ divider)) refl refl

-- the first line is the divider
pub divided_here : (octets line others : List ℕ) → IsFirstLine octets line others → line ≡ divider → IsDivided octets [] others
divided_here octets line others (Fed none is) same = By_line (inl refl) (All-nil (λ l. l ≢ divider)) (is ∙ ap (λ (l : List ℕ). l ++ 10 ∷ others) same)
divided_here octets line others (Unfed none is empty) same = By_end (inl refl) (All-nil (λ l. l ≢ divider)) (is ∙ same) empty

-- the first line isn't, so that a division of the others is one of all
pub record GoesOn (octets others : List ℕ) : Type 0 where
  pub piece : List ℕ
  pub parts : octets ≡ piece ++ others
  pub divides : (trace report : List ℕ) → IsDivided others trace report → IsDivided octets (piece ++ trace) report

module _ (octets line others : List ℕ) (other : line ≢ divider) where
  abbrev fed : List ℕ
  fed = line ++ 10 ∷ []

  module _ (none : NoFeed line) (is : octets ≡ line ++ 10 ∷ others) where
    ended : (trace : List ℕ) → AreEnded trace → AreEnded (fed ++ trace)
    ended trace (inl empty) = inr (line, ap (λ (t : List ℕ). fed ++ t) empty ∙ append-nil fed)
    ended trace (inr (front, at)) = inr (fed ++ front, ap (λ (t : List ℕ). fed ++ t) at ∙ sym (append_assoc fed front (10 ∷ [])))

    no_divider : (trace : List ℕ) → HaveNoDivider trace → HaveNoDivider (fed ++ trace)
    no_divider trace before =
        subst (All (λ l. l ≢ divider)) (sym (ap lines (append_assoc line (10 ∷ []) trace) ∙ fed_line line trace none)) (All-cons (λ l. l ≢ divider) line (lines trace) other before)

    split : (trace xs : List ℕ) → others ≡ trace ++ xs → octets ≡ (fed ++ trace) ++ xs
    split trace xs at =
        is ∙ ap (λ (o : List ℕ). line ++ 10 ∷ o) at ∙ sym (append_assoc line (10 ∷ []) (trace ++ xs)) ∙ sym (append_assoc fed trace xs)

    fed_goes : (trace report : List ℕ) → IsDivided others trace report → IsDivided octets (fed ++ trace) report
    fed_goes trace report (By_line e n at) = By_line (ended trace e) (no_divider trace n) (split trace (divider ++ 10 ∷ report) at)
    fed_goes trace report (By_end e n at empty) = By_end (ended trace e) (no_divider trace n) (split trace divider at) empty
    fed_goes trace report (By_none n at empty) =
        let all : octets ≡ fed ++ others = is ∙ sym (append_assoc line (10 ∷ []) others) in
        By_none (subst HaveNoDivider (sym all) (no_divider others n)) (ap (λ (t : List ℕ). fed ++ t) at ∙ sym all) empty

  alone : (row : List ℕ) → NoFeed row → row ≢ divider → HaveNoDivider row
  alone [] none not = All-nil (λ l. l ≢ divider)
  alone (x ∷ row) none not = subst (All (λ l. l ≢ divider)) (sym (unfed_line x row none)) (All-cons (λ l. l ≢ divider) (x ∷ row) [] not (All-nil (λ l. l ≢ divider)))

  module _ (none : NoFeed line) (is : octets ≡ line) (end : others ≡ []) where
    not_empty : (trace xs : List ℕ) → 0 < length xs → others ≡ trace ++ xs → ⊥
    not_empty trace xs some at =
        let long : length others ≡ length trace + length xs = ap (λ (l : List ℕ). length l) at ∙ length-append trace xs in
        let short : length others ≡ 0 = ap (λ (l : List ℕ). length l) end in
        omega (arith, some, long, short)

    unfed_goes : (trace report : List ℕ) → IsDivided others trace report → IsDivided octets (line ++ trace) report
    unfed_goes trace report (By_line e n at) = absurd (not_empty trace (divider ++ 10 ∷ report) (omega arith) at)
    unfed_goes trace report (By_end e n at empty) = absurd (not_empty trace divider (omega arith) at)
    unfed_goes trace report (By_none n at empty) =
        By_none (subst HaveNoDivider (sym is) (alone line none other)) (ap (λ (t : List ℕ). line ++ t) (at ∙ end) ∙ append-nil line ∙ sym is) empty

  pub divided_later : IsFirstLine octets line others → GoesOn octets others
  divided_later (Fed none is) = record { piece = fed; parts = is ∙ sym (append_assoc line (10 ∷ []) others); divides = fed_goes none is }
  divided_later (Unfed none is end) = record {
    piece = line;
    parts = is ∙ sym (ap (λ (o : List ℕ). line ++ o) end ∙ append-nil line);
    divides = unfed_goes none is end;
  }

-- the octets behind a first line are fewer
pub others_shorter : (octets line others : List ℕ) → 0 < length octets → IsFirstLine octets line others → length others < length octets
others_shorter octets line others some (Fed none is) =
    let long : length octets ≡ length line + length (10 ∷ others) = ap (λ (l : List ℕ). length l) is ∙ length-append line (10 ∷ others) in
    omega (arith, long)
others_shorter octets line others some (Unfed none is empty) = let short : length others ≡ 0 = ap (λ (l : List ℕ). length l) empty in omega (arith, some, short)

-- ---- a division underway

pub goes_self : (bytes : List ℕ) → GoesOn bytes bytes
goes_self bytes = record { piece = []; parts = refl; divides = λ trace report divided. divided }

pub goes_then : (bytes rest others : List ℕ) → GoesOn bytes rest → GoesOn rest others → GoesOn bytes others
goes_then bytes rest others one more = record {
  piece = one.piece ++ more.piece;
  parts = one.parts ∙ ap (λ (l : List ℕ). one.piece ++ l) more.parts ∙ sym (append_assoc one.piece more.piece others);
  divides = λ trace report divided. subst (λ (front : List ℕ). IsDivided bytes front report) (sym (append_assoc one.piece more.piece trace))
      (one.divides (more.piece ++ trace) report (more.divides trace report divided));
}

-- all was looked through
pub goes_through : (bytes : List ℕ) → GoesOn bytes [] → IsDivided bytes bytes []
goes_through bytes goes = subst (λ (front : List ℕ). IsDivided bytes front []) (sym goes.parts) (goes.divides [] [] divided_none)

-- the divider was found
pub IsDivided_here : (bytes rest line others : List ℕ) → GoesOn bytes rest → IsFirstLine rest line others → line ≡ divider
    → IsDivided bytes (take (length bytes - length rest) bytes) others
IsDivided_here bytes rest line others goes first same =
    let long : length bytes ≡ length goes.piece + length rest = ap (λ (l : List ℕ). length l) goes.parts ∙ length-append goes.piece rest in
    let count : length bytes - length rest ≡ length goes.piece = omega (arith, long) in
    let front : take (length bytes - length rest) bytes ≡ goes.piece = (λ i. take (count i) (goes.parts i)) ∙ take-append_seam goes.piece rest in
    subst (λ (trace : List ℕ). IsDivided bytes trace others) (append-nil goes.piece ∙ sym front) (goes.divides [] others (divided_here rest line others first same))
