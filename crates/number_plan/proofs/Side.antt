-- Digits side by side.
use Rattle.std.proofs.Common.{◌≡◌, ◌⊎◌, ℕ, zero, suc, ◌<◌, ◌≤◌, Bool, true, false, eqb, List, [], ◌∷◌, length, take, refl, sym, ap, subst, ◌∙◌, arith, inl, inr}
use Rattle.std.specs.Ordering.{is_lt, nat_cmp, ordering_index, ordering_reverse, ordering_then}
use Rattle.std.specs.declared.cmp.Ordering.{Ordering}
use Rattle.std.specs.declared.cmp.Ordering.TheVariants.{Less, Equal, Greater}
use Rattle.std.specs.Cmp.Lexicographic.{slice_cmp}
use Rattle.std.proofs.lemmas.Bool.{lt-ltb, le-ltb, eq-eqb, ne_eqb, eqb-true, cases_order, cases_lt, and_parts, and_from, false_from_ne_true}
use Rattle.number_plan.specs.Plan.{begins, side_by_side}

pub not_both : (o : Ordering) → o ≡ Less → o ≡ Equal → ⊥
not_both o p q = cc

-- ---- by the first digit

lower : (x y : ℕ) → x < y → nat_cmp x y ≡ Less
lower x y lt = rw (lt-ltb x y lt) refl

same : (x y : ℕ) → x ≡ y → nat_cmp x y ≡ Equal
same x y e = rw (le-ltb x y (omega arith), eq-eqb x y e) refl

higher : (x y : ℕ) → y < x → nat_cmp x y ≡ Greater
higher x y lt = rw (le-ltb x y (omega arith), ne_eqb x y (λ e. absurd (omega arith))) refl

pub side_by_side_first_lower : (x y : ℕ) (m n : List ℕ) → x < y → side_by_side (x ∷ m) (y ∷ n) ≡ Less
side_by_side_first_lower x y m n lt = ap (λ o. ordering_then o (side_by_side m n)) (lower x y lt)

pub side_by_side_first_same : (x y : ℕ) (m n : List ℕ) → x ≡ y → side_by_side (x ∷ m) (y ∷ n) ≡ side_by_side m n
side_by_side_first_same x y m n e = ap (λ o. ordering_then o (side_by_side m n)) (same x y e)

side_by_side_first_higher : (x y : ℕ) (m n : List ℕ) → y < x → side_by_side (x ∷ m) (y ∷ n) ≡ Greater
side_by_side_first_higher x y m n lt = ap (λ o. ordering_then o (side_by_side m n)) (higher x y lt)

-- comparing as far as the shorter goes
pub slice_cmp-take : (n : ℕ) (xs ys : List ℕ) → n ≤ length xs → n ≤ length ys → (n ≡ length xs) ⊎ (n ≡ length ys) → slice_cmp nat_cmp (take n xs) (take n ys) ≡ side_by_side xs ys
slice_cmp-take zero [] ys p q end = refl
slice_cmp-take zero (x ∷ xs) [] p q end = refl
slice_cmp-take zero (x ∷ xs) (y ∷ ys) p q end = elim end [ inl e ↦ absurd (omega arith) | inr e ↦ absurd (omega arith) ]
slice_cmp-take (suc n) [] ys p q end = absurd (omega arith)
slice_cmp-take (suc n) (x ∷ xs) [] p q end = absurd (omega arith)
slice_cmp-take (suc n) (x ∷ xs) (y ∷ ys) p q end =
    ap (ordering_then (nat_cmp x y)) (slice_cmp-take n xs ys (omega arith) (omega arith) (elim end [ inl e ↦ inl (omega arith) | inr e ↦ inr (omega arith) ]))

pub side_by_side_reversed : (m n : List ℕ) → side_by_side n m ≡ ordering_reverse (side_by_side m n)
side_by_side_reversed [] [] = refl
side_by_side_reversed [] (y ∷ n) = refl
side_by_side_reversed (x ∷ m) [] = refl
side_by_side_reversed (x ∷ m) (y ∷ n) =
    elim (cases_order x y) [
      | inl e ↦ side_by_side_first_same y x n m (sym e) ∙ side_by_side_reversed m n ∙ ap ordering_reverse (sym (side_by_side_first_same x y m n e))
      | inr (inl lt) ↦ side_by_side_first_higher y x n m lt ∙ ap ordering_reverse (sym (side_by_side_first_lower x y m n lt))
      | inr (inr lt) ↦ side_by_side_first_lower y x n m lt ∙ ap ordering_reverse (sym (side_by_side_first_higher x y m n lt))
    ]

-- ---- where one begins the other

pub side_by_side_begins_equal : (m d : List ℕ) → begins m d ≡ true → side_by_side m d ≡ Equal
side_by_side_begins_equal [] d b = refl
side_by_side_begins_equal (x ∷ m) [] b = refl
side_by_side_begins_equal (x ∷ m) (z ∷ d) b =
    let parts = and_parts (eqb x z) (begins m d) b in
    side_by_side_first_same x z m d (eqb-true x z parts.0) ∙ side_by_side_begins_equal m d parts.1

pub side_by_side_begun_equal : (m d : List ℕ) → begins d m ≡ true → side_by_side m d ≡ Equal
side_by_side_begun_equal m d b = side_by_side_reversed d m ∙ ap ordering_reverse (side_by_side_begins_equal d m b)

pub begins_shorter : (m d : List ℕ) → begins m d ≡ true → length m ≤ length d
begins_shorter [] d b = omega arith
begins_shorter (x ∷ m) [] b = absurd cc
begins_shorter (x ∷ m) (z ∷ d) b =
    let parts = and_parts (eqb x z) (begins m d) b in
    omega (arith, begins_shorter m d parts.1)

pub equal_begins : (m d : List ℕ) → side_by_side m d ≡ Equal → length m ≤ length d → begins m d ≡ true
equal_begins [] d e short = refl
equal_begins (x ∷ m) [] e short = absurd (omega arith)
equal_begins (x ∷ m) (z ∷ d) e short =
    elim (cases_order x z) [
      | inl is ↦ and_from (eqb x z) (begins m d) (eq-eqb x z is) (equal_begins m d (sym (side_by_side_first_same x z m d is) ∙ e) (omega arith))
      | inr (inl lt) ↦ absurd (not_both (side_by_side (x ∷ m) (z ∷ d)) (side_by_side_first_lower x z m d lt) e)
      | inr (inr lt) ↦ absurd (not_equal (side_by_side (x ∷ m) (z ∷ d)) (side_by_side_first_higher x z m d lt) e)
    ]
  where
    not_equal : (o : Ordering) → o ≡ Greater → o ≡ Equal → ⊥
    not_equal o p q = cc

-- the one of two equal ones that isn't longer begins the other
pub equal_begun : (m d : List ℕ) → side_by_side m d ≡ Equal → length d ≤ length m → begins d m ≡ true
equal_begun m d e short = equal_begins d m (side_by_side_reversed m d ∙ ap ordering_reverse e) short

pub begins_begins : (a b c : List ℕ) → begins a b ≡ true → begins b c ≡ true → begins a c ≡ true
begins_begins [] b c p q = refl
begins_begins (x ∷ a) [] c p q = absurd cc
begins_begins (x ∷ a) (y ∷ b) [] p q = absurd cc
begins_begins (x ∷ a) (y ∷ b) (z ∷ c) p q =
    let l = and_parts (eqb x y) (begins a b) p in
    let r = and_parts (eqb y z) (begins b c) q in
    and_from (eqb x z) (begins a c) (eq-eqb x z (eqb-true x y l.0 ∙ eqb-true y z r.0)) (begins_begins a b c l.1 r.1)

-- two that begin the same digits are equal
pub side_by_side_both_begin : (a b c : List ℕ) → begins a c ≡ true → begins b c ≡ true → side_by_side a b ≡ Equal
side_by_side_both_begin [] b c p q = refl
side_by_side_both_begin (x ∷ a) [] c p q = refl
side_by_side_both_begin (x ∷ a) (y ∷ b) [] p q = absurd cc
side_by_side_both_begin (x ∷ a) (y ∷ b) (z ∷ c) p q =
    let l = and_parts (eqb x z) (begins a c) p in
    let r = and_parts (eqb y z) (begins b c) q in
    side_by_side_first_same x y a b (eqb-true x z l.0 ∙ sym (eqb-true y z r.0)) ∙ side_by_side_both_begin a b c l.1 r.1

-- one of two that begin the same digits begins the other
pub begins_one : (a b d : List ℕ) → begins a d ≡ true → begins b d ≡ true → (begins a b ≡ true) ⊎ (begins b a ≡ true)
begins_one a b d p q =
    elim (cases_lt (length b) (length a)) [
      | inl lt ↦ inr (equal_begun a b (side_by_side_both_begin a b d p q) (omega arith))
      | inr le ↦ inl (equal_begins a b (side_by_side_both_begin a b d p q) le)
    ]

pub not_begins : (m d : List ℕ) → side_by_side m d ≡ Less → begins m d ≡ false
not_begins m d e = false_from_ne_true _ (λ b. not_both (side_by_side m d) e (side_by_side_begins_equal m d b))

pub not_begun : (m d : List ℕ) → side_by_side m d ≡ Less → begins d m ≡ false
not_begun m d e = false_from_ne_true _ (λ b. not_both (side_by_side m d) e (side_by_side_begun_equal m d b))

-- one of two equal ones begins the other
pub one_begins : (m d : List ℕ) → begins m d ≡ false → begins d m ≡ false → side_by_side m d ≡ Equal → ⊥
one_begins m d p q e =
    elim (cases_lt (length d) (length m)) [
      | inl lt ↦ clash (begins d m) q (equal_begun m d e (omega arith))
      | inr le ↦ clash (begins m d) p (equal_begins m d e le)
    ]
  where
    clash : (b : Bool) → b ≡ false → b ≡ true → ⊥
    clash b p q = cc

-- ---- the order

index_most : (o : Ordering) → ordering_index o ≤ 2
index_most Less = omega arith
index_most Equal = omega arith
index_most Greater = omega arith

at_most : (o p : Ordering) → o ≡ Less → ordering_index o ≤ ordering_index p
at_most o p e = subst (λ w. ordering_index w ≤ ordering_index p) (sym e) (omega arith)

at_least : (o p : Ordering) → p ≡ Greater → ordering_index o ≤ ordering_index p
at_least o p e = subst (λ w. ordering_index o ≤ ordering_index w) (sym e) (index_most o)

between : (o p s t : Ordering) → o ≡ s → p ≡ t → ordering_index s ≤ ordering_index t → ordering_index o ≤ ordering_index p
between o p s t e f le = subst (λ w. ordering_index w ≤ ordering_index p) (sym e) (subst (λ w. ordering_index s ≤ ordering_index w) (sym f) le)

-- what comes before another comes before it beside any digits
pub side_by_side_rising : (m n d : List ℕ) → side_by_side m n ≡ Less → ordering_index (side_by_side m d) ≤ ordering_index (side_by_side n d)
side_by_side_rising [] n d e = absurd cc
side_by_side_rising (x ∷ m) [] d e = absurd cc
side_by_side_rising (x ∷ m) (y ∷ n) [] e = omega arith
side_by_side_rising (x ∷ m) (y ∷ n) (z ∷ d) e =
    elim (cases_order x y) [
      | inl is ↦
          elim (cases_order x z) [
            | inl xz ↦ between _ _ _ _ (side_by_side_first_same x z m d xz) (side_by_side_first_same y z n d (sym is ∙ xz)) (side_by_side_rising m n d (sym (side_by_side_first_same x y m n is) ∙ e))
            | inr (inl lt) ↦ at_most _ _ (side_by_side_first_lower x z m d lt)
            | inr (inr lt) ↦ at_least _ _ (side_by_side_first_higher y z n d (omega arith))
          ]
      | inr (inl lt) ↦
          elim (cases_lt x z) [
            | inl below ↦ at_most _ _ (side_by_side_first_lower x z m d below)
            | inr above ↦ at_least _ _ (side_by_side_first_higher y z n d (omega arith))
          ]
      | inr (inr lt) ↦ absurd (not_less (side_by_side (x ∷ m) (y ∷ n)) (side_by_side_first_higher x y m n lt) e)
    ]
  where
    not_less : (o : Ordering) → o ≡ Greater → o ≡ Less → ⊥
    not_less o p q = cc

least : (o p : Ordering) → p ≡ Less → ordering_index o ≤ ordering_index p → o ≡ Less
least Less p e le = refl
least Equal p e le = absurd (omega (arith, ap ordering_index e))
least Greater p e le = absurd (omega (arith, ap ordering_index e))

pub side_by_side_precedes_on : (m n d : List ℕ) → side_by_side m n ≡ Less → side_by_side n d ≡ Less → side_by_side m d ≡ Less
side_by_side_precedes_on m n d p q = least (side_by_side m d) (side_by_side n d) q (side_by_side_rising m n d p)

pub is_less : (o : Ordering) → is_lt o ≡ true → o ≡ Less
is_less Less e = refl
is_less Equal e = absurd cc
is_less Greater e = absurd cc
