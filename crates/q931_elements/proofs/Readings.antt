-- The grammar and the walk agree: each piece is one step, and each string is a row of pieces and a tail.
use Rattle.std.proofs.Common.{◌≡◌, ℕ, zero, suc, ◌<◌, ◌≤◌, ◌⊎◌, inl, inr, List, [], ◌∷◌, ◌++◌, length, take, drop, refl, sym, ap, subst, ◌∙◌, arith, append_assoc, length-append, map}
use Rattle.std.specs.List.{AllByRecursion}
use Rattle.std.proofs.lemmas.Bool.{cases_lt, le-ltb, lt-ltb}
use Rattle.std.proofs.lemmas.List.{take_at, drop_at, take-append-drop, length-take, length-drop, nil_from_length}
use Rattle.q931_elements.specs.InformationElement.{InformationElement}
use Rattle.q931_elements.specs.Grammar.{Item, SingleOctet, VariableLength, IsItem, octets_of, element_of, IsLockingShift, IsNonLockingShift, Piece, Present, Shifted, IsPiece, octets_of_pieces, present_elements, IsUnfinishedElement, IsTail, IsElementList, IsPresent, octets_of_all}
use Rattle.q931_elements.specs.Reading.{Whole, LockingShift, NonLockingShift, Unfinished, front_in, variable_front, after_item, elements_of}
use Rattle.q931_elements.proofs.Steps.{elements_step, elements_from}

-- ---- one octet at the beginning

variable_at : (octet : ℕ) (rest : List ℕ) → octet < 0x80 → front_in (octet ∷ rest) ≡ variable_front octet rest
variable_at octet rest low = rw (lt-ltb octet 0x80 low) refl

single_at : (octet : ℕ) (rest : List ℕ) → 0x80 ≤ octet → (octet < 0x90) ⊎ (0xA0 ≤ octet) → front_in (octet ∷ rest) ≡ Whole (record { code = octet; contents = [] }) rest
single_at octet rest high (inl below) = rw (le-ltb octet 0x80 high, lt-ltb octet 0x90 below) refl
single_at octet rest high (inr above) = rw (le-ltb octet 0x80 high, le-ltb octet 0x90 (omega arith), le-ltb octet 0x98 (omega arith), le-ltb octet 0xA0 above) refl

locking_at : (octet : ℕ) (rest : List ℕ) → IsLockingShift octet → front_in (octet ∷ rest) ≡ LockingShift
locking_at octet rest (from, to) = rw (le-ltb octet 0x80 (omega arith), le-ltb octet 0x90 from, lt-ltb octet 0x98 to) refl

non_locking_at : (octet : ℕ) (rest : List ℕ) → IsNonLockingShift octet → front_in (octet ∷ rest) ≡ NonLockingShift rest
non_locking_at octet rest (from, to) = rw (le-ltb octet 0x80 (omega arith), le-ltb octet 0x90 (omega arith), le-ltb octet 0x98 from, lt-ltb octet 0xA0 to) refl

-- ---- a piece or a tail at the beginning

front_present : (item : Item) (rest : List ℕ) → IsPiece (Present item) → front_in (octets_of item ++ rest) ≡ Whole (element_of item) rest
front_present (SingleOctet octet) rest is = single_at octet rest is.0 is.1
front_present (VariableLength code contents) rest low =
    variable_at code (length contents ∷ (contents ++ rest)) low
    ∙ rw (le-ltb (length (contents ++ rest)) (length contents) (omega (arith, length-append contents rest)), take_at contents rest (length contents) refl, drop_at contents rest (length contents) refl) refl

after_is : (item : Item) (rest : List ℕ) → IsItem item → after_item (octets_of item ++ rest) ≡ rest
after_is (SingleOctet octet) rest high = rw (le-ltb octet 0x80 high) refl
after_is (VariableLength code contents) rest low = rw (lt-ltb code 0x80 low) (drop_at contents rest (length contents) refl)

unfinished_at : (octets : List ℕ) → IsUnfinishedElement octets → front_in octets ≡ Unfinished
unfinished_at [] is = refl
unfinished_at (code ∷ []) low = variable_at code [] low
unfinished_at (code ∷ len ∷ rest) (low, short) = variable_at code (len ∷ rest) low ∙ rw (lt-ltb (length rest) len short) refl

after_unfinished : (octets : List ℕ) → IsUnfinishedElement octets → after_item octets ≡ []
after_unfinished [] is = refl
after_unfinished (code ∷ []) low = rw (lt-ltb code 0x80 low) refl
after_unfinished (code ∷ len ∷ rest) (low, short) = rw (lt-ltb code 0x80 low) (nil_from_length (drop len rest) (omega (arith, length-drop len rest)))

elements_of_present : (item : Item) (rest : List ℕ) → IsPiece (Present item) → elements_of (octets_of item ++ rest) ≡ element_of item ∷ elements_of rest
elements_of_present item rest is = elements_from (octets_of item ++ rest) _ (sym (front_present item rest is))

elements_of_shifted : (shift : ℕ) (item : Item) (rest : List ℕ) → IsNonLockingShift shift → IsItem item → elements_of (shift ∷ (octets_of item ++ rest)) ≡ elements_of rest
elements_of_shifted shift item rest is item-is =
    elements_from (shift ∷ (octets_of item ++ rest)) _ (sym (non_locking_at shift (octets_of item ++ rest) is)) ∙ ap elements_of (after_is item rest item-is)

pub elements_of_nothing : elements_of [] ≡ []
elements_of_nothing = elements_step []

elements_of_unfinished : (octets : List ℕ) → IsUnfinishedElement octets → elements_of octets ≡ []
elements_of_unfinished octets is = elements_from octets _ (sym (unfinished_at octets is))

elements_of_tail : (tail : List ℕ) → IsTail tail → elements_of tail ≡ []
elements_of_tail [] is = elements_of_nothing
elements_of_tail (octet ∷ rest) (inl locking) = elements_from (octet ∷ rest) _ (sym (locking_at octet rest locking))
elements_of_tail (octet ∷ rest) (inr (inl (shift, unfinished))) =
    elements_from (octet ∷ rest) _ (sym (non_locking_at octet rest shift)) ∙ ap elements_of (after_unfinished rest unfinished) ∙ elements_of_nothing
elements_of_tail (octet ∷ rest) (inr (inr unfinished)) = elements_of_unfinished (octet ∷ rest) unfinished

-- ---- at most one reading

elements_of_pieces : (pieces : List Piece) (tail : List ℕ) → AllByRecursion IsPiece pieces → IsTail tail → elements_of (octets_of_pieces pieces ++ tail) ≡ present_elements pieces
elements_of_pieces [] tail are is = elements_of_tail tail is
elements_of_pieces (Present item ∷ pieces) tail (one, others) is =
    ap elements_of (append_assoc (octets_of item) (octets_of_pieces pieces) tail)
    ∙ elements_of_present item (octets_of_pieces pieces ++ tail) one
    ∙ ap (λ es. element_of item ∷ es) (elements_of_pieces pieces tail others is)
elements_of_pieces (Shifted shift item ∷ pieces) tail (one, others) is =
    ap (λ octets. elements_of (shift ∷ octets)) (append_assoc (octets_of item) (octets_of_pieces pieces) tail)
    ∙ elements_of_shifted shift item (octets_of_pieces pieces ++ tail) one.0 one.1
    ∙ elements_of_pieces pieces tail others is

-- what the grammar reads is what the walk finds
pub reading_is : (octets : List ℕ) (elements : List InformationElement) → IsElementList octets elements → elements ≡ elements_of octets
reading_is octets elements is =
    is.elements_are ∙ sym (elements_of_pieces is.pieces is.tail is.are_pieces is.is_tail) ∙ ap elements_of (sym is.octets_are)

-- ---- at least one reading

-- octets begin with an item or are unfinished
abbrev BeginsByItem : List ℕ → Type 0
BeginsByItem octets = ((item : Item) × (rest : List ℕ) × IsItem item × (octets ≡ octets_of item ++ rest)) ⊎ IsUnfinishedElement octets

item_at_front : (octets : List ℕ) → BeginsByItem octets
item_at_front [] = inr tt
item_at_front (octet ∷ rest) = elim (cases_lt octet 0x80) [ inl low ↦ begins_low rest low | inr high ↦ inl (SingleOctet octet, rest, high, refl) ]
  where
    whole : (len : ℕ) (more : List ℕ) → len ≤ length more → (octet ∷ len ∷ more) ≡ (octet ∷ length (take len more) ∷ (take len more ++ drop len more))
    whole len more le =
        let is : length (take len more) ≡ len = omega (arith, length-take len more) in
        rw (is, take-append-drop len more) refl

    begins_low : (more : List ℕ) → octet < 0x80 → BeginsByItem (octet ∷ more)
    begins_low [] low = inr low
    begins_low (len ∷ more) low =
        elim (cases_lt (length more) len) [
          | inl short ↦ inr (low, short)
          | inr le ↦ inl (VariableLength octet (take len more), drop len more, low, whole len more le)
        ]

with_present : (octets : List ℕ) (item : Item) (rest : List ℕ) → IsPiece (Present item) → octets ≡ octets_of item ++ rest → IsElementList rest (elements_of rest) → IsElementList octets (elements_of octets)
with_present octets item rest is parts others = record {
  pieces = Present item ∷ others.pieces;
  tail = others.tail;
  are_pieces = (is, others.are_pieces);
  is_tail = others.is_tail;
  octets_are = parts ∙ ap (λ left. octets_of item ++ left) others.octets_are ∙ sym (append_assoc (octets_of item) (octets_of_pieces others.pieces) others.tail);
  elements_are = ap elements_of parts ∙ elements_of_present item rest is ∙ ap (λ es. element_of item ∷ es) others.elements_are;
}

with_shifted : (octets : List ℕ) (shift : ℕ) (item : Item) (rest : List ℕ) → IsNonLockingShift shift → IsItem item → octets ≡ shift ∷ (octets_of item ++ rest) → IsElementList rest (elements_of rest) → IsElementList octets (elements_of octets)
with_shifted octets shift item rest is item-is parts others = record {
  pieces = Shifted shift item ∷ others.pieces;
  tail = others.tail;
  are_pieces = ((is, item-is), others.are_pieces);
  is_tail = others.is_tail;
  octets_are = parts ∙ ap (λ left. shift ∷ (octets_of item ++ left)) others.octets_are ∙ ap (λ left. shift ∷ left) (sym (append_assoc (octets_of item) (octets_of_pieces others.pieces) others.tail));
  elements_are = ap elements_of parts ∙ elements_of_shifted shift item rest is item-is ∙ others.elements_are;
}

tail_alone : (tail : List ℕ) → IsTail tail → IsElementList tail (elements_of tail)
tail_alone tail is = record { pieces = []; tail = tail; are_pieces = tt; is_tail = is; octets_are = refl; elements_are = elements_of_tail tail is }

unfinished_tail : (octets : List ℕ) → IsUnfinishedElement octets → IsTail octets
unfinished_tail [] is = tt
unfinished_tail (octet ∷ rest) is = inr (inr is)

-- what a single octet may be
abbrev SingleKind : ℕ → Type 0
SingleKind octet = ((octet < 0x90) ⊎ (0xA0 ≤ octet)) ⊎ (IsLockingShift octet ⊎ IsNonLockingShift octet)

single_kind : (octet : ℕ) → 0x80 ≤ octet → SingleKind octet
single_kind octet high =
    elim (cases_lt octet 0x90) [
      | inl below ↦ inl (inl below)
      | inr from ↦ elim (cases_lt octet 0x98) [
        | inl to ↦ inr (inl (from, to))
        | inr next ↦ elim (cases_lt octet 0xA0) [ inl to ↦ inr (inr (next, to)) | inr above ↦ inl (inr above) ]
      ]
    ]

-- one piece more
read_longer : (n : ℕ) → ((octets : List ℕ) → length octets ≤ n → IsElementList octets (elements_of octets)) → (octets : List ℕ) → length octets ≤ suc n → IsElementList octets (elements_of octets)
read_longer n again octets le =
    elim (item_at_front octets) [
      | inr unfinished ↦ tail_alone octets (unfinished_tail octets unfinished)
      | inl (item, rest, is, parts) ↦ by_item item rest is parts
    ]
  where
    shorter : (item : Item) (rest : List ℕ) → octets ≡ octets_of item ++ rest → length rest ≤ n
    shorter (SingleOctet octet) rest parts = let len = ap length parts in omega arith
    shorter (VariableLength code contents) rest parts = let len = ap length parts in omega (arith, length-append contents rest)

    shifted : (shift : ℕ) (rest : List ℕ) → octets ≡ shift ∷ rest → IsNonLockingShift shift → IsElementList octets (elements_of octets)
    shifted shift rest parts is =
        elim (item_at_front rest) [
          | inl (item, more, item-is, rest-parts) ↦ with_shifted octets shift item more is item-is (parts ∙ ap (λ left. shift ∷ left) rest-parts) (again more (shorter_twice item more rest-parts))
          | inr unfinished ↦ subst (λ left. IsElementList left (elements_of left)) (sym parts) (tail_alone (shift ∷ rest) (inr (inl (is, unfinished))))
        ]
      where
        shorter_twice : (item : Item) (more : List ℕ) → rest ≡ octets_of item ++ more → length more ≤ n
        shorter_twice (SingleOctet octet) more rest-parts = let len = ap length parts in let len2 = ap length rest-parts in omega arith
        shorter_twice (VariableLength code contents) more rest-parts = let len = ap length parts in let len2 = ap length rest-parts in omega (arith, length-append contents more)

    by_item : (item : Item) (rest : List ℕ) → IsItem item → octets ≡ octets_of item ++ rest → IsElementList octets (elements_of octets)
    by_item (VariableLength code contents) rest low parts =
        with_present octets (VariableLength code contents) rest low parts (again rest (shorter (VariableLength code contents) rest parts))
    by_item (SingleOctet octet) rest high parts =
        elim (single_kind octet high) [
          | inl plain ↦ with_present octets (SingleOctet octet) rest (high, plain) parts (again rest (shorter (SingleOctet octet) rest parts))
          | inr (inl locking) ↦ subst (λ left. IsElementList left (elements_of left)) (sym parts) (tail_alone (octet ∷ rest) (inl locking))
          | inr (inr shift) ↦ shifted octet rest parts shift
        ]

read_within : (n : ℕ) (octets : List ℕ) → length octets ≤ n → IsElementList octets (elements_of octets)
read_within zero octets le = tail_alone octets (unfinished_tail octets (subst IsUnfinishedElement (sym (nil_from_length octets (omega arith))) tt))
read_within (suc n) octets le = read_longer n (read_within n) octets le

-- each string of octets has a reading
pub IsElementList-elements_of : (octets : List ℕ) → IsElementList octets (elements_of octets)
IsElementList-elements_of octets = read_within (length octets) octets (omega arith)

-- ---- what is written

written_pieces : List Item → List Piece
written_pieces [] = []
written_pieces (item ∷ items) = Present item ∷ written_pieces items

written_are : (items : List Item) → AllByRecursion IsPresent items → AllByRecursion IsPiece (written_pieces items)
unfolding written_pieces
written_are [] are = tt
written_are (item ∷ items) (one, others) = (one, written_are items others)

written_octets : (items : List Item) → octets_of_all items ≡ octets_of_pieces (written_pieces items) ++ []
unfolding written_pieces
written_octets [] = refl
written_octets (item ∷ items) = ap (λ left. octets_of item ++ left) (written_octets items) ∙ sym (append_assoc (octets_of item) (octets_of_pieces (written_pieces items)) [])

written_elements : (items : List Item) → map element_of items ≡ present_elements (written_pieces items)
unfolding written_pieces
written_elements [] = refl
written_elements (item ∷ items) = ap (λ es. element_of item ∷ es) (written_elements items)

pub written_read : (items : List Item) → AllByRecursion IsPresent items → IsElementList (octets_of_all items) (map element_of items)
written_read items are = record {
  pieces = written_pieces items;
  tail = [];
  are_pieces = written_are items are;
  is_tail = tt;
  octets_are = written_octets items;
  elements_are = written_elements items;
}
