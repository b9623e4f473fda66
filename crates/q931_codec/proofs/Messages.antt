-- The reading from the beginning is the grammar's one reading.
use Rattle.std.proofs.Common.{◌≡◌, ℕ, ◌+◌, ◌*◌, ◌/◌, ◌%◌, ◌^◌, ◌<◌, Bool, true, false, cond, eqb, leb, List, [], ◌∷◌, ◌++◌, get_or, Result, Ok, Err, refl, sym, ap, subst, ◌∙◌, arith, inl, inr}
use Rattle.std.proofs.lemmas.Bool.{eqb-true, cases_lt, le-leb, lt-leb}
use Rattle.q931_elements.specs.InformationElement.{InformationElement}
use Rattle.q931_elements.specs.Reading.{elements_of}
use Rattle.q931_elements.proofs.Readings.{reading_is, IsElementList-elements_of}
use Rattle.q931_codec.specs.declared.kind.MessageKind.{MessageKind}
use Rattle.q931_codec.specs.declared.message.Message.{Message}
use Rattle.q931_codec.specs.declared.message.Discard.{Discard}
use Rattle.q931_codec.specs.declared.message.Discard.TheVariants.{ReferenceLength, Discriminator}
use Rattle.q931_codec.specs.MessageType.{type_of, named_kinds, kind_among, kind_of, IsKind}
use Rattle.q931_codec.specs.Grammar.{reference_octets, IsMessage}
use Rattle.q931_codec.specs.Reading.{reading, reading_from_length, reading_from_reference}

abbrev made : Bool → ℕ → MessageKind → List InformationElement → Message
made flag value kind elements = record { flag = flag; reference = value; kind = kind; elements = elements }

same_made : (flag f : Bool) (value v : ℕ) (kind k : MessageKind) (elements es : List InformationElement) → flag ≡ f → value ≡ v → kind ≡ k → elements ≡ es → made flag value kind elements ≡ made f v k es
same_made flag f value v kind k elements es p q r s = rw (p, q, r, s) refl

flag_back : (flag : Bool) (value : ℕ) → value < 2 ^ 15 → leb 0x80 (cond flag 0x80 0 + value / 0x100) ≡ flag
flag_back true value small = le-leb 0x80 (0x80 + value / 0x100) (omega arith)
flag_back false value small = lt-leb 0x80 (0 + value / 0x100) (omega arith)

value_back : (flag : Bool) (value : ℕ) → value < 2 ^ 15 → (cond flag 0x80 0 + value / 0x100) % 0x80 * 0x100 + value % 0x100 ≡ value
value_back true value small = omega arith
value_back false value small = omega arith

-- what the grammar reads is what the beginning says
pub reading_message : (octets : List ℕ) (m : Message) → IsMessage octets m → reading octets ≡ Ok m
reading_message octets m is =
    ap reading is.octets_are
    ∙ ap (λ (x : Message). Ok x) (same_made _ m.flag _ m.reference _ m.kind _ m.elements (flag_back m.flag m.reference is.value) (value_back m.flag m.reference is.value) is.kind (sym (reading_is is.rest m.elements is.elements_are)))

abbrev IsOctets : List ℕ → Type 0
IsOctets octets = (i : ℕ) → get_or octets i 0 < 256

reference_back : (high low : ℕ) → high < 256 → low < 256 → reference_octets (leb 0x80 high) (high % 0x80 * 0x100 + low) ≡ high ∷ low ∷ []
reference_back high low h l =
    elim (cases_lt high 0x80) [
      | inl below ↦ rw (lt-leb 0x80 high below) (same_two (omega arith) (omega arith))
      | inr from ↦ rw (le-leb 0x80 high from) (same_two (omega arith) (omega arith))
    ]
  where
    same_two : {a b : ℕ} → a ≡ high → b ≡ low → (a ∷ b ∷ []) ≡ (high ∷ low ∷ [])
    same_two p q = rw (p, q) refl

type_chosen : (b : Bool) (k : MessageKind) (other : MessageKind) (octet : ℕ) → eqb octet (type_of k) ≡ b → type_of other ≡ octet → type_of (cond b k other) ≡ octet
type_chosen true k other octet is rest = sym (eqb-true octet (type_of k) is)
type_chosen false k other octet is rest = rest

type_back : (kinds : List MessageKind) (octet : ℕ) → type_of (kind_among kinds octet) ≡ octet
type_back [] octet = refl
type_back (k ∷ ks) octet = type_chosen (eqb octet (type_of k)) k (kind_among ks octet) octet refl (type_back ks octet)

pub kind_is : (octet : ℕ) → IsKind (kind_of octet)
kind_is octet = ap kind_of (type_back named_kinds octet)

guard_ok : (b : Bool) (d : Discard) (x : Result Message Discard) (m : Message) → cond b x (Err d) ≡ Ok m → (b ≡ true) × (x ≡ Ok m)
guard_ok true d x m is = (refl, is)
guard_ok false d x m is = absurd cc

pub ok_is : (x y : Message) → ◌≡◌ {A = Result Message Discard} (Ok x) (Ok y) → x ≡ y
ok_is x y is = cc

five : (high low type : ℕ) (rest : List ℕ) → high < 256 → low < 256 → IsMessage (8 ∷ 2 ∷ high ∷ low ∷ type ∷ rest) (made (leb 0x80 high) (high % 0x80 * 0x100 + low) (kind_of type) (elements_of rest))
five high low type rest h l = record {
  value = omega arith;
  kind = kind_is type;
  rest = rest;
  octets_are = sym (ap (λ (r : List ℕ). (8 ∷ 2 ∷ r ++ type_of (kind_of type) ∷ []) ++ rest) (reference_back high low h l) ∙ ap (λ (t : ℕ). 8 ∷ 2 ∷ high ∷ low ∷ t ∷ rest) (type_back named_kinds type));
  elements_are = IsElementList-elements_of rest;
}

from_reference : (octets : List ℕ) (m : Message) → IsOctets (8 ∷ 2 ∷ octets) → reading_from_reference octets ≡ Ok m → IsMessage (8 ∷ 2 ∷ octets) m
from_reference [] m fits is = absurd cc
from_reference (high ∷ []) m fits is = absurd cc
from_reference (high ∷ low ∷ []) m fits is = absurd cc
from_reference (high ∷ low ∷ type ∷ rest) m fits is = subst (IsMessage (8 ∷ 2 ∷ high ∷ low ∷ type ∷ rest)) (ok_is _ m is) (five high low type rest (fits 2) (fits 3))

from_length : (octets : List ℕ) (m : Message) → IsOctets (8 ∷ octets) → reading_from_length octets ≡ Ok m → IsMessage (8 ∷ octets) m
from_length [] m fits is = absurd cc
from_length (second ∷ octets) m fits is =
    let parts = guard_ok (eqb second 2) ReferenceLength (reading_from_reference octets) m is in
    let second-is : second ≡ 2 = eqb-true second 2 parts.0 in
    subst (λ s. IsMessage (8 ∷ s ∷ octets) m) (sym second-is) (from_reference octets m (subst (λ s. IsOctets (8 ∷ s ∷ octets)) second-is fits) parts.1)

-- what the beginning says is in the grammar
pub read_message : (octets : List ℕ) (m : Message) → IsOctets octets → reading octets ≡ Ok m → IsMessage octets m
read_message [] m fits is = absurd cc
read_message (first ∷ octets) m fits is =
    let parts = guard_ok (eqb first 8) Discriminator (reading_from_length octets) m is in
    let first-is : first ≡ 8 = eqb-true first 8 parts.0 in
    subst (λ f. IsMessage (f ∷ octets) m) (sym first-is) (from_length octets m (subst (λ f. IsOctets (f ∷ octets)) first-is fits) parts.1)
