-- The elements, found from the first octet on. By a theorem this is the grammar's one reading.
use Rattle.std.specs.Prelude.{ℕ, zero, suc, List, [], ◌∷◌, length, take, drop, nat_lt, if◌then◌else◌}
use Rattle.q931_elements.specs.InformationElement.{InformationElement}

-- the item, tail or shift that the octets begin with
pub data Front : Type 0 where
  Whole : InformationElement → List ℕ → Front
  LockingShift : Front
  NonLockingShift : List ℕ → Front
  Unfinished : Front

-- a variable length element, from its length on
abbrev pub variable_front : ℕ → List ℕ → Front
variable_front code [] = Unfinished
variable_front code (len ∷ rest) =
    if nat_lt (length rest) len then Unfinished else Whole (record { code = code; contents = take len rest }) (drop len rest)

abbrev pub front_in : List ℕ → Front
front_in [] = Unfinished
front_in (octet ∷ rest) =
    if nat_lt octet 0x80 then variable_front octet rest
    else (if nat_lt octet 0x90 then Whole (record { code = octet; contents = [] }) rest
    else (if nat_lt octet 0x98 then LockingShift
    else (if nat_lt octet 0xA0 then NonLockingShift rest
    else Whole (record { code = octet; contents = [] }) rest)))

-- the octets after one item; none if it is truncated
abbrev pub after_contents : List ℕ → List ℕ
after_contents [] = []
after_contents (len ∷ rest) = drop len rest

abbrev pub after_item : List ℕ → List ℕ
after_item [] = []
after_item (octet ∷ rest) = if nat_lt octet 0x80 then after_contents rest else rest

abbrev pub elements_at : (List ℕ → List InformationElement) → Front → List InformationElement
elements_at others (Whole element rest) = element ∷ others rest
elements_at others LockingShift = []
elements_at others (NonLockingShift rest) = others (after_item rest)
elements_at others Unfinished = []

-- the elements, of at most n pieces
unfoldable pub elements_within : ℕ → List ℕ → List InformationElement
elements_within zero octets = []
elements_within (suc n) octets = elements_at (elements_within n) (front_in octets)

unfoldable pub elements_of : List ℕ → List InformationElement
elements_of octets = elements_within (length octets) octets
