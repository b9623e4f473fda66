-- The octets after a message's header, as a whole (ITU-T Q.931 (05/98), 4.5.1 to 4.5.4): consecutive pieces and then a
-- tail. This project reads codeset 0 only.
use Rattle.std.specs.Prelude.{◌≡◌, ℕ, ◌<◌, ◌≤◌, ◌⊎◌, List, [], ◌∷◌, ◌++◌, length}
use Rattle.std.specs.List.{AllByRecursion, flat_map}
use Rattle.q931_elements.specs.InformationElement.{InformationElement}

-- the two formats: a single octet, whose top bit is 1, and an identifier, whose top bit is 0, with a length and that
-- number of octets of contents (4.5.1)
pub data Item : Type 0 where
  SingleOctet : ℕ → Item
  VariableLength : ℕ → List ℕ → Item

abbrev pub IsItem : Item → Type 0
IsItem (SingleOctet octet) = 0x80 ≤ octet
IsItem (VariableLength code contents) = code < 0x80

abbrev pub octets_of : Item → List ℕ
octets_of (SingleOctet octet) = octet ∷ []
octets_of (VariableLength code contents) = code ∷ length contents ∷ contents

abbrev pub element_of : Item → InformationElement
element_of (SingleOctet octet) = record { code = octet; contents = [] }
element_of (VariableLength code contents) = record { code = code; contents = contents }

-- 1001 0xxx: from here on the elements are of another codeset (4.5.3)
abbrev pub IsLockingShift : ℕ → Type 0
IsLockingShift octet = (0x90 ≤ octet) × (octet < 0x98)

-- 1001 1xxx: the next element is one of another codeset (4.5.4)
abbrev pub IsNonLockingShift : ℕ → Type 0
IsNonLockingShift octet = (0x98 ≤ octet) × (octet < 0xA0)

-- an information element, or a non-locking shift and the item that it hides
pub data Piece : Type 0 where
  Present : Item → Piece
  Shifted : ℕ → Item → Piece

abbrev pub IsPiece : Piece → Type 0
IsPiece (Present (SingleOctet octet)) = (0x80 ≤ octet) × ((octet < 0x90) ⊎ (0xA0 ≤ octet))
IsPiece (Present (VariableLength code contents)) = code < 0x80
IsPiece (Shifted shift item) = IsNonLockingShift shift × IsItem item

abbrev pub octets_of_pieces : List Piece → List ℕ
octets_of_pieces [] = []
octets_of_pieces (Present item ∷ pieces) = octets_of item ++ octets_of_pieces pieces
octets_of_pieces (Shifted shift item ∷ pieces) = shift ∷ octets_of item ++ octets_of_pieces pieces

-- the elements that no shift hides
abbrev pub present_elements : List Piece → List InformationElement
present_elements [] = []
present_elements (Present item ∷ pieces) = element_of item ∷ present_elements pieces
present_elements (Shifted shift item ∷ pieces) = present_elements pieces

-- no octet, or a truncated variable length element
abbrev pub IsUnfinishedElement : List ℕ → Type 0
IsUnfinishedElement [] = Unit {0}
IsUnfinishedElement (code ∷ []) = code < 0x80
IsUnfinishedElement (code ∷ len ∷ rest) = (code < 0x80) × (length rest < len)

-- a locking shift and all that follows, or something unfinished, which a non-locking shift may precede
abbrev pub IsTail : List ℕ → Type 0
IsTail [] = Unit {0}
IsTail (octet ∷ rest) = IsLockingShift octet ⊎ ((IsNonLockingShift octet × IsUnfinishedElement rest) ⊎ IsUnfinishedElement (octet ∷ rest))

-- these are the elements of these octets
pub record IsElementList (octets : List ℕ) (elements : List InformationElement) : Type 0 where
  pub pieces : List Piece
  pub tail : List ℕ
  pub are_pieces : AllByRecursion IsPiece pieces
  pub is_tail : IsTail tail
  pub octets_are : octets ≡ octets_of_pieces pieces ++ tail
  pub elements_are : elements ≡ present_elements pieces

-- ---- written elements: these are pieces too, and none of them is a shift

abbrev pub IsPresent : Item → Type 0
IsPresent item = IsPiece (Present item)

-- the octets of consecutive elements
abbrev pub octets_of_all : List Item → List ℕ
octets_of_all items = flat_map octets_of items
