-- A message: its header and its information elements (ITU-T Q.931 (05/98), 4.1 to 4.5).
use Rattle.std.specs.Prelude.{◌≡◌, ℕ, ◌+◌, ◌/◌, ◌%◌, ◌^◌, ◌<◌, Bool, List, [], ◌∷◌, ◌++◌, if◌then◌else◌}
use Rattle.q931_elements.specs.Grammar.{IsElementList}
use Rattle.q931_codec.specs.declared.kind.MessageKind.{MessageKind}
use Rattle.q931_codec.specs.declared.message.Message.{Message}
use Rattle.q931_codec.specs.MessageType.{type_of, IsKind}

-- the flag is the top bit of the first octet, and the call reference value the other 15 bits (4.3)
abbrev pub reference_octets : Bool → ℕ → List ℕ
reference_octets flag value = ((if flag then 0x80 else 0) + value / 0x100) ∷ value % 0x100 ∷ []

-- protocol discriminator, length of the call reference, call reference, message type
abbrev pub header : Bool → ℕ → MessageKind → List ℕ
header flag value kind = 0x08 ∷ 0x02 ∷ reference_octets flag value ++ type_of kind ∷ []

-- these octets are this message
pub record IsMessage (octets : List ℕ) (m : Message) : Type 0 where
  pub value : m.reference < 2 ^ 15
  pub kind : IsKind m.kind
  pub rest : List ℕ
  pub octets_are : octets ≡ header m.flag m.reference m.kind ++ rest
  pub elements_are : IsElementList rest m.elements
