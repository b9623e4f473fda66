-- The receiver's reading of octets, from the first octet on. By a theorem it is the grammar's.
use Rattle.std.specs.Prelude.{◌≡◌, ◌≢◌, ℕ, ◌+◌, ◌*◌, ◌%◌, ◌<◌, List, [], ◌∷◌, length, Result, Ok, Err, ◌==◌, nat_le, if◌then◌else◌}
use Rattle.q931_elements.specs.Reading.{elements_of}
use Rattle.q931_codec.specs.declared.message.Message.{Message}
use Rattle.q931_codec.specs.declared.message.Discard.{Discard}
use Rattle.q931_codec.specs.declared.message.Discard.TheVariants.{Discriminator, Short, ReferenceLength}
use Rattle.q931_codec.specs.MessageType.{kind_of}

-- the message of another protocol (5.8.1)
abbrev pub HasOtherDiscriminator : List ℕ → Type 0
HasOtherDiscriminator [] = ⊥
HasOtherDiscriminator (first ∷ rest) = first ≢ 0x08

-- a message with a call reference of another length (5.8.3.1)
abbrev pub HasOtherReferenceLength : List ℕ → Type 0
HasOtherReferenceLength [] = ⊥
HasOtherReferenceLength (first ∷ []) = ⊥
HasOtherReferenceLength (first ∷ second ∷ rest) = (first ≡ 0x08) × (second ≢ 0x02)

-- a message that ends before its type (5.8.2)
abbrev pub IsShort : List ℕ → Type 0
IsShort [] = Unit {0}
IsShort (first ∷ []) = first ≡ 0x08
IsShort (first ∷ second ∷ rest) = (first ≡ 0x08) × (second ≡ 0x02) × (length rest < 3)

-- from the call reference on
abbrev pub reading_from_reference : List ℕ → Result Message Discard
reading_from_reference (high ∷ low ∷ type ∷ rest) = Ok record {
  flag = nat_le 0x80 high;
  reference = high % 0x80 * 0x100 + low;
  kind = kind_of type;
  elements = elements_of rest;
}
reading_from_reference _ = Err Short

abbrev pub reading_from_length : List ℕ → Result Message Discard
reading_from_length [] = Err Short
reading_from_length (second ∷ rest) = if second == 0x02 then reading_from_reference rest else Err ReferenceLength

abbrev pub reading : List ℕ → Result Message Discard
reading [] = Err Short
reading (first ∷ rest) = if first == 0x08 then reading_from_length rest else Err Discriminator
