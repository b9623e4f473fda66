-- Outgoing messages and their encoding (ITU-T Q.931 (05/98), 4.5).
use Rattle.std.specs.Prelude.{ℕ, ◌+◌, ◌^◌, ◌<◌, ◌≤◌, Bool, true, false, IsTrue, List, [], ◌∷◌, ◌++◌, length, map, Option, Some, None, IfSome}
use Rattle.std.specs.List.{flat_map}
use Rattle.q931_elements.specs.Grammar.{Item, SingleOctet, VariableLength, element_of, octets_of_all}
use Rattle.q931_codec.specs.Identifiers as identifier
use Rattle.q931_codec.specs.declared.kind.MessageKind.{MessageKind}
use Rattle.q931_codec.specs.declared.message.Message.{Message}
use Rattle.q931_codec.specs.declared.outgoing.Outgoing.{Outgoing}
use Rattle.q931_codec.specs.MessageType.{IsNamed}
use Rattle.q931_codec.specs.Contents.{is_bearer_channel}
use Rattle.q931_codec.specs.Grammar.{header}

-- an outgoing message without the positions of its octets in memory
pub record OutgoingMessage : Type 0 where
  pub flag : Bool
  pub reference : ℕ
  pub kind : MessageKind
  pub complete : Bool
  pub bearer : List ℕ
  pub cause : Option ℕ
  pub state : Option ℕ
  pub channel : Option ℕ
  pub progress : Bool
  pub calling : List ℕ
  pub called : List ℕ
  pub restart : Option ℕ
  pub low : List ℕ
  pub high : List ℕ

abbrev pub outgoing_of : Outgoing → OutgoingMessage
outgoing_of m = record {
  flag = m.flag;
  reference = m.reference;
  kind = m.kind;
  complete = m.complete;
  bearer = m.bearer.now;
  cause = m.cause;
  state = m.state;
  channel = m.channel;
  progress = m.progress;
  calling = m.calling.now;
  called = m.called.now;
  restart = m.restart;
  low = m.low.now;
  high = m.high.now;
}

-- a message without elements
abbrev pub bare : Bool → ℕ → MessageKind → OutgoingMessage
bare flag reference kind = record {
  flag = flag;
  reference = reference;
  kind = kind;
  complete = false;
  bearer = [];
  cause = None;
  state = None;
  channel = None;
  progress = false;
  calling = [];
  called = [];
  restart = None;
  low = [];
  high = [];
}

-- a message that can be encoded
pub record IsWritable (m : OutgoingMessage) : Type 0 where
  pub reference : m.reference < 2 ^ 15
  pub kind : IsNamed m.kind
  pub bearer : length m.bearer ≤ 10
  pub cause : IfSome m.cause (λ value. value < 128)
  pub state : IfSome m.state (λ state. state < 64)
  pub channel : IfSome m.channel (λ channel. IsTrue (is_bearer_channel channel))
  pub calling : length m.calling ≤ 22
  pub called : length m.called ≤ 21
  pub low : length m.low ≤ 16
  pub high : length m.high ≤ 3

-- ---- contents

-- ITU-T coding, location "public network serving the local user", and the value (4.5.12)
abbrev pub cause_contents : Option ℕ → List ℕ
cause_contents None = []
cause_contents (Some value) = 0x82 ∷ (0x80 + value) ∷ []

-- ITU-T coding and the state (4.5.7); and the class of the restart (4.5.25)
abbrev pub one_octet : Option ℕ → List ℕ
one_octet None = []
one_octet (Some octet) = octet ∷ []

-- primary rate interface, this channel only; a B-channel by its number; the number (4.5.13)
abbrev pub channel_contents : Option ℕ → List ℕ
channel_contents None = []
channel_contents (Some channel) = 0xA9 ∷ 0x83 ∷ (0x80 + channel) ∷ []

-- the location as above, and "in-band information or an appropriate pattern is now available" (4.5.23)
abbrev pub progress_contents : Bool → List ℕ
progress_contents true = 0x82 ∷ 0x88 ∷ []
progress_contents false = []

-- ---- the elements in the order in which they are written

abbrev pub item_of_complete : Bool → List Item
item_of_complete true = SingleOctet identifier.sending_complete ∷ []
item_of_complete false = []

-- empty contents mean no element
abbrev pub item_of_row : ℕ × List ℕ → List Item
item_of_row (code, []) = []
item_of_row (code, octet ∷ octets) = VariableLength code (octet ∷ octets) ∷ []

-- the variable length elements in ascending order of their identifiers (4.5.1)
abbrev pub rows : OutgoingMessage → List (ℕ × List ℕ)
rows m =
    (identifier.bearer_capability, m.bearer)
    ∷ (identifier.cause, cause_contents m.cause)
    ∷ (identifier.call_state, one_octet m.state)
    ∷ (identifier.channel_identification, channel_contents m.channel)
    ∷ (identifier.progress_indicator, progress_contents m.progress)
    ∷ (identifier.calling_party_number, m.calling)
    ∷ (identifier.called_party_number, m.called)
    ∷ (identifier.restart_indicator, one_octet m.restart)
    ∷ (identifier.low_layer_compatibility, m.low)
    ∷ (identifier.high_layer_compatibility, m.high)
    ∷ []

abbrev pub items_of : OutgoingMessage → List Item
items_of m = item_of_complete m.complete ++ flat_map item_of_row (rows m)

-- the octets of an outgoing message
abbrev pub encoding : OutgoingMessage → List ℕ
encoding m = header m.flag m.reference m.kind ++ octets_of_all (items_of m)

-- the message that its receiver reads
abbrev pub message_at_receiver : OutgoingMessage → Message
message_at_receiver m = record { flag = m.flag; reference = m.reference; kind = m.kind; elements = map element_of (items_of m) }
