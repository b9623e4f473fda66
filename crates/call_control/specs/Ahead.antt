-- A message that is parsed before its turn. Source: ITU-T Q.931 (05/98), 4.2 to 4.5, for the header; the rest is
-- defined by this project.
use Rattle.std.specs.Prelude.{◌≡◌, ℕ, ◌<◌, ◌≤◌, ◌^◌, Bool, List, [], length, drop, Ok, is_ok, is_some, unwrap_or, IfSome}
use Rattle.number_plan.specs.declared.plan.Number.{Number}
use Rattle.number_plan.specs.Plan.{found_for}
use Rattle.q931_elements.specs.Reading.{elements_of}
use Rattle.q931_codec.specs.declared.message.Message.{Message}
use Rattle.q931_codec.specs.Reading.{reading}
use Rattle.call_profile.specs.Setup.{digits_in}
use Rattle.call_control.specs.declared.preparsing.DialledNumber.{DialledNumber}
use Rattle.call_control.specs.declared.preparsing.PreparsedMessage.{PreparsedMessage}

-- whether the dialled digits can be read, and the entry of the plan for them
pub record IsDialled (plan : List Number) (m : Message) (number : DialledNumber) : Type 0 where
  pub readable : number.is_readable ≡ is_some (digits_in m)
  pub leads : number.target ≡ found_for plan (unwrap_or (digits_in m) [])

-- the message that was parsed: its elements are the octets after a header of five
abbrev pub message_ahead : PreparsedMessage → List ℕ → Message
message_ahead known octets = record { flag = known.flag; reference = known.reference; kind = known.kind; elements = elements_of (drop 5 octets) }

-- whether the octets are a message, so that it can be parsed ahead
abbrev pub is_message : List ℕ → Bool
is_message octets = is_ok (reading octets)

-- the octets are the parsed message, and its number is the dialled number
pub record IsReadAhead (plan : List Number) (octets : List ℕ) (known : PreparsedMessage) : Type 0 where
  pub long : 5 ≤ length octets
  pub bounded : known.reference < 2 ^ 15
  pub read : reading octets ≡ Ok (message_ahead known octets)
  pub dials : IfSome known.number (IsDialled plan (message_ahead known octets))

-- the octets are this message
pub record IsReceived (octets : List ℕ) (m : Message) : Type 0 where
  pub bounded : m.reference < 2 ^ 15
  pub read : reading octets ≡ Ok m

-- if a number was looked up ahead, the message dials that number
abbrev pub HasDialled : List Number → Message → PreparsedMessage → Type 0
HasDialled plan m known = IfSome known.number (IsDialled plan m)
