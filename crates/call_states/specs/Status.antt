-- The STATUS that reports a leg's state (ITU-T Q.931 (05/98), 3.1.16, 5.8.4 and 5.8.10).
use Rattle.std.specs.Prelude.{ℕ, ◌^◌, ◌<◌, Bool, true, false, Some}
use Rattle.q931_codec.specs.declared.kind.MessageKind.{MessageKind}
use Rattle.q931_codec.specs.declared.kind.MessageKind.TheVariants as kind
use Rattle.q931_codec.specs.Outgoing.{OutgoingMessage, bare}
use Rattle.q931_codec.specs.Causes.{message_type_not_implemented, message_not_compatible_with_call_state}
use Rattle.call_states.specs.declared.leg.Leg.{Leg}
use Rattle.call_states.specs.declared.leg.Side.{Side}
use Rattle.call_states.specs.declared.leg.Side.TheVariants.{Caller, Called}

-- the call reference flag towards a leg: 1 to the side that chose the call reference value (4.3)
abbrev pub flag_to : Side → Bool
flag_to Caller = true
flag_to Called = false

-- a STATUS to this leg, with this cause and its state
abbrev pub status : Leg → ℕ → OutgoingMessage
status leg cause = record (bare (flag_to leg.side) leg.reference kind.Status) { cause = Some cause; state = Some leg.state }

-- the cause of an unexpected message: its type is unknown, or its type is known and not one of the state
abbrev pub unexpected_cause : MessageKind → ℕ
unexpected_cause (kind.Unknown octet) = message_type_not_implemented
unexpected_cause _ = message_not_compatible_with_call_state

-- a leg whose numbers a message can carry
pub record FitsMessages (leg : Leg) : Type 0 where
  pub state : leg.state < 64
  pub reference : leg.reference < 2 ^ 15
