-- The part of an event that is parsed before its turn. Source: this project.
use Rattle.std.specs.Prelude.{◌≡◌, ℕ, Bool, false, List, Option, is_some, IfSome}
use Rattle.number_plan.specs.declared.plan.Number.{Number}
use Rattle.exchange_events.specs.declared.trace.Event.{Event}
use Rattle.exchange_events.specs.declared.trace.Event.TheVariants.{Message}
use Rattle.exchange_events.specs.declared.trace.Trace.{Trace}
use Rattle.call_control.specs.declared.preparsing.PreparsedMessage.{PreparsedMessage}
use Rattle.call_control.specs.Ahead.{IsReadAhead, is_message}
use Rattle.exchange_core.specs.Working.{IsNumbered}

-- the parsed message is the one that the octets and the plan give, and no other event has one
abbrev pub IsReadOf : List Number → Event → PreparsedMessage → Type 0
IsReadOf plan (Message line octets) known = IsReadAhead plan octets known
IsReadOf plan _ known = Unit {0}

-- whether the octets of an event are a message
abbrev pub is_readable : Event → Bool
is_readable (Message line octets) = is_message octets
is_readable _ = false

-- the message that was parsed ahead, if any, is the one of the trace's event with this number
abbrev pub IsReadAt : Trace → ℕ → Option PreparsedMessage → Type 0
IsReadAt trace n ahead = IfSome ahead (λ known. (e : Event) → IsNumbered trace n e → IsReadOf trace.plan e known)

-- a message was parsed ahead if and only if the trace's event with this number has one
abbrev pub LooksAhead : Trace → ℕ → Option PreparsedMessage → Type 0
LooksAhead trace n ahead = (e : Event) → IsNumbered trace n e → is_some ahead ≡ is_readable e
