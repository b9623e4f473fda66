-- The tones that a user hears while a call is set up or cleared (ITU-T Q.931 (05/98), 5.3.4.1 and 5.4). The states with
-- a tone are this project's choice; ITU-T E.180/Q.35 names ringing tone and busy tone.
use Rattle.std.specs.Prelude.{ℕ, ◌==◌, ◌&&◌, Bool, nat_lt, length, Option, Some, None, option_and_then, if◌then◌else◌}
use Rattle.circuit_model.specs.declared.circuit.Kind.{Kind}
use Rattle.circuit_model.specs.declared.circuit.Kind.TheVariants.{Ringback, Busy}
use Rattle.q931_codec.specs.CallStates.{call_delivered, disconnect_indication}
use Rattle.q931_codec.specs.Causes.{user_busy}
use Rattle.tone_rules.specs.declared.tones.Tones.{Tones}
use Rattle.tone_rules.specs.Tables.{table_of}

-- the tone of a leg, from its call state and the cause with which it was cleared: ringing tone while the called user is
-- alerted, busy tone if the call was cleared because the called user is busy
abbrev pub tone_for : ℕ → ℕ → Option Kind
tone_for state cause =
    if state == call_delivered then Some Ringback
    else (if state == disconnect_indication && cause == user_busy then Some Busy else None)

-- a tone with octets is given
abbrev pub is_given : Tones → Kind → Bool
is_given tones kind = nat_lt 0 (length (table_of tones kind))

abbrev pub if_given : Tones → Kind → Option Kind
if_given tones kind = if is_given tones kind then Some kind else None

-- the tone that a leg's slot gets: its state and cause choose it, if it is given
abbrev pub tone_given : Tones → ℕ → ℕ → Option Kind
tone_given tones state cause = option_and_then (if_given tones) (tone_for state cause)
