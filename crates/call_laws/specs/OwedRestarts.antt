-- The channels for which a RESTART is owed after an event. Source: ITU-T Q.931 (05/98), 5.8.9 and 5.5; that a user is owed
-- it until the data link is up is this project's profile.
use Rattle.std.specs.Prelude.{◌&&◌, ◌||◌, ◌==◌, not, Bool, false, is_none, is_some, Option, Some, None, ◌≡◌, ℕ, true, if◌then◌else◌}
use Rattle.circuit_model.specs.declared.channel.Slot.{Slot}
use Rattle.q931_codec.specs.CallStates.{active, release_request}
use Rattle.call_states.specs.declared.leg.Leg.{Leg}
use Rattle.exchange_events.specs.declared.trace.Event.{Event}
use Rattle.exchange_events.specs.declared.trace.Event.TheVariants.{Frame, LinkDown, LinkUp, RestartLine}
use Rattle.call_profile.specs.Legs.{Legs, is_down, leg_at, is_owed}
use Rattle.call_profile.specs.World.{World}
use Rattle.circuit_model.specs.Extent.{IsExternal}

-- the leg of a slot is removed
abbrev pub is_removed : World → World → Slot → Bool
is_removed before afterwards x = is_some (leg_at before.legs x) && is_none (leg_at afterwards.legs x)

-- the user of a leg in this state is sent nothing if a timer removes the leg: T309, or T308 while the link of its line is
-- down
abbrev pub is_untold : Legs → Slot → Option Leg → Bool
is_untold legs x None = false
is_untold legs x (Some leg) = (leg.state == active) || ((leg.state == release_request) && is_down legs x.line)

-- the event is neither the failure of a data link, nor the restart of a line, nor a frame
abbrev pub OwesNoMore : Event → Type 0
OwesNoMore (LinkDown line) = ⊥
OwesNoMore (RestartLine line) = ⊥
OwesNoMore (Frame input) = ⊥
OwesNoMore other = Unit {0}

-- ---- the channels for which a RESTART is owed

-- after the failure of a link: those for which it was owed, and those whose leg was removed
abbrev pub AreOwedByFailure : ℕ → World → World → Type 0
AreOwedByFailure external before afterwards =
    (x : Slot) → IsExternal external x → is_owed afterwards.legs x ≡ (is_owed before.legs x || is_removed before afterwards x)

-- after a frame: those for which it was owed, and those whose leg a timer removed in such a state
abbrev pub AreOwedByFrame : ℕ → World → World → Type 0
AreOwedByFrame external before afterwards =
    (x : Slot) → IsExternal external x
    → is_owed afterwards.legs x ≡ (is_owed before.legs x || (is_removed before afterwards x && is_untold before.legs x (leg_at before.legs x)))

-- after the restart of a line: each channel of the line if and only if its data link is down, and of the others those for
-- which it was owed
abbrev pub AreOwedByRestart : ℕ → ℕ → World → World → Type 0
AreOwedByRestart external line before afterwards =
    (x : Slot) → IsExternal external x
    → is_owed afterwards.legs x ≡ (if x.line == line then is_down before.legs line else is_owed before.legs x)

-- after any other event: at most those for which it was owed
abbrev pub NoMoreAreOwed : ℕ → World → World → Type 0
NoMoreAreOwed external before afterwards = (x : Slot) → IsExternal external x → is_owed afterwards.legs x ≡ true → is_owed before.legs x ≡ true

-- the establishment of a data link pays what the users of the channels of its line are owed
abbrev pub is_paid : Event → Slot → Bool
is_paid (LinkUp line) x = x.line == line
is_paid other x = false

-- exactly those for which it was owed, unless the event pays it or their slot gets a leg
abbrev pub AreStillOwed : ℕ → Event → World → World → Type 0
AreStillOwed external e before afterwards =
    (x : Slot) → IsExternal external x
    → is_owed afterwards.legs x ≡ ((is_owed before.legs x && not (is_paid e x)) && is_none (leg_at afterwards.legs x))
