-- The channels whose users have not confirmed that they are idle, after an event. Source: ITU-T Q.931 (05/98), 5.3.4 and
-- 5.5; that RESTART is repeated at each establishment of the data link until it is acknowledged is this project's profile.
use Rattle.std.specs.Prelude.{◌&&◌, ◌||◌, ◌==◌, not, Bool, false, is_none, Option, Some, None, ◌≡◌, ℕ}
use Rattle.circuit_model.specs.declared.channel.Slot.{Slot}
use Rattle.circuit_model.specs.Extent.{IsExternal}
use Rattle.q931_codec.specs.CallStates.{release_request}
use Rattle.call_states.specs.declared.leg.Leg.{Leg}
use Rattle.exchange_events.specs.declared.trace.Event.{Event}
use Rattle.exchange_events.specs.declared.trace.Event.TheVariants.{Frame, LinkUp, Message, RestartLine}
use Rattle.call_profile.specs.Calls.{Confirms, Request, request_of}
use Rattle.call_profile.specs.Legs.{Legs, awaits_restart, is_down, is_unconfirmed, leg_at}
use Rattle.call_profile.specs.Restarts.{restarts_slot}
use Rattle.call_profile.specs.World.{World}
use Rattle.call_laws.specs.OwedRestarts.{is_removed}

-- T308 of the leg expires while the data link of its line is up, if a timer removes the leg
abbrev pub is_unreleased : Legs → Slot → Option Leg → Bool
is_unreleased legs x None = false
is_unreleased legs x (Some leg) = (leg.state == release_request) && not (is_down legs x.line)

-- the event leaves the channel unconfirmed: its user is sent RESTART, or its leg is removed by T308
abbrev pub is_left_open : World → World → Event → Slot → Bool
is_left_open before afterwards (LinkUp line) x = (x.line == line) && awaits_restart before.legs x
is_left_open before afterwards (RestartLine line) x = (x.line == line) && not (is_down before.legs line)
is_left_open before afterwards (Frame input) x = is_removed before afterwards x && is_unreleased before.legs x (leg_at before.legs x)
is_left_open before afterwards other x = false

-- a RESTART ACKNOWLEDGE of the user of the line confirms the channel
abbrev pub confirms_slot : ℕ → Request → Slot → Bool
confirms_slot line (Confirms r) x = restarts_slot r line x
confirms_slot line other x = false

-- the event ends what was unconfirmed: its user acknowledges RESTART, or the line is restarted
abbrev pub is_settled : World → Event → Slot → Bool
is_settled before (Message line octets) x = confirms_slot line (request_of before.legs line octets) x
is_settled before (RestartLine line) x = x.line == line
is_settled before other x = false

-- exactly the channels that the event leaves unconfirmed, and those that were, unless the event settles them or their
-- slot gets a leg
abbrev pub AreUnconfirmed : ℕ → Event → World → World → Type 0
AreUnconfirmed external e before afterwards =
    (x : Slot) → IsExternal external x
    → is_unconfirmed afterwards.legs x
    ≡ (is_left_open before afterwards e x || ((is_unconfirmed before.legs x && not (is_settled before e x)) && is_none (leg_at afterwards.legs x)))
