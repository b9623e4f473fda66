-- What the establishment of a data link leaves of each channel of its line. Source: ITU-T Q.931 (05/98), 5.8.8 to 5.8.10
-- and 5.5.
use Rattle.std.specs.Prelude.{◌≡◌, ◌≢◌, ◌⊎◌, true, false, is_some, Contains, List, Option, Some, None, ℕ}
use Rattle.circuit_model.specs.declared.channel.Slot.{Slot}
use Rattle.q931_codec.specs.CallStates.{active, disconnect_indication, release_request}
use Rattle.q931_codec.specs.Outgoing.{encoding}
use Rattle.q931_codec.specs.declared.kind.MessageKind.TheVariants as kind
use Rattle.call_states.specs.Acts.{is_among}
use Rattle.call_states.specs.declared.leg.Leg.{Leg}
use Rattle.call_timers.specs.Expiries.{expiry_in}
use Rattle.call_timers.specs.declared.expiry.Expiry.TheVariants as expiry
use Rattle.clearing_rules.specs.Restarting.{is_restarted, restart_of}
use Rattle.clearing_rules.specs.declared.scope.Restart.{Restart}
use Rattle.exchange_events.specs.declared.signal.Signal.{Signal}
use Rattle.call_profile.specs.Acts.{message_to}
use Rattle.call_profile.specs.KeptMessages.{IsKept}
use Rattle.call_profile.specs.Legs.{awaits_restart, is_owed, kept_at, leg_at}
use Rattle.call_profile.specs.LinkChanges.{being_cleared, outcome_of_link}
use Rattle.call_profile.specs.Operations.{Making}
use Rattle.call_profile.specs.World.{World}
use Rattle.circuit_model.specs.Extent.{IsExternal}
use Rattle.exchange_events.specs.Sizes.{Setting}

-- a RESTART to the user of a line
abbrev pub restart_signal : Slot → Restart → Signal
restart_signal x r = record { line = x.line; octets = encoding (restart_of r) }

-- STATUS ENQUIRY to the user of a leg
abbrev pub enquiry_signal : Slot → Leg → Signal
enquiry_signal x leg = record { line = x.line; octets = encoding (message_to leg kind.StatusEnquiry) }

-- a RESTART that covers the channel is among the messages
abbrev pub IsRestartSent : Making → Slot → Type 0
IsRestartSent m x = (r : Restart) × (is_restarted r x.place ≡ true) × Contains m.sends (restart_signal x r)

-- a channel without a leg: no RESTART is owed for it, and if it awaited one, one was sent
pub record IsPaid (before : World) (m : Making) (x : Slot) : Type 0 where
  pub none_owed : is_owed m.world.legs x ≡ false
  pub sent : awaits_restart before.legs x ≡ true → IsRestartSent m x

-- a leg in active: its user was sent STATUS ENQUIRY
pub record IsEnquired (m : Making) (x : Slot) (leg : Leg) : Type 0 where
  pub flag : leg.enquired ≡ true
  pub sent : Contains m.sends (enquiry_signal x leg)

-- the stored message of a leg, to the user of its slot
abbrev pub stored_signal : Slot → List ℕ → Signal
stored_signal x octets = record { line = x.line; octets = octets }

-- a leg in release request: its user was sent the stored RELEASE again, and T308 restarts; its expiry ends the leg
pub record IsReleasedAgain (before : World) (m : Making) (x : Slot) (leg : Leg) : Type 0 where
  pub octets : List ℕ
  pub stored : kept_at before.legs x ≡ Some octets
  pub release : IsKept leg octets
  pub sent : Contains m.sends (stored_signal x octets)
  pub timer : expiry_in leg.state leg.resent ≡ Some expiry.ReleaseOver
  pub since : leg.since ≡ before.holding.next

-- a leg in disconnect indication: T305 goes on, or it starts, since the leg is cleared by the event
pub record IsToRelease (before : World) (x : Slot) (leg : Leg) : Type 0 where
  pub timer : expiry_in leg.state leg.resent ≡ Some expiry.Disconnect
  pub since : (leg_at before.legs x ≡ Some leg) ⊎ (leg.since ≡ before.holding.next)

-- a channel with a leg: in active its user was sent STATUS ENQUIRY; while it is being cleared it has a timer, which is
-- T305 or T308, and in release request its user was sent RELEASE again; in every other state it is unchanged
pub record IsAccounted (before : World) (m : Making) (x : Slot) (leg : Leg) : Type 0 where
  pub in_active : leg.state ≡ active → IsEnquired m x leg
  pub in_clearing : is_among being_cleared leg.state ≡ true → is_some (expiry_in leg.state leg.resent) ≡ true
  pub in_disconnect : leg.state ≡ disconnect_indication → IsToRelease before x leg
  pub in_release : leg.state ≡ release_request → IsReleasedAgain before m x leg
  pub in_others : leg.state ≢ active → is_among being_cleared leg.state ≡ false → leg_at before.legs x ≡ Some leg

-- a channel, by the leg that holds it
abbrev pub IsReconciled : World → Making → Slot → Option Leg → Type 0
IsReconciled before m x None = IsPaid before m x
IsReconciled before m x (Some leg) = IsAccounted before m x leg

-- each channel of a line whose data link is established
abbrev pub AreReconciled : Setting → World → ℕ → Type 0
AreReconciled s before line =
    let m = (outcome_of_link s.dimensions s.tones false line before).making in
    (x : Slot) → IsExternal s.dimensions.external x → x.line ≡ line → IsReconciled before m x (leg_at m.world.legs x)
