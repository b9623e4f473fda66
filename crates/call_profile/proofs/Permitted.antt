-- What an operation asks of the world in the making.
use Rattle.std.specs.Prelude.{◌≡◌, ◌≢◌, ◌<◌, true, false, List, [], ◌∷◌, ◌++◌, Option, Some, IfSome}
use Rattle.circuit_model.specs.declared.channel.Slot.{Slot}
use Rattle.circuit_model.specs.declared.circuit.Kind.{Kind}
use Rattle.circuit_model.specs.Circuits.{is_idle}
use Rattle.circuit_model.specs.Extent.{IsExternal}
use Rattle.number_plan.specs.declared.plan.Number.{Number}
use Rattle.q931_codec.specs.CallStates.{overlap_sending}
use Rattle.q931_codec.specs.Outgoing.{IsWritable}
use Rattle.call_states.specs.Acts.{is_among}
use Rattle.call_states.specs.Status.{FitsMessages}
use Rattle.tone_rules.specs.declared.tones.Tones.{Tones}
use Rattle.tone_rules.specs.Tables.{IsGiven}
use Rattle.call_profile.specs.Operations.{Operation, Clear, Pair, Seat, Sound, Put, Wait, Expect, Repeat, Await, Remove, Send, Making, making_after, making_after_all}
use Rattle.exchange_events.specs.Sizes.{Dimensions}
use Rattle.call_profile.specs.World.{World}
use Rattle.call_profile.specs.KeptMessages.{IsAwaited, awaiting_answer}
use Rattle.call_profile.specs.Legs.{leg_at, kept_at}
use Rattle.call_profile.specs.Permitted.{CanSeat}
use Rattle.call_profile.specs.Waiting.{IsWaiting}

-- two different slots that no circuit names
pub record CanPair (d : Dimensions) (w : World) (x y : Slot) : Type 0 where
  pub first : IsExternal d.external x
  pub second : IsExternal d.external y
  pub apart : x ≢ y
  pub idle_first : is_idle w.holding.circuits x ≡ true
  pub idle_second : is_idle w.holding.circuits y ≡ true

-- a slot that no circuit names, and a tone that has octets, where it is to get one
pub record CanSound (d : Dimensions) (tones : Tones) (w : World) (x : Slot) (kind : Option Kind) : Type 0 where
  pub within : IsExternal d.external x
  pub idle : is_idle w.holding.circuits x ≡ true
  pub octets : IfSome kind (IsGiven tones)

abbrev pub IsPermitted : Dimensions → Tones → List Number → Making → Operation → Type 0
IsPermitted d tones plan m (Clear x) = IsExternal d.external x
IsPermitted d tones plan m (Pair x y) = CanPair d m.world x y
IsPermitted d tones plan m (Seat x room) = CanSeat d m.world x
IsPermitted d tones plan m (Sound x kind) = CanSound d tones m.world x kind
IsPermitted d tones plan m (Put x leg) = IsExternal d.external x × FitsMessages leg × (leg.state ≢ overlap_sending) × (is_among awaiting_answer leg.state ≡ false)
IsPermitted d tones plan m (Wait x leg p) = IsExternal d.external x × FitsMessages leg × IsWaiting plan leg p
IsPermitted d tones plan m (Expect x leg message) = IsExternal d.external x × FitsMessages leg × IsAwaited leg message
IsPermitted d tones plan m (Repeat h octets) = IsExternal d.external h.slot × (leg_at m.world.legs h.slot ≡ Some h.leg) × (kept_at m.world.legs h.slot ≡ Some octets)
IsPermitted d tones plan m (Await x leg) = IsExternal d.external x × FitsMessages leg × (leg.state ≢ overlap_sending) × (is_among awaiting_answer leg.state ≡ false)
IsPermitted d tones plan m (Remove x condition) = IsExternal d.external x
IsPermitted d tones plan m (Send line message) = (line < d.external) × IsWritable message

-- each operation, when its turn comes
abbrev pub ArePermitted : Dimensions → Tones → List Number → Making → List Operation → Type 0
ArePermitted d tones plan m [] = Unit {0}
ArePermitted d tones plan m (o ∷ os) = IsPermitted d tones plan m o × ArePermitted d tones plan (making_after d m o) os

-- some operations, and then others
pub permitted_both : (d : Dimensions) (tones : Tones) (plan : List Number) (m : Making) (os ps : List Operation) → ArePermitted d tones plan m os → ArePermitted d tones plan (making_after_all d m os) ps
    → ArePermitted d tones plan m (os ++ ps)
permitted_both d tones plan m [] ps one more = more
permitted_both d tones plan m (o ∷ os) ps one more = (one.0, permitted_both d tones plan (making_after d m o) os ps one.1 more)
