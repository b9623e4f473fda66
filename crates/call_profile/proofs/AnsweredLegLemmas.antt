-- A leg that is put in active waits in it; if the data link of its line is down, T309 runs.
use Rattle.std.proofs.Common.{◌≡◌, ℕ, Bool, true, false, List, [], ◌∷◌, refl, ◌∙◌, ap, if◌then◌else◌}
use Rattle.circuit_model.specs.declared.channel.Slot.{Slot}
use Rattle.q931_codec.specs.declared.kind.MessageKind.TheVariants as kind
use Rattle.q931_codec.specs.CallStates.{active}
use Rattle.call_states.specs.declared.leg.HeldLeg.{HeldLeg}
use Rattle.call_states.specs.declared.leg.Leg.{Leg}
use Rattle.call_states.specs.declared.leg.Peer.TheVariants as peer
use Rattle.call_profile.specs.Acts.{answered, in_state, message_to, on_connect, send_to}
use Rattle.call_profile.specs.Legs.{Legs, is_down, with_leg}
use Rattle.call_profile.specs.Operations.{Operation, Making, Await, Clear, Pair, Put, Seat, Send, making_at, making_after, making_after_all, with_legs}
use Rattle.call_profile.specs.Setup.{call_proceeding, call_room, caller_leg}
use Rattle.exchange_events.specs.Sizes.{Dimensions}
use Rattle.call_profile.specs.World.{World}

-- ---- one leg

-- the leg as stored; the flag states whether the link is down
abbrev pub answered_from : Bool → ℕ → Leg → Leg
answered_from down next leg = record leg { since = next; resent = down }

abbrev pub with_answered : Legs → Making → Slot → Leg → Making
with_answered legs m x leg = record m { world = with_legs m.world (with_leg m.world.legs x (answered_from (is_down legs x.line) m.world.holding.next leg)) }

making_by_link : (d : Dimensions) (m : Making) (x : Slot) (leg : Leg) (down : Bool)
    → making_after d m (if down then Await x leg else Put x leg) ≡ record m { world = with_legs m.world (with_leg m.world.legs x (answered_from down m.world.holding.next leg)) }
making_by_link d m x leg true = refl
making_by_link d m x leg false = refl

pub making_answered : (d : Dimensions) (m : Making) (legs : Legs) (x : Slot) (leg : Leg) → making_after d m (answered legs x leg) ≡ with_answered legs m x leg
making_answered d m legs x leg = making_by_link d m x leg (is_down legs x.line)

-- what holds of either operation
either_way : (P : Operation → Type 0) (x : Slot) (leg : Leg) (down : Bool) → P (Await x leg) → P (Put x leg) → P (if down then Await x leg else Put x leg)
either_way P x leg true awaits puts = awaits
either_way P x leg false awaits puts = puts

pub answered_does : (P : Operation → Type 0) (legs : Legs) (x : Slot) (leg : Leg) → P (Await x leg) → P (Put x leg) → P (answered legs x leg)
answered_does P legs x leg = either_way P x leg (is_down legs x.line)

-- ---- an answered call

abbrev pub connecting : Dimensions → World → HeldLeg → HeldLeg → Making
connecting d w h caller = making_after_all d (making_at w) (Clear caller.slot ∷ Pair caller.slot h.slot ∷ [])

abbrev pub acknowledging : HeldLeg → HeldLeg → List Operation
acknowledging h caller = send_to h (message_to h.leg kind.ConnectAcknowledge) ∷ send_to caller (message_to caller.leg kind.Connect) ∷ []

abbrev pub connected : Dimensions → World → HeldLeg → HeldLeg → Making
connected d w h caller =
    making_after_all d (with_answered w.legs (with_answered w.legs (connecting d w h caller) h.slot (in_state active h.leg)) caller.slot (in_state active caller.leg))
    (acknowledging h caller)

pub making_connected : (d : Dimensions) (w : World) (h caller : HeldLeg) → making_after_all d (making_at w) (on_connect w.legs h caller) ≡ connected d w h caller
making_connected d w h caller =
    ap (λ (m : Making). making_after_all d (making_after d m (answered w.legs caller.slot (in_state active caller.leg))) (acknowledging h caller))
    (making_answered d (connecting d w h caller) w.legs h.slot (in_state active h.leg))
    ∙ ap (λ (m : Making). making_after_all d m (acknowledging h caller))
    (making_answered d (with_answered w.legs (connecting d w h caller) h.slot (in_state active h.leg)) w.legs caller.slot (in_state active caller.leg))

-- ---- a call to a room

abbrev pub room_leg : ℕ → ℕ → Leg
room_leg own room = caller_leg active own (peer.Room room)

abbrev pub joining : Bool → ℕ → Slot → ℕ → List Operation
joining first own x room =
    Seat x room
    ∷ Send x.line (call_proceeding first x (room_leg own room))
    ∷ Send x.line (message_to (room_leg own room) kind.Connect)
    ∷ []

abbrev pub joined : Dimensions → World → Bool → ℕ → Slot → ℕ → Making
joined d w first own x room = making_after_all d (with_answered w.legs (making_at w) x (room_leg own room)) (joining first own x room)

pub making_joined : (d : Dimensions) (w : World) (first : Bool) (own : ℕ) (x : Slot) (room : ℕ) → making_after_all d (making_at w) (call_room first w.legs own x room) ≡ joined d w first own x room
making_joined d w first own x room = ap (λ (m : Making). making_after_all d m (joining first own x room)) (making_answered d (making_at w) w.legs x (room_leg own room))
