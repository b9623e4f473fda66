-- An answered call. Source: this project.
use Rattle.std.specs.Prelude.{◌≡◌, ◌<◌, ℕ, List, Contains}
use Rattle.circuit_model.specs.declared.channel.Slot.{Slot}
use Rattle.circuit_model.specs.declared.circuit.Circuit.TheVariants.{Pair}
use Rattle.circuit_model.specs.Holding.{Connect, Clear, after, IsAllowed, Valid}
use Rattle.control_memory.specs.Layout.{Layout}
use Rattle.q931_codec.specs.declared.message.Message.{Message}
use Rattle.call_states.specs.Acts.{act_on}
use Rattle.call_states.specs.declared.act.Act.TheVariants as act
use Rattle.call_states.specs.declared.leg.Peer.TheVariants as peer
use Rattle.call_states.specs.declared.leg.HeldLeg.{HeldLeg}
use Rattle.call_profile.specs.Calls.{For_leg, request_of, after_message}
use Rattle.call_profile.specs.LegStanding.{LegsStand}
use Rattle.exchange_events.specs.declared.reply.Reply.{Reply}
use Rattle.exchange_events.specs.declared.reply.Reply.TheVariants.{Granted}
use Rattle.exchange_events.specs.Sizes.{Setting}
use Rattle.call_profile.specs.World.{World}

-- after the caller's slot is cleared it and the called slot can be connected, and afterwards they are, both ways, since
-- the next frame
pub record AreConnected (bridges : ℕ) (before afterwards : World) (caller called : Slot) : Type 0 where
  pub allowed : IsAllowed bridges (after before.holding (Clear caller)) (Connect caller called)
  pub there : Contains afterwards.holding.circuits (Pair caller called before.holding.next)
  pub back : Contains afterwards.holding.circuits (Pair called caller before.holding.next)

-- a message answers the call of a leg: circuits and legs are consistent, and this is the act of the message at the leg
pub record IsAnswered (s : Setting) (w : World) (line : ℕ) (octets : List ℕ) (h : HeldLeg) : Type 0 where
  pub valid : Valid s.dimensions.bridges w.holding
  pub legs_stand : LegsStand s.dimensions.external s.tones w
  pub line_exists : line < s.dimensions.external
  pub message : Message
  pub for_leg : request_of w.legs line octets ≡ For_leg h message
  pub answers : act_on h.leg.state message ≡ act.Answer

-- the leg's peer is another leg, and the two slots are connected after the message
abbrev pub GetsBothPaths : Setting → World → ℕ → List ℕ → HeldLeg → Type 0
GetsBothPaths s w line octets h =
    (y : Slot) × (h.leg.peer ≡ peer.Leg y) × AreConnected s.dimensions.bridges w (after_message s w line octets) y h.slot

-- the same exchange state with another layout of its paths
abbrev pub with_layout : World → Layout → World
with_layout w layout = record w { layout = layout }

-- a nail is granted, whatever paths moved for it
abbrev pub IsGranted : Reply → Type 0
IsGranted answer = (there back : ℕ) × (answer ≡ Granted there back)

-- two slots are connected both ways since the next frame
pub record AreNailed (before afterwards : World) (x y : Slot) : Type 0 where
  pub there : Contains afterwards.holding.circuits (Pair x y before.holding.next)
  pub back : Contains afterwards.holding.circuits (Pair y x before.holding.next)
