-- What each event makes of the map of circuits is what it makes of the world.
use Rattle.std.proofs.Common.{◌≡◌, ℕ, [], ◌∷◌, Option, Some, None, refl, ◌∙◌, ap, arith}
use Rattle.std.specs.Prelude.{count_by, IfSome}
use Rattle.circuit_model.specs.declared.channel.Slot.{Slot}
use Rattle.circuit_model.specs.declared.circuit.Circuit.TheVariants.{Member}
use Rattle.circuit_model.specs.declared.circuit.Kind.{Kind}
use Rattle.circuit_model.specs.Circuits.{heard_by}
use Rattle.circuit_model.specs.Holding.{Connect, Seat, Give_tone, Clear, after}
use Rattle.circuit_model.specs.Ports.{ports_with, ports_without, port_of}
use Rattle.circuit_model.proofs.Slots.{same_slot-refl}
use Rattle.circuit_model.proofs.Validity.{count_by-append}
use Rattle.control_memory.specs.Connecting.{moved}
use Rattle.circuit_map.specs.Connections.{Connections, Represents, seats, joined_one, joined_both, parted}
use Rattle.control_memory.specs.Shown.{without_both, partner}
use Rattle.circuit_map.proofs.Sockets.{ported}
use Rattle.exchange_events.specs.declared.reply.Reply.TheVariants.{Granted, Seated}
use Rattle.call_control.specs.Standing.{StandsFor, dimensions_of}
use Rattle.call_profile.specs.World.{World, nail_reply, seat_reply, obey, both_ways, with_port}

module _ (m : Connections) (w : World) (s : StandsFor m w) where
  -- a nail that is granted
  pub nail_moves : (x y : Slot) (a b : ℕ) → a ≡ moved m.layout (joined_one m x y) → b ≡ moved (joined_one m x y) (joined_both m x y)
      → Granted a b ≡ nail_reply (dimensions_of m) w.layout x y
  nail_moves x y a b there back = (λ i. Granted (there i) (back i)) ∙ ap (λ l. nail_reply (dimensions_of m) l x y) s.layout

  pub nail_stands : (n : Connections) (x y : Slot) → Represents n (after w.holding (Connect x y)) w.ports → n.layout ≡ joined_both m x y
      → StandsFor n (obey (dimensions_of m) w (Connect x y))
  nail_stands n x y holds layout = record { holds = holds; layout = layout ∙ ap (λ l. both_ways (dimensions_of m) l x y) s.layout }

  -- a tone has no path
  pub tone_stands : (n : Connections) (x : Slot) (kind : Kind) → Represents n (after w.holding (Give_tone x kind)) w.ports → n.layout ≡ m.layout
      → StandsFor n (record w { holding = after w.holding (Give_tone x kind) })
  tone_stands n x kind holds layout = record { holds = holds; layout = layout ∙ s.layout }

  -- what is cleared takes its paths along
  pub clear_stands : (n : Connections) (x : Slot) → Represents n (after w.holding (Clear x)) (ports_without x w.ports) → n.layout ≡ parted m x
      → StandsFor n (obey (dimensions_of m) w (Clear x))
  clear_stands n x holds layout = record {
    holds = holds;
    layout = layout
        ∙ ap (λ o. without_both m.layout x (partner m.external m.ports o)) (s.holds.heard x)
        ∙ ap (λ ports. without_both m.layout x (partner m.external ports (heard_by w.holding.circuits x))) s.holds.members
        ∙ ap (λ l. without_both l x (partner m.external w.ports (heard_by w.holding.circuits x))) s.layout;
  }

  -- a member that was seated has a port
  pub has_port : (n : Connections) (x : Slot) (room : ℕ) → Represents n (after w.holding (Seat x room)) (ports_with x w.ports) → port_of m.external (ports_with x w.ports) x ≡ None → ⊥
  has_port n x room holds none =
      let one : count_by (seats x) (Member room x w.holding.next ∷ []) ≡ 1 = rw (same_slot-refl x) refl in
      let sum = holds.ported x ∙ count_by-append (seats x) w.holding.circuits (Member room x w.holding.next ∷ []) in
      ported m.external (ports_with x w.ports) x _ sum (omega (arith, one)) none

  seat_layout : (n : Connections) (x : Slot) (port : Option Slot) → (port ≡ None → ⊥) → IfSome port (λ p. n.layout ≡ joined_both m x p) → n.layout ≡ with_port (dimensions_of m) w.layout x port
  seat_layout n x None some layout = absurd (some refl)
  seat_layout n x (Some p) some layout = layout ∙ ap (λ l. both_ways (dimensions_of m) l x p) s.layout

  reply_to_seat : (x : Slot) (port : Option Slot) (a b : ℕ) → (port ≡ None → ⊥) → IfSome port (λ p. (a ≡ moved m.layout (joined_one m x p)) × (b ≡ moved (joined_one m x p) (joined_both m x p)))
      → Seated a b ≡ seat_reply (dimensions_of m) w.layout x port
  reply_to_seat x None a b some moves = absurd (some refl)
  reply_to_seat x (Some p) a b some moves = (λ i. Seated (moves.0 i) (moves.1 i)) ∙ ap (λ l. seat_reply (dimensions_of m) l x (Some p)) s.layout

  pub seat_moves : (n : Connections) (x : Slot) (room a b : ℕ) → Represents n (after w.holding (Seat x room)) (ports_with x w.ports)
      → IfSome (port_of m.external n.ports x) (λ p. (a ≡ moved m.layout (joined_one m x p)) × (b ≡ moved (joined_one m x p) (joined_both m x p)))
      → Seated a b ≡ seat_reply (dimensions_of m) w.layout x (port_of m.external (ports_with x w.ports) x)
  seat_moves n x room a b holds moves =
      reply_to_seat x (port_of m.external (ports_with x w.ports) x) a b (has_port n x room holds)
      (rw holds.members at moves)

  pub seat_stands : (n : Connections) (x : Slot) (room : ℕ) → Represents n (after w.holding (Seat x room)) (ports_with x w.ports)
      → IfSome (port_of m.external n.ports x) (λ p. n.layout ≡ joined_both m x p)
      → StandsFor n (obey (dimensions_of m) w (Seat x room))
  seat_stands n x room holds layout = record {
    holds = holds;
    layout = seat_layout n x (port_of m.external (ports_with x w.ports) x) (has_port n x room holds) (rw holds.members at layout);
  }
