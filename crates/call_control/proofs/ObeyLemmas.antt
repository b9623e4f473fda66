-- What each command makes of the map of circuits is what it makes of the world, whatever legs are beside it.
use Rattle.std.proofs.Common.{◌≡◌, ℕ, ◌*◌, ◌==◌, Bool, true, Option, Some, None, refl, ◌∙◌, ap, subst, arith}
use Rattle.std.specs.Prelude.{count_by, option_map, IfSome}
use Rattle.circuit_model.specs.declared.channel.Slot.{Slot}
use Rattle.circuit_model.specs.declared.circuit.Kind.{Kind}
use Rattle.circuit_model.specs.Circuits.{is_idle, is_member}
use Rattle.circuit_model.specs.Holding.{Connect, Seat, Give_tone, Clear, after}
use Rattle.circuit_model.specs.Ports.{port_of, ports_with}
use Rattle.circuit_model.proofs.Slots.{heard_by_idle_is_deaf}
use Rattle.circuit_map.specs.Connections.{Connections, SameSizes, Obeys, AreMoves, joined_both, parted, hears_at}
use Rattle.call_profile.specs.Legs.{Legs}
use Rattle.call_profile.specs.Operations.{moves_for, moves_of_seat}
use Rattle.call_profile.specs.Permitted.{CanSeat}
use Rattle.call_control.specs.Standing.{StandsFor, Holds, dimensions_of}
use Rattle.exchange_events.specs.declared.reply.Reply.TheVariants.{Seated}
use Rattle.exchange_events.specs.Sizes.{Dimensions}
use Rattle.call_profile.specs.World.{World, obey, is_full, seat_reply}
use Rattle.call_control.proofs.MapStepLemmas as Steps
use Rattle.call_control.proofs.MapStepLemmas.{nail_stands, tone_stands, clear_stands, seat_stands, has_port}

pub same_dimensions : (m n : Connections) → SameSizes m n → dimensions_of n ≡ dimensions_of m
same_dimensions m n same = λ i. record { external = same.external i; bridges = same.bridges i; slots = same.slots i }

-- what a seat at a port has moved, where there is one
moves_at : (d : Dimensions) (m : Connections) (w : World) (x : Slot) (moves : ℕ × ℕ) (port : Option Slot) → dimensions_of m ≡ d → m.layout ≡ w.layout → (port ≡ None → ⊥)
    → IfSome port (AreMoves moves m x) → Some moves ≡ option_map (moves_for d w.layout x) port
moves_at d m w x moves None size layout some are = absurd (some refl)
moves_at d m w x moves (Some p) size layout some are =
    (λ i. Some (are.0 i, are.1 i)) ∙ (λ i. Some (moves_for (size i) (layout i) x p))

module _ (d : Dimensions) (m : Connections) (legs : Legs) (w : World) (h : Holds d m legs w) where
  pub clear_holds : (n : Connections) (x : Slot) → Obeys m n (Clear x) → n.layout ≡ parted m x → SameSizes m n → Holds d n legs (obey d w (Clear x))
  clear_holds n x obeys layout same = record {
    sizes = same_dimensions m n same ∙ h.sizes;
    circuits = subst (λ (e : Dimensions). StandsFor n (obey e w (Clear x))) h.sizes (clear_stands m w h.circuits n x (obeys w.holding w.ports h.circuits.holds) layout);
    legs_are = h.legs_are;
  }

  pub tone_holds : (n : Connections) (x : Slot) (kind : Kind) → Obeys m n (Give_tone x kind) → n.layout ≡ m.layout → SameSizes m n
      → Holds d n legs (record w { holding = after w.holding (Give_tone x kind) })
  tone_holds n x kind obeys layout same = record {
    sizes = same_dimensions m n same ∙ h.sizes;
    circuits = tone_stands m w h.circuits n x kind (obeys w.holding w.ports h.circuits.holds) layout;
    legs_are = h.legs_are;
  }

  pub pair_holds : (n : Connections) (x y : Slot) → Obeys m n (Connect x y) → n.ports ≡ m.ports → n.layout ≡ joined_both m x y → SameSizes m n → Holds d n legs (obey d w (Connect x y))
  pair_holds n x y obeys ports layout same = record {
    sizes = same_dimensions m n same ∙ h.sizes;
    circuits = subst (λ (e : Dimensions). StandsFor n (obey e w (Connect x y))) h.sizes (nail_stands m w h.circuits n x y (obeys w.holding w.ports h.circuits.holds) layout);
    legs_are = h.legs_are;
  }

  pub pair_moves : (moves : ℕ × ℕ) (x y : Slot) → AreMoves moves m x y → moves ≡ moves_for d w.layout x y
  pair_moves moves x y are =
      subst (λ (e : Dimensions). moves ≡ moves_for e w.layout x y) h.sizes ((λ i. (are.0 i, are.1 i)) ∙ ap (λ l. moves_for (dimensions_of m) l x y) h.circuits.layout)

  pub hears_at_idle_silent : (x : Slot) → is_idle w.holding.circuits x ≡ true → hears_at m x ≡ None
  hears_at_idle_silent x idle = h.circuits.holds.heard x ∙ heard_by_idle_is_deaf w.holding.circuits x idle

  -- a seat where a port is free
  pub seat_free : (x : Slot) → CanSeat d w x → ¬ (count_by is_member w.holding.circuits ≡ 30 * m.bridges)
  seat_free x can full = let free = can.free in let size = ap (λ (e : Dimensions). e.bridges) h.sizes in omega (arith, free, full, size)

  pub seat_holds : (n : Connections) (x : Slot) (room : ℕ) → Obeys m n (Seat x room) → IfSome (port_of m.external n.ports x) (λ p. n.layout ≡ joined_both m x p) → SameSizes m n
      → Holds d n legs (obey d w (Seat x room))
  seat_holds n x room obeys layout same = record {
    sizes = same_dimensions m n same ∙ h.sizes;
    circuits = subst (λ (e : Dimensions). StandsFor n (obey e w (Seat x room))) h.sizes (seat_stands m w h.circuits n x room (obeys w.holding w.ports h.circuits.holds) layout);
    legs_are = h.legs_are;
  }

  pub seat_moves : (n : Connections) (x : Slot) (room : ℕ) (moves : ℕ × ℕ) → Obeys m n (Seat x room) → IfSome (port_of m.external n.ports x) (AreMoves moves m x) → Some moves ≡ moves_of_seat d w x
  seat_moves n x room moves obeys are =
      let after_it = obeys w.holding w.ports h.circuits.holds in
      let external = ap (λ (e : Dimensions). e.external) h.sizes in
      let some = has_port m w h.circuits n x room after_it in
      moves_at d m w x moves (port_of m.external (ports_with x w.ports) x) h.sizes h.circuits.layout some (subst (λ ports. IfSome (port_of m.external ports x) (AreMoves moves m x)) after_it.members are)
      ∙ ap (λ e. option_map (moves_for d w.layout x) (port_of e (ports_with x w.ports) x)) external

  -- the answer of a seat that was taken
  pub seat_answer : (n : Connections) (x : Slot) (room : ℕ) (moves : ℕ × ℕ) → Obeys m n (Seat x room) → IfSome (port_of m.external n.ports x) (AreMoves moves m x)
      → Seated moves.0 moves.1 ≡ seat_reply d w.layout x (port_of d.external (ports_with x w.ports) x)
  seat_answer n x room moves obeys are =
      subst (λ (e : Dimensions). Seated moves.0 moves.1 ≡ seat_reply e w.layout x (port_of e.external (ports_with x w.ports) x)) h.sizes
      (Steps.seat_moves m w h.circuits n x room moves.0 moves.1 (obeys w.holding w.ports h.circuits.holds) are)

  -- whether every port is taken
  pub full_is : (full : Bool) → full ≡ (count_by is_member w.holding.circuits == 30 * m.bridges) → full ≡ is_full d w
  full_is full is = is ∙ ap (λ (e : Dimensions). count_by is_member w.holding.circuits == 30 * e.bridges) h.sizes
