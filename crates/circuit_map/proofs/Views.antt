-- What is said of the connections that a map shows, by what holds of the parts that it is made of.
use Rattle.std.proofs.Common.{◌≡◌, ℕ, ◌*◌, true, length, List, Option, Some, None, sym, ◌∙◌, ap, subst}
use Rattle.circuit_model.specs.declared.channel.Slot.{Slot}
use Rattle.circuit_model.specs.declared.circuit.Circuit.{Circuit}
use Rattle.circuit_model.specs.Holding.{Holding, Command, Clear, after}
use Rattle.circuit_model.specs.Ports.{Ports, ports_after, ports_with, port_of}
use Rattle.conference_ports.specs.declared.occupant.Occupant.{Occupant}
use Rattle.control_memory.specs.Layout.{Layout, IsSlot, hop_of, path_to}
use Rattle.control_memory.specs.Connecting.{connect, moved}
use Rattle.circuit_map.specs.Connections.{Connections, IsExternal, is_pathless, map_lines, hears_at, hears_after, Represents, Obeys, AreMoves, AreRoomed, both_connected, joined_one, joined_both}
use Rattle.circuit_map.proofs.Holdings.{Heeded}
use Rattle.circuit_map.proofs.Clearing.{hearing_at, unless_naming_row_of_self}
use Rattle.circuit_map.proofs.Paths.{own_ports, hop_of_no_inlet, path_to_no_outlet, idle_joins_none, none_joins_idle}

-- ---- the same ports

pub shown_with : (k m : Connections) (ports : Ports) → ports ≡ k.ports → k ≡ m → record k { ports = ports } ≡ m
shown_with k m ports same is = ap (λ (q : Ports). let shown : Connections = record k { ports = q } in shown) same ∙ is

pub held_with : (k : Connections) (ports : Ports) → ports ≡ k.ports → (h : Holding) × Represents k h k.ports → (h : Holding) × Represents (record k { ports = ports }) h ports
held_with k ports same held = subst (λ (q : Ports). (h : Holding) × Represents (record k { ports = q }) h q) (sym same) held

-- ---- before a command

pub idle_seen : (k m : Connections) (x : Slot) → k ≡ m → IsExternal m x → hears_at m x ≡ None → IsExternal k x × (hears_at k x ≡ None)
idle_seen k m x is at none = (subst (λ (m : Connections). IsExternal m x) (sym is) at, ap (λ (m : Connections). hears_at m x) is ∙ none)

pub pathless_seen : (k m : Connections) (x : Slot) → k ≡ m → IsExternal m x → is_pathless (hears_at m x) ≡ true → IsExternal k x × (is_pathless (hears_at k x) ≡ true)
pathless_seen k m x is at pathless = (subst (λ (m : Connections). IsExternal m x) (sym is) at, ap (λ (m : Connections). is_pathless (hears_at m x)) is ∙ pathless)

-- no path begins or ends at a slot that is idle
pub idle_free : (m : Connections) (lines : ℕ) (x : Slot) → lines ≡ map_lines m → length m.layout ≡ 30 * lines → (h : Holding) × Represents m h m.ports → IsExternal m x → hears_at m x ≡ None
    → (hop_of m.layout x ≡ None) × (path_to m.layout x ≡ None)
idle_free m lines x wide size held at none = (
  hop_of_no_inlet m.layout x (λ b j. idle_joins_none m held.0 m.ports x b held.1 at.0 at.1 none j),
  path_to_no_outlet lines m.layout x size (λ a inside j. none_joins_idle m held.0 m.ports a x held.1 (subst (λ w. IsSlot w a) wide inside) at.0 none j),
)

-- ---- after a command

pub heeded : (k m n : Connections) (command : Command) → k ≡ m → n.external ≡ k.external → n.bridges ≡ k.bridges → n.next ≡ k.next → ((z : Slot) → hears_at n z ≡ hears_after m command z) → n.ports ≡ ports_after m.ports command
    → Heeded k n command
heeded k m n command is external bridges next hears members = record {
  external = external;
  bridges = bridges;
  next = next;
  hears = λ z. hears z ∙ sym (ap (λ (m : Connections). hears_after m command z) is);
  members = members ∙ sym (ap (λ (m : Connections). ports_after m.ports command) is);
}

pub obeyed : (k m n : Connections) (command : Command) → k ≡ m → Obeys k n command → Obeys m n command
obeyed k m n command is obeys = subst (λ (m : Connections). Obeys m n command) is obeys

pub held_after : (k m n : Connections) (command : Command) → k ≡ m → Obeys m n command → (h : Holding) × Represents k h k.ports → (h : Holding) × Represents n h n.ports
held_after k m n command is obeys held =
    let old = subst (λ (m : Connections). (h : Holding) × Represents m h m.ports) is held in
    (after old.0 command, own_ports n _ _ (obeys old.0 m.ports old.1))

pub roomed_seen : (k m : Connections) (owners : List (Option Occupant)) → k ≡ m → AreRoomed (hears_at k) owners → AreRoomed (hears_at m) owners
roomed_seen k m owners is roomed = subst (λ (m : Connections). AreRoomed (hears_at m) owners) is roomed

-- the paths there and back
module _ (k m : Connections) (lines : ℕ) (x y : Slot) (layout : Layout) (wide : lines ≡ map_lines k) (is : k ≡ m) (both : layout ≡ both_connected lines k.slots k.layout x y) where
  pub joined_seen : layout ≡ joined_both m x y
  joined_seen = both ∙ ap (λ w. both_connected w k.slots k.layout x y) wide ∙ ap (λ (m : Connections). joined_both m x y) is

  pub moves_seen : (a b : ℕ) → a ≡ moved k.layout (connect lines k.slots k.layout x y) → b ≡ moved (connect lines k.slots k.layout x y) layout → AreMoves (a, b) m x y
  moves_seen a b there back =
      let one : connect lines k.slots k.layout x y ≡ joined_one m x y = ap (λ w. connect w k.slots k.layout x y) wide ∙ ap (λ (m : Connections). joined_one m x y) is in
      (there ∙ (λ i. moved (is i).layout (one i)), back ∙ (λ i. moved (one i) (joined_seen i)))

pub port_seen : (k m : Connections) (x p : Slot) (ports : Ports) → k ≡ m → ports ≡ ports_with x k.ports → port_of k.external (ports_with x k.ports) x ≡ Some p → port_of m.external ports x ≡ Some p
port_seen k m x p ports is now port = ap (λ (m : Connections). port_of m.external ports x) (sym is) ∙ ap (λ q. port_of k.external q x) now ∙ port

-- who is cleared hears nothing
pub cleared_idle : (k m : Connections) (x : Slot) (o : Option Circuit) → k ≡ m → (h : Holding) × Represents k h k.ports → o ≡ hears_after m (Clear x) x → o ≡ None
cleared_idle k m x o is held hears = hears ∙ sym (ap (λ (m : Connections). hears_after m (Clear x) x) is) ∙ unless_naming_row_of_self k.external (hears_at k) x (hearing_at k held.0 k.ports held.1)
