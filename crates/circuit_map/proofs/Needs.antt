-- Which inlets and outlets are to be joined, by whom each slot hears.
use Rattle.std.proofs.Common.{◌≡◌, ℕ, ◌⊎◌, List, [], ◌∷◌, Option, Some, None, refl, sym, ◌∙◌, ap, subst, inl, inr, arith}
use Rattle.std.specs.Prelude.{◌↔◌}
use Rattle.std.specs.List.{Contains}
use Rattle.std.proofs.lemmas.Grind.{common_steps}
use Rattle.circuit_model.specs.declared.channel.Slot.{Slot}
use Rattle.circuit_model.specs.declared.circuit.Circuit.{Circuit}
use Rattle.circuit_model.specs.declared.circuit.Circuit.TheVariants.{Pair, Member, Tone}
use Rattle.circuit_model.specs.Circuits.{same_slot, listener, heard_by}
use Rattle.circuit_model.specs.Holding.{Holding, Valid}
use Rattle.circuit_model.specs.Ports.{Ports, port_of}
use Rattle.circuit_model.proofs.Age.{cons_cases, at_head, in_tail, none_in_nil}
use Rattle.circuit_model.proofs.Slots.{true_or_false, same_slot-true}
use Rattle.circuit_model.proofs.Validity.{heard_by-listener}
use Rattle.control_memory.specs.Shown.{to_port, joined_by, IsNeeded}

-- a circuit by which some slot hears needs the inlet joined to the outlet
pub data Needs (external : ℕ) (ports : Ports) (hears : Slot → Option Circuit) (a b : Slot) : Type 0 where
  Paired : (since : ℕ) → hears b ≡ Some (Pair a b since) → Needs external ports hears a b
  To_port : (room since : ℕ) → hears a ≡ Some (Member room a since) → port_of external ports a ≡ Some b → Needs external ports hears a b
  From_port : (room since : ℕ) → hears b ≡ Some (Member room b since) → port_of external ports b ≡ Some a → Needs external ports hears a b

-- a circuit is heard by its listener, and what is heard exists
pub heard_stands : (circuits : List Circuit) (x : Slot) (c : Circuit) → heard_by circuits x ≡ Some c → Contains circuits c × (listener c ≡ x)
heard_stands [] x c e = absurd (cc)
heard_stands (d ∷ ds) x c e = elim (true_or_false (same_slot x (listener d))) [
  | inl here ↦
      let is : d ≡ c = grind (arith, common_steps) in
      (at_head d ds c is, sym (same_slot-true x (listener d) here ∙ ap listener is))
  | inr away ↦
      let rest = heard_stands ds x c (grind (arith, common_steps)) in
      (in_tail d ds c rest.0, rest.1)
]

pair_in_one : (p q r s : Slot) → Contains {X = Slot × Slot} ((p, q) ∷ []) (r, s) → (p ≡ r) × (q ≡ s)
pair_in_one p q r s inside = elim (cons_cases (p, q) [] (r, s) inside) [
  | inl e ↦ (ap (λ (t : Slot × Slot). t.0) e, ap (λ (t : Slot × Slot). t.1) e)
  | inr never ↦ absurd (none_in_nil {X = Slot × Slot} (r, s) never)
]

joined_to_port : (x : Slot) (port : Option Slot) (a b : Slot) → Contains {X = Slot × Slot} (to_port x port) (a, b) → ((x ≡ a) × (port ≡ Some b)) ⊎ ((x ≡ b) × (port ≡ Some a))
joined_to_port x None a b inside = absurd (none_in_nil {X = Slot × Slot} (a, b) inside)
joined_to_port x (Some p) a b inside = elim (cons_cases (x, p) ((p, x) ∷ []) (a, b) inside) [
  | inl e ↦ inl (ap (λ (t : Slot × Slot). t.0) e, ap (λ (t : Slot × Slot). Some t.1) e)
  | inr rest ↦ let parts = pair_in_one p x a b rest in inr (parts.1, ap (λ t. Some t) parts.0)
]

needs_by : (external : ℕ) (ports : Ports) (circuits : List Circuit) (a b : Slot) (c : Circuit) → heard_by circuits (listener c) ≡ Some c → Contains (joined_by external ports c) (a, b) → Needs external ports (heard_by circuits) a b
needs_by external ports circuits a b (Pair x y since) hears inside =
    let parts = pair_in_one x y a b inside in
    Paired since (subst (λ z. heard_by circuits z ≡ Some (Pair a z since)) parts.1 (subst (λ z. heard_by circuits y ≡ Some (Pair z y since)) parts.0 hears))
needs_by external ports circuits a b (Member room x since) hears inside = elim (joined_to_port x (port_of external ports x) a b inside) [
  | inl e ↦ To_port room since (subst (λ z. heard_by circuits z ≡ Some (Member room z since)) e.0 hears) (subst (λ z. port_of external ports z ≡ Some b) e.0 e.1)
  | inr e ↦ From_port room since (subst (λ z. heard_by circuits z ≡ Some (Member room z since)) e.0 hears) (subst (λ z. port_of external ports z ≡ Some a) e.0 e.1)
]
needs_by external ports circuits a b (Tone kind x since) hears inside = absurd (none_in_nil {X = Slot × Slot} (a, b) inside)

in_to_port : (x : Slot) (port : Option Slot) (p : Slot) → port ≡ Some p → Contains {X = Slot × Slot} (to_port x port) (x, p) × Contains {X = Slot × Slot} (to_port x port) (p, x)
in_to_port x port p e = rw e (at_head (x, p) ((p, x) ∷ []) (x, p) refl, in_tail (x, p) ((p, x) ∷ []) (p, x) (at_head (p, x) [] (p, x) refl))

needed_by : (external : ℕ) (ports : Ports) (circuits : List Circuit) (a b : Slot) → Needs external ports (heard_by circuits) a b → IsNeeded external circuits ports a b
needed_by external ports circuits a b (Paired since e) = (Pair a b since, (heard_stands circuits b (Pair a b since) e).0, at_head (a, b) [] (a, b) refl)
needed_by external ports circuits a b (To_port room since e p) = (Member room a since, (heard_stands circuits a (Member room a since) e).0, (in_to_port a (port_of external ports a) b p).0)
needed_by external ports circuits a b (From_port room since e p) = (Member room b since, (heard_stands circuits b (Member room b since) e).0, (in_to_port b (port_of external ports b) a p).1)

pub needed_is : (external : ℕ) (ports : Ports) (bridges : ℕ) (h : Holding) (a b : Slot) → Valid bridges h → IsNeeded external h.circuits ports a b ↔ Needs external ports (heard_by h.circuits) a b
needed_is external ports bridges h a b v = (
  λ n. needs_by external ports h.circuits a b n.0 (heard_by-listener h.circuits n.0 (v.standing (listener n.0)) n.1) n.2,
  needed_by external ports h.circuits a b,
)
