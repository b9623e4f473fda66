-- Inlets and outlets that no circuit needs are free.
use Rattle.std.proofs.Common.{◌≡◌, ℕ, ◌*◌, ◌<◌, ◌⊎◌, inl, inr, length, Option, Some, None, refl, sym, ◌∙◌, subst, arith}
use Rattle.std.specs.Prelude.{◌↔◌}
use Rattle.circuit_model.specs.declared.channel.Slot.{Slot}
use Rattle.circuit_model.specs.declared.circuit.Circuit.{Circuit}
use Rattle.circuit_model.specs.Circuits.{heard_by, same_slot}
use Rattle.circuit_model.specs.Holding.{Holding}
use Rattle.circuit_model.specs.Ports.{Ports}
use Rattle.circuit_model.proofs.Slots.{same_slot-refl}
use Rattle.control_memory.specs.declared.route.Route.{Route}
use Rattle.control_memory.specs.Layout.{Path, Layout, IsSlot, Joins, hop_of, path_to}
use Rattle.control_memory.proofs.Lookups.{path_to_found, finds_path}
use Rattle.circuit_map.specs.Connections.{Connections, map_lines, hears_at, Represents}
use Rattle.circuit_map.proofs.Needs.{Needs, Paired, To_port, From_port}
use Rattle.circuit_map.proofs.Rows.{Hearing, hearing_of, hears_external}
use Rattle.circuit_map.proofs.Holdings.{joins_needed}
use Rattle.circuit_map.proofs.Sockets.{port_line}

-- ---- by the layout
pub hop_of_no_inlet : (layout : Layout) (x : Slot) → ((b : Slot) → Joins layout x b → ⊥) → hop_of layout x ≡ None
hop_of_no_inlet layout x never = go (hop_of layout x) refl
  where
    go : (o : Option Route) → hop_of layout x ≡ o → o ≡ None
    go None e = refl
    go (Some hop) e = absurd (never hop.to (hop.slot, e))

pub path_to_no_outlet : (lines : ℕ) (layout : Layout) (y : Slot) → length layout ≡ 30 * lines → ((a : Slot) → IsSlot lines a → Joins layout a y → ⊥) → path_to layout y ≡ None
path_to_no_outlet lines layout y size never = go (path_to layout y) refl
  where
    go : (o : Option Path) → path_to layout y ≡ o → o ≡ None
    go None e = refl
    go (Some p) e =
        let f = path_to_found lines layout y p size e in
        absurd (never p.from f.0.inlet (p.slot, subst (λ t. hop_of layout p.from ≡ Some (record { to = t; slot = p.slot })) f.1 f.0.path))

pub no_inlet_joins : (layout : Layout) (x b : Slot) → hop_of layout x ≡ None → Joins layout x b → ⊥
no_inlet_joins layout x b none j = let wrong = sym none ∙ j.1 in cc

pub joins_no_outlet : (layout : Layout) (a y : Slot) → a.place < 30 → path_to layout y ≡ None → Joins layout a y → ⊥
joins_no_outlet layout a y place none j =
    let found = finds_path (λ p. same_slot y p.to) layout a y j.0 place j.1 (same_slot-refl y) in
    let wrong = sym none ∙ found.1 in
    cc

-- ---- by the holding
pub own_ports : (m : Connections) (h : Holding) (ports : Ports) → Represents m h ports → Represents m h m.ports
own_ports m h ports holds = subst (λ p. Represents m h p) (sym holds.members) holds

pub hearing_in : (m : Connections) (h : Holding) (ports : Ports) → Represents m h ports → Hearing m.external (heard_by h.circuits)
hearing_in m h ports holds = hearing_of m.external m.bridges h holds.valid (λ z c e. hears_external m.external m.heard z c (holds.heard z ∙ e))

idle_needs_none : (external : ℕ) (ports : Ports) (hears : Slot → Option Circuit) (x b : Slot) → Hearing external hears → x.line < external → hears x ≡ None → Needs external ports hears x b → ⊥
idle_needs_none external ports hears x b hearing line none (Paired since e) = let back = hearing.both_ways b x since e in let wrong = sym none ∙ back in cc
idle_needs_none external ports hears x b hearing line none (To_port room since e p) = let wrong = sym none ∙ e in cc
idle_needs_none external ports hears x b hearing line none (From_port room since e p) = let far = port_line external ports b x p in omega (arith, far, line)

none_needs_idle : (external : ℕ) (ports : Ports) (hears : Slot → Option Circuit) (a y : Slot) → y.line < external → hears y ≡ None → Needs external ports hears a y → ⊥
none_needs_idle external ports hears a y line none (Paired since e) = let wrong = sym none ∙ e in cc
none_needs_idle external ports hears a y line none (To_port room since e p) = let far = port_line external ports a y p in omega (arith, far, line)
none_needs_idle external ports hears a y line none (From_port room since e p) = let wrong = sym none ∙ e in cc

pub external_slot : (m : Connections) (x : Slot) → x.line < m.external → x.place < 30 → IsSlot (map_lines m) x
external_slot m x line place = (omega (arith, line), place)

pub idle_joins_none : (m : Connections) (h : Holding) (ports : Ports) (x b : Slot) → Represents m h ports → x.line < m.external → x.place < 30 → hears_at m x ≡ None → Joins m.layout x b → ⊥
idle_joins_none m h ports x b holds line place none j =
    idle_needs_none m.external ports (heard_by h.circuits) x b (hearing_in m h ports holds) line (sym (holds.heard x) ∙ none) ((joins_needed m h ports x b holds (external_slot m x line place)).0 j)

pub none_joins_idle : (m : Connections) (h : Holding) (ports : Ports) (a y : Slot) → Represents m h ports → IsSlot (map_lines m) a → y.line < m.external → hears_at m y ≡ None → Joins m.layout a y → ⊥
none_joins_idle m h ports a y holds inside line none j =
    none_needs_idle m.external ports (heard_by h.circuits) a y line (sym (holds.heard y) ∙ none) ((joins_needed m h ports a y holds inside).0 j)

-- two paths more, one after the other
pub two_more : {J K L A B : Type 0} → K ↔ (J ⊎ A) → L ↔ (K ⊎ B) → L ↔ ((J ⊎ A) ⊎ B)
two_more first second = (
  λ l. elim (second.0 l) [ inl k ↦ inl (first.0 k) | inr b ↦ inr b ],
  λ e. second.1 (elim e [ inl k ↦ inl (first.1 k) | inr b ↦ inr b ]),
)
