-- The connections after a tone is given and after a connection is made belong to the holding after it.
use Rattle.std.proofs.Common.{◌≡◌, ℕ, ◌+◌, ◌⊎◌, Bool, true, false, [], ◌∷◌, Option, Some, None, refl, sym, ◌∙◌, ap, subst, inl, inr, arith, if◌then◌else◌}
use Rattle.std.specs.Prelude.{◌↔◌, is_none}
use Rattle.std.proofs.lemmas.Grind.{common_steps}
use Rattle.circuit_model.specs.declared.channel.Slot.{Slot}
use Rattle.circuit_model.specs.declared.circuit.Kind.{Kind}
use Rattle.circuit_model.specs.declared.circuit.Circuit.{Circuit}
use Rattle.circuit_model.specs.declared.circuit.Circuit.TheVariants.{Pair, Tone}
use Rattle.circuit_model.specs.Circuits.{same_slot, heard_by, is_idle, is_member}
use Rattle.circuit_model.specs.Holding.{Holding, Valid, Command, Connect, Give_tone, Frame, after}
use Rattle.circuit_model.specs.Ports.{Ports, ports_after}
use Rattle.circuit_model.proofs.Slots.{same_slot-refl, same_slot-false, same_slot_cases, heard_by_idle_is_deaf}
use Rattle.circuit_model.proofs.Hearing.{heard_by-one, heard_by-two}
use Rattle.circuit_model.proofs.Validity.{deaf_is_idle, count_by-append, valid-tone, valid-connect, valid-frame}
use Rattle.control_memory.specs.Layout.{IsSlot, Joins}
use Rattle.circuit_map.specs.Connections.{Connections, map_lines, hears_in, hears_at, hears_after, seats, Represents, Obeys}
use Rattle.circuit_map.proofs.Needs.{Needs, Paired, needed_is}
use Rattle.circuit_map.proofs.Rows.{adds, Fresh, Fresh_pair, Fresh_to, Fresh_from, needs_kept, needs_split}

-- ---- by the holding
pub idle_in : (m : Connections) (h : Holding) (ports : Ports) (x : Slot) → Represents m h ports → hears_at m x ≡ None → is_idle h.circuits x ≡ true
idle_in m h ports x holds none = deaf_is_idle h.circuits x (holds.valid.standing x) (sym (holds.heard x) ∙ none)

one_idle : (a b : Bool) → (a ≡ true → b ≡ true) → (b ≡ true → a ≡ true) → a ≡ b
one_idle true b there back = sym (there refl)
one_idle false true there back = back refl
one_idle false false there back = refl

silent : (o : Option Circuit) → is_none o ≡ true → o ≡ None
silent None e = refl
silent (Some c) e = absurd (cc)

pub is_none-hears_at_idle : (m : Connections) (h : Holding) (ports : Ports) (x : Slot) → Represents m h ports → is_none (hears_at m x) ≡ is_idle h.circuits x
is_none-hears_at_idle m h ports x holds = one_idle (is_none (hears_at m x)) (is_idle h.circuits x) (λ e. idle_in m h ports x holds (silent (hears_at m x) e)) (λ e. ap is_none (holds.heard x ∙ heard_by_idle_is_deaf h.circuits x e))

pub joins_needed : (m : Connections) (h : Holding) (ports : Ports) (a b : Slot) → Represents m h ports → IsSlot (map_lines m) a → Joins m.layout a b ↔ Needs m.external ports (heard_by h.circuits) a b
joins_needed m h ports a b holds inside =
    let there = holds.joined a b inside in
    let needed = needed_is m.external ports m.bridges h a b holds.valid in
    (λ j. needed.0 (there.0 j), λ n. there.1 (needed.1 n))

-- ---- a tone
-- whom each slot hears after a command, and what stays as it was
pub record Heeded (m n : Connections) (command : Command) : Type 0 where
  pub external : n.external ≡ m.external
  pub bridges : n.bridges ≡ m.bridges
  pub next : n.next ≡ m.next
  pub hears : (z : Slot) → hears_at n z ≡ hears_after m command z
  pub members : n.ports ≡ ports_after m.ports command

no_fresh_tone : (external : ℕ) (ports : Ports) (x : Slot) (kind : Kind) (s : ℕ) (a b : Slot) → Fresh external ports x (Some (Tone kind x s)) a b → ⊥
no_fresh_tone external ports x kind s a b (Fresh_pair since at e) = cc
no_fresh_tone external ports x kind s a b (Fresh_to room since at e p) = cc
no_fresh_tone external ports x kind s a b (Fresh_from room since at e p) = cc

pub holds_tone : (m n : Connections) (x : Slot) (kind : Kind) → hears_at m x ≡ None → Heeded m n (Give_tone x kind) → n.layout ≡ m.layout → Obeys m n (Give_tone x kind)
holds_tone m n x kind none w same_layout h ports holds =
    let idle = idle_in m h ports x holds none in
    let valid = valid-tone m.bridges h x kind holds.valid idle in
    let one : (z : Slot) → heard_by (after h (Give_tone x kind)).circuits z ≡ (if same_slot z x then Some (Tone kind x h.next) else heard_by h.circuits z) = λ z. heard_by-one h.circuits (Tone kind x h.next) z idle in
    let more = adds (heard_by h.circuits) (heard_by (after h (Give_tone x kind)).circuits) x (Some (Tone kind x h.next)) one (sym (holds.heard x) ∙ none) in
    record {
      next = w.next ∙ holds.next;
      valid = subst (λ b. Valid b (after h (Give_tone x kind))) (sym w.bridges) valid;
      heard = λ z.
          w.hears z ∙ ap (λ r. if same_slot z x then Some (Tone kind x m.next) else r) (holds.heard z) ∙ ap (λ k. if same_slot z x then Some (Tone kind x k) else heard_by h.circuits z) holds.next
          ∙ sym (one z);
      members = w.members ∙ holds.members;
      ported = λ z. holds.ported z ∙ sym (count_by-append (seats z) h.circuits (Tone kind x h.next ∷ []) ∙ omega arith);
      taken = holds.taken ∙ sym (count_by-append is_member h.circuits (Tone kind x h.next ∷ []) ∙ omega arith);
      joined = λ a b inside.
          let was = joins_needed m h ports a b holds (subst (λ l. IsSlot l a) (λ i. w.external i + w.bridges i) inside) in
          let needed = needed_is m.external ports m.bridges (after h (Give_tone x kind)) a b valid in
          rw w.external (rw same_layout (
            λ j. needed.1 (needs_kept m.external ports _ _ x _ a b more (was.0 j)),
            λ is. was.1 (elim (needs_split m.external ports _ _ x _ a b more (needed.0 is)) [ inl fresh ↦ absurd (no_fresh_tone m.external ports x kind h.next a b fresh) | inr old ↦ old ]),
          ));
    }

-- ---- a frame's boundary
pub record Counted (m n : Connections) : Type 0 where
  pub external : n.external ≡ m.external
  pub bridges : n.bridges ≡ m.bridges
  pub next : n.next ≡ m.next + 1
  pub heard : n.heard ≡ m.heard
  pub members : n.ports ≡ m.ports
  pub layout : n.layout ≡ m.layout

pub holds_frame : (m n : Connections) → Counted m n → (h : Holding) (ports : Ports) → Represents m h ports → Represents n (after h Frame) ports
holds_frame m n w h ports holds = record {
  next = w.next ∙ ap (λ k. k + 1) holds.next;
  valid = subst (λ b. Valid b (after h Frame)) (sym w.bridges) (valid-frame m.bridges h holds.valid);
  heard = λ z. ap (λ e. hears_in e n.heard z) w.external ∙ ap (λ l. hears_in m.external l z) w.heard ∙ holds.heard z;
  members = w.members ∙ holds.members;
  ported = holds.ported;
  taken = holds.taken;
  joined = λ a b inside. rw w.external (rw w.layout (holds.joined a b (subst (λ l. IsSlot l a) (λ i. w.external i + w.bridges i) inside)));
}

-- ---- a connection
fresh_pair : (external : ℕ) (ports : Ports) (x y : Slot) (s : ℕ) (a b : Slot) → Fresh external ports y (Some (Pair x y s)) a b → (a ≡ x) × (b ≡ y)
fresh_pair external ports x y s a b (Fresh_pair since at e) = (cc, at)
fresh_pair external ports x y s a b (Fresh_to room since at e p) = absurd (cc)
fresh_pair external ports x y s a b (Fresh_from room since at e p) = absurd (cc)

pub swapped : (x y z : Slot) (s t r : Option Circuit) → (x ≡ y → ⊥) → (if same_slot z y then t else if same_slot z x then s else r) ≡ (if same_slot z x then s else if same_slot z y then t else r)
swapped x y z s t r apart = elim (same_slot_cases z x) [
  | inl at_x ↦ let off = same_slot-false x y apart in let same = same_slot-refl x in rw at_x (grind (arith, common_steps))
  | inr off_x ↦ grind (arith, common_steps)
]

-- the layout has two paths more
pub holds_pair : (m n : Connections) (x y : Slot) → (x ≡ y → ⊥) → hears_at m x ≡ None → hears_at m y ≡ None → Heeded m n (Connect x y)
    → ((a b : Slot) → IsSlot (map_lines m) a → Joins n.layout a b ↔ ((Joins m.layout a b ⊎ ((a ≡ x) × (b ≡ y))) ⊎ ((a ≡ y) × (b ≡ x))))
    → Obeys m n (Connect x y)
holds_pair m n x y apart none_x none_y w paths h ports holds =
    let idle_x = idle_in m h ports x holds none_x in
    let idle_y = idle_in m h ports y holds none_y in
    let later : Holding = after h (Connect x y) in
    let valid = valid-connect m.bridges h x y holds.valid apart idle_x idle_y in
    let two : (z : Slot) → heard_by later.circuits z ≡ (if same_slot z x then Some (Pair y x h.next) else if same_slot z y then Some (Pair x y h.next) else heard_by h.circuits z) = λ z. heard_by-two h.circuits x y z h.next idle_x idle_y in
    let between : Slot → Option Circuit = λ z. if same_slot z y then Some (Pair x y h.next) else heard_by h.circuits z in
    let first = adds (heard_by h.circuits) between y (Some (Pair x y h.next)) (λ z. refl) (sym (holds.heard y) ∙ none_y) in
    let second = adds between (heard_by later.circuits) x (Some (Pair y x h.next)) two (ap (λ b. if b then Some (Pair x y h.next) else heard_by h.circuits x) (same_slot-false x y apart) ∙ sym (holds.heard x) ∙ none_x) in
    record {
      next = w.next ∙ holds.next;
      valid = subst (λ b. Valid b later) (sym w.bridges) valid;
      heard = λ z.
          w.hears z ∙ ap (λ r. if same_slot z x then Some (Pair y x m.next) else if same_slot z y then Some (Pair x y m.next) else r) (holds.heard z)
          ∙ ap (λ k. if same_slot z x then Some (Pair y x k) else if same_slot z y then Some (Pair x y k) else heard_by h.circuits z) holds.next
          ∙ sym (two z);
      members = w.members ∙ holds.members;
      ported = λ z. holds.ported z ∙ sym (count_by-append (seats z) h.circuits (Pair x y h.next ∷ Pair y x h.next ∷ []) ∙ omega arith);
      taken = holds.taken ∙ sym (count_by-append is_member h.circuits (Pair x y h.next ∷ Pair y x h.next ∷ []) ∙ omega arith);
      joined = λ a b inside.
          let in_m : IsSlot (map_lines m) a = subst (λ l. IsSlot l a) (λ i. w.external i + w.bridges i) inside in
          let was = joins_needed m h ports a b holds in_m in
          let needed = needed_is m.external ports m.bridges later a b valid in
          let joins = paths a b in_m in
          rw w.external (
            λ j. needed.1 (elim (joins.0 j) [
              | inl early ↦ elim early [
                | inl old ↦ needs_kept m.external ports between _ x _ a b second (needs_kept m.external ports _ between y _ a b first (was.0 old))
                | inr there ↦ needs_kept m.external ports between _ x _ a b second (subst (λ t. Needs m.external ports between t b) (sym there.0) (subst (λ t. Needs m.external ports between x t) (sym there.1) (Paired h.next first.new)))
              ]
              | inr back ↦ subst (λ t. Needs m.external ports (heard_by later.circuits) t b) (sym back.0) (subst (λ t. Needs m.external ports (heard_by later.circuits) y t) (sym back.1) (Paired h.next second.new))
            ]),
            λ is. joins.1 (elim (needs_split m.external ports between _ x _ a b second (needed.0 is)) [
              | inl fresh ↦ inr (fresh_pair m.external ports y x h.next a b fresh)
              | inr rest ↦ inl (elim (needs_split m.external ports _ between y _ a b first rest) [ inl fresh ↦ inr (fresh_pair m.external ports x y h.next a b fresh) | inr old ↦ inl (was.1 old) ])
            ]),
          );
    }
