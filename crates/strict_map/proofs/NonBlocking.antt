-- A slot is free in both lines wherever two free ends are to be connected on fifty-nine internal slots.
use Rattle.std.proofs.Common.{◌≡◌, ℕ, ◌&&◌, false, Option, Some, None, refl, sym, ◌∙◌, ap, subst}
use Rattle.std.specs.Prelude.{is_none}
use Rattle.circuit_model.specs.declared.channel.Slot.{Slot}
use Rattle.control_memory.specs.Layout.{Path, path_in, path_out, place_sent, Legal}
use Rattle.control_memory.specs.Connecting.{common_slot, is_unsent, is_unreceived, moved, with_path}
use Rattle.control_memory.specs.Paths.{Fabric}
use Rattle.paull_matrix.proofs.Numbers.{lowest_none, lowest_passes}
use Rattle.path_memory.specs.Memory.{CanConnect}
use Rattle.path_memory.proofs.Added.{AddedInCommon, added_in_common}
use Rattle.path_memory.proofs.MatrixOfLayout.{mapped_none}
use Rattle.path_memory.proofs.Places.{two_leave_one, place_received, occupies_row, occupies_column}
use Rattle.strict_map.specs.Strict.{Strict, MovesNothing, GetsASlot}

both_none : (o p : Option Path) → o ≡ None → p ≡ None → (is_none o && is_none p) ≡ false → ⊥
both_none None None e f wrong = cc
both_none None (Some q) e f wrong = cc
both_none (Some q) p e f wrong = cc

some_or_none : (o : Option ℕ) → (o ≡ None → ⊥) → (slot : ℕ) × (o ≡ Some slot)
some_or_none None lacks = absurd (lacks refl)
some_or_none (Some slot) lacks = (slot, refl)

legal_strict : (f : Fabric) → Strict f → Legal f.lines 59 f.layout
legal_strict f strict = subst (λ n. Legal f.lines n f.layout) strict.slots strict.legal

pub never_full : (f : Fabric) (from to : Slot) → Strict f → CanConnect f from to → common_slot f.slots f.layout from.line to.line ≡ None → ⊥
never_full f from to strict can none =
    let legal = legal_strict f strict in
    let full : common_slot 59 f.layout from.line to.line ≡ None = subst (λ n. common_slot n f.layout from.line to.line ≡ None) strict.slots none in
    two_leave_one 29 from.place to.place (place_sent f.layout from.line) (place_received f.layout to.line)
    (occupies_row f.lines 59 f.layout from legal can.from_inside can.inlet) (occupies_column f.lines 59 f.layout to legal can.to_inside can.outlet)
    (λ s l sent received.
    both_none (path_in f.layout from.line s) (path_out f.layout to.line s) (mapped_none (path_in f.layout from.line s) (λ p. p.from.place) sent) (mapped_none (path_out f.layout to.line s) (λ p. p.to.place) received)
    (lowest_none (λ k. is_unsent f.layout from.line k && is_unreceived f.layout to.line k) 59 s full l))

pub has_common : (f : Fabric) (from to : Slot) → Strict f → CanConnect f from to → (slot : ℕ) × (common_slot f.slots f.layout from.line to.line ≡ Some slot)
has_common f from to strict can = some_or_none (common_slot f.slots f.layout from.line to.line) (never_full f from to strict can)

adds : (f : Fabric) (from to : Slot) (strict : Strict f) (can : CanConnect f from to) → AddedInCommon f (with_path f.layout from to (has_common f from to strict can).0) from to
adds f from to strict can = added_in_common f from to (has_common f from to strict can).0 strict.legal.inlets can.from_inside can.inlet (has_common f from to strict can).1

pub moves_nothing : (f : Fabric) (from to : Slot) → Strict f → CanConnect f from to → MovesNothing f from to
moves_nothing f from to strict can = ap (moved f.layout) (sym (adds f from to strict can).joined) ∙ (adds f from to strict can).none_moved

pub gets_a_slot : (f : Fabric) (from to : Slot) → Strict f → CanConnect f from to → GetsASlot f from to
gets_a_slot f from to strict can =
    let common = has_common f from to strict can in
    (common.0, (lowest_passes (λ k. is_unsent f.layout from.line k && is_unreceived f.layout to.line k) f.slots common.0 common.1).1, sym (adds f from to strict can).joined)
