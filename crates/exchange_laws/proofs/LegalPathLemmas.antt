-- A path joins a legal layout that has thirty internal slots or more, and the layout stays legal.
use Rattle.std.proofs.Common.{◌≡◌, ℕ, ◌<◌, ◌≤◌, ◌⊎◌, Option, Some, None, List, refl, sym, ◌∙◌, subst, arith}
use Rattle.std.specs.Prelude.{◌↔◌, if◌then◌else◌, unwrap_or}
use Rattle.circuit_model.specs.declared.channel.Slot.{Slot}
use Rattle.control_memory.specs.Layout.{Layout, hop_of, path_in, path_out, path_to, place_sent, IsSlot, Joins}
use Rattle.control_memory.specs.Connecting.{with_path, without_path, connect}
use Rattle.paull_matrix.specs.Matrix.{Matrix, row_slot, column_slot, is_free_in_row, is_free_in_column, lowest_in_row, lowest_in_column, lowest_in_both, paths_of_row, paths_of_column, SameSizes, with_path as with_entry, without_path as without_entry}
use Rattle.paull_matrix.proofs.Laws.{legal_with as legal_matrix_with, row_has_room, column_has_room, row_lacks_one, column_lacks_one, lowest_in_row_is, lowest_in_column_is, lowest_in_both_is}
use Rattle.paull_matrix.proofs.Numbers.{lowest_none}
use Rattle.paull_matrix.specs.declared.moves.Move.{Move}
use Rattle.rearrange_chain.specs.Chain.{exchanged, is_shorter, moves_by, moves_for, slot_a, slot_b, slot_by, slot_for, row_chain, column_chain}
use Rattle.rearrange_chain.proofs.Freed.{rearranges_shorter, ways}
use Rattle.path_memory.specs.Memory.{IsPathMemory}
use Rattle.path_memory.proofs.Added.{pairs_after}
use Rattle.path_memory.proofs.CommonSlot.{Beside, is_free_in_row_unsent, is_free_in_column_unreceived}
use Rattle.path_memory.proofs.Kept.{IsPathMemory-with_path, IsPathMemory-without_path}
use Rattle.path_memory.proofs.Places.{Occupies, one_is_left, place_received, has_place, occupies_row, occupies_column}
use Rattle.fabric_map.proofs.Connected.{readied, free_in}
use Rattle.fabric_map.proofs.RuleOnTheMap.{made}

-- ---- a slot for the path

fewer : (n free slots k : ℕ) (place : ℕ → Option ℕ) → k ≤ slots → Occupies n free slots place → Occupies n free k place
fewer n free slots k place few o = record {
  inside = o.inside;
  within = λ s p l e. o.within s p (omega (arith, l, few)) e;
  misses = λ s p l e. o.misses s p (omega (arith, l, few)) e;
  once = λ s t p l m e g. o.once s t p (omega (arith, l, few)) (omega (arith, m, few)) e g;
}

-- a line with a free place has a free slot
module _ (lines slots : ℕ) (m : Matrix) (layout : Layout) (enough : 30 ≤ slots) (of_slots : m.slots ≡ slots) (beside : Beside lines slots m layout) where
  row_room : (from : Slot) → IsSlot lines from → hop_of layout from ≡ None → paths_of_row m from.line < m.slots
  row_room from inside free = by_lowest (lowest_in_row m from.line) refl
    where
      by_lowest : (o : Option ℕ) → lowest_in_row m from.line ≡ o → paths_of_row m from.line < m.slots
      by_lowest (Some s) e = let l = lowest_in_row_is m from.line s e in row_has_room m from.line s l.1 l.0
      by_lowest None e =
          absurd (one_is_left 29 from.place (place_sent layout from.line) (fewer 29 from.place slots 30 (place_sent layout from.line) enough (occupies_row lines slots layout from beside.legal inside free))
          (λ s l. has_place (path_in layout from.line s) (λ p. p.from.place)
          (sym (is_free_in_row_unsent m layout beside.is from.line s) ∙ lowest_none (is_free_in_row m from.line) m.slots s e (omega (arith, l, enough, of_slots)))))

  column_room : (to : Slot) → IsSlot lines to → path_to layout to ≡ None → paths_of_column m to.line < m.slots
  column_room to inside free = by_lowest (lowest_in_column m to.line) refl
    where
      by_lowest : (o : Option ℕ) → lowest_in_column m to.line ≡ o → paths_of_column m to.line < m.slots
      by_lowest (Some s) e = let l = lowest_in_column_is m to.line s e in column_has_room m to.line s l.1 l.0
      by_lowest None e =
          absurd (one_is_left 29 to.place (place_received layout to.line) (fewer 29 to.place slots 30 (place_received layout to.line) enough (occupies_column lines slots layout to beside.legal inside free))
          (λ s l. has_place (path_out layout to.line s) (λ p. p.to.place)
          (sym (is_free_in_column_unreceived lines slots m layout beside to.line s) ∙ lowest_none (is_free_in_column m to.line) m.slots s e (omega (arith, l, enough, of_slots)))))

-- the slot of the rule is free in both lines once the moves of the rule are done
record HasRoom (m : Matrix) (i j : ℕ) (moves : List Move) (slot : ℕ) : Type 0 where
  row : row_slot (exchanged m moves) i slot ≡ None
  column : column_slot (exchanged m moves) j slot ≡ None
  within : slot < (exchanged m moves).slots
  sizes : SameSizes m (exchanged m moves)

some_lowest : (o : Option ℕ) → (o ≡ None → ⊥) → o ≡ Some (unwrap_or o 0)
some_lowest None lacks = absurd (lacks refl)
some_lowest (Some n) lacks = refl

has_room : (lines slots : ℕ) (m : Matrix) (layout : Layout) (i j : ℕ) → Beside lines slots m layout → i < m.lines → j < m.lines → paths_of_row m i < m.slots → paths_of_column m j < m.slots
    → HasRoom m i j (moves_for m i j) (slot_for m i j)
has_room lines slots m layout i j beside in_row in_column row column = by_common (lowest_in_both m i j) refl
  where
    by_common : (o : Option ℕ) → lowest_in_both m i j ≡ o → HasRoom m i j (moves_by m i j o) (slot_by m i j o)
    by_common (Some c) e = let is = lowest_in_both_is m i j c e in record { row = is.0; column = is.1; within = is.2; sizes = (refl, refl) }
    by_common None e =
        let a = slot_a m i in
        let b = slot_b m j in
        let can = ways m i j a b beside.legal_matrix in_row in_column e (some_lowest (lowest_in_row m i) (row_lacks_one m i m.slots refl row)) (some_lowest (lowest_in_column m j) (column_lacks_one m j m.slots refl column)) in
        let r = rearranges_shorter m i j a b (if is_shorter (row_chain m i j) (column_chain m i j) then b else a) (moves_by m i j None) can refl refl in
        record { row = r.row_free; column = r.column_free; within = r.within; sizes = r.sizes }

-- ---- a path more

-- a layout with Paull's matrix of it
pub record IsMatched (lines slots : ℕ) (layout : Layout) : Type 0 where
  pub matrix : Matrix
  pub holds : IsPathMemory matrix (record { lines = lines; slots = slots; layout = layout })

-- it joins its two ends, and whatever else was joined
pub record IsJoined (lines slots : ℕ) (before after : Layout) (from to : Slot) : Type 0 where
  pub matched : IsMatched lines slots after
  pub joins : (x y : Slot) → IsSlot lines x → Joins after x y ↔ (Joins before x y ⊎ ((x ≡ from) × (y ≡ to)))

pub IsJoined-connect : (lines slots : ℕ) (layout : Layout) (from to : Slot) → 30 ≤ slots → IsMatched lines slots layout → IsSlot lines from → IsSlot lines to → hop_of layout from ≡ None → path_to layout to ≡ None
    → IsJoined lines slots layout (connect lines slots layout from to) from to
IsJoined-connect lines slots layout from to enough matched in_from in_to inlet outlet =
    let m : Matrix = matched.matrix in
    let kept = matched.holds in
    let beside : Beside lines slots m layout = record { legal_matrix = kept.legal_matrix; legal = kept.legal; is = kept.is } in
    let row = row_room lines slots m layout enough kept.slots beside from in_from inlet in
    let column = column_room lines slots m layout enough kept.slots beside to in_to outlet in
    let wide : from.line < m.lines = subst (λ n. from.line < n) (sym kept.lines) in_from.0 in
    let wide_to : to.line < m.lines = subst (λ n. to.line < n) (sym kept.lines) in_to.0 in
    let is = made lines slots m layout from to kept.lines kept.slots beside in_from in_to inlet row column in
    let room = has_room lines slots m layout from.line to.line beside wide wide_to row column in
    let moves : List Move = moves_for m from.line to.line in
    let slot : ℕ = slot_for m from.line to.line in
    let later : Matrix = exchanged m moves in
    let ready : Layout = readied layout moves in
    let free = free_in lines slots later layout from to moves slot beside.legal inlet outlet in_from is.beside is.joins room.row room.column in
    let legal = legal_matrix_with later from.line to.line slot is.beside.legal_matrix (subst (λ n. from.line < n) (sym room.sizes.0) wide) (subst (λ n. to.line < n) (sym room.sizes.0) wide_to) room.within room.column in
    let grown = IsPathMemory-with_path lines slots later ready from to slot (with_entry later from.line to.line slot) (record { lines = lines; slots = slots; layout = with_path ready from to slot })
    (room.sizes.0 ∙ kept.lines) (room.sizes.1 ∙ kept.slots) is.beside in_from in_to room.within free refl legal refl refl refl in
    subst (λ (after : Layout). IsJoined lines slots layout after from to) is.joined (record {
      matched = record { matrix = with_entry later from.line to.line slot; holds = grown };
      joins = λ x y in_x. let p = pairs_after lines layout ready from to slot is.beside.legal.inlets in_from free.inlet is.joins x y in_x in (p.0, p.1);
    })

-- ---- a path less

pub IsMatched-without_path : (lines slots : ℕ) (layout : Layout) (from to : Slot) → IsMatched lines slots layout → IsSlot lines from → Joins layout from to → IsMatched lines slots (without_path layout from)
IsMatched-without_path lines slots layout from to matched in_from joined = record {
  matrix = without_entry matched.matrix from.line joined.0;
  holds = IsPathMemory-without_path matched.matrix (record { lines = lines; slots = slots; layout = layout }) from (record { to = to; slot = joined.0 }) (without_entry matched.matrix from.line joined.0)
      (record { lines = lines; slots = slots; layout = without_path layout from }) matched.holds in_from joined.1 refl refl refl refl;
}
