-- Paths that are lifted and laid again, beside the same moves on the matrix.
use Rattle.std.proofs.Common.{◌≡◌, ◌≢◌, ℕ, ◌*◌, ◌<◌, Option, Some, None, List, [], ◌∷◌, length, refl, sym, ◌∙◌, ap, subst, ⊎_elim, length-set}
use Rattle.std.specs.Prelude.{⊤, option_map}
use Rattle.circuit_model.specs.declared.channel.Slot.{Slot}
use Rattle.control_memory.specs.Layout.{Layout, number_of, hop_of, path_in, IsSlot, HasPath, Joins, Legal}
use Rattle.control_memory.specs.declared.route.Route.{Route}
use Rattle.control_memory.specs.Connecting.{with_path, without_path}
use Rattle.control_memory.proofs.Lookups.{path_in_found}
use Rattle.control_memory.proofs.Steps.{IsNew, new_or_old, legal_with, legal_without, hop_else, was_there}
use Rattle.paull_matrix.specs.Matrix.{Matrix, row_slot, column_slot, with_path as with_entry, without_path as without_entry}
use Rattle.paull_matrix.proofs.Laws.{legal_without as legal_matrix_without, legal_with as legal_matrix_with}
use Rattle.paull_matrix.specs.declared.moves.Move.{Move}
use Rattle.rearrange_chain.specs.Chain.{lifted, placed}
use Rattle.paull_matrix.specs.InTurn.{CanLift, CanPlace}
use Rattle.control_memory.specs.declared.path_ends.PathEnds.{PathEnds}
use Rattle.path_memory.specs.Matching.{IsMatrixOf}
use Rattle.fabric_map.specs.Rearranging.{without_all, AreTaken, laid, CanLay}
use Rattle.control_memory.specs.Paths.{ends_of}
use Rattle.path_memory.proofs.MatrixOfLayout.{mapped_some, matrix_with, matrix_without, free_by_matrix}
use Rattle.path_memory.proofs.CommonSlot.{Beside}

some_line : (a b : ℕ) → Some a ≡ Some b → a ≡ b
some_line a b e = cc

by_hop : (o : Option Route) → ((h : Route) → o ≡ Some (record { to = h.to; slot = h.slot }) → ⊥) → o ≡ None
by_hop None nothing = refl
by_hop (Some h) nothing = absurd (nothing h refl)

-- the ends are slots of n lines
abbrev pub AllSlots : ℕ → List PathEnds → Type 0
AllSlots lines [] = ⊤
AllSlots lines (e ∷ es) = (IsSlot lines e.from × IsSlot lines e.to) × AllSlots lines es

size_without : (layout : Layout) (from : Slot) → length (without_path layout from) ≡ length layout
size_without layout from = length-set layout (number_of from) None

-- paths that are left by lifting were there before
pub HasPath_stood : (lines : ℕ) (es : List PathEnds) (layout : Layout) → length layout ≡ 30 * lines → AllSlots lines es → (x y : Slot) (s : ℕ) → IsSlot lines x → HasPath (without_all layout es) x y s → HasPath layout x y s
HasPath_stood lines [] layout size slots x y s inside has = has
HasPath_stood lines (e ∷ es) layout size slots x y s inside has =
    (was_there lines layout e.from size slots.0.0 x y s inside (HasPath_stood lines es (without_path layout e.from) (size_without layout e.from ∙ size) slots.1 x y s inside has)).1

-- what a path asks of the layout that it comes back to: its move's row and column, a free inlet and a free outlet
pub record Fits (lines : ℕ) (layout : Layout) (e : PathEnds) (v : Move) : Type 0 where
  pub row : v.row ≡ e.from.line
  pub column : v.column ≡ e.to.line
  pub from : IsSlot lines e.from
  pub to : IsSlot lines e.to
  pub inlet : hop_of layout e.from ≡ None
  pub outlet : (x : Slot) (s : ℕ) → IsSlot lines x → HasPath layout x e.to s → ⊥

-- no other of the ends is one of these
abbrev pub Apart : PathEnds → List PathEnds → Type 0
Apart e [] = ⊤
Apart e (o ∷ es) = ((o.from ≢ e.from) × (o.to ≢ e.to)) × Apart e es

abbrev pub Ready : ℕ → Layout → List PathEnds → List Move → Type 0
Ready lines layout [] [] = ⊤
Ready lines layout [] (v ∷ moves) = ⊥
Ready lines layout (e ∷ es) [] = ⊥
Ready lines layout (e ∷ es) (v ∷ moves) = Fits lines layout e v × Apart e es × Ready lines layout es moves

-- each of the ends is joined in the layout
abbrev pub AllJoined : Layout → List PathEnds → Type 0
AllJoined layout [] = ⊤
AllJoined layout (e ∷ es) = Joins layout e.from e.to × AllJoined layout es

pub no_hop : (layout : Layout) (x : Slot) → ((y : Slot) (s : ℕ) → HasPath layout x y s → ⊥) → hop_of layout x ≡ None
no_hop layout x nothing = by_hop (hop_of layout x) (λ h e. nothing h.to h.slot e)

joined_before : (lines : ℕ) (layout : Layout) (from : Slot) (es : List PathEnds) → length layout ≡ 30 * lines → IsSlot lines from → AllSlots lines es → AllJoined (without_path layout from) es → AllJoined layout es
joined_before lines layout from [] size inside slots joined = tt
joined_before lines layout from (e ∷ es) size inside slots joined =
    ((joined.0.0, (was_there lines layout from size inside e.from e.to joined.0.0 slots.0.0 joined.0.1).1), joined_before lines layout from es size inside slots.1 joined.1)

apart_from : (lines slots : ℕ) (layout : Layout) (e : PathEnds) (slot : ℕ) (es : List PathEnds) → Legal lines slots layout → IsSlot lines e.from → HasPath layout e.from e.to slot → AllSlots lines es → AllJoined (without_path layout e.from) es → Apart e es
apart_from lines slots layout e slot [] legal inside has within joined = tt
apart_from lines slots layout e slot (o ∷ es) legal inside has within joined =
    let was = was_there lines layout e.from legal.inlets inside o.from o.to joined.0.0 within.0.0 joined.0.1 in (
      (was.0, λ same. was.0 (legal.one_inlet o.from e.from e.to joined.0.0 slot within.0.0 inside (subst (λ t. HasPath layout o.from t joined.0.0) same was.1) has)),
      apart_from lines slots layout e slot es legal inside has within.1 joined.1,
    )

-- ---- lifting
-- the moves that the matrix can lift are of paths of the layout, and the two stay side by side
pub record Lifts (lines slots : ℕ) (m : Matrix) (layout : Layout) (moves : List Move) : Type 0 where
  pub ends : List PathEnds
  pub taken : AreTaken layout moves ends
  pub within : AllSlots lines ends
  pub joined : AllJoined layout ends
  pub ready : Ready lines (without_all layout ends) ends moves
  pub beside : Beside lines slots (lifted m moves) (without_all layout ends)

pub lifts : (lines slots : ℕ) (moves : List Move) (m : Matrix) (layout : Layout) → Beside lines slots m layout → CanLift m moves → Lifts lines slots m layout moves
lifts lines slots [] m layout b can = record { ends = []; taken = tt; within = tt; joined = tt; ready = tt; beside = b }
lifts lines slots (v ∷ moves) m layout b can =
    let p = mapped_some (path_in layout v.row v.old) (λ q. q.to.line) v.column (sym (b.is v.row v.old) ∙ can.0) in
    let f = path_in_found lines layout v.row v.old p.0 b.legal.inlets p.1 in
    let path = p.0 in
    let next : Beside lines slots (without_entry m v.row v.old) (without_path layout path.from) = record {
      legal_matrix = legal_matrix_without m v.row v.old b.legal_matrix;
      legal = legal_without lines slots layout path.from b.legal f.0.inlet;
      is = subst (λ r. IsMatrixOf (without_entry m r v.old) (without_path layout path.from)) f.1 (subst (λ s. IsMatrixOf (without_entry m path.from.line s) (without_path layout path.from)) f.2 (matrix_without lines slots m layout path.from path.to path.slot b.legal f.0.inlet f.0.path b.is));
    } in
    let rest = lifts lines slots moves (without_entry m v.row v.old) (without_path layout path.from) next can.1 in
    let e = ends_of path in
    let before = was_there lines layout path.from b.legal.inlets f.0.inlet in
    let left = HasPath_stood lines rest.ends (without_path layout path.from) (size_without layout path.from ∙ b.legal.inlets) rest.within in
    let fits : Fits lines (without_all layout (e ∷ rest.ends)) e v = record {
      row = sym f.1;
      column = some_line v.column path.to.line (sym can.0 ∙ b.is v.row v.old ∙ ap (option_map (λ q. q.to.line)) p.1);
      from = f.0.inlet;
      to = (b.legal.within path.from path.to path.slot f.0.inlet f.0.path).0;
      inlet = no_hop (without_all layout (e ∷ rest.ends)) path.from (λ y s has. (before path.from y s f.0.inlet (left path.from y s f.0.inlet has)).0 refl);
      outlet = λ x s in_x has.
          let was = before x path.to s in_x (left x path.to s in_x has) in
          was.0 (b.legal.one_inlet x path.from path.to s path.slot in_x f.0.inlet was.1 f.0.path);
    } in
    record {
      joined = ((path.slot, f.0.path), joined_before lines layout path.from rest.ends b.legal.inlets f.0.inlet rest.within rest.joined);
      ready = (fits, apart_from lines slots layout e path.slot rest.ends b.legal f.0.inlet f.0.path rest.within rest.joined, rest.ready);
      ends = e ∷ rest.ends;
      taken = ((path, p.1, refl), rest.taken);
      within = ((f.0.inlet, (b.legal.within path.from path.to path.slot f.0.inlet f.0.path).0), rest.within);
      beside = rest.beside;
    }

-- ---- laying
-- one path that comes back is in nobody's way
still_fits : (lines : ℕ) (layout : Layout) (e o : PathEnds) (slot : ℕ) (v : Move) → length layout ≡ 30 * lines → IsSlot lines e.from → (o.from ≢ e.from) × (o.to ≢ e.to) → Fits lines layout o v → Fits lines (with_path layout e.from e.to slot) o v
still_fits lines layout e o slot v size inside apart fits = record {
  row = fits.row;
  column = fits.column;
  from = fits.from;
  to = fits.to;
  inlet = hop_else layout e.from e.to slot o.from fits.from.1 inside.1 apart.0 ∙ fits.inlet;
  outlet = λ x s in_x has.
      ⊎_elim (λ (n : IsNew e.from e.to slot x o.to s). apart.1 n.1) (λ (old : (x ≡ e.from → ⊥) × HasPath layout x o.to s). fits.outlet x s in_x old.1)
      (new_or_old lines layout e.from e.to slot size inside x o.to s in_x has);
}

still_ready : (lines : ℕ) (layout : Layout) (e : PathEnds) (slot : ℕ) (es : List PathEnds) (moves : List Move) → length layout ≡ 30 * lines → IsSlot lines e.from → Apart e es → Ready lines layout es moves → Ready lines (with_path layout e.from e.to slot) es moves
still_ready lines layout e slot [] [] size inside apart ready = tt
still_ready lines layout e slot [] (v ∷ moves) size inside apart ready = absurd ready
still_ready lines layout e slot (o ∷ es) [] size inside apart ready = absurd ready
still_ready lines layout e slot (o ∷ es) (v ∷ moves) size inside apart ready =
    (still_fits lines layout e o slot v size inside apart.0 ready.0, ready.1, still_ready lines layout e slot es moves size inside apart.1 ready.2)

pub record Lays (lines slots : ℕ) (m : Matrix) (layout : Layout) (es : List PathEnds) (moves : List Move) : Type 0 where
  pub can : CanLay lines slots layout es moves
  pub beside : Beside lines slots (placed m moves) (laid layout es moves)

pub lays : (lines slots : ℕ) (es : List PathEnds) (moves : List Move) (m : Matrix) (layout : Layout) → m.lines ≡ lines → m.slots ≡ slots → Beside lines slots m layout → Ready lines layout es moves → CanPlace m moves → Lays lines slots m layout es moves
lays lines slots [] [] m layout of_lines of_slots b ready can = record { can = tt; beside = b }
lays lines slots [] (v ∷ moves) m layout of_lines of_slots b ready can = absurd ready
lays lines slots (e ∷ es) [] m layout of_lines of_slots b ready can = absurd ready
lays lines slots (e ∷ es) (v ∷ moves) m layout of_lines of_slots b ready can =
    let fits = ready.0 in
    let room = can.0 in
    let free = free_by_matrix lines slots m layout e.from e.to v.new b.legal_matrix b.legal b.is fits.inlet fits.outlet (subst (λ r. row_slot m r v.new ≡ None) fits.row room.row_free) (subst (λ c. column_slot m c v.new ≡ None) fits.column room.column_free) in
    let below : v.new < slots = subst (λ n. v.new < n) of_slots room.slot in
    let next : Beside lines slots (with_entry m v.row v.column v.new) (with_path layout e.from e.to v.new) = record {
      legal_matrix = legal_matrix_with m v.row v.column v.new b.legal_matrix room.row room.column room.slot room.column_free;
      legal = legal_with lines slots layout e.from e.to v.new b.legal fits.from fits.to below free;
      is = subst (λ r. IsMatrixOf (with_entry m r v.column v.new) (with_path layout e.from e.to v.new)) (sym fits.row) (subst (λ c. IsMatrixOf (with_entry m e.from.line c v.new) (with_path layout e.from e.to v.new)) (sym fits.column) (matrix_with lines slots m layout e.from e.to v.new b.legal fits.from fits.to below free b.is));
    } in
    let rest = lays lines slots es moves (with_entry m v.row v.column v.new) (with_path layout e.from e.to v.new) of_lines of_slots next (still_ready lines layout e v.new es moves b.legal.inlets fits.from ready.1 ready.2) can.1 in
    record { can = (record { from = fits.from; to = fits.to; slot = below; free = free }, rest.can); beside = rest.beside }
