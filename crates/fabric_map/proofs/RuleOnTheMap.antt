-- What a connection makes of the map.
use Rattle.std.proofs.Common.{◌≡◌, ◌≢◌, ℕ, suc, ◌+◌, ◌*◌, ◌<◌, true, false, cond, eqb, Option, Some, None, List, [], ◌∷◌, map, length, refl, sym, ◌∙◌, ap, subst, ⊎_elim, zero-add}
use Rattle.std.specs.Prelude.{slice_get, unwrap_or, Bool, nat_lt, if◌then◌else◌}
use Rattle.std.proofs.lemmas.Bool.{eq-eqb}
use Rattle.std.proofs.lemmas.Bool.Decides.{eqb_tells}
use Rattle.std.proofs.lemmas.List.{length-map}
use Rattle.circuit_model.specs.declared.channel.Slot.{Slot}
use Rattle.control_memory.specs.Layout.{Path, Layout, hop_of, IsSlot, Joins}
use Rattle.control_memory.specs.Connecting.{Incoming, Outgoing, exchanged, with_path, without_path, connect, connect_in, joined_after, takes_row, common_slot, first_unreceived, moved, row_chain as paths_of_row_chain, column_chain as paths_of_column_chain}
use Rattle.paull_matrix.specs.Matrix.{Matrix, lowest_in_row, lowest_in_column, lowest_in_both, paths_of_row, paths_of_column}
use Rattle.paull_matrix.proofs.Laws.{row_lacks_one, column_lacks_one}
use Rattle.paull_matrix.specs.declared.moves.Move.{Move}
use Rattle.rearrange_chain.specs.Chain.{Column, slot_for, slot_by, moves_for, moves_by, slot_a, slot_b, column_chain, row_chain, is_shorter, Row, lifted, far_line as look_far, chain as matrix_chain, exchanged as exchanged_matrix}
use Rattle.rearrange_chain.proofs.Exchange.{IsExchange, exchange_lifts, exchange_places, lifted_lines}
use Rattle.rearrange_chain.proofs.Freed.{chain_exchanges, Ways, ways}
use Rattle.rearrange_chain.proofs.Closed.{turned_round}
use Rattle.control_memory.specs.declared.path_ends.PathEnds.{PathEnds}
use Rattle.fabric_map.specs.Rearranging.{without_all, AreTaken, taken_by, laid, CanLay}
use Rattle.control_memory.specs.Paths.{ends_of}
use Rattle.path_memory.proofs.CommonSlot.{Beside, lowest_in_both_common}
use Rattle.path_memory.proofs.Added.{moved_same, moved_new_unmoved}
use Rattle.fabric_map.proofs.Rearranged.{AllSlots, Ready, lifts, lays}
use Rattle.fabric_map.proofs.Chained.{other, moved_by, chains_match}
use Rattle.fabric_map.proofs.Exchanged.{AllStand, chain_stands, taken_chain, AllApart, laid_is, AllTurn, AllWere, chain_moved, length-exchanged, exchange_joins}
use Rattle.fabric_map.proofs.SlotsOfTheRule.{unsent_slot, unreceived_slot, taken_is}

-- the layout after the moves of the rule, before the new path joins
abbrev pub rearranged : Matrix → Layout → ℕ → ℕ → Layout
rearranged m layout i j = laid (without_all layout (taken_by layout (moves_for m i j))) (taken_by layout (moves_for m i j)) (moves_for m i j)

pub record Made (lines slots : ℕ) (m : Matrix) (layout : Layout) (from to : Slot) (moves : List Move) (slot : ℕ) : Type 0 where
  pub taken : AreTaken layout moves (taken_by layout moves)
  pub same : length (taken_by layout moves) ≡ length moves
  pub room : CanLay lines slots (without_all layout (taken_by layout moves)) (taken_by layout moves) moves
  pub beside : Beside lines slots (exchanged_matrix m moves) (laid (without_all layout (taken_by layout moves)) (taken_by layout moves) moves)
  pub joins : (x y : Slot) → IsSlot lines x → (Joins (laid (without_all layout (taken_by layout moves)) (taken_by layout moves) moves) x y → Joins layout x y) × (Joins layout x y → Joins (laid (without_all layout (taken_by layout moves)) (taken_by layout moves) moves) x y)
  pub joined : with_path (laid (without_all layout (taken_by layout moves)) (taken_by layout moves) moves) from to slot ≡ connect lines slots layout from to
  pub count : moved layout (with_path (laid (without_all layout (taken_by layout moves)) (taken_by layout moves) moves) from to slot) ≡ length moves

-- ---- where a slot is free in both
pub made_common : (lines slots : ℕ) (m : Matrix) (layout : Layout) (from to : Slot) (c : ℕ) → Beside lines slots m layout → IsSlot lines from → hop_of layout from ≡ None → common_slot slots layout from.line to.line ≡ Some c → Made lines slots m layout from to [] c
made_common lines slots m layout from to c b inside free common = record {
  taken = tt;
  same = refl;
  room = tt;
  beside = b;
  joins = λ x y in_x. (λ j. j, λ j. j);
  joined = sym (ap (connect_in lines slots layout from to) common);
  count = moved_new_unmoved lines layout layout from to c b.legal.inlets b.legal.inlets inside free ∙ moved_same layout;
}

-- ---- where none is
other_first : (a b : ℕ) → b ≡ other a b a
other_first a b = sym (ap (λ t. cond t b a) (eq-eqb a a refl))

other_second : (a b : ℕ) → a ≡ other a b b
other_second a b =
    ⊎_elim (λ (e : (eqb b a ≡ true) × (b ≡ a)). sym (ap (λ t. cond t b a) e.0 ∙ e.1)) (λ (e : (eqb b a ≡ false) × (b ≢ a)). sym (ap (λ t. cond t b a) e.0)) (eqb_tells b a)

ready_apart : (lines : ℕ) (layout : Layout) (es : List PathEnds) (moves : List Move) → Ready lines layout es moves → AllApart es
ready_apart lines layout [] moves ready = tt
ready_apart lines layout (e ∷ es) [] ready = absurd ready
ready_apart lines layout (e ∷ es) (v ∷ moves) ready = (ready.1, ready_apart lines layout es moves ready.2)

all_turn : (a b : ℕ) (ps : List Path) → ((k : ℕ) (v : Move) → slice_get (map (moved_by a b) ps) k ≡ Some v → v.old ≢ v.new) → AllTurn a b ps
all_turn a b [] turns = tt
all_turn a b (p ∷ ps) turns = (turns 0 (moved_by a b p) refl, all_turn a b ps (λ k v e. turns (suc k) v e))

all_were : (lines : ℕ) (layout : Layout) (ps : List Path) → AllStand lines layout ps → AllWere layout ps
all_were lines layout [] stand = tt
all_were lines layout (p ∷ ps) stand = (stand.0.path, all_were lines layout ps stand.1)

taken_same : (moves : List Move) (layout : Layout) (es : List PathEnds) → AreTaken layout moves es → length es ≡ length moves
taken_same [] layout [] taken = refl
taken_same [] layout (e ∷ es) taken = absurd taken
taken_same (v ∷ moves) layout [] taken = absurd taken
taken_same (v ∷ moves) layout (e ∷ es) taken = ap (λ n. suc n) (taken_same moves (without_path layout e.from) es taken.1)

-- the same, by the ends that were taken
record MadeWith (lines slots : ℕ) (m : Matrix) (layout : Layout) (from to : Slot) (moves : List Move) (slot : ℕ) (es : List PathEnds) : Type 0 where
  taken : AreTaken layout moves es
  same : length es ≡ length moves
  room : CanLay lines slots (without_all layout es) es moves
  beside : Beside lines slots (exchanged_matrix m moves) (laid (without_all layout es) es moves)
  joins : (x y : Slot) → IsSlot lines x → (Joins (laid (without_all layout es) es moves) x y → Joins layout x y) × (Joins layout x y → Joins (laid (without_all layout es) es moves) x y)
  joined : with_path (laid (without_all layout es) es moves) from to slot ≡ connect lines slots layout from to
  count : moved layout (with_path (laid (without_all layout es) es moves) from to slot) ≡ length moves

made_with : (lines slots : ℕ) (m : Matrix) (layout : Layout) (from to : Slot) (moves : List Move) (slot : ℕ) → MadeWith lines slots m layout from to moves slot (taken_by layout moves) → Made lines slots m layout from to moves slot
made_with lines slots m layout from to moves slot w = record { taken = w.taken; same = w.same; room = w.room; beside = w.beside; joins = w.joins; joined = w.joined; count = w.count }

some_lowest : (o : Option ℕ) → (o ≡ None → ⊥) → o ≡ Some (unwrap_or o 0)
some_lowest None lacks = absurd (lacks refl)
some_lowest (Some n) lacks = refl

-- by the ends that were lifted, and the chain that they are of
made_by : (lines slots : ℕ) (m : Matrix) (layout : Layout) (from to : Slot) (a b t : ℕ) (moves : List Move) (ps : List Path) → m.lines ≡ lines → m.slots ≡ slots → Beside lines slots m layout → IsSlot lines from → hop_of layout from ≡ None
    → AllStand lines layout ps → moves ≡ map (moved_by a b) ps → IsExchange m moves → connect lines slots layout from to ≡ with_path (exchanged layout a b ps) from to t → Made lines slots m layout from to moves t
made_by lines slots m layout from to a b t moves ps of_lines of_slots beside inside free stand are exchange rule =
    let lift = lifts lines slots moves m layout beside (exchange_lifts m moves exchange) in
    let is = taken_is moves layout lift.ends lift.taken in
    let ends : lift.ends ≡ map ends_of ps = taken_chain lines slots layout a b beside.legal ps layout lift.ends beside.legal.inlets stand (λ x y s in_x has. has) (subst (λ v. AreTaken layout v lift.ends) are lift.taken) in
    let lifted_m = lifted_lines moves m in
    let lay = lays lines slots lift.ends moves (lifted m moves) (without_all layout lift.ends) (lifted_m.0 ∙ of_lines) (lifted_m.1 ∙ of_slots) lift.beside lift.ready (exchange_places m moves beside.legal_matrix exchange) in
    let slots_in : AllSlots lines (map ends_of ps) = subst (AllSlots lines) ends lift.within in
    let apart : AllApart (map ends_of ps) = subst AllApart ends (ready_apart lines (without_all layout lift.ends) lift.ends moves lift.ready) in
    let after : laid (without_all layout lift.ends) lift.ends moves ≡ exchanged layout a b ps =
    ap (λ v. laid (without_all layout lift.ends) lift.ends v) are ∙ ap (λ es. laid (without_all layout es) es (map (moved_by a b) ps)) ends ∙ laid_is lines a b ps layout slots_in apart in
    let were = all_were lines layout ps stand in
    let turn = all_turn a b ps (λ k v e. exchange.turns k v (subst (λ ms. slice_get ms k ≡ Some v) (sym are) e)) in
    let Whole : List PathEnds → Type 0 = λ es. MadeWith lines slots m layout from to moves t es in
    made_with lines slots m layout from to moves t
    (subst Whole is (record {
      taken = lift.taken;
      same = taken_same moves layout lift.ends lift.taken;
      room = lay.can;
      beside = lay.beside;
      joins = λ x y in_x.
          let j = exchange_joins lines a b ps layout beside.legal.inlets slots_in apart were x y in_x in
          (λ q. j.0 (subst (λ l. Joins l x y) after q), λ q. subst (λ l. Joins l x y) (sym after) (j.1 q));
      joined = ap (λ l. with_path l from to t) after ∙ sym rule;
      count = ap (λ l. moved layout (with_path l from to t)) after
          ∙ moved_new_unmoved lines layout (exchanged layout a b ps) from to t beside.legal.inlets (length-exchanged a b ps layout ∙ beside.legal.inlets) inside free
          ∙ chain_moved lines a b layout ps layout beside.legal.inlets beside.legal.inlets slots_in apart turn were were
          ∙ ap (λ n. n + length ps) (moved_same layout) ∙ zero-add (length ps) ∙ sym (ap length are ∙ length-map ps (moved_by a b));
    }))

made_chain : (lines slots : ℕ) (m : Matrix) (layout : Layout) (from to : Slot) → m.lines ≡ lines → m.slots ≡ slots → Beside lines slots m layout → IsSlot lines from → IsSlot lines to → hop_of layout from ≡ None
    → paths_of_row m from.line < m.slots → paths_of_column m to.line < m.slots → lowest_in_both m from.line to.line ≡ None
    → Made lines slots m layout from to (moves_by m from.line to.line None) (slot_by m from.line to.line None)
made_chain lines slots m layout from to of_lines of_slots b inside inside_to free row column none =
    by (is_shorter (row_chain m from.line to.line) (column_chain m from.line to.line)) refl
  where
    can : Ways m from.line to.line (slot_a m from.line) (slot_b m to.line)
    can = ways m from.line to.line (slot_a m from.line) (slot_b m to.line) b.legal_matrix (subst (λ n. from.line < n) (sym of_lines) inside.0) (subst (λ n. to.line < n) (sym of_lines) inside_to.0) none
        (some_lowest (lowest_in_row m from.line) (row_lacks_one m from.line m.slots refl row)) (some_lowest (lowest_in_column m to.line) (column_lacks_one m to.line m.slots refl column))

    by_column : column_chain m from.line to.line ≡ map (moved_by (slot_a m from.line) (slot_b m to.line)) (paths_of_column_chain lines layout to.line (slot_a m from.line) (slot_b m to.line))
    by_column = ap (λ n. matrix_chain (look_far m) (2 * n) (Column to.line) (slot_a m from.line) (slot_b m to.line)) of_lines
        ∙ chains_match lines slots m layout (slot_a m from.line) (slot_b m to.line) b (2 * lines) Outgoing to.line (slot_a m from.line) (slot_b m to.line) (other_first (slot_a m from.line) (slot_b m to.line)) (other_second (slot_a m from.line) (slot_b m to.line))

    by_row : row_chain m from.line to.line ≡ map (moved_by (slot_a m from.line) (slot_b m to.line)) (paths_of_row_chain lines layout from.line (slot_a m from.line) (slot_b m to.line))
    by_row = ap (λ n. matrix_chain (look_far m) (2 * n) (Row from.line) (slot_b m to.line) (slot_a m from.line)) of_lines
        ∙ chains_match lines slots m layout (slot_a m from.line) (slot_b m to.line) b (2 * lines) Incoming from.line (slot_b m to.line) (slot_a m from.line) (other_second (slot_a m from.line) (slot_b m to.line)) (other_first (slot_a m from.line) (slot_b m to.line))

    same_choice : is_shorter (row_chain m from.line to.line) (column_chain m from.line to.line) ≡ takes_row lines layout from.line to.line (slot_a m from.line) (slot_b m to.line)
    same_choice =
        ap (λ n. nat_lt n (length (column_chain m from.line to.line))) (ap length by_row ∙ length-map (paths_of_row_chain lines layout from.line (slot_a m from.line) (slot_b m to.line)) (moved_by (slot_a m from.line) (slot_b m to.line)))
        ∙ ap (λ n. nat_lt (length (paths_of_row_chain lines layout from.line (slot_a m from.line) (slot_b m to.line))) n) (ap length by_column ∙ length-map (paths_of_column_chain lines layout to.line (slot_a m from.line) (slot_b m to.line)) (moved_by (slot_a m from.line) (slot_b m to.line)))

    rule : connect lines slots layout from to ≡ joined_after lines layout from to (slot_a m from.line) (slot_b m to.line) (is_shorter (row_chain m from.line to.line) (column_chain m from.line to.line))
    rule =
        ap (connect_in lines slots layout from to) (sym (lowest_in_both_common lines slots m layout of_slots b from.line to.line) ∙ none)
        ∙ ap (λ s. joined_after lines layout from to s (first_unreceived slots layout to.line) (takes_row lines layout from.line to.line s (first_unreceived slots layout to.line))) (sym (unsent_slot lines slots m layout of_slots b from.line))
        ∙ ap (λ s. joined_after lines layout from to (slot_a m from.line) s (takes_row lines layout from.line to.line (slot_a m from.line) s)) (sym (unreceived_slot lines slots m layout of_slots b to.line))
        ∙ ap (joined_after lines layout from to (slot_a m from.line) (slot_b m to.line)) (sym same_choice)

    by : (t : Bool) → is_shorter (row_chain m from.line to.line) (column_chain m from.line to.line) ≡ t
        → Made lines slots m layout from to (if t then row_chain m from.line to.line else column_chain m from.line to.line) (if t then slot_b m to.line else slot_a m from.line)
    by true less =
        made_by lines slots m layout from to (slot_a m from.line) (slot_b m to.line) (slot_b m to.line) (row_chain m from.line to.line) (paths_of_row_chain lines layout from.line (slot_a m from.line) (slot_b m to.line)) of_lines of_slots b inside free
        (chain_stands lines slots layout b.legal (2 * lines) Incoming from.line (slot_b m to.line) (slot_a m from.line)) by_row
        (chain_exchanges m (slot_a m from.line) (slot_b m to.line) (Row from.line) (Column to.line) b.legal_matrix can.a_inside can.b_inside (turned_round (look_far m) (slot_a m from.line) (slot_b m to.line) m.lines (Column to.line) (Row from.line) can.opened))
        (rule ∙ ap (joined_after lines layout from to (slot_a m from.line) (slot_b m to.line)) less)
    by false more =
        made_by lines slots m layout from to (slot_a m from.line) (slot_b m to.line) (slot_a m from.line) (column_chain m from.line to.line) (paths_of_column_chain lines layout to.line (slot_a m from.line) (slot_b m to.line)) of_lines of_slots b inside free
        (chain_stands lines slots layout b.legal (2 * lines) Outgoing to.line (slot_a m from.line) (slot_b m to.line)) by_column
        (chain_exchanges m (slot_a m from.line) (slot_b m to.line) (Column to.line) (Row from.line) b.legal_matrix can.a_inside can.b_inside can.opened)
        (rule ∙ ap (joined_after lines layout from to (slot_a m from.line) (slot_b m to.line)) more)

pub made : (lines slots : ℕ) (m : Matrix) (layout : Layout) (from to : Slot) → m.lines ≡ lines → m.slots ≡ slots → Beside lines slots m layout → IsSlot lines from → IsSlot lines to → hop_of layout from ≡ None
    → paths_of_row m from.line < m.slots → paths_of_column m to.line < m.slots → Made lines slots m layout from to (moves_for m from.line to.line) (slot_for m from.line to.line)
made lines slots m layout from to of_lines of_slots b inside inside_to free row column =
    by_common (lowest_in_both m from.line to.line) refl
  where
    by_common : (o : Option ℕ) → lowest_in_both m from.line to.line ≡ o → Made lines slots m layout from to (moves_by m from.line to.line o) (slot_by m from.line to.line o)
    by_common (Some c) e = made_common lines slots m layout from to c b inside free (sym (lowest_in_both_common lines slots m layout of_slots b from.line to.line) ∙ e)
    by_common None e = made_chain lines slots m layout from to of_lines of_slots b inside inside_to free row column e
