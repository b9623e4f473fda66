use Rattle.std.proofs.Common.{rules, ◌<◌, ◌+◌, ◌∙◌, length, get_or, drop, sym, ap, subst, arith}
use Rattle.paull_matrix.specs.InTurn.{lifted, CanLift}
use Rattle.paull_matrix.specs.Tabled.{tabled}
use Rattle.paull_matrix.proofs.Tables.{place_within, kept_lift, tabled_lift}
use Rattle.paull_matrix.proofs.TurnLemmas.{lift_turn}
use Rattle.paull_matrix.proofs.matrix.lift_each.Goals as goal

pub bounds-columns-place_of : goal.bounds-columns-place_of
bounds-columns-place_of c =
    let turn = lift_turn (tabled (length c.args.row_words.now) c.args.slots c.loop-moved.columns) c.args.moves.now c.loop-moved.moved-index (c.loop-moved.moved-index + 1) (record { row = 0; column = 0; old = 0; new = 0 }) c.loop-moved-test.true (omega arith) c.loop-moved.invariant.can in
    let kept = c.loop-moved.invariant.kept in
    let row : (get_or c.args.moves.now c.loop-moved.moved-index (record { row = 0; column = 0; old = 0; new = 0 })).row < length c.args.row_words.now = kept.legal.row_within _ _ _ turn.stands in
    let column : (get_or c.args.moves.now c.loop-moved.moved-index (record { row = 0; column = 0; old = 0; new = 0 })).column < length c.args.row_words.now = kept.legal.column_within _ _ _ turn.stands in
    let slot : (get_or c.args.moves.now c.loop-moved.moved-index (record { row = 0; column = 0; old = 0; new = 0 })).old < c.args.slots = kept.legal.slot_within _ _ _ turn.stands in
    place_within c.loop-moved.columns (length c.args.row_words.now) c.args.slots (get_or c.args.moves.now c.loop-moved.moved-index (record { row = 0; column = 0; old = 0; new = 0 })).row (get_or c.args.moves.now c.loop-moved.moved-index (record { row = 0; column = 0; old = 0; new = 0 })).old c.place_of.result kept.row_places row slot c.place_of.ensures

pub bounds-rows-place_of : goal.bounds-rows-place_of
bounds-rows-place_of c =
    let turn = lift_turn (tabled (length c.args.row_words.now) c.args.slots c.loop-moved.columns) c.args.moves.now c.loop-moved.moved-index (c.loop-moved.moved-index + 1) (record { row = 0; column = 0; old = 0; new = 0 }) c.loop-moved-test.true (omega arith) c.loop-moved.invariant.can in
    let kept = c.loop-moved.invariant.kept in
    let row : (get_or c.args.moves.now c.loop-moved.moved-index (record { row = 0; column = 0; old = 0; new = 0 })).row < length c.args.row_words.now = kept.legal.row_within _ _ _ turn.stands in
    let column : (get_or c.args.moves.now c.loop-moved.moved-index (record { row = 0; column = 0; old = 0; new = 0 })).column < length c.args.row_words.now = kept.legal.column_within _ _ _ turn.stands in
    let slot : (get_or c.args.moves.now c.loop-moved.moved-index (record { row = 0; column = 0; old = 0; new = 0 })).old < c.args.slots = kept.legal.slot_within _ _ _ turn.stands in
    place_within c.loop-moved.rows (length c.args.row_words.now) c.args.slots (get_or c.args.moves.now c.loop-moved.moved-index (record { row = 0; column = 0; old = 0; new = 0 })).column (get_or c.args.moves.now c.loop-moved.moved-index (record { row = 0; column = 0; old = 0; new = 0 })).old c.place_of-in-loop-moved.result kept.column_places column slot c.place_of-in-loop-moved.ensures

pub offset_bounds-rows-place_of : goal.offset_bounds-rows-place_of
offset_bounds-rows-place_of c =
    let within = bounds-rows-place_of c in
    search (rules, within)

pub unmark_in-requires-clause-line : goal.unmark_in-requires-clause-line
unmark_in-requires-clause-line c =
    let turn = lift_turn (tabled (length c.args.row_words.now) c.args.slots c.loop-moved.columns) c.args.moves.now c.loop-moved.moved-index (c.loop-moved.moved-index + 1) (record { row = 0; column = 0; old = 0; new = 0 }) c.loop-moved-test.true (omega arith) c.loop-moved.invariant.can in
    let kept = c.loop-moved.invariant.kept in
    let row : (get_or c.args.moves.now c.loop-moved.moved-index (record { row = 0; column = 0; old = 0; new = 0 })).row < length c.args.row_words.now = kept.legal.row_within _ _ _ turn.stands in
    let column : (get_or c.args.moves.now c.loop-moved.moved-index (record { row = 0; column = 0; old = 0; new = 0 })).column < length c.args.row_words.now = kept.legal.column_within _ _ _ turn.stands in
    let slot : (get_or c.args.moves.now c.loop-moved.moved-index (record { row = 0; column = 0; old = 0; new = 0 })).old < c.args.slots = kept.legal.slot_within _ _ _ turn.stands in
    omega (arith, row, kept.row_marks.each_line)

pub unmark_in-requires-clause-slot : goal.unmark_in-requires-clause-slot
unmark_in-requires-clause-slot c =
    let turn = lift_turn (tabled (length c.args.row_words.now) c.args.slots c.loop-moved.columns) c.args.moves.now c.loop-moved.moved-index (c.loop-moved.moved-index + 1) (record { row = 0; column = 0; old = 0; new = 0 }) c.loop-moved-test.true (omega arith) c.loop-moved.invariant.can in
    let kept = c.loop-moved.invariant.kept in
    let row : (get_or c.args.moves.now c.loop-moved.moved-index (record { row = 0; column = 0; old = 0; new = 0 })).row < length c.args.row_words.now = kept.legal.row_within _ _ _ turn.stands in
    let column : (get_or c.args.moves.now c.loop-moved.moved-index (record { row = 0; column = 0; old = 0; new = 0 })).column < length c.args.row_words.now = kept.legal.column_within _ _ _ turn.stands in
    let slot : (get_or c.args.moves.now c.loop-moved.moved-index (record { row = 0; column = 0; old = 0; new = 0 })).old < c.args.slots = kept.legal.slot_within _ _ _ turn.stands in
    omega (arith, slot, kept.legal.slots_within)

pub unmark_in-requires-in-loop-moved-clause-line : goal.unmark_in-requires-in-loop-moved-clause-line
unmark_in-requires-in-loop-moved-clause-line c =
    let turn = lift_turn (tabled (length c.args.row_words.now) c.args.slots c.loop-moved.columns) c.args.moves.now c.loop-moved.moved-index (c.loop-moved.moved-index + 1) (record { row = 0; column = 0; old = 0; new = 0 }) c.loop-moved-test.true (omega arith) c.loop-moved.invariant.can in
    let kept = c.loop-moved.invariant.kept in
    let row : (get_or c.args.moves.now c.loop-moved.moved-index (record { row = 0; column = 0; old = 0; new = 0 })).row < length c.args.row_words.now = kept.legal.row_within _ _ _ turn.stands in
    let column : (get_or c.args.moves.now c.loop-moved.moved-index (record { row = 0; column = 0; old = 0; new = 0 })).column < length c.args.row_words.now = kept.legal.column_within _ _ _ turn.stands in
    let slot : (get_or c.args.moves.now c.loop-moved.moved-index (record { row = 0; column = 0; old = 0; new = 0 })).old < c.args.slots = kept.legal.slot_within _ _ _ turn.stands in
    omega (arith, column, kept.column_marks.each_line)

pub unmark_in-requires-in-loop-moved-clause-slot : goal.unmark_in-requires-in-loop-moved-clause-slot
unmark_in-requires-in-loop-moved-clause-slot c =
    let turn = lift_turn (tabled (length c.args.row_words.now) c.args.slots c.loop-moved.columns) c.args.moves.now c.loop-moved.moved-index (c.loop-moved.moved-index + 1) (record { row = 0; column = 0; old = 0; new = 0 }) c.loop-moved-test.true (omega arith) c.loop-moved.invariant.can in
    let kept = c.loop-moved.invariant.kept in
    let row : (get_or c.args.moves.now c.loop-moved.moved-index (record { row = 0; column = 0; old = 0; new = 0 })).row < length c.args.row_words.now = kept.legal.row_within _ _ _ turn.stands in
    let column : (get_or c.args.moves.now c.loop-moved.moved-index (record { row = 0; column = 0; old = 0; new = 0 })).column < length c.args.row_words.now = kept.legal.column_within _ _ _ turn.stands in
    let slot : (get_or c.args.moves.now c.loop-moved.moved-index (record { row = 0; column = 0; old = 0; new = 0 })).old < c.args.slots = kept.legal.slot_within _ _ _ turn.stands in
    omega (arith, slot, kept.legal.slots_within)

pub loop-moved-preserved : goal.loop-moved-preserved
loop-moved-preserved c =
    let turn = lift_turn (tabled (length c.args.row_words.now) c.args.slots c.loop-moved.columns) c.args.moves.now c.loop-moved.moved-index (c.loop-moved.moved-index + 1) (record { row = 0; column = 0; old = 0; new = 0 }) c.loop-moved-test.true (omega arith) c.loop-moved.invariant.can in
    let kept = c.loop-moved.invariant.kept in
    let row : (get_or c.args.moves.now c.loop-moved.moved-index (record { row = 0; column = 0; old = 0; new = 0 })).row < length c.args.row_words.now = kept.legal.row_within _ _ _ turn.stands in
    let column : (get_or c.args.moves.now c.loop-moved.moved-index (record { row = 0; column = 0; old = 0; new = 0 })).column < length c.args.row_words.now = kept.legal.column_within _ _ _ turn.stands in
    let slot : (get_or c.args.moves.now c.loop-moved.moved-index (record { row = 0; column = 0; old = 0; new = 0 })).old < c.args.slots = kept.legal.slot_within _ _ _ turn.stands in
    let written = tabled_lift (length c.args.row_words.now) c.args.slots c.loop-moved.columns (get_or c.args.moves.now c.loop-moved.moved-index (record { row = 0; column = 0; old = 0; new = 0 })).row (get_or c.args.moves.now c.loop-moved.moved-index (record { row = 0; column = 0; old = 0; new = 0 })).old kept.row_places row slot in
    record {
      kept =
          rw (c.place_of.ensures, c.place_of-in-loop-moved.ensures, c.unmark_in.ensures.cleared, c.unmark_in-in-loop-moved.ensures.cleared)
          (kept_lift (length c.args.row_words.now) c.args.slots c.loop-moved.columns c.loop-moved.rows c.loop-moved.row_words c.loop-moved.column_words (get_or c.args.moves.now c.loop-moved.moved-index (record { row = 0; column = 0; old = 0; new = 0 })).row (get_or c.args.moves.now c.loop-moved.moved-index (record { row = 0; column = 0; old = 0; new = 0 })).column (get_or c.args.moves.now c.loop-moved.moved-index (record { row = 0; column = 0; old = 0; new = 0 })).old kept turn.stands);
      can = rw c.place_of.ensures (subst (λ m. CanLift m (drop (c.loop-moved.moved-index + 1) c.args.moves.now)) (sym written) turn.can);
      rest = rw c.place_of.ensures (ap (λ m. lifted m (drop (c.loop-moved.moved-index + 1) c.args.moves.now)) written ∙ turn.rest ∙ c.loop-moved.invariant.rest);
    }
