use Rattle.std.proofs.Common.{rules, ◌<◌, ◌+◌, ◌∙◌, length, get_or, drop, sym, ap, subst, arith}
use Rattle.paull_matrix.specs.InTurn.{placed, CanPlace}
use Rattle.paull_matrix.specs.Tabled.{tabled}
use Rattle.paull_matrix.proofs.Tables.{place_within, kept_place, tabled_place}
use Rattle.paull_matrix.proofs.TurnLemmas.{place_turn}
use Rattle.paull_matrix.proofs.matrix.place_each.Goals as goal

pub bounds-columns-place_of : goal.bounds-columns-place_of
bounds-columns-place_of c =
    let turn = place_turn (tabled (length c.args.row_words.now) c.args.slots c.loop-moved.columns) c.args.moves.now c.loop-moved.moved-index (c.loop-moved.moved-index + 1) (record { row = 0; column = 0; old = 0; new = 0 }) c.loop-moved-test.true (omega arith) c.loop-moved.invariant.can in
    let kept = c.loop-moved.invariant.kept in
    let row : (get_or c.args.moves.now c.loop-moved.moved-index (record { row = 0; column = 0; old = 0; new = 0 })).row < length c.args.row_words.now = turn.room.row in
    let column : (get_or c.args.moves.now c.loop-moved.moved-index (record { row = 0; column = 0; old = 0; new = 0 })).column < length c.args.row_words.now = turn.room.column in
    let slot : (get_or c.args.moves.now c.loop-moved.moved-index (record { row = 0; column = 0; old = 0; new = 0 })).new < c.args.slots = turn.room.slot in
    place_within c.loop-moved.columns (length c.args.row_words.now) c.args.slots (get_or c.args.moves.now c.loop-moved.moved-index (record { row = 0; column = 0; old = 0; new = 0 })).row (get_or c.args.moves.now c.loop-moved.moved-index (record { row = 0; column = 0; old = 0; new = 0 })).new c.place_of.result kept.row_places row slot c.place_of.ensures

pub bounds-rows-place_of : goal.bounds-rows-place_of
bounds-rows-place_of c =
    let turn = place_turn (tabled (length c.args.row_words.now) c.args.slots c.loop-moved.columns) c.args.moves.now c.loop-moved.moved-index (c.loop-moved.moved-index + 1) (record { row = 0; column = 0; old = 0; new = 0 }) c.loop-moved-test.true (omega arith) c.loop-moved.invariant.can in
    let kept = c.loop-moved.invariant.kept in
    let row : (get_or c.args.moves.now c.loop-moved.moved-index (record { row = 0; column = 0; old = 0; new = 0 })).row < length c.args.row_words.now = turn.room.row in
    let column : (get_or c.args.moves.now c.loop-moved.moved-index (record { row = 0; column = 0; old = 0; new = 0 })).column < length c.args.row_words.now = turn.room.column in
    let slot : (get_or c.args.moves.now c.loop-moved.moved-index (record { row = 0; column = 0; old = 0; new = 0 })).new < c.args.slots = turn.room.slot in
    place_within c.loop-moved.rows (length c.args.row_words.now) c.args.slots (get_or c.args.moves.now c.loop-moved.moved-index (record { row = 0; column = 0; old = 0; new = 0 })).column (get_or c.args.moves.now c.loop-moved.moved-index (record { row = 0; column = 0; old = 0; new = 0 })).new c.place_of-in-loop-moved.result kept.column_places column slot c.place_of-in-loop-moved.ensures

pub offset_bounds-rows-place_of : goal.offset_bounds-rows-place_of
offset_bounds-rows-place_of c =
    let within = bounds-rows-place_of c in
    search (rules, within)

pub mark_in-requires-clause-line : goal.mark_in-requires-clause-line
mark_in-requires-clause-line c =
    let turn = place_turn (tabled (length c.args.row_words.now) c.args.slots c.loop-moved.columns) c.args.moves.now c.loop-moved.moved-index (c.loop-moved.moved-index + 1) (record { row = 0; column = 0; old = 0; new = 0 }) c.loop-moved-test.true (omega arith) c.loop-moved.invariant.can in
    let kept = c.loop-moved.invariant.kept in
    let row : (get_or c.args.moves.now c.loop-moved.moved-index (record { row = 0; column = 0; old = 0; new = 0 })).row < length c.args.row_words.now = turn.room.row in
    let column : (get_or c.args.moves.now c.loop-moved.moved-index (record { row = 0; column = 0; old = 0; new = 0 })).column < length c.args.row_words.now = turn.room.column in
    let slot : (get_or c.args.moves.now c.loop-moved.moved-index (record { row = 0; column = 0; old = 0; new = 0 })).new < c.args.slots = turn.room.slot in
    omega (arith, row, kept.row_marks.each_line)

pub mark_in-requires-clause-slot : goal.mark_in-requires-clause-slot
mark_in-requires-clause-slot c =
    let turn = place_turn (tabled (length c.args.row_words.now) c.args.slots c.loop-moved.columns) c.args.moves.now c.loop-moved.moved-index (c.loop-moved.moved-index + 1) (record { row = 0; column = 0; old = 0; new = 0 }) c.loop-moved-test.true (omega arith) c.loop-moved.invariant.can in
    let kept = c.loop-moved.invariant.kept in
    let row : (get_or c.args.moves.now c.loop-moved.moved-index (record { row = 0; column = 0; old = 0; new = 0 })).row < length c.args.row_words.now = turn.room.row in
    let column : (get_or c.args.moves.now c.loop-moved.moved-index (record { row = 0; column = 0; old = 0; new = 0 })).column < length c.args.row_words.now = turn.room.column in
    let slot : (get_or c.args.moves.now c.loop-moved.moved-index (record { row = 0; column = 0; old = 0; new = 0 })).new < c.args.slots = turn.room.slot in
    omega (arith, slot, kept.legal.slots_within)

pub mark_in-requires-in-loop-moved-clause-line : goal.mark_in-requires-in-loop-moved-clause-line
mark_in-requires-in-loop-moved-clause-line c =
    let turn = place_turn (tabled (length c.args.row_words.now) c.args.slots c.loop-moved.columns) c.args.moves.now c.loop-moved.moved-index (c.loop-moved.moved-index + 1) (record { row = 0; column = 0; old = 0; new = 0 }) c.loop-moved-test.true (omega arith) c.loop-moved.invariant.can in
    let kept = c.loop-moved.invariant.kept in
    let row : (get_or c.args.moves.now c.loop-moved.moved-index (record { row = 0; column = 0; old = 0; new = 0 })).row < length c.args.row_words.now = turn.room.row in
    let column : (get_or c.args.moves.now c.loop-moved.moved-index (record { row = 0; column = 0; old = 0; new = 0 })).column < length c.args.row_words.now = turn.room.column in
    let slot : (get_or c.args.moves.now c.loop-moved.moved-index (record { row = 0; column = 0; old = 0; new = 0 })).new < c.args.slots = turn.room.slot in
    omega (arith, column, kept.column_marks.each_line)

pub mark_in-requires-in-loop-moved-clause-slot : goal.mark_in-requires-in-loop-moved-clause-slot
mark_in-requires-in-loop-moved-clause-slot c =
    let turn = place_turn (tabled (length c.args.row_words.now) c.args.slots c.loop-moved.columns) c.args.moves.now c.loop-moved.moved-index (c.loop-moved.moved-index + 1) (record { row = 0; column = 0; old = 0; new = 0 }) c.loop-moved-test.true (omega arith) c.loop-moved.invariant.can in
    let kept = c.loop-moved.invariant.kept in
    let row : (get_or c.args.moves.now c.loop-moved.moved-index (record { row = 0; column = 0; old = 0; new = 0 })).row < length c.args.row_words.now = turn.room.row in
    let column : (get_or c.args.moves.now c.loop-moved.moved-index (record { row = 0; column = 0; old = 0; new = 0 })).column < length c.args.row_words.now = turn.room.column in
    let slot : (get_or c.args.moves.now c.loop-moved.moved-index (record { row = 0; column = 0; old = 0; new = 0 })).new < c.args.slots = turn.room.slot in
    omega (arith, slot, kept.legal.slots_within)

pub loop-moved-preserved : goal.loop-moved-preserved
loop-moved-preserved c =
    let turn = place_turn (tabled (length c.args.row_words.now) c.args.slots c.loop-moved.columns) c.args.moves.now c.loop-moved.moved-index (c.loop-moved.moved-index + 1) (record { row = 0; column = 0; old = 0; new = 0 }) c.loop-moved-test.true (omega arith) c.loop-moved.invariant.can in
    let kept = c.loop-moved.invariant.kept in
    let row : (get_or c.args.moves.now c.loop-moved.moved-index (record { row = 0; column = 0; old = 0; new = 0 })).row < length c.args.row_words.now = turn.room.row in
    let column : (get_or c.args.moves.now c.loop-moved.moved-index (record { row = 0; column = 0; old = 0; new = 0 })).column < length c.args.row_words.now = turn.room.column in
    let slot : (get_or c.args.moves.now c.loop-moved.moved-index (record { row = 0; column = 0; old = 0; new = 0 })).new < c.args.slots = turn.room.slot in
    let written = tabled_place (length c.args.row_words.now) c.args.slots c.loop-moved.columns (get_or c.args.moves.now c.loop-moved.moved-index (record { row = 0; column = 0; old = 0; new = 0 })).row (get_or c.args.moves.now c.loop-moved.moved-index (record { row = 0; column = 0; old = 0; new = 0 })).column (get_or c.args.moves.now c.loop-moved.moved-index (record { row = 0; column = 0; old = 0; new = 0 })).new kept.row_places row slot in
    record {
      kept =
          rw (c.place_of.ensures, c.place_of-in-loop-moved.ensures, c.mark_in.ensures.set, c.mark_in-in-loop-moved.ensures.set)
          (kept_place (length c.args.row_words.now) c.args.slots c.loop-moved.columns c.loop-moved.rows c.loop-moved.row_words c.loop-moved.column_words (get_or c.args.moves.now c.loop-moved.moved-index (record { row = 0; column = 0; old = 0; new = 0 })).row (get_or c.args.moves.now c.loop-moved.moved-index (record { row = 0; column = 0; old = 0; new = 0 })).column (get_or c.args.moves.now c.loop-moved.moved-index (record { row = 0; column = 0; old = 0; new = 0 })).new kept row column slot turn.room.row_free turn.room.column_free);
      can = rw c.place_of.ensures (subst (λ m. CanPlace m (drop (c.loop-moved.moved-index + 1) c.args.moves.now)) (sym written) turn.can);
      rest = rw c.place_of.ensures (ap (λ m. placed m (drop (c.loop-moved.moved-index + 1) c.args.moves.now)) written ∙ turn.rest ∙ c.loop-moved.invariant.rest);
    }
