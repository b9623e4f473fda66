use Rattle.std.proofs.Common.{◌≡◌, refl, sym, subst, ◌∙◌, rules, arith}
use Rattle.paull_matrix.specs.Matrix.{Matrix}
use Rattle.paull_matrix.proofs.Laws.{lowest_in_both_is}
use Rattle.rearrange_chain.specs.Chain.{exchanged}
use Rattle.paull_matrix.specs.InTurn.{CanLift}
use Rattle.rearrange_chain.proofs.Exchange.{exchange_lifts, exchange_places}
use Rattle.rearrange_chain.proofs.Freed.{Rearranged, ways, length-chains-le, shorter_room, rearranges_shorter}
use Rattle.rearrange_chain.proofs.room.make_room.Goals as goal
use Rattle.rearrange_chain.proofs.room.make_room.Goals.{After-place_all}
use Rattle.rearrange_chain.proofs.room.make_room.Given.{Over}

pub returns-in-Some-clause-row_free : goal.returns-in-Some-clause-row_free
returns-in-Some-clause-row_free g c = (lowest_in_both_is c.args.matrix.now c.args.i c.args.j c.in-Some.common (sym c.in-Some.ensures.lowest)).0

pub returns-in-Some-clause-column_free : goal.returns-in-Some-clause-column_free
returns-in-Some-clause-column_free g c = (lowest_in_both_is c.args.matrix.now c.args.i c.args.j c.in-Some.common (sym c.in-Some.ensures.lowest)).1

pub returns-in-Some-clause-within : goal.returns-in-Some-clause-within
returns-in-Some-clause-within g c = (lowest_in_both_is c.args.matrix.now c.args.i c.args.j c.in-Some.common (sym c.in-Some.ensures.lowest)).2

pub list_shorter-slot-requires-clause-slots : goal.list_shorter-slot-requires-clause-slots
list_shorter-slot-requires-clause-slots g c =
    let both = (ways c.args.matrix.now c.args.i c.args.j c.free_in_row-a.result c.free_in_column-b.result c.free_in_row-a.ensures.legal c.requires.row c.requires.column (search rules) c.free_in_row-a.ensures.lowest c.free_in_column-b.ensures.lowest) in
    (both.a_inside, both.b_inside)

pub list_shorter-slot-requires-clause-bound : goal.list_shorter-slot-requires-clause-bound
list_shorter-slot-requires-clause-bound g c = length-chains-le c.args.matrix.now c.args.i c.args.j c.free_in_row-a.result c.free_in_column-b.result (ways c.args.matrix.now c.args.i c.args.j c.free_in_row-a.result c.free_in_column-b.result c.free_in_row-a.ensures.legal c.requires.row c.requires.column (search rules) c.free_in_row-a.ensures.lowest c.free_in_column-b.ensures.lowest)

pub lift_all-requires : goal.lift_all-requires
lift_all-requires g c =
    let room = shorter_room c.args.matrix.now c.args.i c.args.j c.free_in_row-a.result c.free_in_column-b.result (ways c.args.matrix.now c.args.i c.args.j c.free_in_row-a.result c.free_in_column-b.result c.free_in_row-a.ensures.legal c.requires.row c.requires.column (search rules) c.free_in_row-a.ensures.lowest c.free_in_column-b.ensures.lowest) in
    record { stand = subst (CanLift c.args.matrix.now) (sym (c.deref.ensures.0 ∙ c.list_shorter-slot.ensures.moves)) (exchange_lifts c.args.matrix.now _ room.exchange) }

pub place_all-requires : goal.place_all-requires
place_all-requires g c =
    let room = shorter_room c.args.matrix.now c.args.i c.args.j c.free_in_row-a.result c.free_in_column-b.result (ways c.args.matrix.now c.args.i c.args.j c.free_in_row-a.result c.free_in_column-b.result c.free_in_row-a.ensures.legal c.requires.row c.requires.column (search rules) c.free_in_row-a.ensures.lowest c.free_in_column-b.ensures.lowest) in
    let once = c.deref.ensures.0 ∙ c.list_shorter-slot.ensures.moves in
    let again = c.deref-2.ensures.0 ∙ c.list_shorter-slot.ensures.moves in
    record {
      room =
          rw (c.lift_all.ensures.lifted, once, again) (exchange_places c.args.matrix.now _ c.free_in_row-a.ensures.legal room.exchange);
    }

-- what is there in the end
after : (g : Over) (c : After-place_all g) → Rearranged c.args.matrix.now c.place_all.new.self c.args.i c.args.j c.list_shorter-slot.result c.list_shorter-slot.new.moves.items
after g c =
    let done = rearranges_shorter c.args.matrix.now c.args.i c.args.j c.free_in_row-a.result c.free_in_column-b.result c.list_shorter-slot.result c.list_shorter-slot.new.moves.items (ways c.args.matrix.now c.args.i c.args.j c.free_in_row-a.result c.free_in_column-b.result c.free_in_row-a.ensures.legal c.requires.row c.requires.column (search rules) c.free_in_row-a.ensures.lowest c.free_in_column-b.ensures.lowest) c.list_shorter-slot.ensures.moves c.list_shorter-slot.ensures.slot in
    let is : c.place_all.new.self ≡ exchanged c.args.matrix.now c.list_shorter-slot.new.moves.items = c.place_all.ensures.placed ∙ rw (c.lift_all.ensures.lifted, c.deref.ensures.0, c.deref-2.ensures.0) refl in
    subst (λ (m : Matrix). Rearranged c.args.matrix.now m c.args.i c.args.j c.list_shorter-slot.result c.list_shorter-slot.new.moves.items) (sym is) done

pub returns-clause-changes : goal.returns-clause-changes
returns-clause-changes g c = (after g c).changes

pub returns-clause-cells : goal.returns-clause-cells
returns-clause-cells g c = (after g c).cells

pub returns-clause-row_free : goal.returns-clause-row_free
returns-clause-row_free g c = (after g c).row_free

pub returns-clause-column_free : goal.returns-clause-column_free
returns-clause-column_free g c = (after g c).column_free

pub returns-clause-within : goal.returns-clause-within
returns-clause-within g c = (after g c).within

pub returns-clause-bound : goal.returns-clause-bound
returns-clause-bound g c = (after g c).bound

pub returns-clause-legal : goal.returns-clause-legal
returns-clause-legal g c = (after g c).legal

pub returns-clause-sizes : goal.returns-clause-sizes
returns-clause-sizes g c = (after g c).sizes

pub returns-clause-looks : goal.returns-clause-looks
returns-clause-looks g c =
    let few = length-chains-le c.args.matrix.now c.args.i c.args.j c.free_in_row-a.result c.free_in_column-b.result (ways c.args.matrix.now c.args.i c.args.j c.free_in_row-a.result c.free_in_column-b.result c.free_in_row-a.ensures.legal c.requires.row c.requires.column (search rules) c.free_in_row-a.ensures.lowest c.free_in_column-b.ensures.lowest) in
    omega (arith, few, c.list_shorter-slot.ensures.looks, c.free_in_row-a.ensures.looks, c.free_in_column-b.ensures.looks, c.in_default.ensures.looks)
