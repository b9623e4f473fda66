use Rattle.std.proofs.Common.{◌≡◌, ℕ, ◌≤◌, ◌<◌, length, get_or, nat_abs, List, ℤ, pos, ◌-ℤ◌, to_z, of_z, ap, sym, ◌∙◌, arith}
use Rattle.std.specs.Int.{w32}
use Rattle.std.proofs.lemmas.Int.{ints}
use Rattle.std.proofs.lemmas.List.{get_or_read}
use Rattle.std.proofs.lemmas.Grind.{get_or_default_zero}
use mir.Val.{SFits}
use Rattle.circuit_model.specs.ALaw.{compress}
use Rattle.conference_mix.specs.Rooms.{given_at}
use Rattle.conference_mix.proofs.SeatFacts.{port_near, total-small, compress_given_kept}
use Rattle.conference_mix.proofs.mixer.Mixer.total_without.Goals as goal

pub offset_bounds-self-inside-port : goal.offset_bounds-self-inside-port
offset_bounds-self-inside-port c = let near = port_near _ _ _ _ c.args.port c.self.view_is c.requires in let few = c.self.invariant.few in omega (arith, near, few)

pub bounds-self-inside-port : goal.bounds-self-inside-port
bounds-self-inside-port c = let near = port_near _ _ _ _ c.args.port c.self.view_is c.requires in let few = c.self.invariant.few in omega (arith, near, few)

-- the room of a port, as the code reads it
room_is : (rooms : List ℕ) (port room : ℕ) → port < length rooms → room ≡ get_or rooms port 0 → room ≡ get_or rooms port 256
room_is rooms port room inside read = get_or_read rooms port room inside (read ∙ sym (get_or_default_zero rooms port room inside)) 256

pub bounds-totals-from : goal.bounds-totals-from
bounds-totals-from c =
    let inside = port_near _ _ _ _ c.args.port c.self.view_is c.requires in
    let few = c.self.invariant.few in
    let rooms = c.self.told.1 in
    let room = room_is c.self.inside.rooms c.args.port c.from.result (omega (arith, inside, few, rooms)) c.from.ensures in
    let near = c.self.invariant.near c.args.port inside in
    omega (arith, room, near)

pub offset_bounds-self-inside-port-2 : goal.offset_bounds-self-inside-port-2
offset_bounds-self-inside-port-2 c = let near = port_near _ _ _ _ c.args.port c.self.view_is c.requires in let few = c.self.invariant.few in omega (arith, near, few)

pub bounds-self-inside-port-2 : goal.bounds-self-inside-port-2
bounds-self-inside-port-2 c = let near = port_near _ _ _ _ c.args.port c.self.view_is c.requires in let few = c.self.invariant.few in omega (arith, near, few)

-- what the code computes is exact
exact : (total own : ℤ) → nat_abs total ≤ 241920 → nat_abs own ≤ 4032 → to_z w32 (of_z w32 (to_z w32 (of_z w32 total) -ℤ to_z w32 (of_z w32 own))) ≡ total -ℤ own
exact total own small little = omega (arith, ints, small, little)

fits : (total own : ℤ) → nat_abs total ≤ 241920 → nat_abs own ≤ 4032 → SFits w32 (to_z w32 (of_z w32 total) -ℤ to_z w32 (of_z w32 own))
fits total own small little = omega (arith, ints, small, little)

pub overflow_sub-result : goal.overflow_sub-result
overflow_sub-result c =
    let inside = port_near _ _ _ _ c.args.port c.self.view_is c.requires in
    let few = c.self.invariant.few in
    let rooms = c.self.told.1 in
    let room = room_is c.self.inside.rooms c.args.port c.from.result (omega (arith, inside, few, rooms)) c.from.ensures in
    let near = c.self.invariant.near c.args.port inside in
    fits (get_or c.self.inside.totals c.from.result (pos 0)) (get_or c.self.inside.own c.args.port (pos 0)) (total-small _ _ _ _ c.from.result c.self.invariant (omega (arith, room, near))) (c.self.invariant.small c.args.port inside)

pub returns : goal.returns
returns c =
    let inside = port_near _ _ _ _ c.args.port c.self.view_is c.requires in
    let few = c.self.invariant.few in
    let rooms = c.self.told.1 in
    let room = room_is c.self.inside.rooms c.args.port c.from.result (omega (arith, inside, few, rooms)) c.from.ensures in
    let near = c.self.invariant.near c.args.port inside in
    ap compress (exact (get_or c.self.inside.totals c.from.result (pos 0)) (get_or c.self.inside.own c.args.port (pos 0)) (total-small _ _ _ _ c.from.result c.self.invariant (omega (arith, room, near))) (c.self.invariant.small c.args.port inside))
    ∙ ap (λ (r : ℕ). compress (get_or c.self.inside.totals r (pos 0) -ℤ get_or c.self.inside.own c.args.port (pos 0))) room
    ∙ compress_given_kept c.self.inside.ports c.self.inside.totals c.self.inside.rooms c.self.inside.own c.args.port c.self.invariant inside
    ∙ ap (given_at c.args.port) c.self.view_is
