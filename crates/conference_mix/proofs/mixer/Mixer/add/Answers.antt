use Rattle.std.proofs.Common.{rules, ◌≡◌, ◌≤◌, ◌<◌, IfSome, None, Some, get_or, set, nat_abs, List, Option, ℤ, pos, ◌+ℤ◌, to_z, of_z, ap, ◌∙◌, arith}
use Rattle.std.specs.Int.{w32}
use mir.Val.{SFits}
use Rattle.std.proofs.lemmas.Int.{ints}
use Rattle.conference_mix.specs.declared.mixer.RoomMember.{RoomMember}
use Rattle.conference_mix.proofs.SeatFacts.{port_near, seats-taken, kept-taken, total-small}
use Rattle.conference_mix.proofs.mixer.Mixer.add.Goals as goal

-- what the code adds up is exact
exact : (total value : ℤ) → nat_abs total ≤ 241920 → nat_abs value ≤ 4032 → to_z w32 (of_z w32 (to_z w32 (of_z w32 total) +ℤ to_z w32 (of_z w32 value))) ≡ total +ℤ value
exact total value small little = omega (arith, ints, small, little)

fits : (total value : ℤ) → nat_abs total ≤ 241920 → nat_abs value ≤ 4032 → SFits w32 (to_z w32 (of_z w32 total) +ℤ to_z w32 (of_z w32 value))
fits total value small little = omega (arith, ints, small, little)

pub overflow_add-self : goal.overflow_add-self
overflow_add-self c =
    let room : c.args.member.room < 256 = search rules in
    let from = c.from.ensures in
    fits (get_or c.self.inside.totals c.from.result (pos 0)) c.value_of-value.result (total-small _ _ _ _ c.from.result c.self.invariant (omega (arith, room, from))) c.value_of-value.ensures.within

pub offset_bounds-self-inside-port : goal.offset_bounds-self-inside-port
offset_bounds-self-inside-port c = let near = port_near _ _ _ _ c.args.port c.self.view_is c.requires.port in let few = c.self.invariant.few in omega (arith, near, few)

pub bounds-self-inside-port : goal.bounds-self-inside-port
bounds-self-inside-port c = let near = port_near _ _ _ _ c.args.port c.self.view_is c.requires.port in let few = c.self.invariant.few in omega (arith, near, few)

pub offset_bounds-self-inside-port-2 : goal.offset_bounds-self-inside-port-2
offset_bounds-self-inside-port-2 c = let near = port_near _ _ _ _ c.args.port c.self.view_is c.requires.port in let few = c.self.invariant.few in omega (arith, near, few)

pub bounds-self-inside-port-2 : goal.bounds-self-inside-port-2
bounds-self-inside-port-2 c = let near = port_near _ _ _ _ c.args.port c.self.view_is c.requires.port in let few = c.self.invariant.few in omega (arith, near, few)

pub invariant_of-self : goal.invariant_of-self
invariant_of-self c =
    let room : c.args.member.room < 256 = search rules in
    let octet : IfSome c.args.member.octet (λ o. o < 256) = search rules in
    let near = port_near _ _ _ _ c.args.port c.self.view_is c.requires.port in
    let few = c.self.invariant.few in
    let from = c.from.ensures in
    let little = c.value_of-value.ensures.within in
    let own : to_z w32 (of_z w32 c.value_of-value.result) ≡ c.value_of-value.result = omega (arith, ints, little) in
    let sum = exact (get_or c.self.inside.totals c.from.result (pos 0)) c.value_of-value.result (total-small _ _ _ _ c.from.result c.self.invariant (omega (arith, room, from))) little in
    let totals = c.self.told.0 in
    let rooms = c.self.told.1 in
    let owns = c.self.told.2 in
    rw sum (rw own (rw c.from.ensures (rw c.from-2.ensures
    (kept-taken c.self.inside.ports c.self.inside.totals c.self.inside.rooms c.self.inside.own c.args.port c.args.member c.value_of-value.result c.self.invariant near (omega (arith, totals)) (omega (arith, rooms, near, few)) (omega (arith, owns, near, few)) room octet c.value_of-value.ensures.value little
    (ap (λ (seats : List (Option RoomMember)). get_or seats c.args.port None) c.self.view_is ∙ c.requires.free)))))

pub returns : goal.returns
returns c =
    let room : c.args.member.room < 256 = search rules in
    let octet : IfSome c.args.member.octet (λ o. o < 256) = search rules in
    let near = port_near _ _ _ _ c.args.port c.self.view_is c.requires.port in
    let few = c.self.invariant.few in
    let little = c.value_of-value.ensures.within in
    let own : to_z w32 (of_z w32 c.value_of-value.result) ≡ c.value_of-value.result = omega (arith, ints, little) in
    let rooms = c.self.told.1 in
    let owns = c.self.told.2 in
    rw own (rw c.from-2.ensures
    (seats-taken c.self.inside.ports c.self.inside.rooms c.self.inside.own c.args.port c.args.member c.value_of-value.result near (omega (arith, rooms, near, few)) (omega (arith, owns, near, few)) room octet c.value_of-value.ensures.value
    ∙ ap (λ (seats : List (Option RoomMember)). set seats c.args.port (Some c.args.member)) c.self.view_is))
