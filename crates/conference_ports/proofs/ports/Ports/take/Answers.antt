use Rattle.std.proofs.Common.{◌≡◌, ◌∙◌, sym, ap, arith, None, Some, ◌<◌, rules}
use Rattle.std.specs.Prelude.{position, is_none}
use Rattle.std.proofs.lemmas.List.Quantifiers.{position-Some}
use Rattle.circuit_model.specs.Ports.{has, ports_with}
use Rattle.conference_ports.specs.declared.occupant.Occupant.{Occupant}
use Rattle.conference_ports.specs.Owners.{Bridges, members, owners_with}
use Rattle.conference_ports.proofs.Positions.{owners_with_owned_at, owners_with_owned_none, members_owned}
use Rattle.conference_ports.proofs.Indexes.{indexed_taken, no_place}
use Rattle.conference_ports.proofs.ports.Ports.take.Goals as goal

pub returns-in_default-clause-owners : goal.returns-in_default-clause-owners
returns-in_default-clause-owners c =
    let owners = ap (λ (b : Bridges). b.owners) c.self.view_is in
    let none : position is_none c.args.self.now.owners ≡ None = search rules in
    sym (owners_with_owned_none (record { room = c.args.room; member = c.args.member }) c.args.self.now.owners none)

pub returns-in_default-clause-members : goal.returns-in_default-clause-members
returns-in_default-clause-members c =
    let none : position is_none c.args.self.now.owners ≡ None = search rules in
    let new : Occupant = record { room = c.args.room; member = c.args.member } in
    ap members (sym (owners_with_owned_none new c.args.self.now.owners none)) ∙ members_owned new c.args.self.now.owners

pub overflow_cast-port : goal.overflow_cast-port
overflow_cast-port c =
    let at : position is_none c.self.inside.owners.items ≡ Some c.in-Some.port = search rules in
    let p = position-Some is_none c.self.inside.owners.items c.in-Some.port None at in
    let inside = p.0 in
    let few = c.self.invariant.few in
    let long = c.self.invariant.owned in
    record { fits = omega (arith, inside, few, long) }

pub invariant_of-self : goal.invariant_of-self
invariant_of-self c =
    let at : position is_none c.self.inside.owners.items ≡ Some c.in-Some.port = search rules in
    let new : Occupant = record { room = c.args.room; member = c.args.member } in
    let owners = ap (λ (b : Bridges). b.owners) c.self.view_is in
    let external = ap (λ (b : Bridges). b.external) c.self.view_is in
    let line : c.args.member.line < c.self.inside.external = search rules in
    let portless : position (has c.args.member) (members c.self.inside.owners.items) ≡ None = ap (λ os. position (has c.args.member) (members os)) owners ∙ no_place _ _ c.requires.portless in
    rw c.to_index.ensures (indexed_taken _ _ _ _ _ new c.self.invariant line c.requires.external.1 at portless)

pub returns-clause-owners : goal.returns-clause-owners
returns-clause-owners c =
    let at : position is_none c.self.inside.owners.items ≡ Some c.in-Some.port = search rules in
    let new : Occupant = record { room = c.args.room; member = c.args.member } in
    sym (owners_with_owned_at new c.self.inside.owners.items c.in-Some.port at) ∙ ap (λ (b : Bridges). owners_with new b.owners) c.self.view_is

pub returns-clause-members : goal.returns-clause-members
returns-clause-members c =
    let at : position is_none c.self.inside.owners.items ≡ Some c.in-Some.port = search rules in
    let new : Occupant = record { room = c.args.room; member = c.args.member } in
    ap members (sym (owners_with_owned_at new c.self.inside.owners.items c.in-Some.port at)) ∙ members_owned new c.self.inside.owners.items ∙ ap (λ (b : Bridges). ports_with c.args.member (members b.owners)) c.self.view_is
