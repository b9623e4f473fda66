use Rattle.std.proofs.lemmas.List.{get_or_read_under}
use Rattle.std.proofs.Common.{refl, ◌≡◌, ◌∙◌, sym, ap, arith, get_or, None, Some, ◌<◌, length, rules}
use Rattle.conference_ports.specs.Owners.{Bridges, members, owners_without}
use Rattle.std.specs.Prelude.{position}
use Rattle.circuit_model.specs.Ports.{has}
use Rattle.conference_ports.specs.Indexed.{index_of}
use Rattle.conference_ports.proofs.Positions.{owners_without_disowned_set, members_disowned}
use Rattle.conference_ports.proofs.Indexes.{indexed_given, named_owner, index_inside}
use Rattle.conference_ports.proofs.ports.Ports.give.Goals as goal

pub invariant_of-self : goal.invariant_of-self
invariant_of-self c =
    let external = ap (λ (b : Bridges). b.external) c.self.view_is in
    let line : c.args.member.line < c.self.inside.external = search rules in
    let room : c.to_index-index.result < length c.self.inside.ports.items = let i = index_inside c.self.inside.external c.args.member line c.requires.external.1 in let m = c.self.invariant.indexed in let n = c.to_index-index.ensures in omega (arith, i, m, n) in
    let named : get_or c.self.inside.ports.items (index_of c.args.member) None ≡ Some c.in-Some.port = ap (λ i. get_or c.self.inside.ports.items i None) (sym c.to_index-index.ensures) ∙ sym (get_or_read_under c.self.inside.ports.items c.to_index-index.result (length c.self.inside.ports.items) c.index.result.now None c.index.ensures room refl) ∙ c.in-Some.is in
    let at : position (has c.args.member) (members c.self.inside.owners.items) ≡ Some c.in-Some.port = sym (c.self.invariant.named c.args.member line c.requires.external.1) ∙ named in
    rw (c.from.ensures, c.to_index-index.ensures) (indexed_given _ _ _ _ _ c.args.member c.self.invariant line c.requires.external.1 at)

pub returns-in-Some-clause-owners : goal.returns-in-Some-clause-owners
returns-in-Some-clause-owners c =
    let external = ap (λ (b : Bridges). b.external) c.self.view_is in
    let line : c.args.member.line < c.self.inside.external = search rules in
    let room : c.to_index-index.result < length c.self.inside.ports.items = let i = index_inside c.self.inside.external c.args.member line c.requires.external.1 in let m = c.self.invariant.indexed in let n = c.to_index-index.ensures in omega (arith, i, m, n) in
    let named : get_or c.self.inside.ports.items (index_of c.args.member) None ≡ Some c.in-Some.port = ap (λ i. get_or c.self.inside.ports.items i None) (sym c.to_index-index.ensures) ∙ sym (get_or_read_under c.self.inside.ports.items c.to_index-index.result (length c.self.inside.ports.items) c.index.result.now None c.index.ensures room refl) ∙ c.in-Some.is in
    let at : position (has c.args.member) (members c.self.inside.owners.items) ≡ Some c.in-Some.port = sym (c.self.invariant.named c.args.member line c.requires.external.1) ∙ named in
    let n = named_owner _ _ _ _ _ c.args.member c.self.invariant at in
    rw c.from.ensures (sym (owners_without_disowned_set c.args.member c.self.inside.owners.items c.in-Some.port n.0 n.1 n.2) ∙ ap (λ (b : Bridges). owners_without c.args.member b.owners) c.self.view_is)

pub returns-in-Some-clause-members : goal.returns-in-Some-clause-members
returns-in-Some-clause-members c = ap members (returns-in-Some-clause-owners c) ∙ members_disowned c.args.member c.args.self.now.owners
