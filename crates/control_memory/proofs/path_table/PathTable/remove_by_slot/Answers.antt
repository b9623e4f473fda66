use Rattle.std.proofs.Common.{◌≡◌, ◌<◌, ◌∙◌, ap, sym, subst, Some}
use Rattle.control_memory.specs.Layout.{hop_of, path_in, place_sent}
use Rattle.control_memory.proofs.Lookups.{hops_agree}
use Rattle.control_memory.specs.Paths.{Fabric}
use Rattle.control_memory.proofs.TablesAfter.{sent_from, path_there}
use Rattle.control_memory.proofs.path_table.PathTable.remove_by_slot.Goals as goal

pub unreachable-requires-in_default-get : goal.unreachable-requires-in_default-get
unreachable-requires-in_default-get c =
    let layout = ap (λ (f : Fabric). f.layout) c.self.view_is in
    let p = c.requires.stands.0 in
    let at : path_in c.self.inside.hops.items c.args.line c.args.slot ≡ Some p = ap (λ l. path_in l c.args.line c.args.slot) layout ∙ c.requires.stands.1 in
    let sent : place_sent c.self.inside.hops.items c.args.line c.args.slot ≡ Some c.in-Some.place =
    sym (c.self.invariant.tables.incoming c.args.line c.args.slot (subst (λ n. c.args.line < n) (ap (λ (f : Fabric). f.lines) (sym c.self.view_is)) c.requires.line) (subst (λ n. c.args.slot < n) (ap (λ (f : Fabric). f.slots) (sym c.self.view_is)) c.requires.slot))
    ∙ sym c.get.ensures.entry ∙ c.in-Some.is in
    let from = sent_from _ _ c.self.inside.hops.items c.args.line c.args.slot c.in-Some.place p c.self.invariant.legal at sent in
    let there = (path_there _ _ c.self.inside.hops.items c.args.line c.args.slot p c.self.invariant.legal at).1 in
    let wrong = sym (subst (λ l. hop_of l p.from ≡ Some (record { to = p.to; slot = p.slot })) layout there) ∙ ap (hop_of c.args.self.now.layout) (sym from) ∙ sym c.get-2.ensures.hop ∙ c.in_default-get.is in
    cc

pub returns-clause-ends : goal.returns-clause-ends
returns-clause-ends c =
    let layout = ap (λ (f : Fabric). f.layout) c.self.view_is in
    let p = c.requires.stands.0 in
    let at : path_in c.self.inside.hops.items c.args.line c.args.slot ≡ Some p = ap (λ l. path_in l c.args.line c.args.slot) layout ∙ c.requires.stands.1 in
    let sent : place_sent c.self.inside.hops.items c.args.line c.args.slot ≡ Some c.in-Some.place =
    sym (c.self.invariant.tables.incoming c.args.line c.args.slot (subst (λ n. c.args.line < n) (ap (λ (f : Fabric). f.lines) (sym c.self.view_is)) c.requires.line) (subst (λ n. c.args.slot < n) (ap (λ (f : Fabric). f.slots) (sym c.self.view_is)) c.requires.slot))
    ∙ sym c.get.ensures.entry ∙ c.in-Some.is in
    let from = sent_from _ _ c.self.inside.hops.items c.args.line c.args.slot c.in-Some.place p c.self.invariant.legal at sent in
    let there = (path_there _ _ c.self.inside.hops.items c.args.line c.args.slot p c.self.invariant.legal at).1 in
    let hop = hops_agree (record { to = p.to; slot = p.slot }) c.in-Some-get.hop (sym (subst (λ l. hop_of l p.from ≡ Some (record { to = p.to; slot = p.slot })) layout there) ∙ ap (hop_of c.args.self.now.layout) (sym from) ∙ sym c.get-2.ensures.hop ∙ c.in-Some-get.is) in
    let to = hop.0 in
    (p, c.requires.stands.1, λ i. record { from = sym from i; to = to i })
