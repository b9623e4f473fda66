use Rattle.std.proofs.Common.{sym, ◌∙◌, ap, subst}
use Rattle.circuit_model.specs.Extent.{IsExternal}
use Rattle.exchange_events.specs.Sizes.{Dimensions}
use Rattle.call_profile.specs.Legs.{Legs, leg_at}
use Rattle.call_control.proofs.LinkMakingLemmas.{cleared_adds_none, clears_in}
use Rattle.call_control.proofs.operations.CallControl.drop_slot.Goals as goal

pub returns-in-12-clause-records : goal.returns-in-12-clause-records
returns-in-12-clause-records g c d w holds =
    let work = c.requires.work in
    let x = c.args.x in
    let leg = c.in-Some.leg in
    let found = sym c.get.ensures.found ∙ c.in-Some.is in
    let within = subst (λ (e : Dimensions). IsExternal e.external x) work.2.sizes c.requires.external in
    let stands = work.3.each x leg within (ap (λ (ls : Legs). leg_at ls x) (sym work.2.legs_are) ∙ found) in
    cleared_adds_none work.0.external work.1.legs w x leg c.args.records.now stands.peer (ap (λ (ls : Legs). leg_at ls x) (sym holds.legs_are) ∙ found) (clears_in leg.state c.in-12.is)
