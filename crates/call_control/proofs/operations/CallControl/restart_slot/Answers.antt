use Rattle.std.proofs.Common.{rules, ◌≡◌, ◌++◌, true, Some, sym, ◌∙◌, ap}
use Rattle.clearing_rules.specs.Restarting.{is_restarted}
use Rattle.call_profile.specs.Legs.{Legs, leg_at}
use Rattle.call_profile.proofs.RestartLemmas.{slot_is}
use Rattle.call_control.proofs.operations.CallControl.restart_slot.Goals as goal

pub returns-clause-records : goal.returns-clause-records
returns-clause-records g c d w holds =
    let at : leg_at w.legs c.args.x ≡ Some c.in-Some.leg = ap (λ (ls : Legs). leg_at ls c.args.x) (sym holds.legs_are) ∙ sym c.get.ensures.found ∙ c.in-Some.is in
    let restarted : is_restarted c.args.asked c.args.x.place ≡ true = search rules in
    c.restart_leg.ensures.records d w holds
    ∙ ap (λ list. c.args.records.now ++ list) (sym (slot_is c.args.asked w c.args.x c.in-Some.leg restarted at))
