use Rattle.std.proofs.Common.{◌≡◌, ◌<◌, Option, sym, subst, ◌∙◌}
use Rattle.call_states.specs.declared.leg.HeldLeg.{HeldLeg}
use Rattle.call_profile.specs.Calls.{outcome_for, with_leg_named}
use Rattle.call_control.specs.Standing.{Makes}
use Rattle.call_profile.proofs.NamedLegLemmas.{leg_named_stands}
use Rattle.call_control.proofs.operations.CallControl.receive.Goals as goal

pub act-requires-clause-external : goal.act-requires-clause-external
act-requires-clause-external g c =
    let named = leg_named_stands c.args.self.now.legs c.args.line c.args.message.now.flag c.args.message.now.reference c.in-Some.held (sym c.find.ensures ∙ c.in-Some.is) in
    (subst (λ n. n < c.args.self.now.map.external) (sym named.among.0) c.requires.line, named.among.1)

pub act-requires-clause-held : goal.act-requires-clause-held
act-requires-clause-held g c =
    (leg_named_stands c.args.self.now.legs c.args.line c.args.message.now.flag c.args.message.now.reference c.in-Some.held (sym c.find.ensures ∙ c.in-Some.is)).at

pub returns-in-None-clause-makes : goal.returns-in-None-clause-makes
returns-in-None-clause-makes g c s w plan tones work =
    let m = c.args.message.now in
    let done = c.answer_without_leg in
    subst (λ (o : Option HeldLeg). Makes s.dimensions done.new.self.map done.new.self.legs done.new.out.sends done.new.out.moved (outcome_for s w c.args.line (with_leg_named m o)).making)
    (sym (sym c.find.ensures ∙ c.in-None.is)) (done.ensures.makes s w plan tones work)

pub returns-in-None-clause-records : goal.returns-in-None-clause-records
returns-in-None-clause-records g c s w plan tones work =
    let m = c.args.message.now in
    subst (λ (o : Option HeldLeg). c.answer_without_leg.new.out.records ≡ (outcome_for s w c.args.line (with_leg_named m o)).recorded)
    (sym (sym c.find.ensures ∙ c.in-None.is)) (c.answer_without_leg.ensures.records s w plan tones work)
