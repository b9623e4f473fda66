use Rattle.std.proofs.Common.{◌≡◌, List, false, sym, ◌∙◌, subst}
use Rattle.number_plan.specs.declared.plan.Number.{Number}
use Rattle.call_profile.specs.Calls.{Request, asks_for_call, outcome_for}
use Rattle.call_profile.specs.Operations.{making_at}
use Rattle.call_control.specs.Ahead.{IsDialled}
use Rattle.call_control.specs.Standing.{Makes}
use Rattle.call_profile.proofs.NoCallAnswerLemmas.{request_without_leg_asks_not}
use Rattle.call_control.proofs.operations.CallControl.answer_without_leg.Goals as goal

pub setup-requires-clause-work : goal.setup-requires-clause-work
setup-requires-clause-work g c =
    let work = c.requires.work in
    (work.0, work.1, subst (λ (plan : List Number). IsDialled plan c.args.message.now c.number_of.result) (sym work.2) c.number_of.ensures, work.4)

pub returns-clause-makes : goal.returns-clause-makes
returns-clause-makes g c s w plan tones work =
    let m = c.args.message.now in
    let is : asks_for_call m ≡ false = sym c.asks_for_call.ensures ∙ c.if-asks_for_call.false in
    subst (λ (r : Request). Makes s.dimensions c.args.self.now.map c.args.self.now.legs c.answer_on_no_call.new.out.sends c.answer_on_no_call.new.out.moved (outcome_for s w c.args.line r).making)
    (sym (request_without_leg_asks_not m c.if-message-eq-GLOBAL_CALL_REFERENCE.false is))
    (c.answer_on_no_call.ensures.makes _ _ s.dimensions (making_at w) (record { holds = work.holds; sent = c.requires.fresh.0; moves = c.requires.fresh.1 }))

pub returns-clause-records : goal.returns-clause-records
returns-clause-records g c s w plan tones work =
    let m = c.args.message.now in
    let is : asks_for_call m ≡ false = sym c.asks_for_call.ensures ∙ c.if-asks_for_call.false in
    subst (λ (r : Request). c.clear-2.new.self ≡ (outcome_for s w c.args.line r).recorded) (sym (request_without_leg_asks_not m c.if-message-eq-GLOBAL_CALL_REFERENCE.false is)) c.clear-2.ensures
