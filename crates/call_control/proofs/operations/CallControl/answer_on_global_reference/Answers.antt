use Rattle.std.proofs.Common.{◌≡◌, Option, None, Some, refl, sym, ◌∙◌, subst}
use Rattle.clearing_rules.specs.declared.scope.Restart.{Restart}
use Rattle.clearing_rules.specs.Restarting.{restart_acknowledged, restart_asked}
use Rattle.call_profile.specs.Calls.{outcome_for, on_global_reference}
use Rattle.call_control.proofs.operations.CallControl.answer_on_global_reference.Goals as goal

none_of : (o : Option Restart) → ((r : Restart) → o ≡ Some r → ⊥) → o ≡ None
none_of None never = refl
none_of (Some r) never = absurd (never r refl)

pub returns-in-None-clause-records : goal.returns-in-None-clause-records
returns-in-None-clause-records g c s w tones work =
    let asked : restart_asked c.args.message.now ≡ None = sym c.restart.ensures.asked ∙ none_of c.restart.result c.in_default.not-Some in
    let acknowledged : restart_acknowledged c.args.message.now ≡ None = sym c.acknowledged_restart.ensures.acknowledged ∙ c.in-None.is in
    subst (λ (o : Option Restart). c.clear.new.self ≡ (outcome_for s w c.args.line (on_global_reference o (restart_acknowledged c.args.message.now))).recorded) (sym asked)
    (subst (λ (o : Option Restart). c.clear.new.self ≡ (outcome_for s w c.args.line (on_global_reference None o)).recorded) (sym acknowledged) c.clear.ensures)
