use Rattle.std.proofs.Common.{◌≡◌, ℕ, Option, Some, None, sym, ◌∙◌, ap, subst}
use Rattle.std.specs.Prelude.{IfErr, OnOk, not}
use Rattle.q931_codec.specs.Contents.{complete_in}
use Rattle.call_control.proofs.RefusalCauseLemmas.{first_cause-dialled_checks_refused, first_cause-dialled_checks_same, is_unknown_false, side_err, side_is, side_ok}
use Rattle.call_control.proofs.operations.CallControl.called_by_digits.Goals as goal

pub returns-in-Some-clause-refused : goal.returns-in-Some-clause-refused
returns-in-Some-clause-refused g c d w holds =
    first_cause-dialled_checks_refused d w c.args.x c.args.message.now c.args.dialled.now.target c.args.dialled.now.is_readable (ap not c.if-not-dialled.false) c.in-Some.cause (sym c.number_cause.ensures ∙ c.in-Some.is)

pub returns-clause-refused : goal.returns-clause-refused
returns-clause-refused g c d w holds =
    let t = c.args.dialled.now.target in
    let passes = sym c.number_cause.ensures ∙ c.in_default.is in
    subst (λ (o : Option ℕ). IfErr c.called_side.result (λ cause. o ≡ Some cause)) (sym (first_cause-dialled_checks_same d w c.args.x c.args.message.now t c.args.dialled.now.is_readable (ap not c.if-not-dialled.false) passes))
    (side_err d w c.args.x t c.called_side.result (is_unknown_false t (complete_in c.args.message.now.elements) passes) (c.called_side.ensures.side d w holds))

pub returns-clause-passed : goal.returns-clause-passed
returns-clause-passed g c d w holds =
    let t = c.args.dialled.now.target in
    let passes = sym c.number_cause.ensures ∙ c.in_default.is in
    subst (λ (o : Option ℕ). OnOk c.called_side.result (o ≡ None)) (sym (first_cause-dialled_checks_same d w c.args.x c.args.message.now t c.args.dialled.now.is_readable (ap not c.if-not-dialled.false) passes))
    (side_ok d w c.args.x t c.called_side.result (c.called_side.ensures.side d w holds))

pub returns-clause-called : goal.returns-clause-called
returns-clause-called g c d w holds = side_is c.called_side.result _ (c.called_side.ensures.side d w holds)
