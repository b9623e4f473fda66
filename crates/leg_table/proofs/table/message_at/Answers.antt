use Rattle.std.proofs.Common.{ℕ, List, None, refl, sym, ◌∙◌, ap}
use Rattle.std.specs.Option.{option_copied}
use Rattle.leg_table.specs.KeptNumbers.{keeping, message_in}
use Rattle.leg_table.proofs.KeptNumberLemmas.{counts_by, counts_none_at, keeping_message, no_note, keeping_unkept}
use Rattle.leg_table.proofs.table.message_at.Goals as goal

pub returns-in_err-leg : goal.returns-in_err-leg
returns-in_err-leg c = ap option_copied c.from_residual.ensures ∙ sym (counts_none_at (List ℕ) keeping (λ note. refl) c.args.legs.now c.args.notes.now c.args.number (sym c.get.ensures.found ∙ c.in_err-leg.was))

pub returns-then-not-awaits_answer : goal.returns-then-not-awaits_answer
returns-then-not-awaits_answer c =
    counts_by (List ℕ) keeping _ _ _ _ c.in_ok-leg.leg no_note _ (λ note. None) c.get.ensures.found c.in_ok-leg.was c.get.ensures.inside c.requires refl
    (λ note. keeping_unkept c.in_ok-leg.leg note (sym c.awaits_answer.ensures ∙ c.if-not-awaits_answer.true))

pub returns-in-Message : goal.returns-in-Message
returns-in-Message c =
    counts_by (List ℕ) keeping _ _ _ _ c.in_ok-leg.leg c.index-notes-number.result _ message_in c.get.ensures.found c.in_ok-leg.was c.get.ensures.inside c.requires
    (sym c.index-notes-number.is ∙ c.in-Message.is) (λ note. keeping_message c.in_ok-leg.leg note (sym c.awaits_answer.ensures ∙ c.if-not-awaits_answer.false))

pub returns-in-Number : goal.returns-in-Number
returns-in-Number c =
    counts_by (List ℕ) keeping _ _ _ _ c.in_ok-leg.leg c.index-notes-number.result _ message_in c.get.ensures.found c.in_ok-leg.was c.get.ensures.inside c.requires
    (sym c.index-notes-number.is ∙ c.in-Number.is) (λ note. keeping_message c.in_ok-leg.leg note (sym c.awaits_answer.ensures ∙ c.if-not-awaits_answer.false))
