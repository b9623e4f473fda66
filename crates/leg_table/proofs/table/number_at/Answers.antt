use Rattle.std.proofs.Common.{None, refl, sym, ◌∙◌, ap}
use Rattle.std.specs.Option.{option_copied}
use Rattle.call_states.specs.declared.pending.Pending.{Pending}
use Rattle.leg_table.specs.KeptNumbers.{counting, number_in}
use Rattle.leg_table.proofs.KeptNumberLemmas.{counts_by, counts_none_at, no_note, counting_quiet, counting_waiting}
use Rattle.leg_table.proofs.table.number_at.Goals as goal

pub returns-in_err-leg : goal.returns-in_err-leg
returns-in_err-leg c = ap option_copied c.from_residual.ensures ∙ sym (counts_none_at Pending counting (λ note. refl) c.args.legs.now c.args.notes.now c.args.number (sym c.get.ensures.found ∙ c.in_err-leg.was))

pub returns-then-leg-ne-OVERLAP_SENDING : goal.returns-then-leg-ne-OVERLAP_SENDING
returns-then-leg-ne-OVERLAP_SENDING c =
    counts_by Pending counting _ _ _ _ c.in_ok-leg.leg no_note _ (λ note. None) c.get.ensures.found c.in_ok-leg.was c.get.ensures.inside c.requires refl
    (λ note. counting_quiet c.in_ok-leg.leg note c.if-leg-ne-OVERLAP_SENDING.true)

pub returns-in-Number : goal.returns-in-Number
returns-in-Number c =
    counts_by Pending counting _ _ _ _ c.in_ok-leg.leg c.index-notes-number.result _ number_in c.get.ensures.found c.in_ok-leg.was c.get.ensures.inside c.requires
    (sym c.index-notes-number.is ∙ c.in-Number.is) (λ note. counting_waiting c.in_ok-leg.leg note c.if-leg-ne-OVERLAP_SENDING.false)

pub returns-in-Message : goal.returns-in-Message
returns-in-Message c =
    counts_by Pending counting _ _ _ _ c.in_ok-leg.leg c.index-notes-number.result _ number_in c.get.ensures.found c.in_ok-leg.was c.get.ensures.inside c.requires
    (sym c.index-notes-number.is ∙ c.in-Message.is) (λ note. counting_waiting c.in_ok-leg.leg note c.if-leg-ne-OVERLAP_SENDING.false)
