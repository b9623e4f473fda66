use Rattle.std.proofs.Common.{refl, ap, ◌∙◌, Err, Some, inl, inr}
use Rattle.run_verifier.specs.declared.ending.Ending.TheVariants as ended
use Rattle.exchange_run.proofs.Endings.{ends_at_once, ends_check, ends_line, ConsumesAtMost_none, stops_by}
use Rattle.exchange_run.proofs.Sums.{keeps}
use Rattle.linked_exchange.proofs.Tellings.{none_left}
use Rattle.exchange_run.proofs.call.answer_words.Goals as goal

pub returns-in-Ok-Run-clause-ends : goal.returns-in-Ok-Run-clause-ends
returns-in-Ok-Run-clause-ends g c = c.run_input.ensures.ends _ (c.in-Ok-Run.ensures.command ∙ ap Some c.in-Ok-Run.field-0-is)

pub returns-in-Ok-Run-clause-unread : goal.returns-in-Ok-Run-clause-unread
returns-in-Ok-Run-clause-unread g c other = absurd (other (inl (c.in-Ok-Run.strict, c.in-Ok-Run.ensures.command ∙ ap Some c.in-Ok-Run.field-0-is)))

pub returns-in-Ok-Run-clause-stops : goal.returns-in-Ok-Run-clause-stops
returns-in-Ok-Run-clause-stops g c = stops_by _ _ _ _ (c.in-Ok-Run.ensures.command ∙ ap Some c.in-Ok-Run.field-0-is) c.run_input.ensures.stops

pub returns-in-Ok-Generate-clause-ends : goal.returns-in-Ok-Generate-clause-ends
returns-in-Ok-Generate-clause-ends g c = c.run_generated.ensures.ends _ _ (c.in-Ok-Generate.ensures.command ∙ ap Some c.in-Ok-Generate.field-0-is)

pub returns-in-Ok-Generate-clause-stops : goal.returns-in-Ok-Generate-clause-stops
returns-in-Ok-Generate-clause-stops g c = ConsumesAtMost_none _ _

pub returns-in-Ok-Check-clause-ends : goal.returns-in-Ok-Check-clause-ends
returns-in-Ok-Check-clause-ends g c =
    let e = c.idle.ensures in
    ends_check _ _ _ c.in-Ok-Check.strict _ c.check.result _ e.ending c.check.ensures.ends (c.in-Ok-Check.ensures.command ∙ ap Some c.in-Ok-Check.field-0-is) refl
    (record { order = e.none; meters = none_left _ _ _ _; engine = e.engine })

pub returns-in-Ok-Check-clause-unread : goal.returns-in-Ok-Check-clause-unread
returns-in-Ok-Check-clause-unread g c other = absurd (other (inr (c.in-Ok-Check.strict, c.in-Ok-Check.ensures.command ∙ ap Some c.in-Ok-Check.field-0-is)))

pub returns-in-Ok-Check-clause-stops : goal.returns-in-Ok-Check-clause-stops
returns-in-Ok-Check-clause-stops g c = stops_by _ _ _ _ (c.in-Ok-Check.ensures.command ∙ ap Some c.in-Ok-Check.field-0-is) c.check.ensures.stops

pub returns-in-Err-NoCommand-clause-ends : goal.returns-in-Err-NoCommand-clause-ends
returns-in-Err-NoCommand-clause-ends g c =
    ends_line _ _ _ ended.WrongArguments c.refuse.result.ending _ (c.in-Err-NoCommand.ensures.no_command (ap Err c.in-Err-NoCommand.field-0-is)) refl c.refuse.ensures.answer
    (record { order = c.refuse.ensures.none; meters = none_left _ _ _ _; engine = c.refuse.ensures.engine })

pub returns-in-Err-NoCommand-clause-stops : goal.returns-in-Err-NoCommand-clause-stops
returns-in-Err-NoCommand-clause-stops g c = ConsumesAtMost_none _ _

pub returns-in-Err-Memory-clause-ends : goal.returns-in-Err-Memory-clause-ends
returns-in-Err-Memory-clause-ends g c =
    let e = c.idle-in-Err-Memory.ensures in
    ends_at_once _ _ _ _ e.ending (keeps _) (record { order = e.none; meters = none_left _ _ _ _; engine = e.engine })

pub returns-in-Err-Memory-clause-stops : goal.returns-in-Err-Memory-clause-stops
returns-in-Err-Memory-clause-stops g c = ConsumesAtMost_none _ _
