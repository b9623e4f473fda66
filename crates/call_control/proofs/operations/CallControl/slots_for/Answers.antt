use Rattle.std.proofs.Common.{sym, ◌∙◌}
use Rattle.call_control.proofs.RefusalCauseLemmas.{first_cause_side_passes, first_cause_side_refused, slot_causes}
use Rattle.call_control.proofs.operations.CallControl.slots_for.Goals as goal

pub returns-in-Err-clause-refused : goal.returns-in-Err-clause-refused
returns-in-Err-clause-refused g c d w holds =
    sym (slot_causes d w c.args.line c.args.channel c.args.target.now c.in-Some.slot (sym (c.is_taken.ensures d w holds) ∙ c.if-is_taken.false) (sym (c.caller_slot.ensures.slot d w holds) ∙ c.in-Some.is))
    ∙ first_cause_side_refused d w c.in-Some.slot c.args.target.now c.in-Err.cause c.requires.known (sym (c.called_side.ensures.side d w holds) ∙ c.in-Err.is)

pub returns-in-Ok-clause-passed : goal.returns-in-Ok-clause-passed
returns-in-Ok-clause-passed g c d w holds =
    sym (slot_causes d w c.args.line c.args.channel c.args.target.now c.in-Some.slot (sym (c.is_taken.ensures d w holds) ∙ c.if-is_taken.false) (sym (c.caller_slot.ensures.slot d w holds) ∙ c.in-Some.is))
    ∙ first_cause_side_passes d w c.in-Some.slot c.args.target.now c.in-Ok.called (sym (c.called_side.ensures.side d w holds) ∙ c.in-Ok.is)

pub returns-in-Ok-clause-caller : goal.returns-in-Ok-clause-caller
returns-in-Ok-clause-caller g c d w holds = sym (c.caller_slot.ensures.slot d w holds) ∙ c.in-Some.is

pub returns-in-Ok-clause-called : goal.returns-in-Ok-clause-called
returns-in-Ok-clause-called g c d w holds = sym (c.called_side.ensures.side d w holds) ∙ c.in-Ok.is
