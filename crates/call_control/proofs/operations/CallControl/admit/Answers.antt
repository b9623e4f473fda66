use Rattle.std.proofs.Common.{◌≡◌, ℕ, Option, Some, None, refl, sym, ◌∙◌, subst}
use Rattle.std.specs.Prelude.{IfErr, IfOk, OnOk}
use Rattle.q931_codec.specs.declared.contents.ChannelIdentification.{ChannelIdentification}
use Rattle.q931_codec.specs.Contents.{complete_in}
use Rattle.call_profile.specs.Setup.{caller_slot, first_cause, slot_checks}
use Rattle.call_control.proofs.RefusalCauseLemmas.{refusal_element_refused, is_unknown_false, refusal_number_refused, refusal_slot_refused}
use Rattle.call_control.proofs.operations.CallControl.admit.Goals as goal

pub slots_for-requires-clause-known : goal.slots_for-requires-clause-known
slots_for-requires-clause-known g c = is_unknown_false c.args.number.now.target (complete_in c.args.message.now.elements) (sym c.number_cause.ensures ∙ c.in_default-number_cause.is)

pub returns-in-Some-clause-refused : goal.returns-in-Some-clause-refused
returns-in-Some-clause-refused g c s w leads holds =
    refusal_element_refused s w c.args.line c.args.message.now c.args.number.now.target leads c.in-Some.cause (sym c.element_cause.ensures ∙ c.in-Some.is)

pub returns-in-Some-number_cause-clause-refused : goal.returns-in-Some-number_cause-clause-refused
returns-in-Some-number_cause-clause-refused g c s w leads holds =
    refusal_number_refused s w c.args.line c.args.message.now c.args.number.now.target leads c.in-Some-number_cause.cause
    (sym c.element_cause.ensures ∙ c.in_default.is) (sym c.number_cause.ensures ∙ c.in-Some-number_cause.is)

pub returns-clause-refused : goal.returns-clause-refused
returns-clause-refused g c s w leads holds =
    let chosen = c.slots_for.result in
    let same = refusal_slot_refused s w c.args.line c.args.message.now c.args.number.now.target leads _ (sym c.element_cause.ensures ∙ c.in_default.is) (sym c.number_cause.ensures ∙ c.in_default-number_cause.is) refl in
    subst (λ (o : Option ℕ). IfErr chosen (λ cause. o ≡ Some cause)) (sym same)
    (subst (λ (channel : Option ChannelIdentification). IfErr chosen (λ cause. first_cause (slot_checks s.dimensions w c.args.line channel c.args.number.now.target) ≡ Some cause)) c.channel-channel.ensures
    (c.slots_for.ensures.refused s.dimensions w holds))

pub returns-clause-passed : goal.returns-clause-passed
returns-clause-passed g c s w leads holds =
    let chosen = c.slots_for.result in
    let same = refusal_slot_refused s w c.args.line c.args.message.now c.args.number.now.target leads _ (sym c.element_cause.ensures ∙ c.in_default.is) (sym c.number_cause.ensures ∙ c.in_default-number_cause.is) refl in
    subst (λ (o : Option ℕ). OnOk chosen (o ≡ None)) (sym same)
    (subst (λ (channel : Option ChannelIdentification). OnOk chosen (first_cause (slot_checks s.dimensions w c.args.line channel c.args.number.now.target) ≡ None)) c.channel-channel.ensures
    (c.slots_for.ensures.passed s.dimensions w holds))

pub returns-clause-caller : goal.returns-clause-caller
returns-clause-caller g c d w holds =
    subst (λ (channel : Option ChannelIdentification). IfOk c.slots_for.result (λ a. caller_slot w c.args.line channel ≡ Some a.slot)) c.channel-channel.ensures (c.slots_for.ensures.caller d w holds)
