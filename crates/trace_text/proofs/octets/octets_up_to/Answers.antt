use Rattle.std.proofs.Common.{◌≤◌, ◌*◌, length, sym, ◌∙◌, ap, subst, arith}
use Rattle.std.specs.Prelude.{ok_or}
use Rattle.std.proofs.lemmas.Result.{IfOk-weaker, IfErr-weaker}
use Rattle.trace_text.specs.declared.fault.Reason.TheVariants.{Hex}
use Rattle.trace_text.specs.TraceLines.{Fails}
use Rattle.trace_text.proofs.TraceOctets.{few_written, at_most-octets_written_many, at_most-octets_written_none}
use Rattle.trace_text.proofs.octets.octets_up_to.Goals as goal

pub returns-then-digits-most-clause-read : goal.returns-then-digits-most-clause-read
returns-then-digits-most-clause-read c =
    let few : length c.args.digits.now ≤ 2 * c.args.most = omega (arith, c.if-digits-most.true) in
    IfOk-weaker c.octets_read.result _ _ (λ octets read. sym (few_written c.args.most c.args.digits.now few) ∙ ap (λ o. ok_or o Hex) read) c.octets_read.ensures.read

pub returns-then-digits-most-clause-refused : goal.returns-then-digits-most-clause-refused
returns-then-digits-most-clause-refused c =
    let few : length c.args.digits.now ≤ 2 * c.args.most = omega (arith, c.if-digits-most.true) in
    IfErr-weaker c.octets_read.result _ _ (λ e fails. subst (Fails e) (few_written c.args.most c.args.digits.now few) fails) c.octets_read.ensures.refused

pub returns-then-are_pairs-clause-refused : goal.returns-then-are_pairs-clause-refused
returns-then-are_pairs-clause-refused c =
    at_most-octets_written_many c.args.most c.args.digits.now (sym c.are_pairs.ensures ∙ c.if-are_pairs.true) (omega (arith, c.if-digits-most.false))

pub returns-else-are_pairs-clause-refused : goal.returns-else-are_pairs-clause-refused
returns-else-are_pairs-clause-refused c = at_most-octets_written_none c.args.most c.args.digits.now (sym c.are_pairs.ensures ∙ c.if-are_pairs.false)
