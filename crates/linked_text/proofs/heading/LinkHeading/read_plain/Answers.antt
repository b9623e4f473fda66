use Rattle.std.proofs.Common.{rules, ap, subst}
use Rattle.std.specs.Prelude.{IfErr}
use Rattle.trace_text.specs.TraceHeading.{IsLineRead}
use Rattle.trace_text.specs.TraceLines.{Fails, SoFar, says}
use Rattle.linked_text.specs.LinkLines.{LinkSoFar}
use Rattle.linked_text.proofs.InTurnLemmas.{plain_fails, plain_read}
use Rattle.linked_text.proofs.heading.LinkHeading.read_plain.Goals as goal

pub returns-in_err-read_line-clause-refused : goal.returns-in_err-read_line-clause-refused
returns-in_err-read_line-clause-refused c =
    let here : IfErr c.from_residual.result (λ e. Fails e (says c.args.limits c.self.inside.heading c.args.line.now)) = search rules in
    plain_fails c.args.limits c.args.self.now c.args.line.now c.from_residual.result c.requires
    (subst (λ (p : SoFar). IfErr c.from_residual.result (λ e. Fails e (says c.args.limits p c.args.line.now))) (ap (λ (k : LinkSoFar). k.plain) c.self.view_is) here)

pub returns-clause-read : goal.returns-clause-read
returns-clause-read c =
    let same = ap (λ (k : LinkSoFar). k.plain) c.self.view_is in
    plain_read c.args.limits c.args.self.now _ c.args.line.now c.in_ok-read_line.field-0 c.requires
    (ap (λ (k : LinkSoFar). k.linked) c.self.view_is) (ap (λ (k : LinkSoFar). k.timers) c.self.view_is)
    (subst (λ (p : SoFar). IsLineRead c.args.limits p c.args.line.now c.in_ok-read_line.field-0 c.read_line.new.self) same c.in_ok-read_line.ensures.read)
