use Rattle.std.proofs.Common.{◌≡◌, ◌∷◌, Some, true, false, ap, sym, ◌∙◌, arith}
use Rattle.std.specs.List.{list_all}
use Rattle.trace_text.specs.TraceWords.{words, is_comment, is_printable}
use Rattle.trace_text.specs.TraceLines.{SoFar}
use Rattle.trace_text.proofs.TraceParts.{reads_by_kind}
use Rattle.trace_text.proofs.heading.Heading.reads.Goals as goal

pub returns-clause-reads : goal.returns-clause-reads
returns-clause-reads c =
    let line = c.args.line.now in
    let first = c.in-Some.kind.now in
    let comment : is_comment line ≡ false = grind (arith, c.if-eq, c.eq, c.first) in
    let cut : words line ≡ first ∷ words c.in-Some.rest.now = grind arith in
    let text : list_all is_printable line ≡ true = grind arith in
    let now = c.args.self.now in
    let known : now.sizes ≡ Some c.in-Some-sizes.sizes = ap (λ (s : SoFar). s.sizes) (sym c.self.view_is) ∙ c.in-Some-sizes.is in
    rw (reads_by_kind now c.in-Some-sizes.sizes line first (words c.in-Some.rest.now) known comment cut text, ← c.kind_of.ensures) c.line_of_kind.ensures.reads
