use Rattle.std.proofs.Common.{ap, ◌∙◌, drop}
use Rattle.std.proofs.lemmas.List.{take_rest}
use Rattle.report_lines.specs.Lines.{text_of}
use Rattle.report_lines.proofs.LineLemmas.{text_left}
use Rattle.report_lines.proofs.lines.Lines.text.Goals as goal

pub returns : goal.returns
returns c = take_rest c.as_slice.result.now c.self.inside.handed.octets ∙ ap (drop c.self.inside.handed.octets) c.as_slice.ensures.value ∙ text_left _ _ _ _ c.self.invariant ∙ ap text_of c.self.view_is
