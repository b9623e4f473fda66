use Rattle.std.proofs.Common.{ap, ◌∙◌, drop}
use Rattle.std.proofs.lemmas.List.{take_rest}
use Rattle.report_lines.specs.Lines.{calls_of}
use Rattle.report_lines.proofs.LineLemmas.{calls_left}
use Rattle.report_lines.proofs.lines.Lines.records.Goals as goal

pub returns : goal.returns
returns c = take_rest c.as_slice.result.now c.self.inside.handed.records ∙ ap (drop c.self.inside.handed.records) c.as_slice.ensures.value ∙ calls_left _ _ _ _ c.self.invariant ∙ ap calls_of c.self.view_is
