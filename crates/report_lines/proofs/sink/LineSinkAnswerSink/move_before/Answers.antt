use Rattle.std.proofs.Common.{refl}
use Rattle.report_lines.specs.Lines.{line_of}
use Rattle.report_lines.proofs.LineLemmas.{hands_answers_ok}
use Rattle.report_lines.proofs.sink.LineSinkAnswerSink.move_before.Goals as goal

pub returns-clause-handed : goal.returns-clause-handed
returns-clause-handed g c =
    rw (← c.self.view_is, ← c.to.view_is)
    (hands_answers_ok (line_of g.L.ListingKind.listing) (λ p. refl) c.move_before.result c.args.below _ _ _ _ c.move_before.ensures.handed)
