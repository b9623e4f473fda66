use Rattle.std.proofs.Common.{◌≡◌, [], map, ap, sym, subst, ◌∙◌}
use Rattle.tone_rules.specs.Tables.{table_of}
use Rattle.call_processor.specs.declared.worked.Placed.{Placed}
use Rattle.call_processor.specs.Frames.{IsReadyAt}
use Rattle.segment_run.specs.Segment.{AreAnswered}
use Rattle.segment_run.proofs.run.run_for_answers.Goals as goal

pub returns-clause-answer : goal.returns-clause-answer
returns-clause-answer g c =
    let adds = c.in_ok-done.ensures.answered [] c.new-sink.ensures in
    let ran = c.in_ok-done.ensures.whole in
    let same : c.in_ok-answers.answers.items ≡ map (λ (p : Placed). p.answer) adds.answers = c.in_ok-answers.ensures ∙ ap (map (λ (p : Placed). p.answer)) adds.held in
    record {
      whole = ran.whole;
      long = ran.long;
      answered = subst (AreAnswered g.C.Carrier.plays (table_of c.args.cx.now.trace.now.tones) (g.B.Switchboard.board c.args.cx.now.board.now) (g.B.Switchboard.known c.args.seat.now) (g.B.Switchboard.known c.run_segment_with.new.seat)) (sym same) adds.answered;
      ready = subst (IsReadyAt g.C.Carrier.carries g.C.Carrier.next g.C.Carrier.sizes (g.B.Switchboard.board c.args.cx.now.board.now) (g.B.Switchboard.known c.run_segment_with.new.seat)) (sym c.into_inner-machine.ensures) ran.ready;
    }
