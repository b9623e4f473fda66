use Rattle.std.proofs.Common.{rules, ◌+◌, sym, subst, ap, ◌∙◌, Some}
use Rattle.segment_run.specs.Merging.{IsNextRun}
use Rattle.call_processor.specs.declared.worked.WorkerBuffers.{WorkerBuffers}
use Rattle.segment_run.proofs.ListLemmas.{got_read}
use Rattle.segment_run.proofs.MergeLemmas.{next_more, next_same}
use Rattle.segment_run.proofs.merge.next_run.Goals.{in-Some, in_default}
use Rattle.segment_run.proofs.merge.next_run.Goals as goal

pub loop-i-preserved : goal.loop-i-preserved
loop-i-preserved g c =
    let at = got_read c.args.used.now c.loop-i.i c.index-used-i.result c.loop-i-test.true c.index-used-i.is in
    record {
      next = elim c.match-first_place.branch [
        | in-Some w ↦ subst (IsNextRun g.K.AnswerSink.holds c.args.used.now (c.loop-i.i + 1)) (sym (w.found-is ∙ ap Some w.earlier.ensures))
            (next_more g.K.AnswerSink.holds c.args.used.now c.loop-i.i c.index-used-i.result at w.in-Some.place (search rules) (λ ps held. sym (c.first_place.ensures ps (subst (λ (x : WorkerBuffers _). g.K.AnswerSink.holds x.sink ps) c.index-used-i.is held)) ∙ w.in-Some.is) c.loop-i.found c.loop-i.invariant.next)
        | in_default w ↦ subst (IsNextRun g.K.AnswerSink.holds c.args.used.now (c.loop-i.i + 1)) (sym w.found-is)
            (next_same g.K.AnswerSink.holds c.args.used.now c.loop-i.i c.index-used-i.result at (λ ps held. sym (c.first_place.ensures ps (subst (λ (x : WorkerBuffers _). g.K.AnswerSink.holds x.sink ps) c.index-used-i.is held)) ∙ w.in_default.is) c.loop-i.found c.loop-i.invariant.next)
      ];
    }
