use Rattle.std.proofs.Common.{rules, ◌≡◌, ◌++◌, length, subst, refl, Some, None, slice_get}
use Rattle.segment_run.specs.Merging.{IsNextRun}
use Rattle.segment_run.proofs.ListLemmas.{got_read}
use Rattle.segment_run.proofs.MergeLemmas.{done_when_many, done_when_none, on_err, run_more, still_more, underway}
use Rattle.segment_run.proofs.merge.merge.Goals as goal

pub loop-init : goal.loop-init
loop-init g c = record {
  underway = λ kept parts held keep apart. underway g.K.AnswerSink.holds kept parts c.args.into.now c.args.used.now.items held keep apart;
  count = refl;
  room = refl;
}

pub returns-in_default-clause-merged : goal.returns-in_default-clause-merged
returns-in_default-clause-merged g c = λ kept parts held keep apart many.
    let none : c.next_run.result ≡ None = search rules in
    done_when_none g.K.AnswerSink.holds kept parts c.loop.into c.loop.used.items c.loop.counter (c.loop.invariant.underway kept parts held keep apart)
    (subst (IsNextRun g.K.AnswerSink.holds c.loop.used.items (length c.loop.used.items)) none (subst (λ l. IsNextRun g.K.AnswerSink.holds l (length l) c.next_run.result) c.as_slice.ensures.value c.next_run.ensures))

pub returns-clause-merged : goal.returns-clause-merged
returns-clause-merged g c = λ kept parts held keep apart many.
    done_when_many g.K.AnswerSink.holds kept parts c.loop.into c.loop.used.items c.loop.counter c.args.count (c.loop.invariant.underway kept parts held keep apart) many (search rules)

pub returns-in_err-move_before-clause-refused : goal.returns-in_err-move_before-clause-refused
returns-in_err-move_before-clause-refused g c = on_err c.from_residual.result (λ kept parts held keep apart.
    let u = c.loop.invariant.underway kept parts held keep apart in
    still_more g.K.AnswerSink.holds kept u.answers c.move_before.new.to (c.in_err-move_before.ensures.refused (kept ++ u.answers) u.held))

pub loop-preserved : goal.loop-preserved
loop-preserved g c =
    let n = c.loop.used.items in
    let found : c.next_run.result ≡ Some (c.in-Some.k, c.in-Some.field-0-1, c.in-Some.below) = search rules in
    let next : IsNextRun g.K.AnswerSink.holds n (length n) (Some (c.in-Some.k, c.in-Some.field-0-1, c.in-Some.below)) =
    subst (IsNextRun g.K.AnswerSink.holds n (length n)) found (subst (λ l. IsNextRun g.K.AnswerSink.holds l (length l) c.next_run.result) c.as_slice.ensures.value c.next_run.ensures) in
    let at : slice_get n c.in-Some.k ≡ Some c.index_mut.result.now = got_read n c.in-Some.k c.index_mut.result.now next.0 (search rules) in
    record {
      underway = λ kept parts held keep apart.
          run_more g.K.AnswerSink.holds kept parts c.loop.into c.move_before.new.to n c.loop.counter c.in-Some.k c.in-Some.field-0-1 c.in-Some.below c.index_mut.result.now
          (record { context = c.index_mut.result.now.context; sink = c.move_before.new.self })
          (c.loop.invariant.underway kept parts held keep apart) next at c.in_ok-move_before.ensures.handed;
      count = search rules;
      room = c.loop.invariant.room;
    }
