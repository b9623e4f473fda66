use Rattle.std.proofs.Common.{◌≡◌, List, length}
use Rattle.std.specs.Prelude.{vec_capacity}
use Rattle.call_processor.specs.declared.worked.Placed.{Placed}
use Rattle.segment_run.specs.Merging.{AreApart}
use Rattle.segment_run.specs.Merging.{Keep}
use Rattle.segment_run.proofs.MergeLemmas.{Underway}
use Rattle.segment_run.proofs.merge.merge.Given as goal

abbrev pub invariant-loop : goal.invariant-loop
invariant-loop g l = record {
  underway : (kept : List Placed) (parts : List (List Placed)) → g.K.AnswerSink.holds l.fn.into kept → Keep g.K.AnswerSink.holds l.fn.used.items parts → AreApart parts
      → Underway g.K.AnswerSink.holds kept parts l.into l.used.items l.counter;
  count : length l.used.items ≡ length l.fn.used.items;
  room : vec_capacity l.used ≡ vec_capacity l.fn.used;
}
