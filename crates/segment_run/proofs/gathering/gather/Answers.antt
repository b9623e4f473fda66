use Rattle.std.proofs.Common.{rules, sym, subst, ap, ◌∙◌, List, ◌++◌, map, reverse}
use Rattle.std.specs.List.{All}
use Rattle.std.proofs.lemmas.List.Elements.{All-push}
use Rattle.seat_history.specs.declared.seat_knowledge.SeatKnowledge.{SeatKnowledge}
use Rattle.seat_history.specs.Histories.{StartsWith}
use Rattle.call_processor.specs.declared.worked.WorkerOutput.{WorkerOutput}
use Rattle.call_processor.specs.declared.worked.WorkerBuffers.{WorkerBuffers}
use Rattle.segment_run.specs.Workers.{after_joins}
use Rattle.segment_run.proofs.JoinLemmas.{after_joins_more, lists_more, starts_on}
use Rattle.segment_run.proofs.ListLemmas.{all_front}
use Rattle.segment_run.proofs.gathering.gather.Goals as goal

pub loop-output-preserved : goal.loop-output-preserved
loop-output-preserved g c =
    let P : WorkerOutput _ _ → Type 0 = λ w. g.B.Switchboard.seated c.args.board.now w.seat in
    let K = g.B.Switchboard.known in
    let f : WorkerOutput _ _ → SeatKnowledge = λ w. K w.seat in
    let h : WorkerOutput _ _ → WorkerBuffers _ = λ w. w.buffers in
    let items = c.in-Some.ensures.items in
    let ps = c.pop.new.self.items in
    let w = c.in-Some.output in
    record {
      seated = c.join.ensures.seated;
      others = all_front P ps w (subst (All P) items c.loop-output.invariant.others);
      chief = ap (λ (k : SeatKnowledge). k.number) c.join.ensures.seat ∙ c.loop-output.invariant.chief;
      room = search rules;
      kept = search rules;
      capacity = search rules;
      seat = ap (λ (k : SeatKnowledge). after_joins k (map f ps)) c.join.ensures.seat ∙ (sym (after_joins_more f (K c.loop-output.seat) ps w) ∙ (ap (λ (l : List (WorkerOutput _ _)). after_joins (K c.loop-output.seat) (map f l)) (sym items) ∙ c.loop-output.invariant.seat));
      unused = ap (λ (l : List (WorkerBuffers _)). l ++ reverse (map h ps)) c.push_reserved.ensures.items ∙ (lists_more h c.loop-output.used.items ps w ∙ (ap (λ (l : List (WorkerOutput _ _)). c.loop-output.used.items ++ reverse (map h l)) (sym items) ∙ c.loop-output.invariant.unused));
      fronts = λ history s a.
          let F : WorkerOutput _ _ → Type 0 = λ u. StartsWith history (K u.seat).seen in
          c.loop-output.invariant.fronts history (starts_on history (K c.join.new.seat).seen (K c.loop-output.seat).seen s c.join.ensures.first)
          (subst (All F) (sym items) (All-push F ps w a (starts_on history (K c.join.new.seat).seen (K w.seat).seen s c.join.ensures.second)));
      settled = λ s. c.join.ensures.settled;
      begins = starts_on _ _ _ c.join.ensures.first c.loop-output.invariant.begins;
    }
