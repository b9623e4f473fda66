use Rattle.std.proofs.Common.{rules, ◌≡◌, ℕ, ◌+◌, ◌≤◌, ◌++◌, ◌∷◌, [], sym, subst, ap, ◌∙◌, refl, arith, nat_eq, length, slice_index_or, length-append}
use Rattle.std.specs.Prelude.{vec_capacity}
use Rattle.std.specs.List.{All}
use Rattle.std.specs.declared.alloc.Global.{Global}
use Rattle.std.specs.declared.vec.Vec.{Vec}
use Rattle.std.proofs.lemmas.List.Elements.{All-push}
use Rattle.seat_history.specs.declared.seat_knowledge.SeatKnowledge.{SeatKnowledge}
use Rattle.segment_run.specs.declared.dealing.Job.{Job}
use Rattle.segment_run.proofs.DealLemmas.{Dealing, dealing_moved, load_enough, none_dealt, none_yet, one_dealt}
use Rattle.segment_run.proofs.dealing.deal.Goals.{then-turns-gt0, else-turns-gt0}
use Rattle.segment_run.proofs.dealing.deal.Goals as goal

pub loop-worker-init : goal.loop-worker-init
loop-worker-init g c =
    let K = g.B.Switchboard.known in
    let S : Job _ _ → Type 0 = λ j. g.B.Switchboard.seated c.args.board.now j.seat in
    let none = c.requires.room.1 in
    let long = ap length none in
    record {
      seated = c.requires.seated;
      others = subst (All S) (sym none) (λ k x h. absurd (omega (arith, h)));
      few = omega (arith, long);
      dealing = none_yet (λ (j : Job _ _). j.worker) (λ (j : Job _ _). K j.seat) c.args.trace.now c.args.segment (K c.args.seat.now) c.args.jobs.items none c.requires.chief.1;
      room = c.requires.room.0;
      lent = let nine = c.requires.unused in omega (arith, long, nine);
      kept = refl;
    }

pub split-mine-requires-clause-turns : goal.split-mine-requires-clause-turns
split-mine-requires-clause-turns g c =
    let K = g.B.Switchboard.known in
    let inv = c.loop-worker.invariant in
    let last = c.from-processors.ensures in
    let within = c.loop-worker-test.true in
    let le : c.loop-worker.worker ≤ c.args.trace.now.processors = omega (arith, last, within) in
    let h = load_enough (λ (j : Job _ _). j.worker) (λ (j : Job _ _). K j.seat) c.args.trace.now c.args.segment (K c.args.seat.now) c.loop-worker.worker c.loop-worker.jobs.items (K c.loop-worker.seat) le inv.dealing.turns inv.dealing.all c.requires.turns in
    let is = c.requires.loads c.loop-worker.worker le in
    omega (arith, h, is)

pub loop-worker-preserved : goal.loop-worker-preserved
loop-worker-preserved g c =
    let last = c.from-processors.ensures in
    let within = c.loop-worker-test.true in
    let le : c.loop-worker.worker ≤ c.args.trace.now.processors = omega (arith, last, within) in
    let K = g.B.Switchboard.known in
    let number : Job _ _ → ℕ = λ j. j.worker in
    let known : Job _ _ → SeatKnowledge = λ j. K j.seat in
    let S : Job _ _ → Type 0 = λ j. g.B.Switchboard.seated c.args.board.now j.seat in
    let trace = c.args.trace.now in
    let segment = c.args.segment in
    let v = K c.args.seat.now in
    let i = c.loop-worker.worker in
    let js = c.loop-worker.jobs.items in
    let inv = c.loop-worker.invariant in
    let is = c.requires.loads i le in
    elim c.if-turns-gt0.branch [
      | then-turns-gt0 w ↦
          let j : Job _ _ = record { worker = i; seat = w.split-mine.result; buffers = w.pop_unused-buffers.result } in
          let h = load_enough number known trace segment v i js (K c.loop-worker.seat) le inv.dealing.turns inv.dealing.all c.requires.turns in
          let d : Dealing number known trace segment v (i + 1) (js ++ j ∷ []) (K w.split-mine.new.seat) =
          one_dealt number known trace segment v i (slice_index_or c.args.loads.now i 0) (nat_eq i c.from-processors.result) js j (K c.loop-worker.seat) (K w.split-mine.new.seat) le is refl (omega (arith, h, is)) (ap (nat_eq i) last)
          w.split-mine.ensures.old w.split-mine.ensures.new inv.dealing in
          let items : c.if-turns-gt0.jobs.items ≡ js ++ j ∷ [] = ap (λ (l : Vec (Job _ _) Global). l.items) w.jobs-is ∙ w.push_reserved.ensures.items in
          let long = ap length items in
          let more = length-append js (j ∷ []) in
          let few = inv.few in
          record {
            seated = subst (g.B.Switchboard.seated c.args.board.now) (sym w.seat-is) w.split-mine.ensures.seated.0;
            others = subst (All S) (sym items) (All-push S js j inv.others w.split-mine.ensures.seated.1);
            few = omega (arith, long, more, few);
            dealing = dealing_moved number known trace segment v (i + 1) _ _ _ _ items (ap K w.seat-is) d;
            room = subst (λ (l : Vec (Job _ _) Global). 9 ≤ vec_capacity l) (sym w.jobs-is) (search rules);
            lent = search rules;
            kept = search rules;
          }
      | else-turns-gt0 w ↦
          let none = w.if-turns-gt0.false in
          let d : Dealing number known trace segment v (i + 1) js (K c.loop-worker.seat) = none_dealt number known trace segment v i js (K c.loop-worker.seat) (omega (arith, is, none)) inv.dealing in
          let items : c.if-turns-gt0.jobs.items ≡ js = ap (λ (l : Vec (Job _ _) Global). l.items) w.jobs-is in
          let long = ap length items in
          let few = inv.few in
          record {
            seated = subst (g.B.Switchboard.seated c.args.board.now) (sym w.seat-is) inv.seated;
            others = subst (All S) (sym items) inv.others;
            few = omega (arith, long, few);
            dealing = dealing_moved number known trace segment v (i + 1) _ _ _ _ items (ap K w.seat-is) d;
            room = subst (λ (l : Vec (Job _ _) Global). 9 ≤ vec_capacity l) (sym w.jobs-is) inv.room;
            lent = search rules;
            kept = search rules;
          }
    ]
