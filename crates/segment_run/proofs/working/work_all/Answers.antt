use Rattle.std.proofs.Common.{◌≡◌, ◌+◌, ◌<◌, ℕ, Bool, sym, subst, ap, ◌∙◌, IsTrue, List, map, reverse}
use Rattle.std.specs.List.{All}
use Rattle.seat_history.specs.declared.seat_knowledge.SeatKnowledge.{SeatKnowledge}
use Rattle.exchange_events.specs.Sound.{IsSound}
use Rattle.exchange_core.specs.Working.{Entry}
use Rattle.tone_rules.specs.Tables.{table_of}
use Rattle.call_processor.specs.declared.worked.WorkerOutput.{WorkerOutput}
use Rattle.call_processor.specs.Frames.{IsReady}
use Rattle.segment_run.specs.declared.dealing.Job.{Job}
use Rattle.segment_run.specs.Jobs.{HasItsOctets}
use Rattle.segment_run.specs.Merging.{Keep}
use Rattle.segment_run.specs.Workers.{after_joins, part_numbered}
use Rattle.seat_history.specs.Histories.{StartsWith}
use Rattle.call_processor.specs.declared.worked.Placed.{Placed}
use Rattle.call_processor.specs.declared.worked.WorkerBuffers.{WorkerBuffers}
use Rattle.segment_run.proofs.PairLemmas.{pairs, pairs_all, pairs_keep, length-pairs, pairs_map, pairs_said, pairs_work, pairs_zip}
use Rattle.segment_run.proofs.WholeRunLemmas.{Run, each_at, loads_below_enough_turns, run_answered, run_apart, run_chief, run_long, length-all_of_run, run_ran, run_ready, run_whole}
use Rattle.segment_run.proofs.working.work_all.Goals as goal

pub deal-jobs-requires-clause-few : goal.deal-jobs-requires-clause-few
deal-jobs-requires-clause-few g c lifetimes outlive =
    let sound : IsSound c.args.cx.now.trace.now = subst IsSound (sym c.requires.may.trace_is) ((g.met.B.Switchboard g.world.𝓛 g.world.𝓜 g.world.𝓡 ((λ s x. x), (λ x. x), (λ x. x), λ x. x)).sound_trace c.args.cx.now.board.now c.args.seat.now c.requires.seated) in
    sound.processors.1

pub deal-jobs-requires-clause-turns : goal.deal-jobs-requires-clause-turns
deal-jobs-requires-clause-turns g c lifetimes outlive =
    let sound : IsSound c.args.cx.now.trace.now = subst IsSound (sym c.requires.may.trace_is) ((g.met.B.Switchboard g.world.𝓛 g.world.𝓜 g.world.𝓡 ((λ s x. x), (λ x. x), (λ x. x), λ x. x)).sound_trace c.args.cx.now.board.now c.args.seat.now c.requires.seated) in
    loads_below_enough_turns c.args.cx.now.trace.now c.args.segment (g.B.Switchboard.known c.args.seat.now).left sound c.requires.may.within c.requires.may.turns

pub side_by_side-batch-requires-clause-ready : goal.side_by_side-batch-requires-clause-ready
side_by_side-batch-requires-clause-ready g c lifetimes outlive =
    let K = g.B.Switchboard.known in
    let v = K c.args.seat.now in
    let P : List Entry → Type 0 = λ seen. IsReady g.C.Carrier.carries g.C.Carrier.next g.C.Carrier.sizes (g.B.Switchboard.board c.args.cx.now.board.now) seen c.args.machine.value.engine c.args.machine.value.context.tool in
    each_at c.args.cx.now.trace.now c.args.segment (λ (j : Job _ _). j.worker) (λ (j : Job _ _). K j.seat) v P (v.made + 1) 0 c.deal-jobs.result.items c.deal-jobs.ensures.dealt c.requires.ready

pub returns-clause-works : goal.returns-clause-works
returns-clause-works g c =
    let K = g.B.Switchboard.known in
    let board = g.B.Switchboard.board c.args.cx.now.board.now in
    let trace = c.args.cx.now.trace.now in
    let plays = g.C.Carrier.plays in
    let tones = table_of trace.tones in
    let number : Job _ _ → ℕ = λ j. j.worker in
    let known : Job _ _ → SeatKnowledge = λ j. K j.seat in
    let octets : Job _ _ → SeatKnowledge → Placed → Type 0 = λ j. HasItsOctets plays tones board trace j.worker in
    let part : Job _ _ → List ℕ = λ j. part_numbered trace c.args.segment j.worker in
    let seat : WorkerOutput _ _ → SeatKnowledge = λ f. K f.seat in
    let place : WorkerOutput _ _ → WorkerBuffers _ = λ f. f.buffers in
    let done : WorkerOutput _ _ → Bool = λ f. f.whole in
    let joined : (WorkerOutput _ _) × List Placed → SeatKnowledge = λ u. K u.0.seat in
    let answers : (WorkerOutput _ _) × List Placed → List Placed = λ u. u.1 in
    let whole : (WorkerOutput _ _) × List Placed → Bool = λ u. u.0.whole in
    let sizes = g.C.Carrier.sizes in
    let v = K c.args.seat.now in
    let dealt = K c.deal-jobs.new.seat in
    let k = K c.gather.new.seat in
    let jobs = c.deal-jobs.result.items in
    let workers = c.side_by_side-batch.result.batch.done.items in
    let z = c.side_by_side-batch.ensures.works in
    let us = pairs g.K.AnswerSink.holds board octets part known seat place done jobs workers z in
    let sound : IsSound trace = subst IsSound (sym c.requires.may.trace_is) ((g.met.B.Switchboard g.world.𝓛 g.world.𝓜 g.world.𝓡 ((λ s x. x), (λ x. x), (λ x. x), λ x. x)).sound_trace c.args.cx.now.board.now c.args.seat.now c.requires.seated) in
    let r : Run board trace c.args.segment number known joined answers whole plays tones g.C.Carrier.carries g.C.Carrier.next sizes v dealt k jobs us c.args.machine.value.engine c.side_by_side-batch.result.machine.value.engine c.args.machine.value.context.tool c.side_by_side-batch.result.machine.value.context.tool = record {
      same = c.requires.may.trace_is;
      sound = sound;
      within = c.requires.may.within;
      chief = c.requires.may.chief;
      ready = c.requires.ready;
      few = c.deal-jobs.ensures.few;
      dealt = c.deal-jobs.ensures.dealt;
      idle = c.deal-jobs.ensures.idle;
      seat = c.deal-jobs.ensures.chief;
      baton = c.deal-jobs.ensures.baton;
      turns = c.deal-jobs.ensures.turns;
      all = c.deal-jobs.ensures.all;
      works = pairs_work g.K.AnswerSink.holds board octets part known seat place done jobs workers z;
      octets = pairs_said g.K.AnswerSink.holds board octets part known seat place done jobs workers z;
      readies = pairs_zip g.K.AnswerSink.holds board octets part known seat place done (λ j f. j.worker ≡ trace.processors → IsReady g.C.Carrier.carries g.C.Carrier.next sizes board (K f.seat).seen c.side_by_side-batch.result.machine.value.engine c.side_by_side-batch.result.machine.value.context.tool) jobs workers z c.side_by_side-batch.ensures.ready;
      idles = λ none. let same = c.side_by_side-batch.ensures.idle none in (ap (λ m. m.value.engine) same, ap (λ m. m.value.context.tool) same);
      joins = c.gather.ensures.seat ∙ ap (after_joins dealt) (sym (pairs_map g.K.AnswerSink.holds board octets part known seat place done seat jobs workers z));
      begins = c.gather.ensures.begins;
      fronts = pairs_all g.K.AnswerSink.holds board octets part known seat place done (λ f. StartsWith k.seen (K f.seat).seen) jobs workers z c.gather.ensures.fronts;
      settled = λ some. c.gather.ensures.settled (subst (λ (n : ℕ). 0 < n) (length-pairs g.K.AnswerSink.holds board octets part known seat place done jobs workers z) some);
    } in
    record {
      chief = run_chief board trace c.args.segment number known joined answers whole plays tones g.C.Carrier.carries g.C.Carrier.next sizes v dealt k jobs us c.args.machine.value.engine c.side_by_side-batch.result.machine.value.engine c.args.machine.value.context.tool c.side_by_side-batch.result.machine.value.context.tool r;
      ran = run_ran board trace c.args.segment number known joined answers whole plays tones g.C.Carrier.carries g.C.Carrier.next sizes v dealt k jobs us c.args.machine.value.engine c.side_by_side-batch.result.machine.value.engine c.args.machine.value.context.tool c.side_by_side-batch.result.machine.value.context.tool r;
      done = λ all.
          let all_done : All (λ (u : (WorkerOutput _ _) × List Placed). IsTrue (whole u)) us = pairs_all g.K.AnswerSink.holds board octets part known seat place done (λ f. IsTrue f.whole) jobs workers z (subst (All (λ (f : WorkerOutput _ _). IsTrue f.whole)) c.as_slice.ensures.value (c.all_whole-whole.ensures.0 all)) in
          record {
            whole = run_whole board trace c.args.segment number known joined answers whole plays tones g.C.Carrier.carries g.C.Carrier.next sizes v dealt k jobs us c.args.machine.value.engine c.side_by_side-batch.result.machine.value.engine c.args.machine.value.context.tool c.side_by_side-batch.result.machine.value.context.tool r all_done;
            long = run_long board trace c.args.segment number known joined answers whole plays tones g.C.Carrier.carries g.C.Carrier.next sizes v dealt k jobs us c.args.machine.value.engine c.side_by_side-batch.result.machine.value.engine c.args.machine.value.context.tool c.side_by_side-batch.result.machine.value.context.tool r all_done;
            ready = run_ready board trace c.args.segment number known joined answers whole plays tones g.C.Carrier.carries g.C.Carrier.next sizes v dealt k jobs us c.args.machine.value.engine c.side_by_side-batch.result.machine.value.engine c.args.machine.value.context.tool c.side_by_side-batch.result.machine.value.context.tool r;
            parts = reverse (map answers us);
            kept = subst (λ (l : List (WorkerBuffers _)). Keep g.K.AnswerSink.holds l (reverse (map answers us))) (sym c.gather.ensures.unused) (pairs_keep g.K.AnswerSink.holds board octets part known seat place done jobs workers z);
            apart = run_apart board trace c.args.segment number known joined answers whole plays tones g.C.Carrier.carries g.C.Carrier.next sizes v dealt k jobs us c.args.machine.value.engine c.side_by_side-batch.result.machine.value.engine c.args.machine.value.context.tool c.side_by_side-batch.result.machine.value.context.tool r all_done;
            many = length-all_of_run board trace c.args.segment number known joined answers whole plays tones g.C.Carrier.carries g.C.Carrier.next sizes v dealt k jobs us c.args.machine.value.engine c.side_by_side-batch.result.machine.value.engine c.args.machine.value.context.tool c.side_by_side-batch.result.machine.value.context.tool r all_done;
            answered = run_answered board trace c.args.segment number known joined answers whole plays tones g.C.Carrier.carries g.C.Carrier.next sizes v dealt k jobs us c.args.machine.value.engine c.side_by_side-batch.result.machine.value.engine c.args.machine.value.context.tool c.side_by_side-batch.result.machine.value.context.tool r all_done;
          };
    }
