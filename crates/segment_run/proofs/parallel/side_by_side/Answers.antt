use Rattle.std.proofs.Common.{rules, sym, subst, refl, ◌≡◌, ◌<◌, ◌≤◌, ◌++◌, ◌∷◌, [], IsTrue, arith}
use Rattle.std.specs.List.{All}
use Rattle.std.proofs.lemmas.List.Elements.{All-push}
use Rattle.call_processor.specs.declared.worked.WorkerOutput.{WorkerOutput}
use Rattle.tone_rules.specs.Tables.{table_of}
use Rattle.call_processor.specs.Frames.{IsReadyAt}
use Rattle.segment_run.specs.declared.dealing.Job.{Job}
use Rattle.segment_run.proofs.WorkerLemmas.{processors_may, frames_may, they_may, kept_frames, kept_numbered, no_frames, zip_last}
use Rattle.segment_run.proofs.ListLemmas.{all_front, all_last}
use Rattle.segment_run.proofs.parallel.side_by_side.Goals as goal

pub call_processors-batch-requires-clause-job : goal.call_processors-batch-requires-clause-job
call_processors-batch-requires-clause-job g c lifetimes outlive =
    let S : Job _ _ → Type 0 = λ j. g.B.Switchboard.seated c.args.cx.now.board.now j.seat in
    let below : c.in-Some.last.worker < c.args.cx.now.trace.now.processors = search rules in
    let p = processors_may c.args.cx.now.trace.now c.args.segment (λ (j : Job _ _). j.worker) (λ (j : Job _ _). g.B.Switchboard.known j.seat) c.args.batch.jobs.items c.pop.new.self.items c.in-Some.last c.in-Some.ensures.items c.requires.dealt below in
    (all_last S c.pop.new.self.items c.in-Some.last (subst (All S) c.in-Some.ensures.items c.requires.seated), (below, record { trace_is = c.requires.trace; within = c.requires.segment; turns = p.turn }))

pub call_processors-batch-requires-clause-batch : goal.call_processors-batch-requires-clause-batch
call_processors-batch-requires-clause-batch g c lifetimes outlive =
    let S : Job _ _ → Type 0 = λ j. g.B.Switchboard.seated c.args.cx.now.board.now j.seat in
    let below : c.in-Some.last.worker < c.args.cx.now.trace.now.processors = search rules in
    let p = processors_may c.args.cx.now.trace.now c.args.segment (λ (j : Job _ _). j.worker) (λ (j : Job _ _). g.B.Switchboard.known j.seat) c.args.batch.jobs.items c.pop.new.self.items c.in-Some.last c.in-Some.ensures.items c.requires.dealt below in
    record {
      seated = all_front S c.pop.new.self.items c.in-Some.last (subst (All S) c.in-Some.ensures.items c.requires.seated);
      may = they_may c.args.cx.now.trace.now c.args.segment (λ (j : Job _ _). j.worker) (λ (j : Job _ _). g.B.Switchboard.known j.seat) (g.B.Switchboard.board c.args.cx.now.board.now) c.requires.trace c.requires.segment c.pop.new.self.items p.numbers p.turns;
      room = search rules;
      empty = search rules;
    }

pub returns-then-last-from-clause-ready : goal.returns-then-last-from-clause-ready
returns-then-last-from-clause-ready g c =
    let below : c.in-Some.last.worker < c.args.cx.now.trace.now.processors = search rules in
    no_frames c.args.cx.now.trace.now c.args.segment (λ (j : Job _ _). j.worker) (λ (j : Job _ _). g.B.Switchboard.known j.seat) _ _ c.args.batch.jobs.items (c.pop.new.self.items ++ c.in-Some.last ∷ []) c.call_processors-batch.result.done.items c.in-Some.ensures.items (processors_may c.args.cx.now.trace.now c.args.segment (λ (j : Job _ _). j.worker) (λ (j : Job _ _). g.B.Switchboard.known j.seat) c.args.batch.jobs.items c.pop.new.self.items c.in-Some.last c.in-Some.ensures.items c.requires.dealt below).all c.call_processors-batch.ensures.done.works

pub with_frames-framed-requires-clause-seated : goal.with_frames-framed-requires-clause-seated
with_frames-framed-requires-clause-seated g c lifetimes outlive =
    let S : Job _ _ → Type 0 = λ j. g.B.Switchboard.seated c.args.cx.now.board.now j.seat in
    all_last S c.pop.new.self.items c.in-Some.last (subst (All S) c.in-Some.ensures.items c.requires.seated)

pub with_frames-framed-requires-clause-frames : goal.with_frames-framed-requires-clause-frames
with_frames-framed-requires-clause-frames g c lifetimes outlive =
    let past : c.args.cx.now.trace.now.processors ≤ c.in-Some.last.worker = search rules in
    let f = frames_may c.args.cx.now.trace.now c.args.segment (λ (j : Job _ _). j.worker) (λ (j : Job _ _). g.B.Switchboard.known j.seat) c.args.batch.jobs.items c.pop.new.self.items c.in-Some.last c.in-Some.ensures.items c.requires.dealt past in
    let Q : Job _ _ → Type 0 = λ j. j.worker ≡ c.args.cx.now.trace.now.processors → IsTrue (g.B.Switchboard.known j.seat).baton in
    let Y : Job _ _ → Type 0 = λ j. IsReadyAt g.C.Carrier.carries g.C.Carrier.next g.C.Carrier.sizes (g.B.Switchboard.board c.args.cx.now.board.now) (g.B.Switchboard.known j.seat) c.args.machine.value in
    record {
      work = record { trace_is = c.requires.trace; within = c.requires.segment; turns = f.frames };
      baton = all_last Q c.pop.new.self.items c.in-Some.last (subst (All Q) c.in-Some.ensures.items c.requires.baton) f.is;
      ready = all_last Y c.pop.new.self.items c.in-Some.last (subst (All Y) c.in-Some.ensures.items c.requires.ready);
    }

pub with_frames-framed-requires-clause-batch : goal.with_frames-framed-requires-clause-batch
with_frames-framed-requires-clause-batch g c lifetimes outlive =
    let S : Job _ _ → Type 0 = λ j. g.B.Switchboard.seated c.args.cx.now.board.now j.seat in
    let past : c.args.cx.now.trace.now.processors ≤ c.in-Some.last.worker = search rules in
    let p = frames_may c.args.cx.now.trace.now c.args.segment (λ (j : Job _ _). j.worker) (λ (j : Job _ _). g.B.Switchboard.known j.seat) c.args.batch.jobs.items c.pop.new.self.items c.in-Some.last c.in-Some.ensures.items c.requires.dealt past in
    record {
      seated = all_front S c.pop.new.self.items c.in-Some.last (subst (All S) c.in-Some.ensures.items c.requires.seated);
      may = they_may c.args.cx.now.trace.now c.args.segment (λ (j : Job _ _). j.worker) (λ (j : Job _ _). g.B.Switchboard.known j.seat) (g.B.Switchboard.board c.args.cx.now.board.now) c.requires.trace c.requires.segment c.pop.new.self.items p.numbers p.turns;
      room = search rules;
      empty = search rules;
    }

pub returns-clause-seated : goal.returns-clause-seated
returns-clause-seated g c =
    let P : WorkerOutput _ _ → Type 0 = λ f. g.B.Switchboard.seated c.args.cx.now.board.now f.seat in
    subst (All P) (sym c.push_reserved.ensures.items) (All-push P c.with_frames-framed.result.1.done.items c.with_frames-framed.result.0.output c.with_frames-framed.ensures.done.seated c.with_frames-framed.ensures.seated)

pub returns-clause-ready : goal.returns-clause-ready
returns-clause-ready g c =
    let past : c.args.cx.now.trace.now.processors ≤ c.in-Some.last.worker = search rules in
    zip_last _ c.args.batch.jobs.items c.pop.new.self.items c.in-Some.last c.push_reserved.new.self.items c.with_frames-framed.result.1.done.items c.with_frames-framed.result.0.output c.in-Some.ensures.items c.push_reserved.ensures.items
    (no_frames c.args.cx.now.trace.now c.args.segment (λ (j : Job _ _). j.worker) (λ (j : Job _ _). g.B.Switchboard.known j.seat) _ _ c.pop.new.self.items c.pop.new.self.items c.with_frames-framed.result.1.done.items refl (frames_may c.args.cx.now.trace.now c.args.segment (λ (j : Job _ _). j.worker) (λ (j : Job _ _). g.B.Switchboard.known j.seat) c.args.batch.jobs.items c.pop.new.self.items c.in-Some.last c.in-Some.ensures.items c.requires.dealt past).numbers c.with_frames-framed.ensures.done.works)
    (λ e. c.with_frames-framed.ensures.frames.ready)

pub returns-clause-idle : goal.returns-clause-idle
returns-clause-idle g c =
    let past : c.args.cx.now.trace.now.processors ≤ c.in-Some.last.worker = search rules in
    λ a.
    let N : Job _ _ → Type 0 = λ j. j.worker < c.args.cx.now.trace.now.processors in
    let h : c.in-Some.last.worker < c.args.cx.now.trace.now.processors = all_last N c.pop.new.self.items c.in-Some.last (subst (All N) c.in-Some.ensures.items a) in
    absurd (omega (arith, past, h))

pub returns-then-last-from-clause-works : goal.returns-then-last-from-clause-works
returns-then-last-from-clause-works g c =
    let below : c.in-Some.last.worker < c.args.cx.now.trace.now.processors = search rules in
    kept_numbered g.K.AnswerSink.holds g.C.Carrier.plays (table_of c.args.cx.now.trace.now.tones) (g.B.Switchboard.board c.args.cx.now.board.now) c.args.cx.now.trace.now c.args.segment (λ (j : Job _ _). j.worker) (λ (j : Job _ _). g.B.Switchboard.known j.seat) (λ (f : WorkerOutput _ _). g.B.Switchboard.known f.seat) (λ (f : WorkerOutput _ _). f.buffers.sink) (λ (f : WorkerOutput _ _). f.whole) c.args.batch.jobs.items (c.pop.new.self.items ++ c.in-Some.last ∷ []) c.call_processors-batch.result.done.items c.in-Some.ensures.items (processors_may c.args.cx.now.trace.now c.args.segment (λ (j : Job _ _). j.worker) (λ (j : Job _ _). g.B.Switchboard.known j.seat) c.args.batch.jobs.items c.pop.new.self.items c.in-Some.last c.in-Some.ensures.items c.requires.dealt below).all c.call_processors-batch.ensures.done.works

pub returns-clause-works : goal.returns-clause-works
returns-clause-works g c =
    let past : c.args.cx.now.trace.now.processors ≤ c.in-Some.last.worker = search rules in
    zip_last _ c.args.batch.jobs.items c.pop.new.self.items c.in-Some.last c.push_reserved.new.self.items c.with_frames-framed.result.1.done.items c.with_frames-framed.result.0.output c.in-Some.ensures.items c.push_reserved.ensures.items
    (kept_numbered g.K.AnswerSink.holds g.C.Carrier.plays (table_of c.args.cx.now.trace.now.tones) (g.B.Switchboard.board c.args.cx.now.board.now) c.args.cx.now.trace.now c.args.segment (λ (j : Job _ _). j.worker) (λ (j : Job _ _). g.B.Switchboard.known j.seat) (λ (f : WorkerOutput _ _). g.B.Switchboard.known f.seat) (λ (f : WorkerOutput _ _). f.buffers.sink) (λ (f : WorkerOutput _ _). f.whole) c.pop.new.self.items c.pop.new.self.items c.with_frames-framed.result.1.done.items refl (frames_may c.args.cx.now.trace.now c.args.segment (λ (j : Job _ _). j.worker) (λ (j : Job _ _). g.B.Switchboard.known j.seat) c.args.batch.jobs.items c.pop.new.self.items c.in-Some.last c.in-Some.ensures.items c.requires.dealt past).numbers c.with_frames-framed.ensures.done.works)
    (kept_frames g.K.AnswerSink.holds g.C.Carrier.plays (table_of c.args.cx.now.trace.now.tones) (g.B.Switchboard.board c.args.cx.now.board.now) c.args.cx.now.trace.now c.args.segment (λ (j : Job _ _). j.worker) (λ (j : Job _ _). g.B.Switchboard.known j.seat) (λ (f : WorkerOutput _ _). g.B.Switchboard.known f.seat) (λ (f : WorkerOutput _ _). f.buffers.sink) (λ (f : WorkerOutput _ _). f.whole) c.in-Some.last c.with_frames-framed.result.0.output past c.with_frames-framed.ensures.frames.works)
