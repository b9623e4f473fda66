use Rattle.std.proofs.Common.{rules, arith, ap, sym, subst, ◌++◌, ◌∷◌, [], List, length, length-append}
use Rattle.std.specs.List.{All, AllZip}
use denote.Exit.{no}
use denote.Param.{param}
use denote.Param.Send.{param_send, param_sync, arg_send, arg_sync}
use Rattle.std.proofs.lemmas.List.Elements.{All-push}
use Rattle.call_processor.specs.declared.worked.WorkerOutput.{WorkerOutput}
use Rattle.segment_run.specs.declared.dealing.Job.{Job}
use Rattle.segment_run.specs.Jobs.{HasProcessed, MayProcess}
use Rattle.segment_run.proofs.ListLemmas.{all_front, all_last}
use Rattle.segment_run.proofs.RunLemmas.{zip_more}
use Rattle.segment_run.proofs.batch.+call_processors+fn-call_processors-join+arg3.Goals as goal

pub join-mine-requires-after_bounds : goal.join-mine-requires-after_bounds
join-mine-requires-after_bounds g t c lifetimes outlive =
    let ps = c.pop.new.self.items in
    let next = c.in-Some.next in
    let items = c.in-Some.ensures.items in
    let S : Job _ _ → Type 0 = λ j. g.B.Switchboard.seated c.args.cx.now.board.now j.seat in
    let M : Job _ _ → Type 0 = MayProcess g.B.Switchboard.known (g.B.Switchboard.board c.args.cx.now.board.now) c.args.cx.now.trace.now c.args.segment in
    let seated_one : S next = all_last S ps next (subst (All S) items c.requires.batch.seated) in
    let seated_all : All S ps = all_front S ps next (subst (All S) items c.requires.batch.seated) in
    let may_one : M next = all_last M ps next (subst (All M) items c.requires.batch.may) in
    let may_all : All M ps = all_front M ps next (subst (All M) items c.requires.batch.may) in (
      (c.requires.job, (param_send _ _ (arg_send _ no (param 2 g.row.K) (search rules)), param_send _ _ (arg_send _ no (param 4 g.row.B-Seat) (search rules)), search rules, search rules, param_sync _ _ (arg_sync _ no (param 3 g.row.R) (search rules)))),
      (search rules, (search rules, (search rules, (search rules, (search rules, (search rules, (search rules, ((seated_one, may_one), (record { seated = seated_all; may = may_all; room = search rules; empty = search rules }, (search rules, search rules, search rules, search rules, search rules)))))))))),
    )

pub returns : goal.returns
returns g t c =
    let P : WorkerOutput _ _ → Type 0 = λ w. g.B.Switchboard.seated c.args.cx.now.board.now w.seat in
    let R : Job _ _ → WorkerOutput _ _ → Type 0 = HasProcessed g.K.AnswerSink.holds g.B.Switchboard.known (g.B.Switchboard.board c.args.cx.now.board.now) c.args.cx.now.trace.now c.args.segment in
    let mine = c.join-mine.result.0 in
    let done = c.join-mine.result.1.done.items in
    let rest = c.join-mine.ensures.second in
    let items = c.push_reserved-2.ensures.items in
    let long = ap length items in
    let more = length-append done (mine ∷ []) in
    let jobs = ap length c.in-Some.ensures.items in
    let all = length-append c.args.batch.jobs.items (c.args.job ∷ []) in
    let count = rest.through.count in
    record {
      done = record {
        through = record { none = search rules; kept = search rules; room = search rules; count = omega (arith, long, more, jobs, all, count) };
        seated = subst (All P) (sym items) (All-push P done mine rest.seated c.join-mine.ensures.first.0);
        works = subst (AllZip R (c.args.batch.jobs.items ++ c.args.job ∷ [])) (sym items)
            (subst (λ (js : List (Job _ _)). AllZip R (js ++ c.args.job ∷ []) (done ++ mine ∷ [])) (sym c.in-Some.ensures.items)
            (zip_more R (c.pop.new.self.items ++ c.in-Some.next ∷ []) done c.args.job mine rest.works c.join-mine.ensures.first.1));
      };
    }
