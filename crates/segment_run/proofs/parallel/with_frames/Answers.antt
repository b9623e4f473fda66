use Rattle.std.proofs.Common.{rules, subst}
use Rattle.std.specs.List.{All}
use denote.Exit.{no}
use denote.Param.Send.{param_send, param_sync, arg_send, arg_sync}
use Rattle.segment_run.specs.declared.dealing.Job.{Job}
use Rattle.segment_run.specs.Jobs.{MayProcess}
use Rattle.segment_run.proofs.ListLemmas.{all_front, all_last}
use Rattle.segment_run.proofs.parallel.with_frames.Goals as goal

pub join-requires-after_bounds : goal.join-requires-after_bounds
join-requires-after_bounds g c lifetimes outlive =
    let ps = c.pop.new.self.items in
    let next = c.in-Some.next in
    let items = c.in-Some.ensures.items in
    let S : Job _ _ → Type 0 = λ j. g.B.Switchboard.seated c.args.cx.now.board.now j.seat in
    let M : Job _ _ → Type 0 = MayProcess g.B.Switchboard.known (g.B.Switchboard.board c.args.cx.now.board.now) c.args.cx.now.trace.now c.args.segment in
    let seated_one : S next = all_last S ps next (subst (All S) items c.requires.batch.seated) in
    let seated_all : All S ps = all_front S ps next (subst (All S) items c.requires.batch.seated) in
    let may_one : M next = all_last M ps next (subst (All M) items c.requires.batch.may) in
    let may_all : All M ps = all_front M ps next (subst (All M) items c.requires.batch.may) in
    let bounds = c.type_bounds in (
      (
        param_sync _ _ (arg_sync _ no _ bounds.sync-R),
        (
          c.requires.seated,
          (
            c.requires.frames,
            (
              param_send _ _ (arg_send _ no _ bounds.send-C),
              param_send _ _ (arg_send _ no _ bounds.send-K),
              param_send _ _ (arg_send _ no _ bounds.send-B-Seat),
              param_sync _ _ (arg_sync _ no _ bounds.sync-B),
              param_sync _ _ (arg_sync _ no _ bounds.sync-G),
              param_sync _ _ (arg_sync _ no _ bounds.sync-R),
            ),
          ),
        ),
      ),
      (
        param_sync _ _ (arg_sync _ no _ bounds.sync-R),
        (
          (seated_one, may_one),
          (
            record { seated = seated_all; may = may_all; room = search rules; empty = c.requires.batch.empty },
            (
              param_send _ _ (arg_send _ no _ bounds.send-K),
              param_send _ _ (arg_send _ no _ bounds.send-B-Seat),
              param_sync _ _ (arg_sync _ no _ bounds.sync-B),
              param_sync _ _ (arg_sync _ no _ bounds.sync-G),
              param_sync _ _ (arg_sync _ no _ bounds.sync-R),
            ),
          ),
        ),
      ),
    )
