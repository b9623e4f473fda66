use Rattle.std.proofs.Common.{rules, IsTrue, is_ok, sym}
use Rattle.exchange_core.specs.Boards.{turns_of}
use Rattle.tone_rules.specs.Tables.{table_of}
use Rattle.segment_run.proofs.AloneLemmas.{alone_answers, alone_chief, alone_long, alone_ran, alone_whole}
use Rattle.segment_run.proofs.by_caller.run_by_caller.Goals as goal

pub returns-then-is_err-clause-chief : goal.returns-then-is_err-clause-chief
returns-then-is_err-clause-chief g c =
    let K = g.B.Switchboard.known in
    alone_chief c.args.cx.now.trace.now c.args.segment (K c.args.seat.now) (K c.run_sequential-done.new.seat) (is_ok c.run_sequential-done.result) c.run_sequential-done.ensures.in_order
    (turns_of (g.B.Switchboard.board c.args.cx.now.board.now)) c.requires.may.chief c.run_sequential-done.ensures.settled

pub returns-then-is_err-clause-ran : goal.returns-then-is_err-clause-ran
returns-then-is_err-clause-ran g c =
    let K = g.B.Switchboard.known in
    alone_ran c.args.cx.now.trace.now c.args.segment (K c.args.seat.now) (K c.run_sequential-done.new.seat) (is_ok c.run_sequential-done.result) c.run_sequential-done.ensures.in_order

pub returns-then-is_err-clause-kept : goal.returns-then-is_err-clause-kept
returns-then-is_err-clause-kept g c = λ kept have.
    let works = c.run_sequential-done.ensures.works in
    c.truncate.ensures kept works.answers (works.held kept have) (sym (c.len-kept.ensures kept have))

pub returns-clause-chief : goal.returns-clause-chief
returns-clause-chief g c =
    let K = g.B.Switchboard.known in
    alone_chief c.args.cx.now.trace.now c.args.segment (K c.args.seat.now) (K c.run_sequential-done.new.seat) (is_ok c.run_sequential-done.result) c.run_sequential-done.ensures.in_order
    (turns_of (g.B.Switchboard.board c.args.cx.now.board.now)) c.requires.may.chief c.run_sequential-done.ensures.settled

pub returns-clause-ran : goal.returns-clause-ran
returns-clause-ran g c =
    let K = g.B.Switchboard.known in
    alone_ran c.args.cx.now.trace.now c.args.segment (K c.args.seat.now) (K c.run_sequential-done.new.seat) (is_ok c.run_sequential-done.result) c.run_sequential-done.ensures.in_order

pub returns-clause-whole : goal.returns-clause-whole
returns-clause-whole g c =
    let K = g.B.Switchboard.known in
    let all : IsTrue (is_ok c.run_sequential-done.result) = search rules in
    alone_whole c.args.cx.now.trace.now c.args.segment (K c.args.seat.now) (K c.run_sequential-done.new.seat) (is_ok c.run_sequential-done.result) c.run_sequential-done.ensures.in_order all

pub returns-clause-long : goal.returns-clause-long
returns-clause-long g c =
    let K = g.B.Switchboard.known in
    let all : IsTrue (is_ok c.run_sequential-done.result) = search rules in
    alone_long c.args.cx.now.trace.now c.args.segment (K c.args.seat.now) (K c.run_sequential-done.new.seat) (is_ok c.run_sequential-done.result) c.run_sequential-done.ensures.in_order all

pub returns-clause-answered : goal.returns-clause-answered
returns-clause-answered g c = λ kept have.
    let K = g.B.Switchboard.known in
    let all : IsTrue (is_ok c.run_sequential-done.result) = search rules in
    alone_answers c.args.cx.now.trace.now c.args.segment (K c.args.seat.now) (K c.run_sequential-done.new.seat) (is_ok c.run_sequential-done.result) c.run_sequential-done.ensures.in_order all
    g.K.AnswerSink.holds g.C.Carrier.plays (table_of c.args.cx.now.trace.now.tones) (g.B.Switchboard.board c.args.cx.now.board.now) c.args.sink.now c.run_sequential-done.new.sink c.run_sequential-done.ensures.works kept have
