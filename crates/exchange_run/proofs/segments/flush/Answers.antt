use Rattle.std.proofs.Common.{subst}
use Rattle.std.specs.Io.KnownBytes.{Appends}
use Rattle.report_lines.specs.Lines.{text_of}
use Rattle.ex_io.specs.Streams.{AppendsFront}
use Rattle.linked_exchange.proofs.SteppingLemmas.{on_err}
use Rattle.exchange_run.proofs.Pending.{front_behind}
use Rattle.exchange_run.proofs.segments.flush.Goals as goal

pub returns-in_err-write_all-2-clause-front : goal.returns-in_err-write_all-2-clause-front
returns-in_err-write_all-2-clause-front g c =
    let mid = g.K.Sink.written c.write_all.new.sink in
    on_err c.from_residual-in_err-write_all-2.result
    (front_behind _ mid _ (text_of c.args.pending.now.lines) c.args.pending.now.said.items
    (subst (Appends (g.K.Sink.written c.args.sink.now) mid) c.text.ensures c.in_ok-write_all.ensures.whole)
    (subst (AppendsFront mid (g.K.Sink.written c.write_all-2.new.sink)) c.as_slice.ensures.value c.in_err-write_all-2.ensures.front))
