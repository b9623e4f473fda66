use Rattle.std.proofs.Common.{◌≡◌, ◌++◌, take, drop, length}
use Rattle.report_text.specs.Report.{frame_messages}
use Rattle.report_text.proofs.message.put_frame_signals.Given as goal

abbrev pub invariant-loop-sent : goal.invariant-loop-sent
invariant-loop-sent l = record {
  front : take (length l.fn.out.items) l.out.items ≡ l.fn.out.items;
  done : l.out.items ++ frame_messages (drop l.sent-index l.sends) ≡ l.fn.out.items ++ frame_messages l.sends;
}
