use Rattle.std.proofs.Common.{◌≡◌, ◌+◌, drop}
use Rattle.linked_exchange.specs.Steps.{submitted_all}
use Rattle.linked_exchange.proofs.exchange.submit_all.Given as goal

abbrev pub invariant-loop-signal : goal.invariant-loop-signal
invariant-loop-signal l = record {
  rest : submitted_all l.at (drop l.signal-index l.signals) l.links ≡ submitted_all l.at l.signals l.fn.links;
  count : l.links.messages ≡ l.fn.links.messages + l.signal-index;
}
