use Rattle.std.proofs.Common.{◌++◌, inr}
use Rattle.report_lines.specs.Lines.{text_of}
use Rattle.linked_exchange.proofs.SteppingLemmas.{on_ok_then}
use Rattle.exchange_run.proofs.Pending.{ok_both}
use Rattle.exchange_run.proofs.segments.flush_full.Goals as goal

pub returns-clause-flushed : goal.returns-clause-flushed
returns-clause-flushed g c = ok_both c.flush.result c.flush.ensures.whole c.flush.ensures.empty (λ written none. inr (written, (λ i. text_of (none.0 i) ++ none.1 i)))

pub returns-clause-silent : goal.returns-clause-silent
returns-clause-silent g c = on_ok_then c.flush.result c.flush.ensures.empty (λ none. none.1)

pub returns-clause-kept : goal.returns-clause-kept
returns-clause-kept g c = on_ok_then c.flush.result c.flush.ensures.empty (λ none. inr none.0)
