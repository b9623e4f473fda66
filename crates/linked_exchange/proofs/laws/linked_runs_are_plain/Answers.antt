use Rattle.linked_exchange.proofs.PlainLemmas.{trace_fits, trace_replies, trace_short, trace_world}
use Rattle.linked_exchange.proofs.QuietLemmas.{start_quiet}
use Rattle.linked_exchange.proofs.laws.linked_runs_are_plain.Goals as goal

pub returns-clause-fits : goal.returns-clause-fits
returns-clause-fits c = λ s timers linked is few fit. trace_fits s timers linked is few fit

pub returns-clause-short : goal.returns-clause-short
returns-clause-short c = λ s timers linked is short. trace_short s timers linked is short

pub returns-clause-world : goal.returns-clause-world
returns-clause-world c = λ s timers linked is. trace_world s timers linked is

pub returns-clause-replies : goal.returns-clause-replies
returns-clause-replies c = λ s timers linked is. trace_replies s timers linked is

pub returns-clause-silent : goal.returns-clause-silent
returns-clause-silent c = λ s linked. start_quiet s linked
