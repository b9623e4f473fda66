use Rattle.generated_trace.proofs.Told.{events_counted, has_sizes, one_told, some_trace, IsWhatLinesSay_told, changes_none}
use Rattle.generated_trace.proofs.laws.law_of_generated_traces.Goals as goal

pub returns-clause-some : goal.returns-clause-some
returns-clause-some c = some_trace

pub returns-clause-one : goal.returns-clause-one
returns-clause-one c = one_told

pub returns-clause-told : goal.returns-clause-told
returns-clause-told c = IsWhatLinesSay_told

pub returns-clause-sizes : goal.returns-clause-sizes
returns-clause-sizes c = has_sizes

pub returns-clause-events : goal.returns-clause-events
returns-clause-events c = events_counted

pub returns-clause-changes : goal.returns-clause-changes
returns-clause-changes c = changes_none
