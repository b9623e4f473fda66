use Rattle.exchange_laws.proofs.LastingLemmas as lasting
use Rattle.exchange_laws.proofs.linked_laws.calls_last.Goals as goal

pub returns : goal.returns
returns c = lasting.calls_last
