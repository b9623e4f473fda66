use Rattle.exchange_laws.proofs.LaidWorldLemmas.{legal_after, joins_after}
use Rattle.exchange_laws.proofs.layout_laws.law_of_layouts.Goals as goal

pub returns-clause-legal : goal.returns-clause-legal
returns-clause-legal c = legal_after

pub returns-clause-joins : goal.returns-clause-joins
returns-clause-joins c = joins_after
