use Rattle.exchange_laws.proofs.LaidWorldLemmas.{joins_reached, legal_reached}
use Rattle.exchange_laws.proofs.layout_laws.law_of_reached_layouts.Goals as goal

pub returns-clause-legal : goal.returns-clause-legal
returns-clause-legal c = legal_reached

pub returns-clause-joins : goal.returns-clause-joins
returns-clause-joins c = joins_reached
