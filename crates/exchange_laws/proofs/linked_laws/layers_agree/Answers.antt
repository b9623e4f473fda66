use Rattle.exchange_laws.proofs.LayerLemmas as layers
use Rattle.exchange_laws.proofs.linked_laws.layers_agree.Goals as goal

pub returns-clause-down : goal.returns-clause-down
returns-clause-down c = layers.layers_agree

pub returns-clause-owing : goal.returns-clause-owing
returns-clause-owing c = layers.owes_if_down

pub returns-clause-first : goal.returns-clause-first
returns-clause-first c = layers.releases_first
