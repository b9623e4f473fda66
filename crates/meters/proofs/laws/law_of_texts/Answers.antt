use Rattle.meters.proofs.Registering.{holding_law}
use Rattle.meters.proofs.Rings.{detail_law}
use Rattle.meters.proofs.laws.law_of_texts.Goals as goal

pub returns-clause-detail : goal.returns-clause-detail
returns-clause-detail c = detail_law

pub returns-clause-holding : goal.returns-clause-holding
returns-clause-holding c = holding_law
