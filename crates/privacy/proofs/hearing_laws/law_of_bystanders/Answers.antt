use Rattle.privacy.proofs.SourceLemmas.{bystanders}
use Rattle.privacy.proofs.hearing_laws.law_of_bystanders.Goals as goal

pub returns : goal.returns
returns c = record { heard = bystanders }
