use Rattle.privacy.proofs.SourceLemmas.{kinds, no_echo}
use Rattle.privacy.proofs.hearing_laws.law_of_source_kinds.Goals as goal

pub returns-clause-each : goal.returns-clause-each
returns-clause-each c = kinds

pub returns-clause-itself : goal.returns-clause-itself
returns-clause-itself c = no_echo
