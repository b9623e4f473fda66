use Rattle.call_laws.proofs.GrantedNailLemmas.{nail_granted, nail_both}
use Rattle.call_laws.proofs.commands.law_of_granted_nails.Goals as goal

pub returns-clause-granted : goal.returns-clause-granted
returns-clause-granted c = nail_granted

pub returns-clause-both : goal.returns-clause-both
returns-clause-both c = nail_both
