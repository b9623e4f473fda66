use Rattle.call_profile.proofs.HistoryLemmas.{made}
use Rattle.call_laws.proofs.runs.worlds_are_made.Goals as goal

pub returns : goal.returns
returns c = made
