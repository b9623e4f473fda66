use Rattle.link_procedures.proofs.AnyPeerLemmas.{received_processed, submitted_taken, finished_flushed, turned_turned, initial_link}
use Rattle.link_procedures.proofs.laws.law_of_windows.Goals as goal

pub returns-clause-start : goal.returns-clause-start
returns-clause-start c at = initial_link at

pub returns-clause-received : goal.returns-clause-received
returns-clause-received c f at s n l = (received_processed f at s n).ranges l

pub returns-clause-submitted : goal.returns-clause-submitted
returns-clause-submitted c m at s short l = (submitted_taken m at s).ranges short l

pub returns-clause-finished : goal.returns-clause-finished
returns-clause-finished c at s l = (finished_flushed at s).ranges l

pub returns-clause-turned : goal.returns-clause-turned
returns-clause-turned c t at s l = (turned_turned t at s l).ranges l
