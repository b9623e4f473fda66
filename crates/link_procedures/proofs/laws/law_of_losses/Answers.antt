use Rattle.link_procedures.proofs.AnyPeerLemmas.{received_processed, submitted_taken, finished_flushed, turned_turned, received_first}
use Rattle.link_procedures.proofs.laws.law_of_losses.Goals as goal

pub returns-clause-received : goal.returns-clause-received
returns-clause-received c f at s n = (received_processed f at s n).losses

pub returns-clause-submitted : goal.returns-clause-submitted
returns-clause-submitted c m at s = (submitted_taken m at s).losses

pub returns-clause-finished : goal.returns-clause-finished
returns-clause-finished c at s = (finished_flushed at s).keeps

pub returns-clause-turned : goal.returns-clause-turned
returns-clause-turned c t at s l = (turned_turned t at s l).losses

pub returns-clause-first : goal.returns-clause-first
returns-clause-first c = received_first
