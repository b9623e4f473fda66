use Rattle.link_procedures.proofs.AnyPeerLemmas.{received_processed, submitted_taken, finished_flushed, flushed_sent, turned_turned}
use Rattle.link_procedures.proofs.laws.law_of_sent_frames.Goals as goal

pub returns-clause-received : goal.returns-clause-received
returns-clause-received c f at s n l = (received_processed f at s n).sent l

pub returns-clause-submitted : goal.returns-clause-submitted
returns-clause-submitted c m at s short l = (submitted_taken m at s).sent short l

pub returns-clause-finished : goal.returns-clause-finished
returns-clause-finished c at s l = flushed_sent s _ (finished_flushed at s) l

pub returns-clause-turned : goal.returns-clause-turned
returns-clause-turned c t at s l = (turned_turned t at s l).sent l
