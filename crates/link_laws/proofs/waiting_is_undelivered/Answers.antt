use Rattle.link_laws.proofs.TwoLinksLemmas.{undelivered_always}
use Rattle.link_laws.proofs.waiting_is_undelivered.Goals as goal

pub returns : goal.returns
returns c events p h = undelivered_always events p h
