use Rattle.link_laws.proofs.TwoLinksLemmas.{delivered_always}
use Rattle.link_laws.proofs.in_order_between_links.Goals as goal

pub returns : goal.returns
returns c events p h = delivered_always events p h
