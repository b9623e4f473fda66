use Rattle.link_laws.proofs.NumberingsLemmas.{follows_start}
use Rattle.link_laws.proofs.links_follow_the_handshake.Goals as goal

pub returns : goal.returns
returns c events p at timely = follows_start events p at timely
