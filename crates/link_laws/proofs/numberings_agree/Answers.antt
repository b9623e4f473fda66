use Rattle.link_laws.proofs.HandshakeLemmas.{holds_always, agrees_now}
use Rattle.link_laws.specs.Handshake.{start, run}
use Rattle.link_laws.proofs.numberings_agree.Goals as goal

pub returns : goal.returns
returns c events mine theirs number acknowledged rest on at = agrees_now (run events start) mine theirs number acknowledged rest (holds_always events) on at
