use Rattle.std.proofs.Common.{ap}
use Rattle.circuit_model.specs.Hears.{hears}
use Rattle.call_profile.specs.World.{World}
use Rattle.call_laws.proofs.FabricLemmas.{without_moves-reply_alike, without_paths-next_alike, map-without_moves_replies, without_paths_ends_alike}
use Rattle.call_laws.proofs.runs.law_of_fabrics.Goals as goal

pub returns-clause-reply : goal.returns-clause-reply
returns-clause-reply c = without_moves-reply_alike

pub returns-clause-world : goal.returns-clause-world
returns-clause-world c = without_paths-next_alike

pub returns-clause-replies : goal.returns-clause-replies
returns-clause-replies c = map-without_moves_replies

pub returns-clause-end : goal.returns-clause-end
returns-clause-end c = without_paths_ends_alike

pub returns-clause-heard : goal.returns-clause-heard
returns-clause-heard c s slots es tones f y = ap (λ (w : World). hears tones w.inputs w.held f y) (without_paths_ends_alike s slots es)
