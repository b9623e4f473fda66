use Rattle.std.proofs.Common.{◌≤◌, ◌+◌, sym, subst}
use Rattle.std.specs.List.{All}
use Rattle.privacy.specs.Sources.{sources_through}
use Rattle.privacy.proofs.SourceLemmas.{room_since}
use Rattle.privacy.proofs.hearing_laws.law_of_silence.Goals as goal

pub returns-clause-room : goal.returns-clause-room
returns-clause-room c = λ held f x y room since hears. subst (λ h. All (λ o. since ≤ o.frame + 2) (sources_through held f h)) (sym hears) (room_since held f x room since)
