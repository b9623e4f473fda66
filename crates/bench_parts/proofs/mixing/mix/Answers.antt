use Rattle.std.proofs.Common.{List, Option, length, get_or, None, ap, ◌∙◌}
use Rattle.conference_mix.specs.declared.mixer.RoomMember.{RoomMember}
use Rattle.conference_mix.proofs.SeatFacts.{get_or-replicate_same}
use Rattle.bench_parts.proofs.mixing.mix.Goals as goal

pub loop-place-init : goal.loop-place-init
loop-place-init c = record {
  size = ap length c.new-mixer.ensures;
  free = λ k near. ap (λ (seats : List (Option RoomMember)). get_or seats k None) c.new-mixer.ensures ∙ get_or-replicate_same 60 None k;
}
