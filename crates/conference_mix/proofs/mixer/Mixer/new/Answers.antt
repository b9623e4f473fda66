use Rattle.std.proofs.Common.{replicate, pos}
use Rattle.conference_mix.proofs.SeatFacts.{get_or-replicate_same, kept-free, seats-free}
use Rattle.conference_mix.proofs.mixer.Mixer.new.Goals as goal

pub invariant_of-result : goal.invariant_of-result
invariant_of-result c = kept-free c.args.ports 60 60 257 c.requires

pub returns : goal.returns
returns c = seats-free c.args.ports (replicate 60 256) (replicate 60 (pos 0)) (λ k. get_or-replicate_same 60 256 k)
