use Rattle.std.proofs.Common.{◌≡◌, ℕ, ◌<◌, slice_index}
use Rattle.conference_mix.specs.Rooms.{given_at}
use Rattle.conference_mix.proofs.mixer.Mixer.mix.Given as goal

abbrev pub invariant-loop-port : goal.invariant-loop-port
invariant-loop-port l = (j : ℕ) → j < l.port → slice_index l.out j ≡ given_at j l.self
