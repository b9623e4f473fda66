use Rattle.std.proofs.Common.{◌≡◌, ℕ, ◌<◌, slice_index}
use Rattle.conference_mix.specs.Bridge.{mixed_for}
use Rattle.conference_mix.proofs.mix.Given as goal

abbrev pub invariant-loop-k : goal.invariant-loop-k
invariant-loop-k l = (j : ℕ) → j < l.k → slice_index l.out j ≡ mixed_for j l.fn.members
