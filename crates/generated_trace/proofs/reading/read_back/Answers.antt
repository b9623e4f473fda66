use Rattle.std.proofs.Common.{inl, inr}
use Rattle.generated_trace.proofs.reading.read_back.Goals as goal

pub unreachable-requires : goal.unreachable-requires
unreachable-requires c =
    elim (c.read_trace.ensures.reads_each c.requires.0 c.requires.1) [
      | inl read ↦ absurd cc
      | inr none ↦ absurd cc
    ]
