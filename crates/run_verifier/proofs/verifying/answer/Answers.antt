use Rattle.trace_text.proofs.SoundLemmas.{sound_trace}
use Rattle.run_verifier.proofs.verifying.answer.Goals as goal

pub on_fabric-requires-clause-sound : goal.on_fabric-requires-clause-sound
on_fabric-requires-clause-sound g c lifetimes outlive = sound_trace c.args.trace.now c.in_ok-trace.trace c.in_ok-trace.ensures.read
