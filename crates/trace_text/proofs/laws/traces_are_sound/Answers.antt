use Rattle.trace_text.proofs.SoundLemmas.{sound_trace}
use Rattle.trace_text.proofs.laws.traces_are_sound.Goals as goal

pub returns : goal.returns
returns c bytes t is = sound_trace bytes t is
