use Rattle.call_laws.proofs.EarlierFrameLemmas.{hears_kept}
use Rattle.call_laws.proofs.runs.later_frames_change_nothing.Goals as goal

pub returns : goal.returns
returns c = hears_kept
