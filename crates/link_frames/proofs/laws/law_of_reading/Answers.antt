use Rattle.link_frames.proofs.Readings.{reading_of_encoding}
use Rattle.link_frames.proofs.laws.law_of_reading.Goals as goal

pub returns : goal.returns
returns c s f h = reading_of_encoding s f h
