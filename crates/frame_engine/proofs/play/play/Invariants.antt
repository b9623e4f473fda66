use Rattle.frame_buffer.specs.Speech.{octet_in_half}
use Rattle.tone_rules.specs.Tables.{table_of}
use Rattle.frame_engine.specs.Frames.{PlaysOut}
use Rattle.frame_engine.specs.Playing.{played_at}
use Rattle.frame_engine.proofs.play.play.Given as goal

abbrev pub invariant-loop-line : goal.invariant-loop-line
invariant-loop-line l = PlaysOut l.line (played_at (table_of l.tones) l.image (octet_in_half l.read.readable)) l.out
