-- When an engine rests: all its octets are idle, and none arrives. Source: this project.
use Rattle.std.specs.Prelude.{◌≡◌, ℕ, ◌*◌, ◌≤◌, ◌<◌, List, length, None, slice_index_or}
use Rattle.circuit_model.specs.declared.channel.Slot.{Slot}
use Rattle.circuit_model.specs.FrameInput.{Input, idle_octet, octet_in}
use Rattle.frame_buffer.specs.Speech.{AllIdle, octet_in_half}
use Rattle.control_memory.specs.Image.{Control, lines_of}
use Rattle.tone_rules.specs.Tables.{table_of}
use Rattle.tone_rules.specs.declared.tones.Tones.{Tones}
use Rattle.frame_engine.specs.Frames.{PlaysOut}
use Rattle.frame_engine.specs.Playing.{played_at}

-- the octet that arrives on each slot of the lines is idle
abbrev pub SendsNothing : Input → Type 0
SendsNothing input = (at : Slot) → at.line < length input → octet_in input at ≡ idle_octet

-- nothing is stored in a frame but the idle octet: no conference port has a member, and only idle octets arrive
pub record IsQuiet (m : Control) (input : Input) : Type 0 where
  pub vacant : (k : ℕ) → k < 30 * m.bridges → slice_index_or m.rooms k None ≡ None
  pub idle : SendsNothing input

-- the number of frames until an engine rests, before a frame with this control memory and input, and after it: it is at
-- most 2 only if nothing is stored in the frame, and each frame lowers it by one at most
pub record FadesTo (live after : ℕ) (m : Control) (input : Input) : Type 0 where
  pub quiet : after ≤ 2 → IsQuiet m input
  pub second : after ≤ 1 → live ≤ 2
  pub third : after ≡ 0 → live ≤ 1

-- out has the octet that each external slot sends, if only idle octets were read out
abbrev pub PlaysAtRest : Tones → Control → List ℕ → List (List ℕ) → Type 0
PlaysAtRest tones m read out =
    AllIdle (lines_of m) read → PlaysOut m.external (played_at (table_of tones) m (octet_in_half read)) out
