-- A speech memory of two halves: the octets of one frame are read while the next frame's are written, as in a time slot
-- interchanger with a double-buffered store. Source: this project.
use Rattle.std.specs.Prelude.{◌≡◌, ℕ, ◌+◌, ◌*◌, ◌<◌, List, ◌++◌, length, take, drop, slice_index}
use Rattle.circuit_model.specs.declared.channel.Slot.{Slot}
use Rattle.circuit_model.specs.FrameInput.{idle_octet}

-- the octets of the half that is filled and of the one that is read: line after line, 30 for each
pub record Speech : Type 0 where
  pub lines : ℕ
  pub filled : List ℕ
  pub readable : List ℕ

-- the octet of a slot in a half
abbrev pub octet_in_half : List ℕ → Slot → ℕ
octet_in_half octets at = slice_index octets (at.line * 30 + at.place)

-- each slot of n lines holds the idle octet
abbrev pub AllIdle : ℕ → List ℕ → Type 0
AllIdle lines octets = (at : Slot) → at.line < lines → at.place < 30 → octet_in_half octets at ≡ idle_octet

-- the memory with these octets written over the first ones of the half that is filled
abbrev pub speech_with : Speech → List ℕ → Speech
speech_with b ws = record { lines = b.lines; filled = take (length b.filled) (ws ++ drop (length ws) b.filled); readable = b.readable }

-- the octets of one line are these, by place, and the other lines are unchanged
pub record PutsLine (line : ℕ) (row old new : List ℕ) : Type 0 where
  pub written : (at : Slot) → at.line ≡ line → at.place < 30 → octet_in_half new at ≡ slice_index row at.place
  pub others : (at : Slot) → ¬ (at.line ≡ line) → at.place < 30 → octet_in_half new at ≡ octet_in_half old at
