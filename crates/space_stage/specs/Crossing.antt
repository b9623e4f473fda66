-- The space stage of a time-space-time fabric. Source: this project; in each internal time slot the stage is a crossbar
-- whose crosspoints the control memory sets.
use Rattle.std.specs.Prelude.{◌≡◌, ◌==◌, ℕ, ◌+◌, ◌*◌, ◌<◌, ◌≤◌, List, slice_index, if◌then◌else◌}
use Rattle.circuit_model.specs.FrameInput.{idle_octet}
use Rattle.frame_buffer.specs.Highways.{Highways, octet_on, RowsHold, AreFilled}
use Rattle.control_memory.specs.Tables.{Table, entry}
use Rattle.control_memory.specs.Image.{Control, space_of}
use Rattle.control_memory.specs.Carrying.{fetched}

-- the octet that a line gets in an internal slot by a table: the octet of the incoming line in its entry, or the idle
-- octet if there is no entry
abbrev pub gets_by : Table → Highways → ℕ → ℕ → ℕ
gets_by table from line slot = fetched (entry table line slot) (λ l. octet_on from l slot)

-- the octet that an outgoing line gets in an internal slot
abbrev pub gets : Control → Highways → ℕ → ℕ → ℕ
gets control from = gets_by (space_of control) from

-- each outgoing line of a part that begins with line `first` has in its row the octets that it gets
abbrev pub IsCrossedPart : Control → Highways → ℕ → List ℕ → Type 0
IsCrossedPart control from first part = RowsHold control.slots (gets control from) first part

-- each outgoing line whose row is in n octets has in it the octets that it gets
abbrev pub AreCrossed : Control → Highways → ℕ → ℕ → List ℕ → Type 0
AreCrossed control from first octets part = AreFilled control.slots (gets control from) first octets part

-- every outgoing line has the octets that it gets
abbrev pub IsCrossed : Control → Highways → Highways → Type 0
IsCrossed control from to = (line slot : ℕ) → line < to.lines → slot < to.slots → octet_on to line slot ≡ gets control from line slot

-- the start of each incoming line's row among rows that begin with an idle one, by the line's byte; a byte without a
-- line gives the start of the idle row
pub record AreStarts (lines_in slots : ℕ) (starts : List ℕ) : Type 0 where
  pub lines : (line : ℕ) → line < lines_in → slice_index starts line ≡ (line + 1) * slots
  pub idle : slice_index starts 255 ≡ 0

-- at most four lines are listed, and every other line sends only idle octets
pub record AreSenders (h : Highways) (count : ℕ) (senders : List ℕ) : Type 0 where
  pub few : count ≤ 4
  pub small : h.lines ≤ 255
  pub inside : (k : ℕ) → k < count → slice_index senders k < h.lines
  pub silent : (line slot : ℕ) → line < h.lines → slot < h.slots → ((k : ℕ) → k < count → slice_index senders k ≡ line → ⊥) → octet_on h line slot ≡ idle_octet

-- a row after the octets of one line were laid over it, in the internal slots in which the row gets them
abbrev pub IsLaid : List ℕ → ℕ → List ℕ → List ℕ → List ℕ → Type 0
IsLaid lines line octets before afterwards =
    (at : ℕ) → at < 30 → slice_index afterwards at ≡ (if slice_index lines at == line then slice_index octets at else slice_index before at)
