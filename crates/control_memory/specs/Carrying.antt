-- The movement of the octets of one frame through a time-space-time fabric. Source: this project.
use Rattle.std.specs.Prelude.{◌≡◌, ℕ, ◌<◌, Option, Some, None}
use Rattle.circuit_model.specs.declared.channel.Slot.{Slot}
use Rattle.circuit_model.specs.FrameInput.{idle_octet}
use Rattle.control_memory.specs.Layout.{Path, Layout, Legal, path_out, path_to}
use Rattle.control_memory.specs.Tables.{HasTables}

-- the octet of the place, line or slot in a control table's entry, or the idle octet if there is no entry
abbrev pub fetched : Option ℕ → (ℕ → ℕ) → ℕ
fetched None octet = idle_octet
fetched (Some n) octet = octet n

-- the octet of the inlet of a path, or the idle octet if there is no path
abbrev pub from_inlet : Option Path → (Slot → ℕ) → ℕ
from_inlet None octet = idle_octet
from_inlet (Some p) octet = octet p.from

-- the octet that an outgoing line gets in an internal slot: it comes from the inlet of its path there
abbrev pub crossing : Layout → (Slot → ℕ) → ℕ → ℕ → ℕ
crossing layout octet line slot = from_inlet (path_out layout line slot) octet

-- the octet that an outlet gets: it comes from the inlet of its path
abbrev pub carried : Layout → (Slot → ℕ) → Slot → ℕ
carried layout octet at = from_inlet (path_to layout at) octet

-- n lines send in m internal slots the octets of their places, by their table
abbrev pub SendsBy : ℕ → ℕ → (ℕ → ℕ → Option ℕ) → (Slot → ℕ) → (ℕ → ℕ → ℕ) → Type 0
SendsBy lines slots places octet highway = (line slot : ℕ) → line < lines → slot < slots → highway line slot ≡ fetched (places line slot) (λ place. octet (record { line = line; place = place }))

-- n lines hold in m internal slots the octets that the layout carries to them
abbrev pub HoldsCrossing : ℕ → ℕ → Layout → (Slot → ℕ) → (ℕ → ℕ → ℕ) → Type 0
HoldsCrossing lines slots layout octet crossed = (line slot : ℕ) → line < lines → slot < slots → crossed line slot ≡ crossing layout octet line slot

-- a legal layout on n lines and m internal slots, and the three tables that carry it out
pub record Wiring : Type 0 where
  pub lines : ℕ
  pub slots : ℕ
  pub layout : Layout
  pub places : ℕ → ℕ → Option ℕ
  pub crossed : ℕ → ℕ → Option ℕ
  pub read : ℕ → ℕ → Option ℕ
  pub legal : Legal lines slots layout
  pub tables : HasTables lines slots layout places crossed read

-- by the table `crossed`, the outgoing lines get the octets that the layout carries to them, if the incoming lines send
-- by `places`
abbrev pub BringsAcross : Wiring → Type 0
BringsAcross w = (octet : Slot → ℕ) (highway : ℕ → ℕ → ℕ) → SendsBy w.lines w.slots w.places octet highway
    → HoldsCrossing w.lines w.slots w.layout octet (λ line slot. fetched (w.crossed line slot) (λ from. highway from slot))

-- by the table `read`, their places then read the octet of the inlet of their path
abbrev pub BringsOut : Wiring → Type 0
BringsOut w = (octet : Slot → ℕ) (held : ℕ → ℕ → ℕ) → HoldsCrossing w.lines w.slots w.layout octet held
    → (at : Slot) → at.line < w.lines → at.place < 30 → fetched (w.read at.line at.place) (held at.line) ≡ carried w.layout octet at
