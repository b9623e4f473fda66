-- Paths through a time-space-time fabric, and when they are legal. Source: C. Clos, "A study of non-blocking switching
-- networks" (1953), for the three stages; M. C. Paull, "Reswitching of connection networks" (1962), for legality: in
-- Paull's matrix no symbol is twice in a row or in a column.
use Rattle.std.specs.Prelude.{◌≡◌, ℕ, ◌+◌, ◌*◌, ◌/◌, ◌%◌, ◌<◌, ◌&&◌, ◌==◌, List, [], ◌∷◌, length, Option, Some, None, option_map, slice_index_or, find}
use Rattle.circuit_model.specs.declared.channel.Slot.{Slot}
use Rattle.circuit_model.specs.Circuits.{same_slot}
pub use Rattle.control_memory.specs.declared.route.Route.{Route}

-- a path from an inlet to an outlet in an internal slot
pub record Path : Type 0 where
  pub from : Slot
  pub to : Slot
  pub slot : ℕ

-- slots are numbered line by line, 30 to a line
abbrev pub number_of : Slot → ℕ
number_of at = 30 * at.line + at.place

abbrev pub slot_numbered : ℕ → Slot
slot_numbered n = record { line = n / 30; place = n % 30 }

-- a layout: for each inlet, by its number, the hop of its path, or none if the inlet is free
abbrev pub Layout : Type 0
Layout = List (Option Route)

abbrev pub hop_of : Layout → Slot → Option Route
hop_of layout from = slice_index_or layout (number_of from) None

-- the paths of a layout whose inlets are numbered from n on
abbrev pub paths_from : ℕ → Layout → List Path
paths_from n [] = []
paths_from n (None ∷ hops) = paths_from (n + 1) hops
paths_from n (Some hop ∷ hops) = record { from = slot_numbered n; to = hop.to; slot = hop.slot } ∷ paths_from (n + 1) hops

-- all its paths, in the order of their inlets
abbrev pub paths : Layout → List Path
paths layout = paths_from 0 layout

-- the path that an incoming line sends in an internal slot
abbrev pub path_in : Layout → ℕ → ℕ → Option Path
path_in layout line slot = find (λ p. (p.from.line == line) && (p.slot == slot)) (paths layout)

-- the path that an outgoing line gets in an internal slot
abbrev pub path_out : Layout → ℕ → ℕ → Option Path
path_out layout line slot = find (λ p. (p.to.line == line) && (p.slot == slot)) (paths layout)

-- the path that ends at an outlet
abbrev pub path_to : Layout → Slot → Option Path
path_to layout to = find (λ p. same_slot to p.to) (paths layout)

-- a slot of n lines
abbrev pub IsSlot : ℕ → Slot → Type 0
IsSlot lines at = (at.line < lines) × (at.place < 30)

-- the layout has the path
abbrev pub HasPath : Layout → Slot → Slot → ℕ → Type 0
HasPath layout from to slot = hop_of layout from ≡ Some (record { to = to; slot = slot })

-- the layout joins an inlet to an outlet, in some slot
abbrev pub Joins : Layout → Slot → Slot → Type 0
Joins layout from to = (slot : ℕ) × HasPath layout from to slot

-- a legal layout on n lines and m internal slots: each outlet ends at most one path, and no two paths of an incoming
-- line, or of an outgoing line, share an internal slot; by the form of a layout an inlet begins at most one path
pub record Legal (lines slots : ℕ) (layout : Layout) : Type 0 where
  pub inlets : length layout ≡ 30 * lines
  pub within : (from to : Slot) (slot : ℕ) → IsSlot lines from → HasPath layout from to slot → IsSlot lines to × (slot < slots)
  pub one_inlet : (from other to : Slot) (slot s : ℕ) → IsSlot lines from → IsSlot lines other → HasPath layout from to slot → HasPath layout other to s → from ≡ other
  pub one_sent : (from other to t : Slot) (slot : ℕ) → IsSlot lines from → IsSlot lines other → HasPath layout from to slot → HasPath layout other t slot → from.line ≡ other.line → from ≡ other
  pub one_received : (from other to t : Slot) (slot : ℕ) → IsSlot lines from → IsSlot lines other → HasPath layout from to slot → HasPath layout other t slot → to.line ≡ t.line → from ≡ other

-- nothing is connected
abbrev pub IsBare : Layout → Type 0
IsBare layout = (from : Slot) → hop_of layout from ≡ None

-- the three control tables of a layout, as lookups: the place that an incoming line sends in an internal slot, the
-- incoming line that an outgoing line gets in it, and the internal slot that a place of an outgoing line reads
abbrev pub place_sent : Layout → ℕ → ℕ → Option ℕ
place_sent layout line slot = option_map (λ p. p.from.place) (path_in layout line slot)

abbrev pub line_received : Layout → ℕ → ℕ → Option ℕ
line_received layout line slot = option_map (λ p. p.from.line) (path_out layout line slot)

abbrev pub slot_read : Layout → Slot → Option ℕ
slot_read layout at = option_map (λ p. p.slot) (path_to layout at)
