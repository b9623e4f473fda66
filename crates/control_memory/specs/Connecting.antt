-- The rule by which a path joins a layout: in the lowest common slot, or after live paths are moved along the shorter
-- of two alternating chains. Source: M. C. Paull, "Reswitching of connection networks", Bell System Technical Journal
-- 41 (1962). By the Slepian-Duguid theorem the internal slots need only be the same number as the places of a line. In
-- graph terms the chains are Kempe's. The choice of the shorter one is this project's.
use Rattle.std.specs.Prelude.{◌≡◌, ℕ, zero, suc, ◌+◌, ◌*◌, ◌&&◌, not, Bool, true, false, nat_lt, length, ◌==◌, is_none, List, [], ◌∷◌, Option, Some, None, unwrap_or, slice_set, find, if◌then◌else◌}
use Rattle.std.specs.List.{range_with_len}
use Rattle.circuit_model.specs.declared.channel.Slot.{Slot}
use Rattle.circuit_model.specs.Circuits.{same_slot}
use Rattle.control_memory.specs.Layout.{Route, Path, Layout, number_of, hop_of, path_in, path_out, IsSlot, HasPath}

-- the layout with a path from an inlet, which replaces any path that began there, and the layout without one
abbrev pub with_path : Layout → Slot → Slot → ℕ → Layout
with_path layout from to slot = slice_set layout (number_of from) (Some (record { to = to; slot = slot }))

abbrev pub without_path : Layout → Slot → Layout
without_path layout from = slice_set layout (number_of from) None

-- no path is in the way of a new one: its inlet and its outlet are free, and so is its internal slot in both lines
pub record IsFree (lines : ℕ) (layout : Layout) (from to : Slot) (slot : ℕ) : Type 0 where
  pub inlet : hop_of layout from ≡ None
  pub outlet : (x : Slot) (s : ℕ) → IsSlot lines x → HasPath layout x to s → ⊥
  pub sent : (x y : Slot) → IsSlot lines x → HasPath layout x y slot → x.line ≡ from.line → ⊥
  pub received : (x y : Slot) → IsSlot lines x → HasPath layout x y slot → y.line ≡ to.line → ⊥

-- an incoming line sends no path in the slot, an outgoing line gets none in it
abbrev pub is_unsent : Layout → ℕ → ℕ → Bool
is_unsent layout line slot = is_none (path_in layout line slot)

abbrev pub is_unreceived : Layout → ℕ → ℕ → Bool
is_unreceived layout line slot = is_none (path_out layout line slot)

-- the lowest of n slots that passes a test
abbrev pub lowest : (ℕ → Bool) → ℕ → Option ℕ
lowest test slots = find test (range_with_len 0 slots)

-- the two ends of a path
pub data Side : Type 0 where
  Incoming : Side
  Outgoing : Side

abbrev pub across : Side → Side
across Incoming = Outgoing
across Outgoing = Incoming

-- a line's path in a slot, seen from one side; and the line at the path's other end
abbrev pub path_at : Layout → Side → ℕ → ℕ → Option Path
path_at layout Incoming line slot = path_in layout line slot
path_at layout Outgoing line slot = path_out layout line slot

abbrev pub far_line : Side → Path → ℕ
far_line Incoming p = p.to.line
far_line Outgoing p = p.from.line

-- the alternating chain of slots a and b: the line's path in a, then the path in b at its other end, then one in a
-- again, and so on, for at most n paths
abbrev pub chain : ℕ → Layout → Side → ℕ → ℕ → ℕ → List Path
chain zero layout side line a b = []
chain (suc n) layout side line a b = elim (path_at layout side line a) [ None ↦ [] | Some p ↦ p ∷ chain n layout (across side) (far_line side p) b a ]

-- each path of the chain takes the other slot
abbrev pub exchanged : Layout → ℕ → ℕ → List Path → Layout
exchanged layout a b [] = layout
exchanged layout a b (p ∷ ps) = exchanged (with_path layout p.from p.to (if p.slot == a then b else a)) a b ps

-- the two chains that make room for a path from incoming line i to outgoing line j if no slot is free in both: a is the
-- lowest slot that line i leaves free, b the lowest that line j does; one starts with the path to line j in a, the
-- other with the path from line i in b
abbrev pub column_chain : ℕ → Layout → ℕ → ℕ → ℕ → List Path
column_chain lines layout j a b = chain (2 * lines) layout Outgoing j a b

abbrev pub row_chain : ℕ → Layout → ℕ → ℕ → ℕ → List Path
row_chain lines layout i a b = chain (2 * lines) layout Incoming i b a

-- the incoming line's chain is taken if it is strictly shorter
abbrev pub takes_row : ℕ → Layout → ℕ → ℕ → ℕ → ℕ → Bool
takes_row lines layout i j a b = nat_lt (length (row_chain lines layout i a b)) (length (column_chain lines layout j a b))

-- the paths of the chosen chain exchange a and b, and the new path gets the slot that is then free in both lines: b
-- with the incoming line's chain, a with the outgoing line's
abbrev pub joined_after : ℕ → Layout → Slot → Slot → ℕ → ℕ → Bool → Layout
joined_after lines layout from to a b true = with_path (exchanged layout a b (row_chain lines layout from.line a b)) from to b
joined_after lines layout from to a b false = with_path (exchanged layout a b (column_chain lines layout to.line a b)) from to a

abbrev pub first_unsent : ℕ → Layout → ℕ → ℕ
first_unsent slots layout i = unwrap_or (lowest (is_unsent layout i) slots) 0

abbrev pub first_unreceived : ℕ → Layout → ℕ → ℕ
first_unreceived slots layout j = unwrap_or (lowest (is_unreceived layout j) slots) 0

abbrev pub connect_in : ℕ → ℕ → Layout → Slot → Slot → Option ℕ → Layout
connect_in lines slots layout from to (Some slot) = with_path layout from to slot
connect_in lines slots layout from to None =
    let a = first_unsent slots layout from.line in
    let b = first_unreceived slots layout to.line in
    joined_after lines layout from to a b (takes_row lines layout from.line to.line a b)

-- the lowest slot that is free in both lines
abbrev pub common_slot : ℕ → Layout → ℕ → ℕ → Option ℕ
common_slot slots layout i j = lowest (λ s. is_unsent layout i s && is_unreceived layout j s) slots

-- the layout with a new path, on n lines and m internal slots
abbrev pub connect : ℕ → ℕ → Layout → Slot → Slot → Layout
connect lines slots layout from to = connect_in lines slots layout from to (common_slot slots layout from.line to.line)

-- the number of paths in both layouts that are in different slots
abbrev pub is_moved : Option Route → Option Route → ℕ
is_moved None other = 0
is_moved (Some hop) None = 0
is_moved (Some hop) (Some other) = if same_slot hop.to other.to && not (hop.slot == other.slot) then 1 else 0

abbrev pub moved : Layout → Layout → ℕ
moved [] after = 0
moved (hop ∷ hops) [] = 0
moved (hop ∷ hops) (other ∷ others) = is_moved hop other + moved hops others
