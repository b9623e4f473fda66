-- Small fabrics, on which the definitions are evaluated.
use Rattle.std.specs.Prelude.{ℕ, ◌+◌, ◌*◌, None, replicate, zero, suc}
use Rattle.circuit_model.specs.declared.channel.Slot.{Slot}
use Rattle.control_memory.specs.Layout.{Layout}
use Rattle.control_memory.specs.Connecting.{connect, with_path}

abbrev pub at : ℕ → ℕ → Slot
at line place = record { line = line; place = place }

abbrev pub bare : ℕ → Layout
bare lines = replicate (30 * lines) None

-- both ways between two slots, on 30 internal slots
abbrev pub nailed : ℕ → Layout → Slot → Slot → Layout
nailed lines layout x y = connect lines 30 (connect lines 30 layout x y) y x

-- line 0 to the first half of line 2, line 1 to its second half, 15 connections each
abbrev pub halves : ℕ → Layout
halves zero = bare 3
halves (suc p) = nailed 3 (halves p) (at 0 p) (at 2 p)

abbrev pub both_halves : ℕ → Layout
both_halves zero = halves 15
both_halves (suc p) = nailed 3 (both_halves p) (at 1 p) (at 2 (p + 15))

-- three lines and two internal slots, with no slot free in both incoming line 0 and an outgoing line; to outgoing line
-- 0 the incoming line's chain has one path and the outgoing line's three
abbrev pub row_shorter : Layout
row_shorter = with_path (with_path (with_path (with_path (bare 3) (at 1 0) (at 0 0) 0) (at 1 1) (at 1 0) 1) (at 2 0) (at 1 1) 0) (at 0 0) (at 2 0) 1

-- one path moves, and the new path gets the slot that it leaves
abbrev pub row_moved : Layout
row_moved = with_path (with_path row_shorter (at 0 0) (at 2 0) 0) (at 0 1) (at 0 1) 1

-- to outgoing line 0 the incoming line's chain has three paths and the outgoing line's one
abbrev pub column_shorter : Layout
column_shorter = with_path (with_path (with_path (with_path (bare 3) (at 0 0) (at 1 0) 0) (at 1 0) (at 1 1) 1) (at 1 1) (at 2 0) 0) (at 2 0) (at 0 0) 1

abbrev pub column_moved : Layout
column_moved = with_path (with_path column_shorter (at 2 0) (at 0 0) 0) (at 0 1) (at 0 1) 1

-- to outgoing line 1 both have two, and the paths of the outgoing line's move
abbrev pub same_length : Layout
same_length = with_path (with_path (with_path (with_path (bare 3) (at 2 0) (at 1 0) 0) (at 2 1) (at 0 0) 1) (at 0 0) (at 2 0) 1) (at 1 0) (at 2 1) 0

abbrev pub tie_moved : Layout
tie_moved = with_path (with_path (with_path same_length (at 2 0) (at 1 0) 1) (at 2 1) (at 0 0) 0) (at 0 1) (at 1 1) 0
