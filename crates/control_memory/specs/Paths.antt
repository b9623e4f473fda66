-- The paths of a fabric, with the control tables that carry them out. Source: this project.
use Rattle.std.specs.Prelude.{ℕ, ◌≤◌}
use Rattle.control_memory.specs.declared.path_ends.PathEnds.{PathEnds}
use Rattle.control_memory.specs.Layout.{Path, Layout, Legal}
use Rattle.control_memory.specs.Tables.{Table, HasSize, HasTables, entry}

-- a layout on n lines and m internal slots
pub record Fabric : Type 0 where
  pub lines : ℕ
  pub slots : ℕ
  pub layout : Layout

abbrev pub ends_of : Path → PathEnds
ends_of p = record { from = p.from; to = p.to }

-- the hops are a legal layout, and the three tables encode it
pub record IsTabled (lines slots : ℕ) (layout : Layout) (incoming space outgoing : Table) : Type 0 where
  pub few : lines ≤ 34
  pub legal : Legal lines slots layout
  pub incoming_size : HasSize incoming lines slots 30
  pub space_size : HasSize space lines slots lines
  pub outgoing_size : HasSize outgoing lines 30 slots
  pub tables : HasTables lines slots layout (entry incoming) (entry space) (entry outgoing)
