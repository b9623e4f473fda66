-- The map of paths with which an exchange starts. Source: this project.
use Rattle.std.specs.Prelude.{◌≡◌, ◌≤◌, ◌*◌, ℕ, None, replicate}
use Rattle.control_memory.specs.Layout.{Layout}

-- a map of paths with which an exchange of n lines can start: it has n lines, 1 to 59 internal slots and no path
pub record IsUnused (lines width depth : ℕ) (layout : Layout) : Type 0 where
  pub wide : width ≡ lines
  pub some : 1 ≤ depth
  pub few : depth ≤ 59
  pub bare : layout ≡ replicate (30 * lines) None
