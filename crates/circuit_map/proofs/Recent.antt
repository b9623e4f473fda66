-- The latest control memory of a map, after a change.
use Rattle.std.proofs.Common.{rules, ◌≡◌, ℕ, List, Option, None, sym, ◌∙◌, subst}
use Rattle.std.specs.Prelude.{IfSome}
use Rattle.control_memory.specs.declared.heard.Heard.{Heard}
use Rattle.control_memory.specs.Layout.{Layout}
use Rattle.control_memory.specs.Image.{HasLayout}
use Rattle.control_memory.specs.FrameTables.{Recent}
use Rattle.circuit_map.specs.Connections.{AreLatest, IsRecent}

-- no tables apply
pub nothing_latest : (layout : Layout) (hearing : List Heard) (sitting : List (Option (ℕ × ℕ))) (r : Recent) → r.latest ≡ None → AreLatest layout hearing sitting r
nothing_latest layout hearing sitting r none =
    subst (λ o. IfSome o (λ image. HasLayout image layout × (image.heard ≡ hearing) × (image.rooms ≡ sitting))) (sym none) (search rules)

-- the tables of the latest control memory do not apply after a change
pub forgotten : (external bridges slots depth : ℕ) (layout later : Layout) (hearing heard : List Heard) (sitting rooms : List (Option (ℕ × ℕ))) (r q : Recent) → IsRecent external bridges slots layout hearing sitting r
    → q.external ≡ r.external → q.bridges ≡ r.bridges → q.slots ≡ r.slots → q.latest ≡ None → depth ≡ slots
    → IsRecent external bridges depth later heard rooms q
forgotten external bridges slots depth layout later hearing heard sitting rooms r q was same_external same_bridges same_slots none deep = record {
  external = same_external ∙ was.external;
  bridges = same_bridges ∙ was.bridges;
  slots = same_slots ∙ was.slots ∙ sym deep;
  latest = nothing_latest later heard rooms q none;
}
