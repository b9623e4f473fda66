-- The contents of a buffer pool between two segments. Source: this project.
use Rattle.std.specs.Prelude.{◌≡◌, ◌≤◌, [], vec_capacity}
use Rattle.std.specs.declared.alloc.Global.{Global}
use Rattle.std.specs.declared.vec.Vec.{Vec}

-- an empty list, with capacity for one item of each of nine workers
abbrev pub HasRoom : {T : Type 0} → Vec T Global → Type 0
HasRoom v = (9 ≤ vec_capacity v) × (v.items ≡ [])
