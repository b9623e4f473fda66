-- The removal of moved paths from a layout, and their new slots. Source: this project.
use Rattle.std.specs.Prelude.{◌≡◌, ℕ, ◌<◌, ⊤, Option, Some, None, List, [], ◌∷◌}
use Rattle.control_memory.specs.Layout.{Path, Layout, path_in, IsSlot}
use Rattle.control_memory.specs.Connecting.{with_path, without_path, IsFree}
use Rattle.paull_matrix.specs.declared.moves.Move.{Move}
use Rattle.control_memory.specs.declared.path_ends.PathEnds.{PathEnds}
use Rattle.control_memory.specs.Paths.{ends_of}

-- the path that moves
abbrev pub moving : Layout → Move → Option Path
moving layout v = path_in layout v.row v.old

-- the layout without these paths
abbrev pub without_all : Layout → List PathEnds → Layout
without_all layout [] = layout
without_all layout (e ∷ es) = without_all (without_path layout e.from) es

-- each of the moves finds its path in the layout after the moves before it, and these are the ends of the paths
abbrev pub AreTaken : Layout → List Move → List PathEnds → Type 0
AreTaken layout [] [] = ⊤
AreTaken layout [] (e ∷ es) = ⊥
AreTaken layout (v ∷ moves) [] = ⊥
AreTaken layout (v ∷ moves) (e ∷ es) = ((p : Path) × (moving layout v ≡ Some p) × (ends_of p ≡ e)) × AreTaken (without_path layout e.from) moves es

-- the ends of the paths that the moves find, in sequence
abbrev pub taken_by : Layout → List Move → List PathEnds
taken_by layout [] = []
taken_by layout (v ∷ moves) = elim (moving layout v) as (λ _. List PathEnds) [ None ↦ [] | Some p ↦ ends_of p ∷ taken_by (without_path layout p.from) moves ]

-- the layout with the paths set up again, each in the slot of its move
abbrev pub laid : Layout → List PathEnds → List Move → Layout
laid layout [] moves = layout
laid layout (e ∷ es) [] = layout
laid layout (e ∷ es) (v ∷ moves) = laid (with_path layout e.from e.to v.new) es moves

-- the slot of a move is free in both lines of its path, and so is the slot of each move after the moves before it
pub record HasRoom (lines slots : ℕ) (layout : Layout) (e : PathEnds) (v : Move) : Type 0 where
  pub from : IsSlot lines e.from
  pub to : IsSlot lines e.to
  pub slot : v.new < slots
  pub free : IsFree lines layout e.from e.to v.new

abbrev pub CanLay : ℕ → ℕ → Layout → List PathEnds → List Move → Type 0
CanLay lines slots layout [] [] = ⊤
CanLay lines slots layout [] (v ∷ moves) = ⊥
CanLay lines slots layout (e ∷ es) [] = ⊥
CanLay lines slots layout (e ∷ es) (v ∷ moves) = HasRoom lines slots layout e v × CanLay lines slots (with_path layout e.from e.to v.new) es moves
