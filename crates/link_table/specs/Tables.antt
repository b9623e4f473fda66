-- The data links of the lines of an exchange. Source: this project.
use Rattle.std.specs.Prelude.{◌≡◌, ℕ, Bool, false, is_some, IsSome, List, [], map, Option, Some, None, slice_index_or, slice_set, if◌then◌else◌}
use Rattle.link_procedures.specs.Links.{DataLink, initial, is_up}

-- the link of each line that has one; the line whose received frame is not acknowledged yet; the number of messages submitted in the step; and the
-- frames sent in the step, in order, each with its line
pub record Table : Type 0 where
  pub links : List (Option DataLink)
  pub receiving : Option ℕ
  pub messages : ℕ
  pub lines : List ℕ
  pub frames : List (List ℕ)

-- the line has a link, and it is this one
abbrev pub IsLinked : List (Option DataLink) → ℕ → Type 0
IsLinked links line = IsSome (slice_index_or links line None)

abbrev pub IsLinkOf : List (Option DataLink) → ℕ → DataLink → Type 0
IsLinkOf links line l = slice_index_or links line None ≡ Some l

abbrev pub with_link : ℕ → DataLink → List (Option DataLink) → List (Option DataLink)
with_link line l links = slice_set links line (Some l)

-- the link of a line; none for a line without a link
abbrev pub link_of : ℕ → Table → Option DataLink
link_of line t = slice_index_or t.links line None

abbrev pub has_link : ℕ → Table → Bool
has_link line t = is_some (link_of line t)

abbrev pub is_link_up : Option DataLink → Bool
is_link_up None = false
is_link_up (Some l) = is_up l

-- a link at its start for each line that has one
abbrev pub new_link : ℕ → Bool → Option DataLink
new_link at has_one = if has_one then Some (initial at) else None

abbrev pub new_table : List Bool → ℕ → Table
new_table linked at = record { links = map (new_link at) linked; receiving = None; messages = 0; lines = []; frames = [] }
