-- The answers of several workers, merged by position. Source: this project.
use Rattle.std.specs.Prelude.{◌≡◌, ◌≢◌, ℕ, ◌<◌, ◌≤◌, ◌⊎◌, nat_lt, if◌then◌else◌, List, [], ◌∷◌, ◌++◌, length, slice_get, AllPairs, Option, Some, None}
use Rattle.call_processor.specs.declared.worked.Placed.{Placed}
use Rattle.call_processor.specs.declared.worked.WorkerBuffers.{WorkerBuffers}
use Rattle.call_processor.specs.Keeping.{first_place}

-- each answer comes after the earlier ones in the history
abbrev pub IsRising : List Placed → Type 0
IsRising answers = AllPairs (λ (p q : Placed). p.place < q.place) answers

-- the answers of all parts
unfoldable pub all_of : List (List Placed) → List Placed
all_of [] = []
all_of (ps ∷ parts) = ps ++ all_of parts

-- the item is in the list
abbrev pub IsOneOf : {X : Type 0} → X → List X → Type 0
IsOneOf x [] = ⊥
IsOneOf x (y ∷ ys) = (y ≡ x) ⊎ IsOneOf x ys

-- the answers of each part rise, and no two of different parts are at one position
abbrev pub AreApart : List (List Placed) → Type 0
AreApart [] = Unit {0}
AreApart (ps ∷ parts) = IsRising ps × ((p q : Placed) → IsOneOf p ps → IsOneOf q (all_of parts) → q.place ≢ p.place) × AreApart parts

-- the buffers of each worker hold one of the parts
abbrev pub Keep : {K : Type 0} → (K → List Placed → Type 0) → List (WorkerBuffers K) → List (List Placed) → Type 0
Keep holds [] [] = Unit {0}
Keep holds [] (ps ∷ parts) = ⊥
Keep holds (w ∷ used) [] = ⊥
Keep holds (w ∷ used) (ps ∷ parts) = holds w.sink ps × Keep holds used parts

-- these buffers hold parts that are apart
pub record AreKeptApart {K : Type 0} (holds : K → List Placed → Type 0) (used : List (WorkerBuffers K)) : Type 0 where
  pub parts : List (List Placed)
  pub kept : Keep holds used parts
  pub apart : AreApart parts

-- the answers of all parts in the order of the history
pub record IsMerged (parts : List (List Placed)) (answers : List Placed) : Type 0 where
  pub rising : IsRising answers
  pub each : (p : Placed) → IsOneOf p answers → IsOneOf p (all_of parts)
  pub many : length answers ≡ length (all_of parts)

-- an answer sink holds the merged parts after its earlier contents
pub record AddsMerged {K : Type 0} (holds : K → List Placed → Type 0) (kept : List Placed) (parts : List (List Placed)) (k : K) : Type 0 where
  pub answers : List Placed
  pub merged : IsMerged parts answers
  pub held : holds k (kept ++ answers)

-- The one of the first n workers' buffers with number k has the first event of all, at the position `first`. The events
-- of the others come after it, and none comes before the position `below`. If there are no such buffers, none of them
-- have an event.
abbrev pub IsNextRun : {K : Type 0} → (K → List Placed → Type 0) → List (WorkerBuffers K) → ℕ → Option (ℕ × ℕ × ℕ) → Type 0
IsNextRun holds used n None = (j : ℕ) (w : WorkerBuffers _) (ps : List Placed) → j < n → slice_get used j ≡ Some w → holds w.sink ps → first_place ps ≡ None
IsNextRun holds used n (Some (k, first, below)) = (k < n)
    × ((w : WorkerBuffers _) (ps : List Placed) → slice_get used k ≡ Some w → holds w.sink ps → first_place ps ≡ Some first)
    × ((j : ℕ) (w : WorkerBuffers _) (ps : List Placed) (q : ℕ) → j < n → j ≢ k → slice_get used j ≡ Some w → holds w.sink ps → first_place ps ≡ Some q → (first ≤ q) × (below ≤ q))

-- the earlier of the result so far and an event of buffers i
abbrev pub first_of_two : Option (ℕ × ℕ × ℕ) → ℕ → ℕ → ℕ × ℕ × ℕ
first_of_two None i place = (i, place, 4294967295)
first_of_two (Some (k, first, below)) i place =
    if nat_lt place first then (i, place, first) else (if nat_lt place below then (k, first, place) else (k, first, below))
