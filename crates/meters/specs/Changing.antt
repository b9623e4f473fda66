-- Meters that are changed during a run: the active meters, the records of each in its active period, and the text that
-- is written. All of it is defined by this project.
use Rattle.std.specs.Prelude.{⊤, ◌≡◌, ℕ, ◌+◌, ◌<◌, ◌≤◌, ◌==◌, if◌then◌else◌, List, [], ◌∷◌, ◌++◌, length, slice_index_or, map, take, drop, replicate}
use Rattle.std.specs.List.{AllZip, concat}
use Rattle.exchange_events.specs.declared.record.CallRecord.{CallRecord}
use Rattle.meters.specs.Telling.{IsTold}

-- a step of a run: an event, with its text and the records of the calls that ended with it; or a change of meters
pub data Step : Type 0 where
  Event_done : List ℕ → List CallRecord → Step
  Meters_changed : Step

-- ---- the places of the changes

-- the changes of meters after n events
abbrev pub changes_at : List ℕ → ℕ → List Step
changes_at [] n = []
changes_at (count ∷ changes) n = if count == n then Meters_changed ∷ changes_at changes n else changes_at changes n

-- events with the changes after each, starting after n events
abbrev pub with_changes : List ℕ → ℕ → List Step → List Step
with_changes changes n [] = []
with_changes changes n (event ∷ events) = event ∷ (changes_at changes (n + 1) ++ with_changes changes (n + 1) events)

-- a cursor into changes: those before it are of earlier places, and those after it of this place or of later ones
pub record IsAt (changes : List ℕ) (cursor place : ℕ) : Type 0 where
  pub within : cursor ≤ length changes
  pub early : (k : ℕ) → k < cursor → slice_index_or changes k 0 < place
  pub late : (k : ℕ) → cursor ≤ k → k < length changes → place ≤ slice_index_or changes k 0

-- a cursor into changes: those before it are of this place or of earlier ones, and those after it of later ones
pub record IsPast (changes : List ℕ) (cursor place : ℕ) : Type 0 where
  pub within : cursor ≤ length changes
  pub early : (k : ℕ) → k < cursor → slice_index_or changes k 0 ≤ place
  pub late : (k : ℕ) → cursor ≤ k → k < length changes → place < slice_index_or changes k 0

-- ---- the meters of a run

-- an active meter: the meter at the start of its active period, and the records since then
pub record Watch (M : Type 0) : Type 0 where
  pub meter : M
  pub time : List CallRecord

-- the active meters, in order, and the spare meters
pub record Metering (M : Type 0) : Type 0 where
  pub on : List (Watch M)
  pub spare : List M

-- a meter at the start of its active period
abbrev pub begun : {M : Type 0} → M → Watch M
begun m = record { meter = m; time = [] }

-- an active meter after further records
abbrev pub noting : {M : Type 0} → List CallRecord → Watch M → Watch M
noting records w = record { meter = w.meter; time = w.time ++ records }

-- the meters of a run before its first step
abbrev pub handed_in : {M : Type 0} → List M → List M → Metering M
handed_in meters spare = record { on = map begun meters; spare = spare }

-- The meters after a step: all active meters record the calls of an event. A change removes the first of them, and then
-- the first spare meter becomes active after the others.
abbrev pub after_step : {M : Type 0} → Step → Metering M → Metering M
after_step (Event_done line records) s = record { on = map (noting records) s.on; spare = s.spare }
after_step Meters_changed s = record { on = drop 1 s.on ++ map begun (take 1 s.spare); spare = drop 1 s.spare }

-- the text of a step: at a change, the summary of the removed meter over the records of its active period
abbrev pub step_text : {M : Type 0} → (M → List CallRecord → List ℕ) → Step → Metering M → List ℕ
step_text text (Event_done line records) s = line
step_text text Meters_changed s = concat (map (λ w. text w.meter w.time) (take 1 s.on))

-- the meters after consecutive steps, and the text of these steps
abbrev pub after_steps : {M : Type 0} → List Step → Metering M → Metering M
after_steps [] s = s
after_steps (step ∷ steps) s = after_steps steps (after_step step s)

abbrev pub steps_text : {M : Type 0} → (M → List CallRecord → List ℕ) → List Step → Metering M → List ℕ
steps_text text [] s = []
steps_text text (step ∷ steps) s = step_text text step s ++ steps_text text steps (after_step step s)

-- the records of the calls that ended in some steps
abbrev pub records_of : List Step → List CallRecord
records_of [] = []
records_of (Event_done line records ∷ steps) = records ++ records_of steps
records_of (Meters_changed ∷ steps) = records_of steps

-- the text of the events in some steps
abbrev pub lines_of : List Step → List ℕ
lines_of [] = []
lines_of (Event_done line records ∷ steps) = line ++ lines_of steps
lines_of (Meters_changed ∷ steps) = lines_of steps

-- no meter is changed in these steps
abbrev pub AreEvents : List Step → Type 0
AreEvents [] = ⊤
AreEvents (Event_done line records ∷ steps) = AreEvents steps
AreEvents (Meters_changed ∷ steps) = ⊥

-- a meter recorded the calls of its active period
abbrev pub HasNoted : {M : Type 0} → (M → List CallRecord → Type 0) → (M → List CallRecord → List ℕ) → Watch M → M → Type 0
HasNoted stands text w m = IsTold w.time (stands w.meter) (stands m) (text w.meter) (text m)

-- these are the active meters, each with the calls of its active period recorded, and these are the spare meters
pub record AreMetered {M : Type 0} (stands : M → List CallRecord → Type 0) (text : M → List CallRecord → List ℕ) (s : Metering M) (meters spare : List M) : Type 0 where
  pub on : AllZip (HasNoted stands text) s.on meters
  pub spares : spare ≡ s.spare

-- n changes were made to these active and spare meters, for every state of the meters that a run can reach, and the
-- summaries of the removed meters were appended to a text
pub record AreChangedBy {M : Type 0} (stands : M → List CallRecord → Type 0) (text : M → List CallRecord → List ℕ) (n : ℕ) (meters spare : List M) (said : List ℕ) (new new_spare : List M) (all : List ℕ) : Type 0 where
  pub left : (s : Metering M) → AreMetered stands text s meters spare → AreMetered stands text (after_steps (replicate n Meters_changed) s) new new_spare
  pub said_is : (s : Metering M) → AreMetered stands text s meters spare → all ≡ said ++ steps_text text (replicate n Meters_changed) s

-- each meter recorded these calls
abbrev pub HaveNoted : {M : Type 0} → (M → List CallRecord → Type 0) → (M → List CallRecord → List ℕ) → List CallRecord → List M → List M → Type 0
HaveNoted stands text records old new = AllZip (λ m n. IsTold records (stands m) (stands n) (text m) (text n)) old new
