-- The changes of meters at one place of a run. Source: this project.
use Rattle.std.specs.Prelude.{◌≡◌, ◌≢◌, ℕ, ◌-◌, ◌<◌, ◌≤◌, List, [], ◌∷◌, ◌++◌, length, replicate, slice_index_or, take}
use Rattle.exchange_events.specs.declared.record.CallRecord.{CallRecord}
use Rattle.meters.specs.Changing.{AreChangedBy, AreMetered, IsPast, Metering, Meters_changed, after_steps, changes_at}

-- the meters that n changes remove, in order, from these meters and the spare meters that become active after them;
-- without an active meter, the first change removes none
abbrev pub leaving : {M : Type 0} → ℕ → List M → List M → List M
leaving n [] spare = take (n - 1) spare
leaving n (m ∷ meters) spare = take n ((m ∷ meters) ++ spare)

-- All changes of a place were made, and the cursor is after them.
pub record AreChangesDone {M : Type 0} (stands : M → List CallRecord → Type 0) (text : M → List CallRecord → List ℕ) (changes : List ℕ) (place : ℕ)
    (meters spare : List M) (said : List ℕ) (new new_spare : List M) (all : List ℕ) (cursor : ℕ) : Type 0 where
  pub count : ℕ
  pub made : AreChangedBy stands text count meters spare said new new_spare all
  pub are : changes_at changes place ≡ replicate count Meters_changed
  pub past : IsPast changes cursor place

-- n changes were made to these active and spare meters, and these are left: for every state of the meters that a run
-- can reach
abbrev pub AreMoved : {M : Type 0} → (M → List CallRecord → Type 0) → (M → List CallRecord → List ℕ) → ℕ → (meters spare new new_spare : List M) → Type 0
AreMoved {M} stands text n meters spare new new_spare =
    (s : Metering M) → AreMetered stands text s meters spare → AreMetered stands text (after_steps (replicate n Meters_changed) s) new new_spare

-- the changes of this place are those from `start` up to `end`
pub record IsRow (changes : List ℕ) (start place end : ℕ) : Type 0 where
  pub from : start ≤ end
  pub within : end ≤ length changes
  pub same : (k : ℕ) → start ≤ k → k < end → slice_index_or changes k 0 ≡ place
  pub last : end < length changes → slice_index_or changes end 0 ≢ place
