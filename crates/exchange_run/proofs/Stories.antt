-- The story of a run that goes on.
use Rattle.std.proofs.Common.{◌≡◌, ℕ, suc, Bool, true, false, if◌then◌else◌, ◌==◌, ◌+◌, List, [], ◌∷◌, ◌++◌, length, refl, sym, ap, ◌∙◌, subst, arith, append_assoc}
use Rattle.std.specs.Prelude.{All}
use Rattle.exchange_events.specs.declared.record.CallRecord.{CallRecord}
use Rattle.exchange_events.specs.declared.trace.Event.{Event}
use Rattle.exchange_events.specs.Kept.{kept_of}
use Rattle.exchange_events.specs.Sizes.{Setting}
use Rattle.call_profile.specs.CallsTold.{calls_ended, calls_kept, calls_told}
use Rattle.call_profile.specs.Step.{events_of, next, reply, run, world_after_all}
use Rattle.call_profile.specs.World.{World, start}
use Rattle.report_lines.specs.declared.listing.Listing.{Listing}
use Rattle.report_lines.specs.declared.listing.Listing.TheVariants as listing
use Rattle.report_lines.specs.Lines.{listed}
use Rattle.exchange_events.specs.declared.trace.Trace.{Trace}
use Rattle.exchange_events.specs.Orders.{IsEvent}
use Rattle.exchange_events.specs.Sound.{setting_of}
use Rattle.seat_history.specs.declared.seat_knowledge.SeatKnowledge.{SeatKnowledge}
use Rattle.seat_history.specs.Histories.{StartsWith}
use Rattle.exchange_core.specs.Boards.{Board, setting_at, world_at}
use Rattle.exchange_core.specs.Working.{order_of}
use Rattle.tone_rules.specs.Tables.{table_of}
use Rattle.circuit_model.specs.Hears.{Plays}
use Rattle.report_text.specs.RunReport.{Played, event_line, event_lines, report}
use Rattle.segment_run.specs.Segment.{new_events}
use Rattle.segment_run.proofs.OrderLemmas.{order_grown}
use Rattle.meters.specs.Changing.{Step, Event_done, Meters_changed, Metering, AreEvents, AreMetered, after_steps, changes_at, handed_in, lines_of, records_of, steps_text, with_changes}
use Rattle.meters.proofs.Changes.{law_of_lines, law_of_times, records-append}
use Rattle.meters.proofs.Placed.{records-at, records-with, with-append, with-none}
use Rattle.exchange_run.specs.Running.{grown_calls, grown_lines}
use Rattle.linked_exchange.specs.Story.{event_steps, story}
use Rattle.linked_exchange.specs.Parties.{AreLeft}
use Rattle.linked_exchange.specs.Telling.{AreTold}
use Rattle.exchange_run.proofs.Answered.{events_append, events_long}

module _ (played : Played) (l : Listing) (s : Setting) where
  pub are_events : (w : World) (order : List ℕ) (events : List Event) → AreEvents (event_steps played l s w order events)
  are_events w [] events = tt
  are_events w (n ∷ order) [] = tt
  are_events w (n ∷ order) (e ∷ events) = are_events (next s w e) order events

  pub steps-length : (w : World) (order : List ℕ) (events : List Event) → length order ≡ length events → length (event_steps played l s w order events) ≡ length order
  steps-length w [] events same = refl
  steps-length w (n ∷ order) [] same = absurd (omega (arith, same))
  steps-length w (n ∷ order) (e ∷ events) same = ap suc (steps-length (next s w e) order events (omega (arith, same)))

  pub steps-append : (w : World) (order more : List ℕ) (es fs : List Event) → length order ≡ length es
      → event_steps played l s w (order ++ more) (es ++ fs) ≡ event_steps played l s w order es ++ event_steps played l s (world_after_all s w es) more fs
  steps-append w [] more [] fs same = refl
  steps-append w [] more (e ∷ es) fs same = absurd (omega (arith, same))
  steps-append w (n ∷ order) more [] fs same = absurd (omega (arith, same))
  steps-append w (n ∷ order) more (e ∷ es) fs same =
      ap (λ (steps : List Step). Event_done (listed l (event_line played s w n e)) (calls_kept (kept_of (reply s w e))) ∷ steps) (steps-append (next s w e) order more es fs (omega (arith, same)))

  -- they have the records of the calls that ended
  pub steps-records : (w : World) (order : List ℕ) (events : List Event) → length order ≡ length events → records_of (event_steps played l s w order events) ≡ calls_ended (run s w events)
  steps-records w [] [] same = refl
  steps-records w [] (e ∷ events) same = absurd (omega (arith, same))
  steps-records w (n ∷ order) [] same = absurd (omega (arith, same))
  steps-records w (n ∷ order) (e ∷ events) same = ap (λ (rs : List CallRecord). calls_kept (kept_of (reply s w e)) ++ rs) (steps-records (next s w e) order events (omega (arith, same)))

-- and what is written of them is their lines, as far as lines are listed
pub steps-lines : (played : Played) (l : Listing) (s : Setting) (w : World) (order : List ℕ) (events : List Event) → lines_of (event_steps played l s w order events) ≡ listed l (event_lines played s w order events)
steps-lines played listing.Report s w [] events = refl
steps-lines played listing.Report s w (n ∷ order) [] = refl
steps-lines played listing.Report s w (n ∷ order) (e ∷ events) = ap (λ (t : List ℕ). event_line played s w n e ++ t) (steps-lines played listing.Report s (next s w e) order events)
steps-lines played listing.Nothing s w [] events = refl
steps-lines played listing.Nothing s w (n ∷ order) [] = refl
steps-lines played listing.Nothing s w (n ∷ order) (e ∷ events) = steps-lines played listing.Nothing s (next s w e) order events

-- ---- the lines in some steps

pub lines-append : (xs ys : List Step) → lines_of (xs ++ ys) ≡ lines_of xs ++ lines_of ys
lines-append [] ys = refl
lines-append (Event_done line records ∷ xs) ys = ap (λ (l : List ℕ). line ++ l) (lines-append xs ys) ∙ sym (append_assoc line (lines_of xs) (lines_of ys))
lines-append (Meters_changed ∷ xs) ys = lines-append xs ys

-- changes have none
pub lines-at : (changes : List ℕ) (n : ℕ) → lines_of (changes_at changes n) ≡ []
lines-at [] n = refl
lines-at (count ∷ changes) n = by_test (count == n) (lines-at changes n)
  where
    by_test : (b : Bool) → lines_of (changes_at changes n) ≡ [] → lines_of (if b then Meters_changed ∷ changes_at changes n else changes_at changes n) ≡ []
    by_test true rest = rest
    by_test false rest = rest

-- ---- the story of a run

module _ (plays : Plays) (l : Listing) (board : Board) (v w : SeatKnowledge) where
  -- the steps of the events that the history grew by
  abbrev pub grown_steps : List Step
  grown_steps = event_steps (plays (table_of board.trace.tones)) l (setting_at board) (world_at board v.seen) (new_events v w) (events_of board.trace.events (new_events v w))

  pub grown_are_events : AreEvents grown_steps
  grown_are_events = are_events (plays (table_of board.trace.tones)) l (setting_at board) (world_at board v.seen) (new_events v w) (events_of board.trace.events (new_events v w))

  pub lines_of-grown_steps_text : lines_of grown_steps ≡ listed l (grown_lines plays board v w)
  lines_of-grown_steps_text = steps-lines (plays (table_of board.trace.tones)) l (setting_at board) (world_at board v.seen) (new_events v w) (events_of board.trace.events (new_events v w))

  module _ (known : All (IsEvent board.trace) (new_events v w)) where
    pub grown_records : records_of grown_steps ≡ grown_calls board v w
    grown_records =
        steps-records (plays (table_of board.trace.tones)) l (setting_at board) (world_at board v.seen) (new_events v w) (events_of board.trace.events (new_events v w)) (events_long board.trace (new_events v w) known)

    pub grown_length : length grown_steps ≡ length (new_events v w)
    grown_length =
        steps-length (plays (table_of board.trace.tones)) l (setting_at board) (world_at board v.seen) (new_events v w) (events_of board.trace.events (new_events v w)) (events_long board.trace (new_events v w) known)

  -- the story of a longer order begins with the story of its beginning
  module _ (begins : StartsWith w.seen v.seen) (before : All (IsEvent board.trace) (order_of v.seen)) where
    pub story_grown : story plays l board.slots board.trace (order_of w.seen) ≡ story plays l board.slots board.trace (order_of v.seen) ++ with_changes board.trace.changes (length (order_of v.seen)) grown_steps
    story_grown =
        let played = plays (table_of board.trace.tones) in
        let s = setting_at board in
        let changes = board.trace.changes in
        let old = events_of board.trace.events (order_of v.seen) in
        let new = events_of board.trace.events (new_events v w) in
        let done = event_steps played l s (start s.dimensions) (order_of v.seen) old in
        let long = events_long board.trace (order_of v.seen) before in
        let events : events_of board.trace.events (order_of w.seen) ≡ old ++ new =
        ap (events_of board.trace.events) (order_grown v w begins) ∙ events_append board.trace (order_of v.seen) (new_events v w) in
        let steps : event_steps played l s (start s.dimensions) (order_of w.seen) (events_of board.trace.events (order_of w.seen)) ≡ done ++ grown_steps =
        (λ i. event_steps played l s (start s.dimensions) (order_grown v w begins i) (events i)) ∙ steps-append played l s (start s.dimensions) (order_of v.seen) (new_events v w) old new long in
        let many = steps-length played l s (start s.dimensions) (order_of v.seen) old long in
        let place : 0 + length done ≡ length (order_of v.seen) = omega (arith, many) in
        ap (λ (es : List Step). changes_at changes 0 ++ with_changes changes 0 es) steps
        ∙ (ap (λ (es : List Step). changes_at changes 0 ++ es) (with-append changes 0 done grown_steps ∙ ap (λ (n : ℕ). with_changes changes 0 done ++ with_changes changes n grown_steps) place)
        ∙ sym (append_assoc (changes_at changes 0) (with_changes changes 0 done) (with_changes changes (length (order_of v.seen)) grown_steps)))

-- a story has the records of the calls that ended
pub story_records : (plays : Plays) (l : Listing) (slots : ℕ) (trace : Trace) (order : List ℕ) → All (IsEvent trace) order → records_of (story plays l slots trace order) ≡ calls_told slots trace order
story_records plays l slots trace order known =
    let s = setting_of slots trace in
    let steps = event_steps (plays (table_of trace.tones)) l s (start s.dimensions) order (events_of trace.events order) in
    records-append (changes_at trace.changes 0) (with_changes trace.changes 0 steps)
    ∙ ((λ i. records-at trace.changes 0 i ++ records-with trace.changes 0 steps i)
    ∙ steps-records (plays (table_of trace.tones)) l s (start s.dimensions) order (events_of trace.events order) (events_long trace order known))

-- ---- where no meter is changed

module _ (plays : Plays) (l : Listing) (slots : ℕ) (trace : Trace) (order : List ℕ) (unchanged : trace.changes ≡ []) where
  abbrev unchanged_steps : List Step
  unchanged_steps = let s = setting_of slots trace in event_steps (plays (table_of trace.tones)) l s (start s.dimensions) order (events_of trace.events order)

  unchanged_is : story plays l slots trace order ≡ unchanged_steps
  unchanged_is = ap (λ (changes : List ℕ). changes_at changes 0 ++ with_changes changes 0 unchanged_steps) unchanged ∙ with-none 0 unchanged_steps

  unchanged_are : AreEvents unchanged_steps
  unchanged_are = let s = setting_of slots trace in are_events (plays (table_of trace.tones)) l s (start s.dimensions) order (events_of trace.events order)

  -- what is written is the report, as far as lines are listed
  pub unchanged_text : {M : Type 0} (text : M → List CallRecord → List ℕ) (s : Metering M) → steps_text text (story plays l slots trace order) s ≡ listed l (report plays slots trace order)
  unchanged_text text s =
      let at = setting_of slots trace in
      ap (λ (steps : List Step). steps_text text steps s) unchanged_is
      ∙ (law_of_lines text unchanged_steps s unchanged_are ∙ steps-lines (plays (table_of trace.tones)) l at (start at.dimensions) order (events_of trace.events order))

  -- the meters and the spare ones are those that were handed in, and each meter noted the calls that ended
  pub unchanged_meters : {M : Type 0} (stands : M → List CallRecord → Type 0) (text : M → List CallRecord → List ℕ) (old spare new new_spare : List M) → All (IsEvent trace) order
      → AreLeft stands text old spare new new_spare (story plays l slots trace order) → AreTold stands text old new (calls_told slots trace order) × (new_spare ≡ spare)
  unchanged_meters stands text old spare new new_spare known left =
      let told = law_of_times stands text unchanged_steps old spare new new_spare unchanged_are (subst (λ (steps : List Step). AreMetered stands text (after_steps steps (handed_in old spare)) new new_spare) unchanged_is left) in
      let at = setting_of slots trace in
      (subst (λ (rs : List CallRecord). AreTold stands text old new rs) (steps-records (plays (table_of trace.tones)) l at (start at.dimensions) order (events_of trace.events order) (events_long trace order known)) told.0, told.1)
