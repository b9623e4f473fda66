-- The lines of stories are the lines of runs.
use Rattle.std.proofs.Common.{◌≡◌, ℕ, ◌+◌, Bool, true, false, List, [], ◌∷◌, ◌++◌, length, Option, Some, refl, sym, ◌∙◌, ap, append_assoc}
use Rattle.std.specs.Prelude.{◌==◌, if◌then◌else◌}
use Rattle.std.specs.List.{range_with_len}
use Rattle.circuit_model.specs.Hears.{hears}
use Rattle.tone_rules.specs.Tables.{table_of}
use Rattle.exchange_events.specs.declared.record.CallRecord.{CallRecord}
use Rattle.exchange_events.specs.declared.trace.Event.{Event}
use Rattle.exchange_events.specs.declared.trace.Trace.{Trace}
use Rattle.exchange_events.specs.Sizes.{Setting}
use Rattle.exchange_events.specs.Sound.{setting_of}
use Rattle.call_profile.specs.Step.{next, events_of}
use Rattle.call_profile.specs.World.{World, start}
use Rattle.report_text.specs.RunReport.{Played, event_line, event_lines, report}
use Rattle.report_lines.specs.declared.listing.Listing.TheVariants.{Report}
use Rattle.meters.specs.Changing.{Step, Event_done, Meters_changed, Metering, AreEvents, changes_at, with_changes, lines_of, steps_text}
use Rattle.meters.proofs.Changes.{law_of_lines}
use Rattle.trace_text.specs.declared.said.Said.{Said}
use Rattle.trace_text.specs.declared.said.Said.TheVariants.{Nothing, Header, Numbered, Toned, Timed, Happens, Sync, Change}
use Rattle.trace_text.specs.declared.said.Sizes.{Sizes}
use Rattle.trace_text.specs.TraceGrammar.{changes_after, events_in, sizes_in}
use Rattle.linked_exchange.specs.Story.{event_steps, story}
use Rattle.linked_exchange.specs.Told.{setting_said, steps_said, story_by, story_said}
use Rattle.exchange_laws.specs.Stories.{lines_said}
use Rattle.exchange_laws.proofs.PrintedLemmas.{all_lines}

-- ---- the lines of a run

lines_both : (xs ys : List Step) → lines_of (xs ++ ys) ≡ lines_of xs ++ lines_of ys
lines_both [] ys = refl
lines_both (Event_done line records ∷ xs) ys = ap (λ (rest : List ℕ). line ++ rest) (lines_both xs ys) ∙ sym (append_assoc line (lines_of xs) (lines_of ys))
lines_both (Meters_changed ∷ xs) ys = lines_both xs ys

-- a change has no line
change_or_not : (b : Bool) (steps : List Step) → lines_of (if b then Meters_changed ∷ steps else steps) ≡ lines_of steps
change_or_not true steps = refl
change_or_not false steps = refl

no_lines : (changes : List ℕ) (n : ℕ) → lines_of (changes_at changes n) ≡ []
no_lines [] n = refl
no_lines (count ∷ changes) n = change_or_not (count == n) (changes_at changes n) ∙ no_lines changes n

without_changes : (changes : List ℕ) (n : ℕ) (steps : List Step) → lines_of (changes_at changes n ++ steps) ≡ lines_of steps
without_changes changes n steps = lines_both (changes_at changes n) steps ∙ ap (λ (first : List ℕ). first ++ lines_of steps) (no_lines changes n)

same_lines : (changes : List ℕ) (n : ℕ) (steps : List Step) → lines_of (with_changes changes n steps) ≡ lines_of steps
same_lines changes n [] = refl
same_lines changes n (Event_done line records ∷ steps) =
    ap (λ (rest : List ℕ). line ++ rest) (without_changes changes (n + 1) (with_changes changes (n + 1) steps) ∙ same_lines changes (n + 1) steps)
same_lines changes n (Meters_changed ∷ steps) = without_changes changes (n + 1) (with_changes changes (n + 1) steps) ∙ same_lines changes (n + 1) steps

event_texts : (played : Played) (s : Setting) (w : World) (order : List ℕ) (es : List Event) → lines_of (event_steps played Report s w order es) ≡ event_lines played s w order es
event_texts played s w [] es = refl
event_texts played s w (n ∷ order) [] = refl
event_texts played s w (n ∷ order) (e ∷ es) = ap (λ (rest : List ℕ). event_line played s w n e ++ rest) (event_texts played s (next s w e) order es)

pub run_lines : (slots : ℕ) (trace : Trace) (order : List ℕ) → lines_of (story hears Report slots trace order) ≡ report hears slots trace order
run_lines slots trace order =
    let s = setting_of slots trace in
    let played = hears (table_of trace.tones) in
    let steps = event_steps played Report s (start s.dimensions) order (events_of trace.events order) in
    without_changes trace.changes 0 (with_changes trace.changes 0 steps) ∙ same_lines trace.changes 0 steps ∙ event_texts played s (start s.dimensions) order (events_of trace.events order)

-- ---- the lines of a trace that is processed when its lines arrive

module _ (played : Played) (s : Setting) where
  said_lines : (w : World) (n : ℕ) (told : List Said) → lines_of (steps_said played s w n told) ≡ event_lines played s w (range_with_len (n + 1) (length (events_in told))) (events_in told)
  said_lines w n [] = refl
  said_lines w n (Happens e ∷ told) = ap (λ (rest : List ℕ). event_line played s w (n + 1) e ++ rest) (said_lines (next s w e) (n + 1) told)
  said_lines w n (Change ∷ told) = said_lines w n told
  said_lines w n (Nothing ∷ told) = said_lines w n told
  said_lines w n (Header sizes ∷ told) = said_lines w n told
  said_lines w n (Numbered number ∷ told) = said_lines w n told
  said_lines w n (Toned given ∷ told) = said_lines w n told
  said_lines w n (Timed given ∷ told) = said_lines w n told
  said_lines w n (Sync ∷ told) = said_lines w n told

  -- without a change of meters all steps are events
  all_events : (w : World) (n count : ℕ) (told : List Said) → changes_after count told ≡ [] → AreEvents (steps_said played s w n told)
  all_events w n count [] unchanged = tt
  all_events w n count (Happens e ∷ told) unchanged = all_events (next s w e) (n + 1) (count + 1) told unchanged
  all_events w n count (Change ∷ told) unchanged = absurd cc
  all_events w n count (Nothing ∷ told) unchanged = all_events w n count told unchanged
  all_events w n count (Header sizes ∷ told) unchanged = all_events w n count told unchanged
  all_events w n count (Numbered number ∷ told) unchanged = all_events w n count told unchanged
  all_events w n count (Toned given ∷ told) unchanged = all_events w n count told unchanged
  all_events w n count (Timed given ∷ told) unchanged = all_events w n count told unchanged
  all_events w n count (Sync ∷ told) unchanged = all_events w n count told unchanged

module _ {M : Type 0} (text : M → List CallRecord → List ℕ) (m : Metering M) where
  pub plain_lines : (slots : ℕ) (sizes : Sizes) (told : List Said) → sizes_in told ≡ Some sizes → changes_after 0 told ≡ [] → steps_text text (story_said hears slots told) m ≡ lines_said slots sizes told
  plain_lines slots sizes told header unchanged =
      let s = setting_said slots sizes told in
      let played = hears (table_of s.tones) in
      let steps = steps_said played s (start s.dimensions) 0 told in
      ap (λ (o : Option Sizes). steps_text text (story_by hears slots o told) m) header
      ∙ law_of_lines text steps m (all_events played s (start s.dimensions) 0 0 told unchanged)
      ∙ said_lines played s (start s.dimensions) 0 told
      ∙ all_lines (table_of s.tones) s [] (range_with_len 1 (length (events_in told))) (events_in told)
