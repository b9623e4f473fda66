-- The story of lines, and the story of their trace.
use Rattle.std.proofs.Common.{◌≡◌, ◌≢◌, ℕ, ◌+◌, ◌≤◌, List, [], ◌∷◌, ◌++◌, length, Option, Some, slice_get, ◌==◌, inl, inr, refl, sym, ap, ◌∙◌, subst, arith, append_assoc, length-append, add-one}
use Rattle.std.specs.Prelude.{All}
use Rattle.std.specs.List.{range_with_len, cons_option, onto_first}
use Rattle.std.proofs.lemmas.Bool.{ne_eqb, eq-eqb}
use Rattle.std.proofs.lemmas.List.Elements.{All-nil, All-cons, All-weaker}
use Rattle.exchange_events.specs.declared.trace.Event.{Event}
use Rattle.exchange_events.specs.declared.trace.Trace.{Trace}
use Rattle.exchange_events.specs.Orders.{event_at, file_order}
use Rattle.exchange_events.specs.Sizes.{Setting}
use Rattle.exchange_events.specs.Sound.{setting_of}
use Rattle.exchange_events.specs.Kept.{kept_of}
use Rattle.call_profile.specs.CallsTold.{calls_kept}
use Rattle.call_profile.specs.Step.{events_of, next, reply}
use Rattle.call_profile.specs.World.{World, start}
use Rattle.report_text.specs.RunReport.{Played, event_line}
use Rattle.meters.specs.Changing.{Step, Event_done, Meters_changed, changes_at, with_changes}
use Rattle.meters.proofs.Placed.{changes-none}
use Rattle.trace_text.specs.declared.said.Said.{Said}
use Rattle.trace_text.specs.declared.said.Said.TheVariants.{Nothing, Header, Numbered, Toned, Timed, Happens, Sync, Change}
use Rattle.trace_text.specs.declared.said.Sizes.{Sizes}
use Rattle.trace_text.specs.TraceWords.{lines, max_line_len}
use Rattle.trace_text.specs.TraceGrammar.{IsTrace, IsWhatLinesSay, changes_after, events_in}
use Rattle.circuit_model.specs.Hears.{Plays}
use Rattle.circuit_model.proofs.Slots.{true_or_false}
use Rattle.tone_rules.specs.Tables.{table_of}
use Rattle.linked_exchange.specs.Told.{EachFollows, setting_said, steps_said, story_by, story_said}
use Rattle.report_lines.specs.declared.listing.Listing.TheVariants as listing
use Rattle.linked_exchange.specs.Story.{event_steps, story}
use Rattle.linked_exchange.proofs.FollowedLines.{each_followed, each_same}

-- ---- the events of a file, in its order

get_behind : (front : List Event) (e : Event) (es : List Event) → slice_get (front ++ e ∷ es) (length front) ≡ Some e
get_behind [] e es = refl
get_behind (f ∷ front) e es = get_behind front e es

event_behind : (front : List Event) (e : Event) (es : List Event) → event_at (front ++ e ∷ es) (length front + 1) ≡ Some e
unfolding event_at
event_behind front e es = ap (event_at (front ++ e ∷ es)) (add-one (length front)) ∙ get_behind front e es

from_here : (front es : List Event) → events_of (front ++ es) (range_with_len (length front + 1) (length es)) ≡ es
from_here front [] = refl
from_here front (e ∷ es) =
    let more : List Event = front ++ e ∷ [] in
    let all : List Event = front ++ e ∷ es in
    let next : ℕ = length front + 1 + 1 in
    let here : event_at all (length front + 1) ≡ Some e = event_behind front e es in
    let same : more ++ es ≡ all = append_assoc front (e ∷ []) es in
    let long : length more + 1 ≡ next = omega (arith, length-append front (e ∷ [])) in
    let rest : events_of all (range_with_len next (length es)) ≡ es =
    (λ i. events_of (sym same i) (range_with_len (sym long i) (length es))) ∙ from_here more es in
    ap (λ (o : Option Event). cons_option o (events_of all (range_with_len next (length es)))) here
    ∙ ap (λ (l : List Event). e ∷ l) rest

pub events_of-file_order : (es : List Event) → events_of es (file_order (length es)) ≡ es
events_of-file_order es = from_here [] es

-- ---- changes

-- those behind n events are not before them
late : (n : ℕ) (told : List Said) → All (λ count. n ≤ count) (changes_after n told)
late n [] = All-nil (λ count. n ≤ count)
late n (Happens e ∷ told) = All-weaker (λ count. n + 1 ≤ count) (λ count. n ≤ count) (λ count above. omega (arith, above)) (changes_after (n + 1) told) (late (n + 1) told)
late n (Change ∷ told) = All-cons (λ count. n ≤ count) n (changes_after n told) (omega arith) (late n told)
late n (Nothing ∷ told) = late n told
late n (Header sizes ∷ told) = late n told
late n (Numbered number ∷ told) = late n told
late n (Toned given ∷ told) = late n told
late n (Timed given ∷ told) = late n told
late n (Sync ∷ told) = late n told

none_here : (n : ℕ) (told : List Said) → changes_at (changes_after (n + 1) told) n ≡ []
none_here n told =
    changes-none (changes_after (n + 1) told) n
    (All-weaker (λ count. n + 1 ≤ count) (λ count. count ≢ n) (λ count above same. absurd (omega (arith, above, same))) (changes_after (n + 1) told) (late (n + 1) told))

-- one that is before all events behind n says nothing of them
with-early : (early : ℕ) (changes : List ℕ) (n : ℕ) (steps : List Step) → early ≤ n → with_changes (early ∷ changes) n steps ≡ with_changes changes n steps
with-early early changes n [] before = refl
with-early early changes n (step ∷ steps) before =
    let other : early ≢ n + 1 = λ same. absurd (omega (arith, same, before)) in
    rw (ne_eqb early (n + 1) other) (ap (λ (l : List Step). step ∷ (changes_at changes (n + 1) ++ l)) (with-early early changes (n + 1) steps (omega (arith, before))))

-- ---- the story

module _ (played : Played) (s : Setting) where
  abbrev told_steps : World → ℕ → List Said → List Step
  told_steps w n told = event_steps played listing.Report s w (range_with_len (n + 1) (length (events_in told))) (events_in told)

  pub said_steps : (w : World) (n : ℕ) (told : List Said)
      → steps_said played s w n told ≡ changes_at (changes_after n told) n ++ with_changes (changes_after n told) n (told_steps w n told)
  said_steps w n [] = refl
  said_steps w n (Happens e ∷ told) =
      let cs = changes_after (n + 1) told in
      let line = Event_done (event_line played s w (n + 1) e) (calls_kept (kept_of (reply s w e))) in
      let more = changes_at cs (n + 1) ++ with_changes cs (n + 1) (told_steps (next s w e) (n + 1) told) in
      ap (λ (l : List Step). line ∷ l) (said_steps (next s w e) (n + 1) told)
      ∙ sym (ap (λ (l : List Step). l ++ line ∷ more) (none_here n told))
  said_steps w n (Change ∷ told) =
      let cs = changes_after n told in
      let steps = told_steps w n told in
      rw (eq-eqb n n refl) (ap (λ (l : List Step). Meters_changed ∷ l) (said_steps w n told
      ∙ ap (λ (l : List Step). changes_at cs n ++ l) (sym (with-early n cs n steps (omega arith)))))
  said_steps w n (Nothing ∷ told) = said_steps w n told
  said_steps w n (Header sizes ∷ told) = said_steps w n told
  said_steps w n (Numbered number ∷ told) = said_steps w n told
  said_steps w n (Toned given ∷ told) = said_steps w n told
  said_steps w n (Timed given ∷ told) = said_steps w n told
  said_steps w n (Sync ∷ told) = said_steps w n told

-- ---- the story of a trace

module _ (plays : Plays) (slots : ℕ) (t : Trace) (told : List Said) (what : IsWhatLinesSay t told) where
  abbrev header : Sizes
  header = record { external = t.external; bridges = t.bridges; processors = t.processors }

  same_setting : setting_said slots header told ≡ setting_of slots t
  same_setting = λ i. record {
    dimensions = record { external = t.external; bridges = t.bridges; slots = slots };
    plan = sym what.plan i;
    tones = sym what.tones i;
    timers = sym what.timers i;
  }

  pub is_story : story_said plays slots told ≡ story plays listing.Report slots t (file_order (length t.events))
  is_story =
      let s = setting_of slots t in
      let w = start s.dimensions in
      let played = plays (table_of s.tones) in
      let events : events_in told ≡ t.events = sym what.events in
      let order : file_order (length (events_in told)) ≡ file_order (length t.events) = ap (λ (es : List Event). file_order (length es)) events in
      let all : events_in told ≡ events_of t.events (file_order (length t.events)) = events ∙ sym (events_of-file_order t.events) in
      ap (λ (o : Option Sizes). story_by plays slots o told) what.sizes
      ∙ (ap (λ (at : Setting). steps_said (plays (table_of at.tones)) at (start at.dimensions) 0 told) same_setting
      ∙ (said_steps played s w 0 told
      ∙ (λ i. changes_at (sym what.changes i) 0 ++ with_changes (sym what.changes i) 0 (event_steps played listing.Report s w (order i) (all i)))))

-- a trace whose lines follow one another with these contents
pub followed_story : (plays : Plays) (slots : ℕ) (bytes : List ℕ) (t : Trace) (told : List Said) → IsTrace bytes t → EachFollows [] (lines bytes) told
    → story_said plays slots told ≡ story plays listing.Report slots t (file_order (length t.events))
followed_story plays slots bytes t told is meets =
    let same : is.told ≡ told = each_same [] is.told told (lines bytes) is.meets meets in
    is_story plays slots t told (subst (λ v. IsWhatLinesSay t v) same is.all)

-- ---- the lines of a trace

first_few : (octet : ℕ) (rows : List (List ℕ)) (n : ℕ) → length rows ≤ n → length (onto_first octet rows) ≤ n + 1
first_few octet [] n few = omega arith
first_few octet (row ∷ rows) n few = omega (arith, few)

lines_few : (octets : List ℕ) → length (lines octets) ≤ length octets
lines_few [] = omega arith
lines_few (octet ∷ octets) =
    let rest = lines_few octets in
    elim (true_or_false (octet == 10)) [
      | inl feed ↦ rw feed (omega (arith, rest))
      | inr other ↦ rw other (let few = first_few octet (lines octets) (length octets) rest in omega (arith, few))
    ]

pub trace_followed : (bytes : List ℕ) (t : Trace) → IsTrace bytes t → All (λ line. length line ≤ max_line_len) (lines bytes)
    → (told : List Said) × EachFollows [] (lines bytes) told × IsWhatLinesSay t told
trace_followed bytes t is short =
    let few = lines_few bytes in
    let most = is.few in
    (is.told, each_followed [] is.told (lines bytes) is.meets short (omega (arith, few, most)), is.all)
