-- One more line, taken into a heading and into a draft of a trace.
use Rattle.std.proofs.Common.{◌≡◌, ℕ, ◌+◌, ◌<◌, List, [], ◌∷◌, ◌++◌, length, codes, Option, Some, None, Ok, refl, sym, ap, subst, ◌∙◌, append_assoc, arith}
use Rattle.std.specs.Prelude.{fold}
use Rattle.std.specs.List.{cons_option, filter_map}
use Rattle.std.proofs.lemmas.List.{append-nil, length_push}
use Rattle.std.proofs.lemmas.List.Elements.{filter_map-append}
use Rattle.std.proofs.lemmas.List.Sums.{fold-append}
use Rattle.number_plan.specs.declared.plan.Number.{Number}
use Rattle.number_plan.specs.Plan.{with_number}
use Rattle.tone_rules.specs.declared.tones.Tones.{Tones}
use Rattle.exchange_events.specs.declared.trace.Event.{Event}
use Rattle.trace_text.specs.declared.draft.Draft.{Draft}
use Rattle.trace_text.specs.declared.heading.Happening.TheVariants as happening
use Rattle.trace_text.specs.declared.said.Sizes.{Sizes}
use Rattle.trace_text.specs.declared.said.Said.{Said}
use Rattle.trace_text.specs.declared.said.Said.TheVariants.{Header, Numbered, Toned, Timed, Happens, Sync, Change}
use Rattle.trace_text.specs.declared.timing.GivenTimers.{GivenTimers}
use Rattle.tone_rules.specs.Tables.{no_tones}
use Rattle.trace_text.specs.TraceGrammar.{sizes_in, number_said, numbers_in, plan_of, tone_said, timer_said, event_said, events_in, open_segment_end, ends_after, segment_ends, changes_after, changes_in, so_far}
use Rattle.trace_text.specs.TraceLines.{SoFar, reads, says, trace_limits, with_tone, Fails}
use Rattle.trace_text.specs.TraceWords.{lines}
use Rattle.trace_text.specs.declared.fault.LineError.{LineError}
use Rattle.trace_text.proofs.TraceParts.{says_both, reads_sync}
use Rattle.trace_text.specs.TraceTimers.{no_timers, with_timer}
use Rattle.trace_text.specs.TraceHeading.{happening_of, with_said, Suits, IsLineRead}
use Rattle.trace_text.specs.TraceDraft.{Holds, HasRead, IsEnded, FailsFirst}

-- the header is the first
pub sizes_first : (told more : List Said) (sizes : Sizes) → sizes_in told ≡ Some sizes → sizes_in (told ++ more) ≡ Some sizes
sizes_first [] more sizes e = absurd cc
sizes_first (Header first ∷ told) more sizes e = e
sizes_first (said ∷ told) more sizes e = sizes_first told more sizes e

-- the sizes, once a line said more
abbrev sizes_with : Option Sizes → Said → Option Sizes
sizes_with known (Header sizes) = Some sizes
sizes_with known other = known

-- a line that says the header is the first
abbrev IsFresh : Option Sizes → Said → Type 0
IsFresh known (Header sizes) = known ≡ None
IsFresh known other = Unit {0}

fresh_said : (s : SoFar) (said : Said) → Suits s said → IsFresh s.sizes said
fresh_said s (Header sizes) suits = suits
fresh_said s said suits = tt

sizes_more : (told : List Said) (said : Said) → IsFresh (sizes_in told) said → sizes_with (sizes_in told) said ≡ sizes_in (told ++ said ∷ [])
sizes_more [] (Header sizes) fresh = refl
sizes_more [] said fresh = refl
sizes_more (Header first ∷ told) (Header sizes) fresh = absurd cc
sizes_more (Header first ∷ told) said fresh = refl
sizes_more (other ∷ told) said fresh = sizes_more told said fresh

-- what is made of what some lines give, once a line gave more, or nothing
abbrev pub step : {A X : Type 0} → (A → X → A) → A → Option X → A
step f made None = made
step f made (Some x) = f made x

abbrev pub push : {X : Type 0} → List X → X → List X
push xs x = xs ++ x ∷ []

listed_more : {X : Type 0} (gives : Said → Option X) (told : List Said) (said : Said) → filter_map gives (told ++ said ∷ []) ≡ step push (filter_map gives told) (gives said)
listed_more gives told said =
    filter_map-append gives told (said ∷ [])
    ∙ elim (gives said) as (λ o. filter_map gives told ++ cons_option o [] ≡ step push (filter_map gives told) o) [ None ↦ append-nil (filter_map gives told) | Some x ↦ refl ]

made_more : {A X : Type 0} (f : A → X → A) (made : A) (gives : Said → Option X) (told : List Said) (said : Said)
    → step f (fold f made (filter_map gives told)) (gives said) ≡ fold f made (filter_map gives (told ++ said ∷ []))
made_more f made gives told said =
    sym (ap (fold f made) (listed_more gives told said)
    ∙ elim (gives said) as (λ o. fold f made (step push (filter_map gives told) o) ≡ step f (fold f made (filter_map gives told)) o) [
      | None ↦ refl
      | Some x ↦ fold-append f made (filter_map gives told) (x ∷ [])
    ])

pub events_more : (told : List Said) (said : Said) → events_in (told ++ said ∷ []) ≡ step push (events_in told) (event_said said)
events_more told said = listed_more event_said told said

pub plan_more : (told : List Said) (said : Said) → step with_number (plan_of (numbers_in told)) (number_said said) ≡ plan_of (numbers_in (told ++ said ∷ []))
plan_more told said = made_more with_number [] number_said told said

-- the change of meters that a line gives, behind n events
abbrev pub change_said : ℕ → Said → Option ℕ
change_said count Change = Some count
change_said count other = None

changes_behind : (count : ℕ) (told : List Said) (said : Said) → changes_after count (told ++ said ∷ []) ≡ step push (changes_after count told) (change_said (count + length (events_in told)) said)
changes_behind count [] Change = let none : count ≡ count + 0 = omega arith in ap (λ n. n ∷ []) none
changes_behind count [] said = refl
changes_behind count (Happens event ∷ told) said =
    let one : count + 1 + length (events_in told) ≡ count + length (event ∷ events_in told) = omega arith in
    changes_behind (count + 1) told said ∙ ap (λ n. step push (changes_after (count + 1) told) (change_said n said)) one
changes_behind count (Change ∷ told) said =
    ap (λ (ns : List ℕ). count ∷ ns) (changes_behind count told said)
    ∙ elim (change_said (count + length (events_in told)) said) as (λ o. count ∷ step push (changes_after count told) o ≡ step push (count ∷ changes_after count told) o) [ None ↦ refl | Some n ↦ refl ]
changes_behind count (other ∷ told) said = changes_behind count told said

pub changes_more : (told : List Said) (said : Said) → changes_in (told ++ said ∷ []) ≡ step push (changes_in told) (change_said (length (events_in told)) said)
changes_more told said = let none : 0 + length (events_in told) ≡ length (events_in told) = omega arith in changes_behind 0 told said ∙ ap (λ n. step push (changes_in told) (change_said n said)) none

-- ---- the heading

known_so_far : Option Sizes → ℕ → List Number → Tones → GivenTimers → ℕ → SoFar
known_so_far sizes events plan tones timers changes = record { sizes = sizes; events = events; plan = plan; tones = tones; timers = timers; changes = changes }

same_so_far : (s u : SoFar) → s.sizes ≡ u.sizes → s.events ≡ u.events → s.plan ≡ u.plan → s.tones ≡ u.tones → s.timers ≡ u.timers → s.changes ≡ u.changes → s ≡ u
unfolding known_so_far
same_so_far s u a b c t m g =
    ap (λ x. known_so_far x s.events s.plan s.tones s.timers s.changes) a
    ∙ ap (λ x. known_so_far u.sizes x s.plan s.tones s.timers s.changes) b
    ∙ ap (λ x. known_so_far u.sizes u.events x s.tones s.timers s.changes) c
    ∙ ap (λ (x : Tones). known_so_far u.sizes u.events u.plan x s.timers s.changes) t
    ∙ ap (λ (x : GivenTimers). known_so_far u.sizes u.events u.plan u.tones x s.changes) m
    ∙ ap (λ x. known_so_far u.sizes u.events u.plan u.tones u.timers x) g

-- each part of what is known, once a line said more
module _ (s : SoFar) where
  sizes_said : (said : Said) → (with_said s said).sizes ≡ sizes_with s.sizes said
  sizes_said (Header sizes) = refl
  sizes_said said = refl

  plan_said : (said : Said) → (with_said s said).plan ≡ step with_number s.plan (number_said said)
  plan_said (Numbered number) = refl
  plan_said said = refl

  tones_said : (said : Said) → (with_said s said).tones ≡ step with_tone s.tones (tone_said said)
  tones_said (Toned given) = refl
  tones_said said = refl

  timers_said : (said : Said) → (with_said s said).timers ≡ step with_timer s.timers (timer_said said)
  timers_said (Timed given) = refl
  timers_said said = refl

  events_said : (events : List Event) (said : Said) → s.events ≡ length events → (with_said s said).events ≡ length (step push events (event_said said))
  events_said events (Happens event) e = ap (λ n. n + 1) e ∙ sym (length_push events event)
  events_said events said e = e

  changes_said : (count : ℕ) (changes : List ℕ) (said : Said) → s.changes ≡ length changes → (with_said s said).changes ≡ length (step push changes (change_said count said))
  changes_said count changes Change e = ap (λ n. n + 1) e ∙ sym (length_push changes count)
  changes_said count changes said e = e

-- what is known of some lines and one more
so_far_more : (told : List Said) (said : Said) → Suits (so_far told) said → with_said (so_far told) said ≡ so_far (told ++ said ∷ [])
so_far_more told said suits =
    let s = so_far told in
    same_so_far (with_said s said) (so_far (told ++ said ∷ []))
    (sizes_said s said ∙ sizes_more told said (fresh_said s said suits))
    (events_said s (events_in told) said refl ∙ ap length (sym (events_more told said)))
    (plan_said s said ∙ plan_more told said)
    (tones_said s said ∙ made_more with_tone no_tones tone_said told said)
    (timers_said s said ∙ made_more with_timer no_timers timer_said told said)
    (changes_said s (length (events_in told)) (changes_in told) said refl ∙ ap length (sym (changes_more told said)))

pub known_behind : (before after : SoFar) (said : Said) → Suits before said → after ≡ with_said before said → (told : List Said) → before ≡ so_far told → after ≡ so_far (told ++ said ∷ [])
known_behind before after said suits known told is = known ∙ ap (λ s. with_said s said) is ∙ so_far_more told said (subst (λ s. Suits s said) is suits)

-- ---- the draft

-- the ends of segments that ended, and how many events came before the one that is open, once a line said more
abbrev pub ends_with : Draft → Said → List ℕ
ends_with d Sync = d.ends.items ++ open_segment_end d.begun (length d.events.items)
ends_with d Change = d.ends.items ++ open_segment_end d.begun (length d.events.items)
ends_with d other = d.ends.items

abbrev pub begun_with : Draft → Said → ℕ
begun_with d Sync = length d.events.items
begun_with d Change = length d.events.items
begun_with d other = d.begun

-- the draft of no lines
pub holds_none : (d : Draft) → d.heading ≡ so_far [] → d.events.items ≡ [] → d.ends.items ≡ [] → d.begun ≡ 0 → d.changes.items ≡ [] → Holds d []
holds_none d a b c e g = record { heading = a; events = b; ends = λ more. rw (b, c, e) refl; changes = g }

-- the line says something behind those before it, and the draft holds that as well
abbrev pub HoldsMore : List Said → List ℕ → Draft → Type 0
HoldsMore told line n = (said : Said) × (says trace_limits (so_far told) line ≡ Ok said) × Holds n (told ++ said ∷ [])

module _ (d : Draft) (told : List Said) (h : Holds d told) where
  -- behind the end of a segment
  segment_ends_anew : (said : Said) (more : List Said) → ends_after d.begun (length d.events.items) (said ∷ more) ≡ open_segment_end d.begun (length d.events.items) ++ ends_after (length d.events.items) (length d.events.items) more
      → segment_ends (told ++ said ∷ more) ≡ (d.ends.items ++ open_segment_end d.begun (length d.events.items)) ++ ends_after (length d.events.items) (length d.events.items) more
  segment_ends_anew said more ends =
      let count = length d.events.items in
      h.ends (said ∷ more) ∙ ap (λ (ns : List ℕ). d.ends.items ++ ns) ends ∙ sym (append_assoc d.ends.items (open_segment_end d.begun count) (ends_after count count more))

  ends_more : (said : Said) (more : List Said) → segment_ends (told ++ said ∷ more) ≡ ends_with d said ++ ends_after (begun_with d said) (length (step push d.events.items (event_said said))) more
  ends_more (Happens event) more = h.ends (Happens event ∷ more) ∙ ap (λ n. d.ends.items ++ ends_after d.begun n more) (sym (length_push d.events.items event))
  ends_more Sync more = segment_ends_anew Sync more refl
  ends_more Change more = segment_ends_anew Change more refl
  ends_more said more = h.ends (said ∷ more)

  -- the heading counts the events
  counted : d.heading.events ≡ length d.events.items
  counted = ap (λ (s : SoFar). s.events) h.heading ∙ ap length (sym h.events)

  -- a draft that took in what one more line said
  module _ (n : Draft) (line : List ℕ) (said : Said) (meets : says trace_limits d.heading line ≡ Ok said) (heading : n.heading ≡ so_far (told ++ said ∷ [])) where
    holds_more : n.events.items ≡ step push d.events.items (event_said said) → n.ends.items ≡ ends_with d said → n.begun ≡ begun_with d said
        → n.changes.items ≡ step push d.changes.items (change_said (length d.events.items) said) → HoldsMore told line n
    holds_more b c e g = (
      said,
      ap (λ s. says trace_limits s line) (sym h.heading) ∙ meets,
      record {
        heading = heading;
        events = b ∙ ap (λ (es : List Event). step push es (event_said said)) h.events ∙ sym (events_more told said);
        ends = λ more. rw (b, c, e, append_assoc told (said ∷ []) more) (ends_more said more);
        changes = g ∙ ap (λ (ns : List ℕ). step push ns (change_said (length d.events.items) said)) h.changes
            ∙ ap (λ (es : List Event). step push (changes_in told) (change_said (length es) said)) h.events ∙ sym (changes_more told said);
      },
    )

  module _ (n : Draft) (line : List ℕ) where
    nothing_said : (said : Said) → says trace_limits d.heading line ≡ Ok said → n.heading ≡ so_far (told ++ said ∷ []) → happening.Nothing ≡ happening_of said
        → n.events.items ≡ d.events.items → n.ends.items ≡ d.ends.items → n.begun ≡ d.begun → n.changes.items ≡ d.changes.items → HoldsMore told line n
    nothing_said (Happens event) meets heading is b c e g = absurd cc
    nothing_said Sync meets heading is b c e g = absurd cc
    nothing_said Change meets heading is b c e g = absurd cc
    nothing_said said meets heading is b c e g = holds_more n line said meets heading b c e g

    event_said_so : (said : Said) (event : Event) → says trace_limits d.heading line ≡ Ok said → n.heading ≡ so_far (told ++ said ∷ []) → happening.Event event ≡ happening_of said
        → n.events.items ≡ d.events.items ++ event ∷ [] → n.ends.items ≡ d.ends.items → n.begun ≡ d.begun → n.changes.items ≡ d.changes.items → HoldsMore told line n
    event_said_so (Happens other) event meets heading is b c e g =
        let same : event ≡ other = cc in
        holds_more n line (Happens other) meets heading (b ∙ ap (λ x. d.events.items ++ x ∷ []) same) c e g
    event_said_so said event meets heading is b c e g = absurd cc

    sync_said : (said : Said) → says trace_limits d.heading line ≡ Ok said → n.heading ≡ so_far (told ++ said ∷ []) → happening.SegmentEnd ≡ happening_of said
        → n.events.items ≡ d.events.items → n.ends.items ≡ d.ends.items ++ open_segment_end d.begun d.heading.events → n.begun ≡ d.heading.events → n.changes.items ≡ d.changes.items → HoldsMore told line n
    sync_said Sync meets heading is b c e g = holds_more n line Sync meets heading b (rw counted at c) (e ∙ counted) g
    sync_said said meets heading is b c e g = absurd cc

    change_said_so : (said : Said) → says trace_limits d.heading line ≡ Ok said → n.heading ≡ so_far (told ++ said ∷ []) → happening.Change ≡ happening_of said
        → n.events.items ≡ d.events.items → n.ends.items ≡ d.ends.items ++ open_segment_end d.begun d.heading.events → n.begun ≡ d.heading.events
        → n.changes.items ≡ d.changes.items ++ d.heading.events ∷ [] → HoldsMore told line n
    change_said_so Change meets heading is b c e g = holds_more n line Change meets heading b (rw counted at c) (e ∙ counted) (rw counted at g)
    change_said_so said meets heading is b c e g = absurd cc

-- the ends of all segments, once the open one has ended
pub segments_all : (d : Draft) (told : List Said) → Holds d told → segment_ends told ≡ d.ends.items ++ open_segment_end d.begun d.heading.events
segments_all d told h = ap segment_ends (sym (append-nil told)) ∙ h.ends [] ∙ ap (λ n. d.ends.items ++ open_segment_end d.begun n) (sym (counted d told h))

-- ---- a line that the heading read

-- the end of a segment adds no event
sync_events : (s : SoFar) (said : Said) → happening.SegmentEnd ≡ happening_of said → (with_said s said).events ≡ s.events
sync_events s Sync is = refl
sync_events s said is = absurd cc

change_events : (s : SoFar) (said : Said) → happening.Change ≡ happening_of said → (with_said s said).events ≡ s.events
change_events s Change is = refl
change_events s said is = absurd cc

-- a draft with another heading
abbrev pub with_heading : Draft → SoFar → Draft
with_heading d heading = record d { heading = heading }

module _ (d : Draft) (told : List Said) (h : Holds d told) (line : List ℕ) (after : SoFar) where
  pub holds_nothing : IsLineRead trace_limits d.heading line happening.Nothing after → HoldsMore told line (with_heading d after)
  holds_nothing r = nothing_said d told h (with_heading d after) line r.said r.meets (r.behind told h.heading) r.happens refl refl refl refl

  pub holds_event : (n : Draft) (event : Event) → IsLineRead trace_limits d.heading line (happening.Event event) after → n.heading ≡ after
      → n.events.items ≡ d.events.items ++ event ∷ [] → n.ends.items ≡ d.ends.items → n.begun ≡ d.begun → n.changes.items ≡ d.changes.items → HoldsMore told line n
  holds_event n event r a b c e g = event_said_so d told h n line r.said event r.meets (a ∙ r.behind told h.heading) r.happens b c e g

  pub holds_end : (n : Draft) → IsLineRead trace_limits d.heading line happening.SegmentEnd after → IsEnded (with_heading d after) n → HoldsMore told line n
  holds_end n r ended =
      let same : after.events ≡ d.heading.events = ap (λ (s : SoFar). s.events) r.known ∙ sync_events d.heading r.said r.happens in
      sync_said d told h n line r.said r.meets (ended.heading ∙ r.behind told h.heading) r.happens ended.events
      (ended.ends ∙ ap (λ count. d.ends.items ++ open_segment_end d.begun count) same) (ended.begun ∙ same) ended.changes

  pub holds_change : (e n : Draft) → IsLineRead trace_limits d.heading line happening.Change after → IsEnded (with_heading d after) e
      → n.heading ≡ e.heading → n.events.items ≡ e.events.items → n.ends.items ≡ e.ends.items → n.begun ≡ e.begun → n.changes.items ≡ e.changes.items ++ e.begun ∷ [] → HoldsMore told line n
  holds_change e n r ended heading events ends begun changes =
      let same : after.events ≡ d.heading.events = ap (λ (s : SoFar). s.events) r.known ∙ change_events d.heading r.said r.happens in
      change_said_so d told h n line r.said r.meets (heading ∙ ended.heading ∙ r.behind told h.heading) r.happens (events ∙ ended.events)
      (ends ∙ ended.ends ∙ ap (λ count. d.ends.items ++ open_segment_end d.begun count) same) (begun ∙ ended.begun ∙ same)
      (changes ∙ ap (λ (ns : List ℕ). ns ++ e.begun ∷ []) ended.changes ∙ ap (λ count. d.changes.items ++ count ∷ []) (ended.begun ∙ same))

-- the end of a segment, read at once
pub holds_sync : (d n : Draft) (told : List Said) (line : List ℕ) → Holds d told → reads d.heading line ≡ Ok Sync → IsEnded d n → HoldsMore told line n
holds_sync d n told line h read ended =
    sync_said d told h n line Sync (says_both trace_limits d.heading line Sync read refl) (ended.heading ∙ known_behind d.heading d.heading Sync tt refl told h.heading) refl
    ended.events ended.ends ended.begun ended.changes

-- the first line is `sync`, or `F`, read at once
pub sync_first : (d n : Draft) (bytes others : List ℕ) (sizes : Sizes) → d.heading.sizes ≡ Some sizes → lines bytes ≡ codes "sync" ∷ lines others → length others < length bytes
    → IsEnded d n → HasRead d n bytes others
sync_first d n bytes others sizes known cut shorter ended = record {
  line = codes "sync";
  cut = cut;
  shorter = shorter;
  holds = λ told h. holds_sync d n told (codes "sync") h (reads_sync d.heading sizes (codes "sync") known refl) ended;
}

pub event_first : (d n : Draft) (bytes others : List ℕ) (line : List ℕ) → lines bytes ≡ line ∷ lines others → length others < length bytes
    → ((told : List Said) → Holds d told → HoldsMore told line n) → HasRead d n bytes others
event_first d n bytes others line cut shorter holds = record { line = line; cut = cut; shorter = shorter; holds = holds }

pub fails_first : (d : Draft) (bytes others : List ℕ) (line : List ℕ) (e : LineError) → lines bytes ≡ line ∷ lines others → Fails e (says trace_limits d.heading line) → FailsFirst d bytes e
fails_first d bytes others line e cut fails = record { line = line; others = others; cut = cut; fails = fails }
