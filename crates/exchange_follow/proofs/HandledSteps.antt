-- A handler after a line of each kind.
use Rattle.std.proofs.Common.{◌≡◌, ℕ, ◌+◌, ◌<◌, ◌≤◌, List, [], ◌∷◌, ◌++◌, length, true, false, ◌==◌, is_some, Option, Some, None, Result, Ok, Err, OnOk, OnErr, ◌⊎◌, refl, sym, ap, ◌∙◌, subst, arith, append-nil, append_assoc, length-append}
use Rattle.std.proofs.lemmas.List.{length-map}
use Rattle.circuit_model.specs.Dimensions.{Dimensions}
use Rattle.circuit_model.specs.Hears.{Plays}
use Rattle.tone_rules.specs.Tables.{table_of}
use Rattle.number_plan.specs.Plan.{is_listed}
use Rattle.exchange_events.specs.declared.record.CallRecord.{CallRecord}
use Rattle.exchange_events.specs.declared.trace.Event.{Event}
use Rattle.exchange_events.specs.declared.trace.Event.TheVariants.{Message}
use Rattle.exchange_events.specs.Sizes.{Setting}
use Rattle.exchange_events.specs.Sound.{Fits}
use Rattle.call_profile.specs.Step.{next, world_after_all}
use Rattle.call_profile.specs.World.{World, start}
use Rattle.call_profile.proofs.RunLemmas.{world-snoc}
use Rattle.report_text.specs.RunReport.{event_line}
use Rattle.meters.specs.Changing.{AreChangedBy, AreMetered, Event_done, Metering, Meters_changed, Step, after_steps, handed_in, records_of, steps_text}
use Rattle.meters.proofs.Changes.{metered-events}
use Rattle.trace_text.specs.declared.fault.Reason.{Reason}
use Rattle.trace_text.specs.declared.fault.Reason.TheVariants as reason
use Rattle.trace_text.specs.declared.limits.Limits.{Limits}
use Rattle.trace_text.specs.declared.heading.Happening.{Happening}
use Rattle.trace_text.specs.declared.heading.Happening.TheVariants as happening
use Rattle.trace_text.specs.declared.said.Said.{Said}
use Rattle.trace_text.specs.declared.said.Said.TheVariants.{Nothing, Header, Numbered, Toned, Timed, Happens, Sync, Change}
use Rattle.trace_text.specs.declared.said.Sizes.{Sizes}
use Rattle.trace_text.specs.TraceGrammar.{event_said, events_in, sizes_in, so_far}
use Rattle.trace_text.specs.TraceHeading.{happening_of, with_event, with_said}
use Rattle.trace_text.specs.TraceLines.{SoFar, line_limits}
use Rattle.trace_text.proofs.SoundLemmas.{IsFine}
use Rattle.trace_text.proofs.TraceHolds.{events_more}
use Rattle.lone_exchange.specs.declared.exchange.LoneExchange.{LoneExchange}
use Rattle.lone_exchange.specs.At.{Carrying, IsAt}
use Rattle.linked_exchange.specs.Told.{MovesFewIn, setting_said, story_by, world_said}
use Rattle.linked_exchange.specs.InTurn.{events_by, events_in_turn, joint_said, link_timers_said, linked_story, setting_in_turn, story_by_links, story_in_turn, world_in_turn}
use Rattle.exchange_follow.specs.Following.{IsEndRefused, IsInterrupted, IsLineRefused, course}
use Rattle.exchange_follow.specs.Handling.{AreDriven, HasFinished, HasRead, IsDriven, IsDrivenBy, IsLinkedDriven, exchange_of}
use Rattle.linked_exchange.specs.LinkedStepping.{HasLinkedHappened, IsLinkedDue, IsLinkedGiven, IsLinkedHeard, IsLinkedRunning, content_of, effect_in, steps_at}
use Rattle.linked_exchange.specs.Stepping.{HasHappened, IsEventDue, IsHeard, IsRunning, calls_at}
use Rattle.run_verifier.specs.Refusals.{refusal}
use Rattle.linked_exchange.specs.Telling.{AreTold, AreToldFront}
use Rattle.linked_exchange.proofs.FollowedSteps.{due_by, setting_by}
use Rattle.exchange_follow.proofs.Handled.{Handled, driven_by, few_same, handled_more, interrupted_more, linked_driven, line_is, more, refused_long, refused_more, split_driven}
use Rattle.linked_exchange.proofs.LinkedRuns.{events_linked}
use Rattle.linked_exchange.proofs.TurnLines.{IsTurnFine, IsTurnLine, each_few, each_length}
use Rattle.linked_exchange.proofs.TurnSteps.{IsTurnPlaced, due_by_links, due_in_turn, linked_due, plain_known, plain_more, with_plain}
use Rattle.linked_exchange.specs.declared.exchange.LinkedExchange.{LinkedExchange}
use Rattle.linked_exchange.specs.Runs.{FitsLinked}
use Rattle.linked_exchange.proofs.PlainLemmas.{trace_world}
use Rattle.linked_exchange.specs.declared.steps.LinkedEvent.{LinkedEvent}
use Rattle.linked_exchange.specs.declared.steps.LinkedEvent.TheVariants as event
use Rattle.linked_exchange.specs.LinkedLines.{input_of}
use Rattle.linked_exchange.specs.LinkedStory.{inputs_in}
use Rattle.linked_text.specs.declared.said.LinkHappening.{LinkHappening}
use Rattle.linked_text.specs.declared.said.LinkHappening.TheVariants as effect
use Rattle.linked_text.specs.declared.said.LinkSaid.TheVariants.{Linked, Received, Timed as Link_timed}
use Rattle.linked_text.specs.LinkEffects.{IsInTurnRead, in_turn, link_row, linked_in, plain_told}
use Rattle.linked_text.specs.LinkLines.{Content, LinkSoFar, On_link, Plain, effect_of, plain_of, says_in_turn, with_content}
use Rattle.linked_exchange.proofs.PlacedLines.{IsKnown}

pub length-events_in-le : (told : List Said) → length (events_in told) ≤ length told
length-events_in-le [] = omega arith
length-events_in-le (Happens e ∷ told) = let rest = length-events_in-le told in omega (arith, rest)
length-events_in-le (Nothing ∷ told) = let rest = length-events_in-le told in omega (arith, rest)
length-events_in-le (Header sizes ∷ told) = let rest = length-events_in-le told in omega (arith, rest)
length-events_in-le (Numbered n ∷ told) = let rest = length-events_in-le told in omega (arith, rest)
length-events_in-le (Toned given ∷ told) = let rest = length-events_in-le told in omega (arith, rest)
length-events_in-le (Timed given ∷ told) = let rest = length-events_in-le told in omega (arith, rest)
length-events_in-le (Sync ∷ told) = let rest = length-events_in-le told in omega (arith, rest)
length-events_in-le (Change ∷ told) = let rest = length-events_in-le told in omega (arith, rest)

-- ---- the steps of a line, by what happens

-- neither an event nor a change happens
abbrev pub IsQuiet : Happening → Type 0
IsQuiet happening.Nothing = Unit {0}
IsQuiet happening.SegmentEnd = Unit {0}
IsQuiet (happening.Event e) = ⊥
IsQuiet happening.Change = ⊥

module _ (plays : Plays) (slots : ℕ) (told : List Said) where
  quiet_dues : (o : Option Sizes) (said : Said) → IsQuiet (happening_of said) → due_by plays slots told o said ≡ []
  quiet_dues None said quiet = refl
  quiet_dues (Some z) Nothing quiet = refl
  quiet_dues (Some z) (Header sizes) quiet = refl
  quiet_dues (Some z) (Numbered n) quiet = refl
  quiet_dues (Some z) (Toned given) quiet = refl
  quiet_dues (Some z) (Timed given) quiet = refl
  quiet_dues (Some z) (Happens e) quiet = absurd quiet
  quiet_dues (Some z) Sync quiet = refl
  quiet_dues (Some z) Change quiet = absurd quiet

quiet_event : (said : Said) → IsQuiet (happening_of said) → event_said said ≡ None
quiet_event Nothing quiet = refl
quiet_event (Header sizes) quiet = refl
quiet_event (Numbered n) quiet = refl
quiet_event (Toned given) quiet = refl
quiet_event (Timed given) quiet = refl
quiet_event (Happens e) quiet = absurd quiet
quiet_event Sync quiet = refl
quiet_event Change quiet = absurd quiet

is_change : (said : Said) → happening.Change ≡ happening_of said → said ≡ Change
is_change Nothing same = absurd (grind (arith, same))
is_change (Header sizes) same = absurd (grind (arith, same))
is_change (Numbered n) same = absurd (grind (arith, same))
is_change (Toned given) same = absurd (grind (arith, same))
is_change (Timed given) same = absurd (grind (arith, same))
is_change (Happens e) same = absurd (grind (arith, same))
is_change Sync same = absurd (grind (arith, same))
is_change Change same = refl

is_event : (said : Said) (e : Event) → happening.Event e ≡ happening_of said → said ≡ Happens e
is_event Nothing e same = absurd (grind (arith, same))
is_event (Header sizes) e same = absurd (grind (arith, same))
is_event (Numbered n) e same = absurd (grind (arith, same))
is_event (Toned given) e same = absurd (grind (arith, same))
is_event (Timed given) e same = absurd (grind (arith, same))
is_event (Happens f) e same = let is : f ≡ e = grind (arith, same) in ap Happens is
is_event Sync e same = absurd (grind (arith, same))
is_event Change e same = absurd (grind (arith, same))

-- ---- the steps of a line in turn, by what happens

abbrev pub IsTurnQuiet : LinkHappening → Type 0
IsTurnQuiet (effect.Plain h) = IsQuiet h
IsTurnQuiet (effect.Received line octets) = ⊥

module _ (plays : Plays) (slots : ℕ) (told : List Content) where
  linked_quiet : (o : Option Sizes) (c : Content) → IsTurnQuiet (effect_of c) → linked_due plays slots told o c ≡ []
  linked_quiet None c quiet = refl
  linked_quiet (Some z) (Plain Nothing) quiet = refl
  linked_quiet (Some z) (Plain (Header sizes)) quiet = refl
  linked_quiet (Some z) (Plain (Numbered n)) quiet = refl
  linked_quiet (Some z) (Plain (Toned given)) quiet = refl
  linked_quiet (Some z) (Plain (Timed given)) quiet = refl
  linked_quiet (Some z) (Plain (Happens e)) quiet = absurd quiet
  linked_quiet (Some z) (Plain Sync) quiet = refl
  linked_quiet (Some z) (Plain Change) quiet = absurd quiet
  linked_quiet (Some z) (On_link (Linked line)) quiet = refl
  linked_quiet (Some z) (On_link (Received line octets)) quiet = absurd quiet
  linked_quiet (Some z) (On_link (Link_timed given)) quiet = refl

  turn_quiet : (ls : List ℕ) (c : Content) → IsTurnQuiet (effect_of c) → due_by_links plays slots told ls c ≡ []
  turn_quiet [] (Plain said) quiet = quiet_dues plays slots (plain_told told) (sizes_in (plain_told told)) said quiet
  turn_quiet [] (On_link (Linked line)) quiet = quiet_dues plays slots (plain_told told) (sizes_in (plain_told told)) Nothing tt
  turn_quiet [] (On_link (Received line octets)) quiet = absurd quiet
  turn_quiet [] (On_link (Link_timed given)) quiet = quiet_dues plays slots (plain_told told) (sizes_in (plain_told told)) Nothing tt
  turn_quiet (l ∷ ls) c quiet = linked_quiet (sizes_in (plain_told told)) c quiet

  turn_change : (ls : List ℕ) (z : Sizes) → sizes_in (plain_told told) ≡ Some z → due_by_links plays slots told ls (Plain Change) ≡ Meters_changed ∷ []
  turn_change [] z known = ap (λ (o : Option Sizes). due_by plays slots (plain_told told) o Change) known
  turn_change (l ∷ ls) z known = ap (λ (o : Option Sizes). linked_due plays slots told o (Plain Change)) known

turn_no_event : (c : Content) → IsTurnQuiet (effect_of c) → event_said (plain_of c) ≡ None
turn_no_event (Plain said) quiet = quiet_event said quiet
turn_no_event (On_link (Linked line)) quiet = refl
turn_no_event (On_link (Received line octets)) quiet = absurd quiet
turn_no_event (On_link (Link_timed given)) quiet = refl

is_turn_change : (c : Content) → effect.Plain happening.Change ≡ effect_of c → c ≡ Plain Change
is_turn_change (Plain said) same = let is : happening.Change ≡ happening_of said = grind (arith, same) in ap Plain (is_change said is)
is_turn_change (On_link (Linked line)) same = absurd (grind (arith, same))
is_turn_change (On_link (Received line octets)) same = absurd (grind (arith, same))
is_turn_change (On_link (Link_timed given)) same = absurd (grind (arith, same))

is_turn_event : (c : Content) (e : LinkedEvent) → effect_in e ≡ effect_of c → c ≡ content_of e
is_turn_event (Plain said) (event.Event e) same = let is : happening.Event e.now ≡ happening_of said = grind (arith, same) in ap Plain (is_event said e.now is)
is_turn_event (On_link (Linked line)) (event.Event e) same = absurd (grind (arith, same))
is_turn_event (On_link (Received line octets)) (event.Event e) same = absurd (grind (arith, same))
is_turn_event (On_link (Link_timed given)) (event.Event e) same = absurd (grind (arith, same))
is_turn_event (Plain said) (event.Received line octets) same = absurd (grind (arith, same))
is_turn_event (On_link (Linked l)) (event.Received line octets) same = absurd (grind (arith, same))
is_turn_event (On_link (Received l os)) (event.Received line octets) same =
    let first : line ≡ l = grind (arith, same) in
    let second : octets.now ≡ os = grind (arith, same) in
    (λ i. On_link (Received (sym first i) (sym second i)))
is_turn_event (On_link (Link_timed given)) (event.Received line octets) same = absurd (grind (arith, same))

-- a frame is received on a line with a link
abbrev pub IsReceived : LinkedEvent → Type 0
IsReceived (event.Event e) = ⊥
IsReceived (event.Received line octets) = Unit {0}

listed_some : (line : ℕ) (lines : List ℕ) → is_listed line lines ≡ true → 1 ≤ length lines
listed_some line [] listed = absurd (grind (arith, listed))
listed_some line (x ∷ lines) listed = omega arith

received_some : (k : LinkSoFar) (e : LinkedEvent) → IsReceived e → IsTurnPlaced k (content_of e) → 1 ≤ length k.linked
received_some k (event.Event e) received placed = absurd received
received_some k (event.Received line octets) received placed = listed_some line k.linked placed.1

-- an event has its header before it
pub event_known : (k : LinkSoFar) (e : LinkedEvent) → IsTurnPlaced k (content_of e) → IsKnown k.plain
event_known k (event.Event e) placed = placed
event_known k (event.Received line octets) placed = placed.0

event_fits_turn : (k : LinkSoFar) (e : LinkedEvent) (z : Sizes) → k.plain.sizes ≡ Some z → IsTurnPlaced k (content_of e) → IsTurnFine k (content_of e) → FitsLinked z.external (input_of e)
event_fits_turn k (event.Event e) z known placed fine =
    let both : Some fine.0 ≡ Some z = sym fine.1 ∙ known in
    let same : fine.0 ≡ z = grind (arith, both) in
    subst (λ (v : Sizes). Fits v.external e.now) same fine.2
event_fits_turn k (event.Received line octets) z known placed fine = placed.2

event_counted : (k : LinkSoFar) (e : LinkedEvent) → with_content k (content_of e) ≡ record k { plain = with_event k.plain }
event_counted k (event.Event e) = refl
event_counted k (event.Received line octets) = refl

is_plain_event : (c : Content) (e : Event) → effect.Plain (happening.Event e) ≡ effect_of c → c ≡ Plain (Happens e)
is_plain_event (Plain said) e same = let is : happening.Event e ≡ happening_of said = grind (arith, same) in ap Plain (is_event said e is)
is_plain_event (On_link (Linked line)) e same = absurd (grind (arith, same))
is_plain_event (On_link (Received line octets)) e same = absurd (grind (arith, same))
is_plain_event (On_link (Link_timed given)) e same = absurd (grind (arith, same))

due_some : (plays : Plays) (slots : ℕ) (told : List Content) (ls : List ℕ) → 1 ≤ length ls → (c : Content) → due_by_links plays slots told ls c ≡ linked_due plays slots told (sizes_in (plain_told told)) c
due_some plays slots told [] some c = absurd (omega (arith, some))
due_some plays slots told (l ∷ ls) some c = refl

-- before the header there is no story
no_story : (plays : Plays) (slots : ℕ) (told : List Content) (ls : List ℕ) → sizes_in (plain_told told) ≡ None → story_by_links plays slots ls told ≡ []
no_story plays slots told [] none = ap (λ (o : Option Sizes). story_by plays slots o (plain_told told)) none
no_story plays slots told (l ∷ ls) none = ap (λ (o : Option Sizes). linked_story plays slots o told) none

-- the exchange state of the links is the one after the events
joint_world : (slots : ℕ) (z : Sizes) (told : List Content) (ls : List ℕ) → linked_in told ≡ ls → 1 ≤ length ls → (joint_said slots z told).world ≡ world_in_turn slots z told
joint_world slots z told ls is some =
    let s = setting_in_turn slots z told in
    trace_world s (link_timers_said told) (link_row z.external (linked_in told)) (inputs_in told)
    ∙ ap (λ (es : List Event). world_after_all s (start s.dimensions) es) (sym (events_linked (linked_in told) slots z told (subst (λ (l : List ℕ). 1 ≤ length l) (sym is) some) refl))

event_plain : (e : LinkedEvent) → (f : Event) × (plain_of (content_of e) ≡ Happens f)
event_plain (event.Event e) = (e.now, refl)
event_plain (event.Received line octets) = (Message line octets.now, refl)

-- the exchange after an event, with links
running_driven : {P E : Type 0} (carries : Carrying E) (frames : E → ℕ) (sizes : E → Dimensions) (slots : ℕ) (moves : ℕ → ℕ) (told : List Content) (c : Content) (z : Sizes) (e : LinkedEvent) → c ≡ content_of e
    → with_content (in_turn told) c ≡ in_turn (told ++ c ∷ []) → sizes_in (plain_told told) ≡ Some z
    → (x : Option (LinkedExchange P E)) → IsLinkedRunning carries frames sizes slots moves (told ++ content_of e ∷ []) z x → IsLinkedDriven carries frames sizes slots moves (told ++ c ∷ []) x
running_driven {P} {E} carries frames sizes slots moves told c z e is more known x running =
    let all = told ++ content_of e ∷ [] in
    let one = event_plain e in
    let grown : events_in (plain_told all) ≡ events_in (plain_told told) ++ one.0 ∷ [] =
    ap events_in (plain_more told (content_of e)) ∙ ((λ i. events_in (plain_told told ++ one.1 i ∷ [])) ∙ events_more (plain_told told) (Happens one.0)) in
    let long : length (events_in (plain_told all)) ≡ length (events_in (plain_told told)) + 1 = ap length grown ∙ length-append (events_in (plain_told told)) (one.0 ∷ []) in
    let header : sizes_in (plain_told all) ≡ Some z =
    subst (λ (v : Content). sizes_in (plain_told (told ++ v ∷ [])) ≡ Some z) is (ap (λ (k : LinkSoFar). k.plain.sizes) (sym more) ∙ (ap (λ (k : SoFar). k.sizes) (with_plain (in_turn told) c) ∙ (ap (λ (v : Content). (with_said (so_far (plain_told told)) (plain_of v)).sizes) is ∙ (ap (λ (v : Said). (with_said (so_far (plain_told told)) v).sizes) one.1 ∙ known)))) in
    let driven : IsLinkedDriven carries frames sizes slots moves all (Some running.driver) =
    (omega (arith, long), record { header = z; given = header; at = running.at; bound = running.bound; few = running.few }) in
    subst (λ (v : Content). IsLinkedDriven carries frames sizes slots moves (told ++ v ∷ []) x) (sym is)
    (subst (λ (y : Option (LinkedExchange P E)). IsLinkedDriven carries frames sizes slots moves all y) (sym running.is) driven)

-- and without them
after_plain : {P E : Type 0} (carries : Carrying E) (frames : E → ℕ) (sizes : E → Dimensions) (slots : ℕ) (moves : ℕ → ℕ) (told : List Said) (z : Sizes) (e : Event) → sizes_in told ≡ Some z
    → with_said (so_far told) (Happens e) ≡ so_far (told ++ Happens e ∷ []) → (y : LoneExchange P E) → IsAt carries frames sizes y (setting_said slots z told) (next (setting_said slots z told) (world_said slots z told) e)
    → y.control.map.bound ≡ moves (z.external + z.bridges) → MovesFewIn moves (setting_said slots z told) (events_in told ++ e ∷ [])
    → IsDriven carries frames sizes slots moves (told ++ Happens e ∷ []) (let there : Option (LoneExchange P E) = Some y in there)
after_plain carries frames sizes slots moves told z e known more y at bound few =
    let all = told ++ Happens e ∷ [] in
    let s = setting_said slots z told in
    let grown : events_in all ≡ events_in told ++ e ∷ [] = events_more told (Happens e) in
    let setting : setting_said slots z all ≡ s = ap (λ (k : SoFar). setting_by slots z k) (sym more) in
    let world : world_said slots z all ≡ next s (world_said slots z told) e =
    (λ i. world_after_all (setting i) (start (setting i).dimensions) (grown i)) ∙ world-snoc s (start s.dimensions) (events_in told) e in
    let long : length (events_in all) ≡ length (events_in told) + 1 = ap length grown ∙ length-append (events_in told) (e ∷ []) in (
      omega (arith, long),
      record {
        header = z;
        given = ap (λ (k : SoFar). k.sizes) (sym more) ∙ known;
        at = subst (λ (v : Setting). IsAt carries frames sizes y v (world_said slots z all)) (sym setting)
            (subst (λ (w : World). IsAt carries frames sizes y s w) (sym world) at);
        bound = bound;
        few = few_same moves s (setting_said slots z all) (events_in told ++ e ∷ []) (events_in all) (sym setting) (sym grown) few;
      },
    )

-- ---- a line of each kind

module _ {M P E : Type 0} (stands : M → List CallRecord → Type 0) (text : M → List CallRecord → List ℕ) (carries : Carrying E) (frames : E → ℕ) (sizes : E → Dimensions)
    (plays : Plays) (slots : ℕ) (moves : ℕ → ℕ) (old old_spare : List M) where
  abbrev pub HandledBy : List M → List M → LinkSoFar → ℕ → Option (LoneExchange P E) → Option (LinkedExchange P E) → List (List ℕ) → List ℕ → Type 0
  HandledBy on spare heading count exchange linked ls said = Handled stands text carries frames sizes plays slots moves old old_spare on spare heading count exchange linked ls said

  module _ (on spare : List M) (before after : LinkSoFar) (count : ℕ) (exchange : Option (LoneExchange P E)) (linked : Option (LinkedExchange P E)) (ls : List (List ℕ)) (front t line : List ℕ)
      (h : HandledBy on spare before count exchange linked ls (front ++ t)) (short : length line ≤ 65535) (few : count < 4294967294) (hap : LinkHappening) (r : IsInTurnRead line_limits before line hap after) where
    abbrev pub now : Metering M
    now = after_steps (story_in_turn plays slots h.told) (handed_in old old_spare)

    abbrev pub more_known : with_content (in_turn h.told) r.content ≡ in_turn (h.told ++ r.content ∷ [])
    more_known = more stands text carries frames sizes plays slots moves old old_spare on spare before after count exchange linked ls (front ++ t) line h short few hap r

    abbrev pub checked : IsTurnLine (in_turn h.told) r.content
    checked = line_is stands text carries frames sizes plays slots moves old old_spare on spare before after count exchange linked ls (front ++ t) line h short few hap r

    -- neither an event nor a change
    pub handled_quiet : IsTurnQuiet hap → HandledBy on spare after (count + 1) exchange linked (ls ++ line ∷ []) (front ++ t)
    handled_quiet quiet =
        let still : IsTurnQuiet (effect_of r.content) = subst IsTurnQuiet r.happens quiet in
        let none : due_in_turn plays slots h.told r.content ≡ [] = turn_quiet plays slots h.told (linked_in h.told) r.content still in
        handled_more stands text carries frames sizes plays slots moves old old_spare on spare before after count exchange linked ls (front ++ t) line h short few hap r on spare exchange linked (front ++ t)
        (subst (λ (steps : List Step). AreMetered stands text (after_steps steps now) on spare) (sym none) h.meters)
        (sym (append-nil (front ++ t)) ∙ ap (λ (steps : List Step). (front ++ t) ++ steps_text text steps now) (sym none))
        (driven_by carries frames sizes slots moves h.told (linked_in h.told) refl r.content more_known checked.placed (turn_no_event r.content still) h.first exchange linked h.driven)

    -- a change of meters
    pub handled_change : hap ≡ effect.Plain happening.Change → (on' spare' : List M) (t' : List ℕ) → AreChangedBy stands text 1 on spare t on' spare' t'
        → HandledBy on' spare' after (count + 1) exchange linked (ls ++ line ∷ []) (front ++ t')
    handled_change is on' spare' t' changed =
        let change : r.content ≡ Plain Change = is_turn_change r.content (sym is ∙ r.happens) in
        let known : IsKnown (so_far (plain_told h.told)) = subst (IsTurnPlaced (in_turn h.told)) change checked.placed in
        let one : due_in_turn plays slots h.told r.content ≡ Meters_changed ∷ [] =
        ap (due_in_turn plays slots h.told) change ∙ turn_change plays slots h.told (linked_in h.told) known.0 known.1 in
        handled_more stands text carries frames sizes plays slots moves old old_spare on spare before after count exchange linked ls (front ++ t) line h short few hap r on' spare' exchange linked (front ++ t')
        (subst (λ (steps : List Step). AreMetered stands text (after_steps steps now) on' spare') (sym one) (changed.left now h.meters))
        (ap (λ (l : List ℕ). front ++ l) (changed.said_is now h.meters)
        ∙ (sym (append_assoc front t (steps_text text (Meters_changed ∷ []) now)) ∙ ap (λ (steps : List Step). (front ++ t) ++ steps_text text steps now) (sym one)))
        (driven_by carries frames sizes slots moves h.told (linked_in h.told) refl r.content more_known checked.placed (ap (λ (c : Content). event_said (plain_of c)) change) h.first exchange linked h.driven)

    -- one step, with its line and its calls
    handled_one : (row : List ℕ) (calls : List CallRecord) → due_in_turn plays slots h.told r.content ≡ Event_done row calls ∷ []
        → (on' : List M) (t' : List ℕ) (exchange' : Option (LoneExchange P E)) (linked' : Option (LinkedExchange P E)) → AreTold stands text on on' calls → t' ≡ t ++ row
        → AreDriven carries frames sizes slots moves (h.told ++ r.content ∷ []) exchange' linked' → HandledBy on' spare after (count + 1) exchange' linked' (ls ++ line ∷ []) (front ++ t')
    handled_one row calls one on' t' exchange' linked' noted is driven =
        let step = Event_done row calls in
        handled_more stands text carries frames sizes plays slots moves old old_spare on spare before after count exchange linked ls (front ++ t) line h short few hap r on' spare exchange' linked' (front ++ t')
        (subst (λ (steps : List Step). AreMetered stands text (after_steps steps now) on' spare) (sym one)
        (metered-events stands text (step ∷ []) tt now on on' spare h.meters (subst (λ (v : List CallRecord). AreTold stands text on on' v) (sym (append-nil calls)) noted)))
        (ap (λ (l : List ℕ). front ++ l) (is ∙ ap (λ (l : List ℕ). t ++ l) (sym (append-nil row)))
        ∙ (sym (append_assoc front t (steps_text text (step ∷ []) now)) ∙ ap (λ (steps : List Step). (front ++ t) ++ steps_text text steps now) (sym one)))
        driven

    few_events : length (events_in (plain_told h.told)) < 4294967294
    few_events =
        let same = each_length [] h.told ls h.meets in
        let is_count = h.counted in
        let most = length-events_in-le (plain_told h.told) in
        let long = length-map h.told plain_of in
        omega (arith, same, is_count, most, few, long)

    -- an event
    module _ (e : LinkedEvent) (is : hap ≡ effect_in e) where
      pub event_is : r.content ≡ content_of e
      event_is = is_turn_event r.content e (sym is ∙ r.happens)

      pub placed_here : IsTurnPlaced (in_turn h.told) (content_of e)
      placed_here = subst (IsTurnPlaced (in_turn h.told)) event_is checked.placed

      fine_here : IsTurnFine (in_turn h.told) (content_of e)
      fine_here = subst (IsTurnFine (in_turn h.told)) event_is checked.fine

      abbrev pub known_here : IsKnown (so_far (plain_told h.told))
      known_here = event_known (in_turn h.told) e placed_here

      abbrev pub header : Sizes
      header = known_here.0

      known_after : after ≡ record (in_turn h.told) { plain = with_event (so_far (plain_told h.told)) }
      known_after = r.known ∙ ((λ i. with_content (h.known i) (event_is i)) ∙ event_counted (in_turn h.told) e)

      pub linked_after : after.linked ≡ linked_in h.told
      linked_after = ap (λ (k : LinkSoFar). k.linked) known_after

      -- a frame is received only if a line has a link
      pub received_linked : IsReceived e → 1 ≤ length after.linked
      received_linked received = subst (λ (l : List ℕ). 1 ≤ length l) (sym linked_after) (received_some (in_turn h.told) e received placed_here)

      -- with links
      pub given_after : 1 ≤ length after.linked → IsLinkedGiven h.told header after
      given_after some = record {
        header = known_here.1;
        sized = ap (λ (k : LinkSoFar). k.plain.sizes) known_after ∙ known_here.1;
        plan = ap (λ (k : LinkSoFar). k.plain.plan) (sym known_after);
        tones = ap (λ (k : LinkSoFar). k.plain.tones) (sym known_after);
        timers = ap (λ (k : LinkSoFar). k.plain.timers) (sym known_after);
        linked = sym linked_after;
        link_timers = ap (λ (k : LinkSoFar). k.timers) (sym known_after);
        some = subst (λ (l : List ℕ). 1 ≤ length l) linked_after some;
        sound = h.sound;
      }

      pub linked_is_due : 1 ≤ length after.linked → IsLinkedDue carries frames sizes slots moves h.told header after linked e
      linked_is_due some = record {
        heard = record { given = given_after some; driven = (split_driven carries frames sizes slots moves h.told (linked_in h.told) (given_after some).some exchange linked h.driven).1 };
        next = record { number = ap (λ (k : LinkSoFar). k.plain.events) known_after; fits = event_fits_turn (in_turn h.told) e header known_here.1 placed_here fine_here; few = few_events };
      }

      due_is : 1 ≤ length after.linked → due_in_turn plays slots h.told r.content ≡ steps_at plays slots h.told header e
      due_is some =
          ap (due_in_turn plays slots h.told) event_is
          ∙ (due_some plays slots h.told (linked_in h.told) (given_after some).some (content_of e)
          ∙ ap (λ (o : Option Sizes). linked_due plays slots h.told o (content_of e)) known_here.1)

      pub handled_linked : 1 ≤ length after.linked → (on' : List M) (t' : List ℕ) (linked' : Option (LinkedExchange P E))
          → HasLinkedHappened plays carries frames sizes slots moves stands text h.told header e on on' t t' linked' → HandledBy on' spare after (count + 1) exchange linked' (ls ++ line ∷ []) (front ++ t')
      handled_linked some on' t' linked' done =
          let given = given_after some in
          let driven = split_driven carries frames sizes slots moves h.told (linked_in h.told) given.some exchange linked h.driven in
          handled_one done.line done.calls (due_is some ∙ done.steps) on' t' exchange linked' done.noted done.appended
          (linked_driven carries frames sizes slots moves h.told r.content more_known given.some exchange linked' driven.0
          (running_driven carries frames sizes slots moves h.told r.content header e event_is more_known known_here.1 linked' done.running))

      pub interrupted_linked : 1 ≤ length after.linked → (on' : List M) → AreToldFront stands text on on' (records_of (steps_at plays slots h.told header e))
          → IsInterrupted (course plays slots moves stands text old old_spare on' spare) (ls ++ line ∷ []) (front ++ t)
      interrupted_linked some on' told_front =
          interrupted_more stands text carries frames sizes plays slots moves old old_spare on spare before after count exchange linked ls (front ++ t) line h short few hap r on'
          (subst (λ (steps : List Step). AreToldFront stands text on on' (records_of steps)) (sym (due_is some)) told_front)

    -- an event of a trace without links
    module _ (e : Event) (is : hap ≡ effect.Plain (happening.Event e)) (none : after.linked ≡ []) where
      pub plain_event_is : r.content ≡ Plain (Happens e)
      plain_event_is = is_plain_event r.content e (sym is ∙ r.happens)

      pub plain_placed_here : IsKnown (so_far (plain_told h.told))
      plain_placed_here = subst (IsTurnPlaced (in_turn h.told)) plain_event_is checked.placed

      abbrev pub plain_header : Sizes
      plain_header = plain_placed_here.0

      pub plain_after : after ≡ record (in_turn h.told) { plain = with_event (so_far (plain_told h.told)) }
      plain_after = r.known ∙ (λ i. with_content (h.known i) (plain_event_is i))

      unlinked : linked_in h.told ≡ []
      unlinked = sym (ap (λ (k : LinkSoFar). k.linked) plain_after) ∙ none

      plain_driven : IsDrivenBy carries frames sizes slots moves [] h.told exchange linked
      plain_driven = subst (λ (l : List ℕ). IsDrivenBy carries frames sizes slots moves l h.told exchange linked) unlinked h.driven

      pub event_due : IsEventDue carries frames sizes slots moves (plain_told h.told) plain_header after.plain exchange e
      event_due = record {
        heard = record {
          header = plain_placed_here.1;
          sized = ap (λ (k : LinkSoFar). k.plain.sizes) plain_after ∙ plain_placed_here.1;
          plan = ap (λ (k : LinkSoFar). k.plain.plan) (sym plain_after);
          tones = ap (λ (k : LinkSoFar). k.plain.tones) (sym plain_after);
          timers = ap (λ (k : LinkSoFar). k.plain.timers) (sym plain_after);
          sound = h.sound;
          driven = plain_driven.0;
        };
        fits =
            let given : IsFine (so_far (plain_told h.told)) (Happens e) = subst (IsTurnFine (in_turn h.told)) plain_event_is checked.fine in
            let both : Some given.0 ≡ Some plain_header = sym given.1 ∙ plain_placed_here.1 in
            let same : given.0 ≡ plain_header = grind (arith, both) in
            subst (λ (z : Sizes). Fits z.external e) same given.2;
        few = few_events;
      }

      abbrev row_here : List ℕ
      row_here = let s = setting_said slots plain_header (plain_told h.told) in event_line (plays (table_of s.tones)) s (world_said slots plain_header (plain_told h.told)) after.plain.events e

      one : due_in_turn plays slots h.told r.content ≡ Event_done row_here (calls_at slots (plain_told h.told) plain_header e) ∷ []
      one =
          let s = setting_said slots plain_header (plain_told h.told) in
          (λ i. due_by_links plays slots h.told (unlinked i) (plain_event_is i))
          ∙ (ap (λ (o : Option Sizes). due_by plays slots (plain_told h.told) o (Happens e)) plain_placed_here.1
          ∙ ap (λ k. Event_done (event_line (plays (table_of s.tones)) s (world_said slots plain_header (plain_told h.told)) k e) (calls_at slots (plain_told h.told) plain_header e) ∷ []) (sym (ap (λ (k : LinkSoFar). k.plain.events) plain_after)))

      pub handled_event : (on' : List M) (t' : List ℕ) (exchange' : Option (LoneExchange P E))
          → HasHappened plays carries frames sizes slots moves stands text (plain_told h.told) plain_header after.plain.events e on on' t t' exchange'
          → HandledBy on' spare after (count + 1) exchange' linked (ls ++ line ∷ []) (front ++ t')
      handled_event on' t' exchange' done =
          let all = h.told ++ r.content ∷ [] in
          let still : linked_in all ≡ [] = sym (ap (λ (k : LinkSoFar). k.linked) (r.behind h.told h.known)) ∙ none in
          let rows : plain_told all ≡ plain_told h.told ++ Happens e ∷ [] = plain_more h.told r.content ∙ (λ i. plain_told h.told ++ plain_of (plain_event_is i) ∷ []) in
          let known : with_said (so_far (plain_told h.told)) (Happens e) ≡ so_far (plain_told h.told ++ Happens e ∷ []) =
          plain_known h.told (Plain (Happens e)) (subst (λ (c : Content). with_content (in_turn h.told) c ≡ in_turn (h.told ++ c ∷ [])) plain_event_is more_known) in
          handled_one row_here (calls_at slots (plain_told h.told) plain_header e) one on' t' exchange' linked done.noted done.line
          (subst (λ (l : List ℕ). IsDrivenBy carries frames sizes slots moves l all exchange' linked) (sym still) (
            subst (λ (ps : List Said). IsDriven carries frames sizes slots moves ps exchange') (sym rows)
                (subst (λ (x : Option (LoneExchange P E)). IsDriven carries frames sizes slots moves (plain_told h.told ++ Happens e ∷ []) x) (sym done.is)
                (after_plain carries frames sizes slots moves (plain_told h.told) plain_header e plain_placed_here.1 known done.driver done.at done.bound done.few)),
            plain_driven.1,
          ))

      -- an allocation failed in it
      pub interrupted_event : (on' : List M) → AreToldFront stands text on on' (calls_at slots (plain_told h.told) plain_header e)
          → IsInterrupted (course plays slots moves stands text old old_spare on' spare) (ls ++ line ∷ []) (front ++ t)
      interrupted_event on' told_front =
          interrupted_more stands text carries frames sizes plays slots moves old old_spare on spare before after count exchange linked ls (front ++ t) line h short few hap r on'
          (subst (λ (calls : List CallRecord). AreToldFront stands text on on' calls) (sym (ap records_of one ∙ append-nil (calls_at slots (plain_told h.told) plain_header e))) told_front)

  -- ---- the end of the input

  module _ (on spare : List M) (heading : LinkSoFar) (count : ℕ) (exchange : Option (LoneExchange P E)) (linked : Option (LinkedExchange P E)) (ls : List (List ℕ)) (front t : List ℕ)
      (h : HandledBy on spare heading count exchange linked ls (front ++ t)) where
    header_here : (z : Sizes) → heading.plain.sizes ≡ Some z → sizes_in (plain_told h.told) ≡ Some z
    header_here z known = ap (λ (k : LinkSoFar). k.plain.sizes) (sym h.known) ∙ known

    -- the exchange of these lines, which is made at the end if no event made it
    pub finish_heard : (z : Sizes) → heading.plain.sizes ≡ Some z → heading.linked ≡ [] → IsHeard carries frames sizes slots moves (plain_told h.told) z heading.plain exchange
    finish_heard z known none = record {
      header = header_here z known;
      sized = known;
      plan = ap (λ (k : LinkSoFar). k.plain.plan) (sym h.known);
      tones = ap (λ (k : LinkSoFar). k.plain.tones) (sym h.known);
      timers = ap (λ (k : LinkSoFar). k.plain.timers) (sym h.known);
      sound = h.sound;
      driven = (subst (λ (l : List ℕ). IsDrivenBy carries frames sizes slots moves l h.told exchange linked) (ap (λ (k : LinkSoFar). k.linked) (sym h.known) ∙ none) h.driven).0;
    }

    pub finish_linked : (z : Sizes) → heading.plain.sizes ≡ Some z → 1 ≤ length heading.linked → IsLinkedHeard carries frames sizes slots moves h.told z heading linked
    finish_linked z known some =
        let there : 1 ≤ length (linked_in h.told) = subst (λ (k : LinkSoFar). 1 ≤ length k.linked) h.known some in
        record {
          given = record {
            header = header_here z known;
            sized = known;
            plan = ap (λ (k : LinkSoFar). k.plain.plan) (sym h.known);
            tones = ap (λ (k : LinkSoFar). k.plain.tones) (sym h.known);
            timers = ap (λ (k : LinkSoFar). k.plain.timers) (sym h.known);
            linked = ap (λ (k : LinkSoFar). k.linked) (sym h.known);
            link_timers = ap (λ (k : LinkSoFar). k.timers) (sym h.known);
            some = there;
            sound = h.sound;
          };
          driven = (split_driven carries frames sizes slots moves h.told (linked_in h.told) there exchange linked h.driven).1;
        }

    pub finished : (z : Sizes) → heading.plain.sizes ≡ Some z → heading.linked ≡ [] → (exchange' : Option (LoneExchange P E)) → IsRunning carries frames sizes slots moves (plain_told h.told) z exchange'
        → HasFinished carries frames sizes (course plays slots moves stands text old old_spare on spare) exchange' linked ls (front ++ t)
    finished z known none exchange' running =
        let header = header_here z known in
        let unlinked : linked_in h.told ≡ [] = ap (λ (k : LinkSoFar). k.linked) (sym h.known) ∙ none in
        let nothing : linked ≡ None = (subst (λ (l : List ℕ). IsDrivenBy carries frames sizes slots moves l h.told exchange linked) unlinked h.driven).1 in
        let events : events_in_turn slots z h.told ≡ events_in (plain_told h.told) = ap (λ (l : List ℕ). events_by l slots z h.told) unlinked in
        let world : world_in_turn slots z h.told ≡ world_said slots z (plain_told h.told) = ap (λ (es : List Event). let s = setting_in_turn slots z h.told in world_after_all s (start s.dimensions) es) events in
        record {
          whole = record {
            told = h.told;
            meets = h.meets;
            sizes = z;
            header = header;
            few = subst (MovesFewIn moves (setting_in_turn slots z h.told)) (sym events) running.few;
            text = h.text;
            meters = h.meters;
          };
          engine = record {
            told = h.told;
            meets = h.meets;
            driver = running.driver;
            is = ap (exchange_of exchange') nothing ∙ running.is;
            header = z;
            given = header;
            carried = subst (λ (w : World). carries running.driver.engine w.inputs w.held w.seated) (sym world) running.at.carried;
            sized = running.at.sized;
          };
        }

    pub finished_linked : (z : Sizes) → heading.plain.sizes ≡ Some z → 1 ≤ length heading.linked → (linked' : Option (LinkedExchange P E)) → IsLinkedRunning carries frames sizes slots moves h.told z linked'
        → HasFinished carries frames sizes (course plays slots moves stands text old old_spare on spare) exchange linked' ls (front ++ t)
    finished_linked z known some linked' running =
        let header = header_here z known in
        let there : 1 ≤ length (linked_in h.told) = subst (λ (k : LinkSoFar). 1 ≤ length k.linked) h.known some in
        record {
          whole = record { told = h.told; meets = h.meets; sizes = z; header = header; few = running.few; text = h.text; meters = h.meters };
          engine = record {
            told = h.told;
            meets = h.meets;
            driver = running.driver.exchange;
            is = ap (exchange_of exchange) running.is;
            header = z;
            given = header;
            carried = subst (λ (w : World). carries running.driver.exchange.engine w.inputs w.held w.seated) (joint_world slots z h.told (linked_in h.told) refl there) running.at.exchange.carried;
            sized = running.at.exchange.sized;
          };
        }

    -- no header is among them
    pub end_refused : heading.plain.sizes ≡ None → (t' : List ℕ) → t' ≡ t ++ refusal (count + 1) reason.Header
        → IsEndRefused (course plays slots moves stands text old old_spare on spare) ls (front ++ t')
    end_refused unknown t' is =
        let none : sizes_in (plain_told h.told) ≡ None = ap (λ (k : LinkSoFar). k.plain.sizes) (sym h.known) ∙ unknown in
        let story : story_in_turn plays slots h.told ≡ [] = no_story plays slots h.told (linked_in h.told) none in
        let silent : front ++ t ≡ [] = h.text ∙ ap (λ (steps : List Step). steps_text text steps (handed_in old old_spare)) story in
        record {
          told = h.told;
          meets = h.meets;
          none = none;
          text =
              ap (λ (l : List ℕ). front ++ l) is
              ∙ (sym (append_assoc front t (refusal (count + 1) reason.Header))
              ∙ (λ i. silent i ++ refusal (h.counted i + 1) reason.Header));
          meters = subst (λ (steps : List Step). AreMetered stands text (after_steps steps (handed_in old old_spare)) on spare) story h.meters;
        }

    pub count_few : count ≤ 4294967294
    count_few = let counted = h.counted in let most = each_few [] h.told ls h.meets (omega arith) in omega (arith, counted, most)

  -- ---- the next line, before it is read and after it

  module _ (on spare : List M) (before : LinkSoFar) (count : ℕ) (exchange : Option (LoneExchange P E)) (linked : Option (LinkedExchange P E)) (ls : List (List ℕ)) (front t : List ℕ)
      (h : HandledBy on spare before count exchange linked ls (front ++ t)) (line : List ℕ) where
    joined : (t' refused : List ℕ) → t' ≡ t ++ refused → front ++ t' ≡ (front ++ t) ++ refused
    joined t' refused is = ap (λ (l : List ℕ). front ++ l) is ∙ sym (append_assoc front t refused)

    -- it is too long, or one too many
    pub refused_at : (t' : List ℕ) → (65535 < length line) ⊎ (4294967294 ≤ count) → t' ≡ t ++ refusal (count + 1) reason.Limit
        → IsLineRefused (course plays slots moves stands text old old_spare on spare) (ls ++ line ∷ []) (front ++ t')
    refused_at t' why is =
        refused_long stands text carries frames sizes plays slots moves old old_spare on spare before count exchange linked ls (front ++ t) line h (front ++ t') why (joined t' (refusal (count + 1) reason.Limit) is)

    module _ (short : length line ≤ 65535) (few : count < 4294967294) (limits : Limits) (are : limits ≡ line_limits) where
      -- a check of it fails
      pub refused_by : (why : Reason) (t' : List ℕ) → says_in_turn limits before line ≡ Err why → t' ≡ t ++ refusal (count + 1) why
          → IsLineRefused (course plays slots moves stands text old old_spare on spare) (ls ++ line ∷ []) (front ++ t')
      refused_by why t' fails is =
          refused_more stands text carries frames sizes plays slots moves old old_spare on spare before before count exchange linked ls (front ++ t) line h short few why (front ++ t')
          (ap (λ (l : Limits). says_in_turn l before line) (sym are) ∙ fails) (joined t' (refusal (count + 1) why) is)

      pub is_read : (hap : LinkHappening) (after : LinkSoFar) → IsInTurnRead limits before line hap after
          → HasRead carries frames sizes (course plays slots moves stands text old old_spare on spare) after count exchange linked ls line (front ++ t) hap
      is_read hap after read = record { before = before; handled = h; short = short; few = few; read = subst (λ (l : Limits). IsInTurnRead l before line hap after) are read }

-- ---- whether a line has a link, and whether a call succeeded

pub none_listed : (lines : List ℕ) → (length lines == 0) ≡ true → lines ≡ []
none_listed [] none = refl
none_listed (x ∷ lines) none = absurd (grind (arith, none))

pub some_listed : (lines : List ℕ) → (length lines == 0) ≡ false → 1 ≤ length lines
some_listed [] some = absurd (grind (arith, some))
some_listed (x ∷ lines) some = omega arith

pub ok_each : {T E P : Type 0} (r : Result T E) → ((t : T) → r ≡ Ok t → P) → OnOk r P
ok_each (Ok t) make = make t refl
ok_each (Err e) make = tt

pub err_each : {T E P : Type 0} (r : Result T E) → ((e : E) → r ≡ Err e → P) → OnErr r P
err_each (Ok t) make = tt
err_each (Err e) make = make e refl

pub of_ok : {T E P : Type 0} (r : Result T E) (t : T) → r ≡ Ok t → OnOk r P → P
of_ok (Ok v) t is p = p
of_ok (Err e) t is p = absurd (grind (arith, is))

pub of_err : {T E P : Type 0} (r : Result T E) (e : E) → r ≡ Err e → OnErr r P → P
of_err (Ok v) e is p = absurd (grind (arith, is))
of_err (Err d) e is p = p

pub known_there : (o : Option Sizes) → is_some o ≡ true → (z : Sizes) × (o ≡ Some z)
known_there None some = absurd (grind (arith, some))
known_there (Some z) some = (z, refl)
