-- An exchange with data links that is made, and an event on it.
use Rattle.std.proofs.Common.{◌≤◌, ◌≡◌, ℕ, ◌+◌, ◌<◌, Bool, true, false, List, [], ◌∷◌, ◌++◌, length, Option, Some, None, ◌⊎◌, inl, inr, refl, sym, ap, ◌∙◌, subst, arith, append-nil, append_assoc, codes}
use Rattle.std.specs.Prelude.{All, IsTrue, is_some}
use Rattle.std.proofs.lemmas.List.Elements.{All-weaker}
use Rattle.circuit_model.specs.Dimensions.{Dimensions}
use Rattle.circuit_model.specs.FrameInput.{Input}
use Rattle.circuit_model.specs.Hears.{Plays}
use Rattle.tone_rules.specs.Tables.{table_of}
use Rattle.tone_rules.specs.declared.tones.Tones.{Tones}
use Rattle.call_timers.specs.declared.timers.Timers.{Timers}
use Rattle.exchange_events.specs.declared.outbox.Outbox.{Outbox}
use Rattle.exchange_events.specs.declared.outbox.Response.{Response}
use Rattle.exchange_events.specs.declared.record.CallRecord.{CallRecord}
use Rattle.exchange_events.specs.declared.reply.Reply.{Reply}
use Rattle.exchange_events.specs.declared.reply.Reply.TheVariants.{Sent}
use Rattle.exchange_events.specs.declared.trace.Event.TheVariants.{Frame}
use Rattle.exchange_events.specs.Kept.{kept_of}
use Rattle.exchange_events.specs.Responses.{reply_of}
use Rattle.exchange_events.specs.Sizes.{Setting}
use Rattle.exchange_events.specs.Sound.{IsPlanned, is_reached}
use Rattle.number_plan.specs.declared.plan.Number.{Number}
use Rattle.number_plan.specs.Plan.{all_targets}
use Rattle.call_profile.specs.CallsTold.{calls_kept}
use Rattle.call_profile.specs.Step.{MovesAtMost, run}
use Rattle.call_profile.specs.World.{World, pass, start}
use Rattle.call_profile.proofs.QuietEventLemmas.{passed_same}
use Rattle.report_text.proofs.Rows.{sent_same}
use Rattle.link_procedures.specs.declared.state.LinkTimers.{LinkTimers}
use Rattle.linked_text.specs.LinkReport.{frame_end}
use Rattle.meters.specs.Changing.{Event_done, records_of}
use Rattle.meters.proofs.Told.{told_front-append, told-then}
use Rattle.meters.proofs.Zips.{zip-then, zip-weaker}
use Rattle.report_text.specs.Report.{lines_sent, octet_of, parts}
use Rattle.report_text.specs.RunReport.{sent_at}
use Rattle.lone_exchange.specs.At.{ArePlayed, Carrying, size}
use Rattle.trace_text.specs.declared.said.Sizes.{Sizes}
use Rattle.trace_text.specs.TraceGrammar.{events_in}
use Rattle.trace_text.specs.TraceLines.{SoFar}
use Rattle.trace_text.specs.TraceTimers.{timers_by}
use Rattle.linked_exchange.specs.declared.exchange.LinkedExchange.{LinkedExchange}
use Rattle.linked_exchange.specs.declared.settings.Settings.{Settings}
use Rattle.linked_exchange.specs.At.{HasSettings, IsLinkedAt, IsPlannedFor, StartsLinkedAt}
use Rattle.linked_exchange.specs.Runs.{FitsLinked, derived_all, joint_after_all, links_down, start_joint}
use Rattle.linked_exchange.specs.Steps.{Joint, LinkedInput, Happens, Turns, derived, next_joint, reply_to}
use Rattle.linked_exchange.proofs.AtLemmas.{time_at}
use Rattle.linked_exchange.proofs.QuietLemmas.{start_quiet}
use Rattle.linked_exchange.specs.declared.steps.LinkedEvent.{LinkedEvent}
use Rattle.linked_exchange.specs.LinkedLines.{PlaysOn, calls_of, happened_calls, happened_line, input_of, text_of, turn_of}
use Rattle.linked_exchange.specs.LinkedStory.{inputs_in}
use Rattle.linked_text.specs.LinkEffects.{in_turn, link_row, linked_in, plain_told}
use Rattle.linked_text.specs.LinkLines.{Content, LinkSoFar}
use Rattle.linked_text.specs.LinkTimers.{link_timers_by}
use Rattle.linked_exchange.specs.Told.{MovesFewIn}
use Rattle.linked_exchange.specs.InTurn.{MovesFewInTurn, first_joint, joint_said, link_timers_said, setting_in_turn}
use Rattle.linked_exchange.specs.LinkedStepping.{HasLinkedHappened, IsLinkedDue, IsLinkedGiven, IsLinkedHeard, IsLinkedReady, IsLinkedRunning, steps_at}
use Rattle.linked_exchange.specs.Telling.{AreTold, AreToldFront}
use Rattle.linked_exchange.proofs.LinkedRuns.{events_linked, trace_by}
use Rattle.linked_exchange.proofs.LinkedEvents.{IsNoFrame, frame_or_not, frames_few, inputs_frame, inputs_other, running_after, step_few, step_frames, steps_few, steps_frame, steps_other}
use Rattle.linked_exchange.proofs.SteppingLemmas.{told_front}
use Rattle.linked_exchange.proofs.TurnSteps.{no_inputs}

-- ---- the settings

-- the settings of a heading
pub record IsSettingOf (heading : LinkSoFar) (settings : Settings) : Type 0 where
  pub plan : settings.plan.now ≡ heading.plain.plan
  pub tones : settings.tones.now ≡ heading.plain.tones
  pub timers : settings.timers.now ≡ timers_by heading.plain.timers
  pub link_timers : settings.link_timers.now ≡ link_timers_by heading.timers

-- settings that lend these values, at any place
abbrev pub settings_of : List Number → Tones → Timers → LinkTimers → Settings
settings_of plan tones timers link_timers = record {
  plan = record { ref_ptr = (0, 0); now = plan };
  tones = record { ref_ptr = (0, 0); now = tones };
  timers = record { ref_ptr = (0, 0); now = timers };
  link_timers = record { ref_ptr = (0, 0); now = link_timers };
}

pub settings_are : (heading : LinkSoFar) (plain : SoFar) (plan : List Number) (tones : Tones) (timers : Timers) (link_timers : LinkTimers) → plain ≡ heading.plain → plan ≡ plain.plan → tones ≡ plain.tones
    → timers ≡ timers_by plain.timers → link_timers ≡ link_timers_by heading.timers → IsSettingOf heading (settings_of plan tones timers link_timers)
settings_are heading plain plan tones timers link_timers same plans toned timed links = record {
  plan = plans ∙ ap (λ (k : SoFar). k.plan) same;
  tones = toned ∙ ap (λ (k : SoFar). k.tones) same;
  timers = timed ∙ ap (λ (k : SoFar). timers_by k.timers) same;
  link_timers = links;
}

module _ (slots : ℕ) (told : List Content) (z : Sizes) (heading : LinkSoFar) (settings : Settings) (given : IsLinkedGiven told z heading) (is : IsSettingOf heading settings) where
  pub has_settings : HasSettings settings (setting_in_turn slots z told)
  has_settings = record { plan_is = given.plan ∙ sym is.plan; tones_are = given.tones ∙ sym is.tones; timers_are = ap timers_by given.timers ∙ sym is.timers }

  pub same_timers : settings.link_timers.now ≡ link_timers_said told
  same_timers = is.link_timers ∙ ap link_timers_by (sym given.link_timers)

-- ---- the exchange before the first event

quiet_few : (n : ℕ) (r : Reply) → r ≡ Sent [] None [] → MovesAtMost n r
quiet_few n r is = subst (MovesAtMost n) (sym is) tt

-- few live paths are moved before the first event: the links are down then
pub early_few : (slots : ℕ) (moves : ℕ → ℕ) (told : List Content) (z : Sizes) → 1 ≤ length (linked_in told) → inputs_in told ≡ [] → MovesFewInTurn slots moves z told
early_few slots moves told z some inputs =
    let s = setting_in_turn slots z told in
    let n = moves (z.external + z.bridges) in
    let down = links_down 0 (link_row z.external (linked_in told)) in
    let events : trace_by slots z (in_turn told) (inputs_in told) ≡ down = ap (trace_by slots z (in_turn told)) inputs ∙ append-nil down in
    let few : MovesFewIn moves s down =
    All-weaker (λ (r : Reply). r ≡ Sent [] None []) (MovesAtMost n) (quiet_few n) (run s (start s.dimensions) down) (start_quiet s (link_row z.external (linked_in told))) in
    subst (MovesFewIn moves s) (sym (events_linked (linked_in told) slots z told some refl ∙ events)) few

module _ {P E : Type 0} (carries : Carrying E) (frames : E → ℕ) (sizes : E → Dimensions) (slots : ℕ) (moves : ℕ → ℕ) (told : List Content) (z : Sizes) (heading : LinkSoFar) where
  pub linked_old : (exchange : Option (LinkedExchange P E)) → is_some exchange ≡ true → IsLinkedHeard carries frames sizes slots moves told z heading exchange → IsLinkedRunning carries frames sizes slots moves told z exchange
  linked_old None some heard = absurd (grind (arith, some))
  linked_old (Some x) some heard =
      let at = heard.driven.1 in
      let both : Some at.header ≡ Some z = sym at.given ∙ heard.given.header in
      let same : at.header ≡ z = grind (arith, both) in
      record {
        driver = x;
        is = refl;
        at = subst (λ (v : Sizes). IsLinkedAt carries frames sizes x (setting_in_turn slots v told) (joint_said slots v told)) same at.at;
        bound = subst (λ (v : Sizes). x.exchange.control.map.bound ≡ moves (v.external + v.bridges)) same at.bound;
        few = subst (λ (v : Sizes). MovesFewInTurn slots moves v told) same at.few;
      }

  pub linked_new : (exchange : Option (LinkedExchange P E)) (x : LinkedExchange P E) (sized : Sizes) (settings : Settings) (row : List Bool) (depth : ℕ) → is_some exchange ≡ false → Some sized ≡ heading.plain.sizes
      → IsSettingOf heading settings → row ≡ link_row sized.external heading.linked → depth ≡ slots → StartsLinkedAt carries frames sizes settings sized.external sized.bridges depth row x
      → x.exchange.control.map.bound ≡ moves (sized.external + sized.bridges) → IsLinkedHeard carries frames sizes slots moves told z heading exchange → IsLinkedRunning carries frames sizes slots moves told z (Some x)
  linked_new (Some y) x sized settings row depth none known is rows deep starts bound heard = absurd (grind (arith, none))
  linked_new None x sized settings row depth none known is rows deep starts bound heard =
      let given = heard.given in
      let both : Some sized ≡ Some z = known ∙ given.sized in
      let same : sized ≡ z = grind (arith, both) in
      let s = setting_in_turn slots z told in
      let timers = link_timers_said told in
      let inputs : inputs_in told ≡ [] = no_inputs told heard.driven in
      let lines : row ≡ link_row z.external (linked_in told) = rows ∙ (λ i. link_row (same i).external (sym given.linked i)) in
      let begins : StartsLinkedAt carries frames sizes settings z.external z.bridges depth row x = subst (λ (v : Sizes). StartsLinkedAt carries frames sizes settings v.external v.bridges depth row x) same starts in
      let first : IsLinkedAt carries frames sizes x s (start_joint s row) = begins s (ap (size z.external z.bridges) (sym deep)) (has_settings slots told z heading settings given is) in
      let joint : start_joint s row ≡ joint_said slots z told = ap (start_joint s) lines ∙ ap (joint_after_all s timers (first_joint slots z told)) (sym inputs) in
      record {
        driver = x;
        is = refl;
        at = subst (λ (v : Joint). IsLinkedAt carries frames sizes x s v) joint first;
        bound = subst (λ (v : Sizes). x.exchange.control.map.bound ≡ moves (v.external + v.bridges)) same bound;
        few = early_few slots moves told z given.some inputs;
      }

  -- the plan has only lines of the exchange that is made
  pub planned_heard : (exchange : Option (LinkedExchange P E)) (sized : Sizes) (settings : Settings) (depth : ℕ) → Some sized ≡ heading.plain.sizes → IsSettingOf heading settings
      → IsLinkedHeard carries frames sizes slots moves told z heading exchange → IsPlannedFor (size sized.external sized.bridges depth) settings
  planned_heard exchange sized settings depth known is heard =
      let given = heard.given in
      let both : Some z ≡ Some sized = sym given.sized ∙ sym known in
      let same : z ≡ sized = grind (arith, both) in
      let planned : IsPlanned (setting_in_turn slots z told) = given.sound.planned z given.header in
      let there : IsTrue (all_targets (is_reached z.external) settings.plan.now) =
      subst (λ (plan : List Number). IsTrue (all_targets (is_reached z.external) plan)) (given.plan ∙ sym is.plan) planned in
      subst (λ (v : Sizes). IsTrue (all_targets (is_reached v.external) settings.plan.now)) same there

  pub no_linked : (exchange : Option (LinkedExchange P E)) → IsLinkedRunning carries frames sizes slots moves told z exchange → exchange ≡ None → ⊥
  no_linked exchange running none = let both : Some running.driver ≡ None = sym running.is ∙ none in absurd (grind (arith, both))

  pub linked_ready : (exchange : Option (LinkedExchange P E)) (x : LinkedExchange P E) (e : LinkedEvent) (before : Option (LinkedExchange P E)) → IsLinkedRunning carries frames sizes slots moves told z exchange → exchange ≡ Some x
      → IsLinkedDue carries frames sizes slots moves told z heading before e → IsLinkedReady carries frames sizes slots moves told z heading x e
  linked_ready exchange x e before running is due = record {
    given = due.heard.given;
    running = subst (IsLinkedRunning carries frames sizes slots moves told z) is running;
    next = due.next;
  }

  -- what an event needs
  module _ (x : LinkedExchange P E) (e : LinkedEvent) (ready : IsLinkedReady carries frames sizes slots moves told z heading x e) where
    pub at_ready : IsLinkedAt carries frames sizes x (setting_in_turn slots z told) (joint_said slots z told)
    at_ready =
        let both : Some ready.running.driver ≡ Some x = sym ready.running.is in
        let same : ready.running.driver ≡ x = grind (arith, both) in
        subst (λ (y : LinkedExchange P E). IsLinkedAt carries frames sizes y (setting_in_turn slots z told) (joint_said slots z told)) same ready.running.at

    pub bound_ready : x.exchange.control.map.bound ≡ moves (z.external + z.bridges)
    bound_ready =
        let both : Some ready.running.driver ≡ Some x = sym ready.running.is in
        let same : ready.running.driver ≡ x = grind (arith, both) in
        subst (λ (y : LinkedExchange P E). y.exchange.control.map.bound ≡ moves (z.external + z.bridges)) same ready.running.bound

    pub linked_fits : FitsLinked x.exchange.control.map.external (input_of e)
    linked_fits = subst (λ (d : Dimensions). FitsLinked d.external (input_of e)) (sym at_ready.exchange.work.holds.sizes) ready.next.fits

    pub linked_room : x.exchange.control.map.next < 4294967295
    linked_room =
        let same = time_at carries frames sizes x (setting_in_turn slots z told) (joint_said slots z told) at_ready in
        let most = frames_few slots z told in
        let few = ready.next.few in
        omega (arith, same, most, few)

    -- and the turn after it
    pub turn_room : (timers : LinkTimers) (y : LinkedExchange P E) → IsLinkedAt carries frames sizes y (setting_in_turn slots z told) (next_joint (setting_in_turn slots z told) timers (joint_said slots z told) (input_of e))
        → y.exchange.control.map.next < 4294967295
    turn_room timers y at =
        let s = setting_in_turn slots z told in
        let same = time_at carries frames sizes y s (next_joint s timers (joint_said slots z told) (input_of e)) at in
        let grows = step_frames s timers (joint_said slots z told) (input_of e) in
        let most = frames_few slots z told in
        let few = ready.next.few in
        omega (arith, same, grows, most, few)

-- ---- a step

-- the records that the exchange returns after it
pub step_records : (s : Setting) (timers : LinkTimers) (j : Joint) (i : LinkedInput) (r : Response) (out : Outbox) (calls : List CallRecord) → calls ≡ calls_kept (kept_of (reply_of r out))
    → reply_of r out ≡ reply_to s j.world (derived timers j i) → calls ≡ calls_of s timers j i
step_records s timers j i r out calls are is = are ∙ ap (λ (o : Reply). calls_kept (kept_of o)) is

-- the octets of the exchange after a frame
pub played_frame : {P E : Type 0} (plays : Plays) (carries : Carrying E) (frames : E → ℕ) (sizes : E → Dimensions) (settings : Settings) (i : LinkedInput) (input : Input) (x y : LinkedExchange P E) (s : Setting) (j : Joint)
    → i ≡ Happens (Frame input) → HasSettings settings s → IsLinkedAt carries frames sizes x s j → PlaysOn carries frames sizes plays settings i x y → ArePlayed plays s j.world input y.exchange.octets.items
played_frame plays carries frames sizes settings i input x y s j frame has at played =
    subst (λ (k : LinkedInput). PlaysOn carries frames sizes plays settings k x y) frame played s j has at input refl

-- ---- an event that happened

-- the octets of a frame
frame_rows : (plays : Plays) (s : Setting) (w : World) (input : Input) (octets : List (List ℕ)) → ArePlayed plays s w input octets
    → lines_sent (octet_of octets) (length octets) ≡ sent_at (plays (table_of s.tones)) s w (Frame input)
frame_rows plays s w input octets p =
    let same = passed_same s w input in
    let tones = table_of s.tones in
    let octet = plays tones (pass w input).inputs (pass w input).held w.holding.next in
    let external = s.dimensions.external in
    ap (lines_sent (octet_of octets)) p.lines
    ∙ sent_same (octet_of octets) octet external (λ line place below inside. p.played (record { line = line; place = place }) below inside)
    ∙ (λ i. lines_sent (λ y. plays tones (sym same.inputs i) (sym same.held i) w.holding.next y) external)

module _ {M : Type 0} (stands : M → List CallRecord → Type 0) (text : M → List CallRecord → List ℕ) where
  pub told_both : (old mid new : List M) (calls more : List CallRecord) → AreTold stands text old mid calls → AreTold stands text mid new more → AreTold stands text old new (calls ++ more)
  told_both old mid new calls more first second = zip-then _ _ _ (λ a b c one other. told-then one other) old mid new first second

  pub front_more : (old new : List M) (calls more : List CallRecord) → AreToldFront stands text old new calls → AreToldFront stands text old new (calls ++ more)
  front_more old new calls more front = zip-weaker _ _ (λ a b one. told_front-append more one) old new front

  -- all of the first calls, and then a prefix of the others
  pub front_then : (old mid new : List M) (calls more : List CallRecord) → AreTold stands text old mid calls → AreToldFront stands text mid new more → AreToldFront stands text old new (calls ++ more)
  front_then old mid new calls more first second =
      zip-then _ _ _ (λ a b c one other. (calls ++ other.0, other.1, ap (λ (l : List CallRecord). calls ++ l) other.2 ∙ sym (append_assoc calls other.0 other.1), told-then one other.3)) old mid new first second

module _ {M P E : Type 0} (plays : Plays) (carries : Carrying E) (frames : E → ℕ) (sizes : E → Dimensions) (slots : ℕ) (moves : ℕ → ℕ) (stands : M → List CallRecord → Type 0) (text : M → List CallRecord → List ℕ)
    (told : List Content) (z : Sizes) (heading : LinkSoFar) (x : LinkedExchange P E) (e : LinkedEvent) (ready : IsLinkedReady carries frames sizes slots moves told z heading x e)
    (settings : Settings) (is : IsSettingOf heading settings) where
  abbrev s : Setting
  s = setting_in_turn slots z told

  abbrev j : Joint
  j = joint_said slots z told

  abbrev given_timers : LinkTimers
  given_timers = settings.link_timers.now

  abbrev step_line : List ℕ
  step_line = text_of s given_timers j heading.plain.events (input_of e)

  abbrev step_calls : List CallRecord
  step_calls = calls_of s given_timers j (input_of e)

  same : given_timers ≡ link_timers_said told
  same = same_timers slots told z heading settings ready.given is

  -- the step of an event that is no frame
  steps_plain : IsNoFrame (input_of e) → steps_at plays slots told z e ≡ Event_done step_line step_calls ∷ []
  steps_plain other =
      let number : heading.plain.events ≡ length (events_in (plain_told told)) + 1 = ready.next.number in
      steps_other (plays (table_of s.tones)) s (link_timers_said told) j (length (events_in (plain_told told))) e other
      ∙ (λ i. Event_done (text_of s (sym same i) j (sym number i) (input_of e)) (calls_of s (sym same i) j (input_of e)) ∷ [])

  pub calls_plain : IsNoFrame (input_of e) → records_of (steps_at plays slots told z e) ≡ step_calls
  calls_plain other = ap records_of (steps_plain other) ∙ append-nil step_calls

  pub told_first : (old new : List M) (calls : List CallRecord) → calls ≡ step_calls → AreTold stands text old new calls → AreTold stands text old new step_calls
  told_first old new calls are noted = subst (AreTold stands text old new) are noted

  pub happened_other : IsNoFrame (input_of e) → (y : LinkedExchange P E) (old new : List M) (before after : List ℕ) → IsLinkedAt carries frames sizes y s (next_joint s given_timers j (input_of e))
      → y.exchange.control.map.bound ≡ x.exchange.control.map.bound → MovesAtMost x.exchange.control.map.bound (reply_to s j.world (derived given_timers j (input_of e)))
      → after ≡ before ++ step_line → AreTold stands text old new step_calls → HasLinkedHappened plays carries frames sizes slots moves stands text told z e old new before after (Some y)
  happened_other other y old new before after at bound few row noted =
      let limit : x.exchange.control.map.bound ≡ moves (z.external + z.bridges) = bound_ready carries frames sizes slots moves told z heading x e ready in
      record {
        line = step_line;
        calls = step_calls;
        steps = steps_plain other;
        appended = row;
        noted = noted;
        running = running_after carries frames sizes slots moves told z e (input_of e ∷ []) (inputs_other e other) ready.given.some y
            (subst (λ (v : LinkTimers). IsLinkedAt carries frames sizes y s (next_joint s v j (input_of e))) same at) (bound ∙ limit) ready.running.few
            (step_few (moves (z.external + z.bridges)) s (link_timers_said told) j (input_of e)
            (subst (λ (v : LinkTimers). MovesAtMost (moves (z.external + z.bridges)) (reply_to s j.world (derived v j (input_of e)))) same
            (subst (λ (n : ℕ). MovesAtMost n (reply_to s j.world (derived given_timers j (input_of e)))) limit few)));
      }

  -- the steps of a frame
  module _ (input : Input) (frame : input_of e ≡ Happens (Frame input)) where
    abbrev later : Joint
    later = next_joint s given_timers j (input_of e)

    abbrev frame_line : List ℕ
    frame_line = step_line ++ turn_of s given_timers later ++ parts 0 (sent_at (plays (table_of s.tones)) s j.world (Frame input)) ++ codes "\n"

    abbrev frame_calls : List CallRecord
    frame_calls = step_calls ++ calls_of s given_timers later Turns

    steps_both : steps_at plays slots told z e ≡ Event_done frame_line frame_calls ∷ []
    steps_both =
        let number : heading.plain.events ≡ length (events_in (plain_told told)) + 1 = ready.next.number in
        steps_frame (plays (table_of s.tones)) s (link_timers_said told) j (length (events_in (plain_told told))) e input frame
        ∙ ((λ i. Event_done (happened_line (plays (table_of s.tones)) s (sym same i) j (sym number i) (Frame input)) (happened_calls (plays (table_of s.tones)) s (sym same i) j (Frame input)) ∷ [])
        ∙ (λ i. Event_done
        (text_of s given_timers j heading.plain.events (sym frame i) ++ turn_of s given_timers (next_joint s given_timers j (sym frame i))
        ++ parts 0 (sent_at (plays (table_of s.tones)) s j.world (Frame input)) ++ codes "\n")
        (calls_of s given_timers j (sym frame i) ++ calls_of s given_timers (next_joint s given_timers j (sym frame i)) Turns) ∷ []))

    pub calls_frame : records_of (steps_at plays slots told z e) ≡ frame_calls
    calls_frame = ap records_of steps_both ∙ append-nil frame_calls

    pub happened_frame : (mid y : LinkedExchange P E) (old new : List M) (before middle after : List ℕ) → IsLinkedAt carries frames sizes mid s later → IsLinkedAt carries frames sizes y s (next_joint s given_timers later Turns)
        → mid.exchange.control.map.bound ≡ x.exchange.control.map.bound → y.exchange.control.map.bound ≡ mid.exchange.control.map.bound
        → MovesAtMost x.exchange.control.map.bound (reply_to s j.world (derived given_timers j (input_of e))) → MovesAtMost mid.exchange.control.map.bound (reply_to s later.world (derived given_timers later Turns))
        → middle ≡ before ++ step_line → ArePlayed plays s j.world input mid.exchange.octets.items → y.exchange.octets ≡ mid.exchange.octets
        → after ≡ middle ++ turn_of s given_timers later ++ frame_end y.exchange.octets.items
        → AreTold stands text old new frame_calls → HasLinkedHappened plays carries frames sizes slots moves stands text told z e old new before after (Some y)
    happened_frame mid y old new before middle after at last bound bound_last few few_last row played octets rest noted =
        let limit : x.exchange.control.map.bound ≡ moves (z.external + z.bridges) = bound_ready carries frames sizes slots moves told z heading x e ready in
        let n = moves (z.external + z.bridges) in
        let turn : List ℕ = turn_of s given_timers later in
        let rows : List ℕ = parts 0 (sent_at (plays (table_of s.tones)) s j.world (Frame input)) in
        let end : frame_end y.exchange.octets.items ≡ parts 0 (sent_at (plays (table_of s.tones)) s j.world (Frame input)) ++ codes "\n" =
        (λ i. frame_end (octets i).items) ∙ ap (λ (rows : List (List ℕ)). parts 0 rows ++ codes "\n") (frame_rows plays s j.world input mid.exchange.octets.items played) in
        record {
          line = frame_line;
          calls = frame_calls;
          steps = steps_both;
          appended =
              rest
              ∙ ((λ i. row i ++ turn ++ end i)
              ∙ (ap (λ (l : List ℕ). l ++ (rows ++ codes "\n")) (append_assoc before step_line turn)
              ∙ (append_assoc before (step_line ++ turn) (rows ++ codes "\n") ∙ ap (λ (l : List ℕ). before ++ l) (sym (append_assoc (step_line ++ turn) rows (codes "\n"))))));
          noted = noted;
          running = running_after carries frames sizes slots moves told z e (input_of e ∷ Turns ∷ []) (inputs_frame e input frame ∙ (λ i. sym frame i ∷ Turns ∷ [])) ready.given.some y
              (subst (λ (v : LinkTimers). IsLinkedAt carries frames sizes y s (next_joint s v (next_joint s v j (input_of e)) Turns)) same last) (bound_last ∙ (bound ∙ limit)) ready.running.few
              (subst (λ (v : LinkTimers). All (MovesAtMost n) (run s j.world (derived_all s v j (input_of e ∷ Turns ∷ [])))) same
              (steps_few n s given_timers j (input_of e) Turns (subst (λ (m : ℕ). MovesAtMost m (reply_to s j.world (derived given_timers j (input_of e)))) limit few)
              (subst (λ (m : ℕ). MovesAtMost m (reply_to s later.world (derived given_timers later Turns))) (bound ∙ limit) few_last)));
        }

  -- the records of the event begin with the records of its first step
  begin_by : ((input : Input) × (input_of e ≡ Happens (Frame input))) ⊎ IsNoFrame (input_of e) → (more : List CallRecord) × (records_of (steps_at plays slots told z e) ≡ step_calls ++ more)
  begin_by (inl frame) = (calls_of s given_timers (next_joint s given_timers j (input_of e)) Turns, calls_frame frame.0 frame.1)
  begin_by (inr other) = ([], calls_plain other ∙ sym (append-nil step_calls))

  -- an allocation failed, when a prefix of the records of the first step was recorded, or all of them
  pub front_first : (old new : List M) (calls : List CallRecord) → calls ≡ step_calls → AreToldFront stands text old new calls → AreToldFront stands text old new (records_of (steps_at plays slots told z e))
  front_first old new calls are front =
      let begins = begin_by (frame_or_not (input_of e)) in
      subst (AreToldFront stands text old new) (ap (λ (l : List CallRecord). l ++ begins.0) are ∙ sym begins.1) (front_more stands text old new calls begins.0 front)

  pub front_whole : (old new : List M) (calls : List CallRecord) → calls ≡ step_calls → AreTold stands text old new calls → AreToldFront stands text old new (records_of (steps_at plays slots told z e))
  front_whole old new calls are noted = front_first old new calls are (told_front stands text old new calls noted)

  -- the records of both steps of a frame
  module _ (input : Input) (frame : input_of e ≡ Happens (Frame input)) where
    pub front_both : (old middle new : List M) (calls more : List CallRecord) → calls ≡ step_calls → more ≡ calls_of s given_timers (next_joint s given_timers j (input_of e)) Turns
        → AreTold stands text old middle calls → AreToldFront stands text middle new more → AreToldFront stands text old new (records_of (steps_at plays slots told z e))
    front_both old middle new calls more first second noted front =
        subst (AreToldFront stands text old new) ((λ i. first i ++ second i) ∙ sym (calls_frame input frame)) (front_then stands text old middle new calls more noted front)

    pub told_all : (old middle new : List M) (calls more : List CallRecord) → calls ≡ step_calls → more ≡ calls_of s given_timers (next_joint s given_timers j (input_of e)) Turns
        → AreTold stands text old middle calls → AreTold stands text middle new more
        → AreTold stands text old new (step_calls ++ calls_of s given_timers (next_joint s given_timers j (input_of e)) Turns)
    told_all old middle new calls more first second noted rest = subst (AreTold stands text old new) (λ i. first i ++ second i) (told_both stands text old middle new calls more noted rest)
