-- An event of a trace with data links that is followed: the exchange before it, its line, and the exchange after it.
use Rattle.std.proofs.Common.{◌≡◌, ℕ, ◌+◌, ◌≤◌, Bool, true, false, not, List, [], ◌∷◌, ◌++◌, length, Option, Some, None, Result, Ok, Err, refl, sym, ap, ◌∙◌, subst, arith, append-nil, append_assoc, ◌⊎◌, inl, inr, if◌then◌else◌}
use Rattle.std.specs.Prelude.{All}
use Rattle.std.specs.List.{cons_option}
use Rattle.std.proofs.lemmas.List.Elements.{All-append, All-cons, All-nil, filter_map-append}
use Rattle.circuit_model.specs.Dimensions.{Dimensions}
use Rattle.circuit_model.specs.FrameInput.{Input}
use Rattle.exchange_events.specs.declared.outbox.Outbox.{Outbox}
use Rattle.exchange_events.specs.declared.outbox.Response.{Response}
use Rattle.exchange_events.specs.declared.outbox.Response.TheVariants as response
use Rattle.exchange_events.specs.declared.record.CallRecord.{CallRecord}
use Rattle.exchange_events.specs.declared.reply.Reply.{Reply}
use Rattle.exchange_events.specs.declared.reply.Reply.TheVariants.{Busy, Freed, NoPort, NotNailed, Sent, Frame as Framed}
use Rattle.exchange_events.specs.declared.signal.Signal.{Signal}
use Rattle.exchange_events.specs.declared.trace.Event.{Event}
use Rattle.exchange_events.specs.declared.trace.Event.TheVariants.{Nail, Seat, Free, Message, LinkUp, LinkDown, RestartLine, Frame}
use Rattle.exchange_events.specs.Responses.{reply_of}
use Rattle.exchange_events.specs.Sizes.{Setting}
use Rattle.call_profile.specs.Expiring.{outcome_of_frame}
use Rattle.call_profile.specs.IdleSlots.{idle, is_nailed}
use Rattle.call_profile.specs.Step.{MovesAtMost, may_nail, next, reply, run, world_after_all}
use Rattle.call_profile.specs.World.{World, is_full, nail_reply, seat_reply, start}
use Rattle.circuit_model.specs.Ports.{port_of, ports_with}
use Rattle.circuit_model.specs.declared.channel.Slot.{Slot}
use Rattle.call_profile.proofs.QuietEventLemmas.{SameFrames-next}
use Rattle.call_profile.proofs.RunLemmas.{world_next}
use Rattle.link_procedures.specs.declared.state.LinkTimers.{LinkTimers}
use Rattle.link_table.specs.declared.notice.Change.{Change}
use Rattle.link_table.specs.declared.notice.Change.TheVariants.{Up, Down}
use Rattle.link_table.specs.declared.notice.NoLinkError.{NoLinkError}
use Rattle.link_table.specs.declared.notice.Notice.{Notice}
use Rattle.link_table.specs.declared.notice.Notice.TheVariants as notice
use Rattle.link_table.specs.Steps.{changed_at, line_of_turn, noticed_on}
use Rattle.meters.specs.Changing.{Event_done}
use Rattle.report_text.specs.RunReport.{Played}
use Rattle.lone_exchange.specs.At.{Carrying}
use Rattle.trace_text.specs.declared.said.Said.{Said}
use Rattle.trace_text.specs.declared.said.Said.TheVariants.{Nothing, Header, Numbered, Toned, Timed, Happens as Said_happens, Sync, Change as Said_change}
use Rattle.trace_text.specs.declared.said.Sizes.{Sizes}
use Rattle.trace_text.specs.TraceGrammar.{events_in, so_far}
use Rattle.trace_text.specs.TraceHeading.{with_event}
use Rattle.trace_text.proofs.TraceHolds.{known_behind}
use Rattle.linked_exchange.specs.declared.exchange.LinkedExchange.{LinkedExchange}
use Rattle.linked_exchange.specs.At.{IsLinkedAt}
use Rattle.linked_exchange.specs.Runs.{derived_all, derived_trace, joint_after_all, links_down, start_joint}
use Rattle.linked_exchange.specs.Steps.{Joint, LinkedInput, Happens, Receives, Turns, changed_events, derived, frames_so_far, next_joint, noticed_events, reply_to}
use Rattle.linked_exchange.proofs.PlainLemmas.{next_world, trace_world}
use Rattle.linked_exchange.specs.declared.steps.LinkedEvent.{LinkedEvent}
use Rattle.linked_exchange.specs.declared.steps.LinkedEvent.TheVariants as event
use Rattle.linked_exchange.specs.LinkedLines.{calls_of, happened_calls, happened_line, input_of, text_of}
use Rattle.linked_exchange.specs.LinkedStory.{inputs_in, inputs_of, linked_steps}
use Rattle.linked_text.specs.declared.said.LinkSaid.TheVariants.{Linked, Received, Timed as Link_timed}
use Rattle.linked_text.specs.LinkEffects.{in_turn, link_row, link_timer_said, link_timers_in, link_timers_of, linked_in, linked_said, plain_told}
use Rattle.linked_text.specs.LinkLines.{Content, LinkSoFar, On_link, Plain, plain_of}
use Rattle.linked_exchange.specs.Told.{MovesFewIn}
use Rattle.linked_exchange.specs.InTurn.{MovesFewInTurn, first_joint, joint_said, link_timers_said, setting_in_turn}
use Rattle.linked_exchange.specs.LinkedStepping.{IsLinkedRunning, content_of}
use Rattle.linked_exchange.proofs.Runs.{run-append}
use Rattle.linked_exchange.proofs.FollowedSteps.{setting_by}
use Rattle.linked_exchange.proofs.LinkedRuns.{events_linked, trace_by}
use Rattle.linked_exchange.proofs.TurnSteps.{inputs_at, inputs_more, joint-append, joint_by, linked_more, plain_more}

-- ---- which events are frames

busy_or : (b : Bool) (r : Reply) (n : ℕ) (sends : List Signal) (records : List CallRecord) → ((m : ℕ) (ss : List Signal) (rs : List CallRecord) → r ≡ Framed m ss rs → ⊥) → (o : Reply) → ((m : ℕ) (ss : List Signal) (rs : List CallRecord) → o ≡ Framed m ss rs → ⊥) → (if b then o else r) ≡ Framed n sends records → ⊥
busy_or true r n sends records other o first e = first n sends records e
busy_or false r n sends records other o first e = other n sends records e

seat_no_frame : (d : Dimensions) (w : World) (x : Slot) (o : Option Slot) (n : ℕ) (sends : List Signal) (records : List CallRecord) → seat_reply d w.layout x o ≡ Framed n sends records → ⊥
seat_no_frame d w x None n sends records e = absurd (cc)
seat_no_frame d w x (Some port) n sends records e = absurd (cc)

sent_no_frame : (sends : List Signal) (moved : Option (ℕ × ℕ)) (records : List CallRecord) (n : ℕ) (ss : List Signal) (rs : List CallRecord) → Framed n ss rs ≡ Sent sends moved records → ⊥
sent_no_frame sends moved records n ss rs e = absurd (cc)

-- only a frame is answered by its number
framed_is : (s : Setting) (w : World) (e : Event) (n : ℕ) (sends : List Signal) (records : List CallRecord) → Framed n sends records ≡ reply s w e → (input : Input) × (e ≡ Frame input)
framed_is s w (Nail x y) n sends records is =
    absurd (busy_or (may_nail w x y) Busy n sends records (λ m ss rs e. absurd (cc)) (nail_reply s.dimensions w.layout x y) (λ m ss rs e. absurd (cc)) (sym is))
framed_is s w (Seat x room) n sends records is =
    let port : Option Slot = port_of s.dimensions.external (ports_with x w.ports) x in
    let seated : Reply = seat_reply s.dimensions w.layout x port in
    absurd (busy_or (not (idle w x)) (if is_full s.dimensions w then NoPort else seated) n sends records
    (λ m ss rs e. busy_or (is_full s.dimensions w) seated m ss rs (seat_no_frame s.dimensions w x port) NoPort (λ k sss rss f. absurd (cc)) e)
    Busy (λ m ss rs e. absurd (cc)) (sym is))
framed_is s w (Free x) n sends records is =
    absurd (busy_or (is_nailed w x) NotNailed n sends records (λ m ss rs e. absurd (cc)) Freed (λ m ss rs e. absurd (cc)) (sym is))
framed_is s w (Message line octets) n sends records is = absurd (sent_no_frame _ _ _ n sends records is)
framed_is s w (LinkUp line) n sends records is = absurd (sent_no_frame _ _ _ n sends records is)
framed_is s w (LinkDown line) n sends records is = absurd (sent_no_frame _ _ _ n sends records is)
framed_is s w (RestartLine line) n sends records is = absurd (sent_no_frame _ _ _ n sends records is)
framed_is s w (Frame input) n sends records is = (input, refl)

noticed_framed : (s : Setting) (w : World) (line : ℕ) (r : Result (Option Notice) NoLinkError) (n : ℕ) (sends : List Signal) (records : List CallRecord) → Framed n sends records ≡ reply_to s w (noticed_events line r) → ⊥
noticed_framed s w line (Ok (Some (notice.Message information))) n sends records is = absurd (cc)
noticed_framed s w line (Ok (Some (notice.Link Up))) n sends records is = absurd (cc)
noticed_framed s w line (Ok (Some (notice.Link Down))) n sends records is = absurd (cc)
noticed_framed s w line (Ok None) n sends records is = absurd (cc)
noticed_framed s w line (Err e) n sends records is = absurd (cc)

-- an input has the response to a frame only if it is a frame
pub frame_input : (s : Setting) (timers : LinkTimers) (j : Joint) (e : LinkedEvent) (n : ℕ) (out : Outbox) → reply_of (response.Frame n) out ≡ reply_to s j.world (derived timers j (input_of e))
    → (input : Input) × (input_of e ≡ Happens (Frame input))
frame_input s timers j (event.Event e) n out is = let found = framed_is s j.world e.now n out.sends out.records is in (found.0, ap Happens found.1)
frame_input s timers j (event.Received line octets) n out is = absurd (noticed_framed s j.world line (noticed_on line octets.now (frames_so_far j) j.links) n out.sends out.records is)

-- ---- the steps of an event

abbrev pub IsNoFrame : LinkedInput → Type 0
IsNoFrame i = (input : Input) → i ≡ Happens (Frame input) → ⊥

event_frame : (e : Event) → ((input : Input) × (Happens e ≡ Happens (Frame input))) ⊎ IsNoFrame (Happens e)
event_frame (Frame input) = inl (input, refl)
event_frame (Nail x y) = inr (λ input is. absurd (cc))
event_frame (Seat x room) = inr (λ input is. absurd (cc))
event_frame (Free x) = inr (λ input is. absurd (cc))
event_frame (Message line octets) = inr (λ input is. absurd (cc))
event_frame (LinkUp line) = inr (λ input is. absurd (cc))
event_frame (LinkDown line) = inr (λ input is. absurd (cc))
event_frame (RestartLine line) = inr (λ input is. absurd (cc))

pub frame_or_not : (i : LinkedInput) → ((input : Input) × (i ≡ Happens (Frame input))) ⊎ IsNoFrame i
frame_or_not (Happens e) = event_frame e
frame_or_not (Receives line octets) = inr (λ input is. absurd (cc))
frame_or_not Turns = inr (λ input is. absurd (cc))

-- no other response has the reply to a frame
no_frame_reply : (r : Response) (out : Outbox) (n : ℕ) (sends : List Signal) (records : List CallRecord) → ((m : ℕ) → r ≡ response.Frame m → ⊥) → reply_of r out ≡ Framed n sends records → ⊥
no_frame_reply (response.Granted a b) out n sends records other is = absurd (cc)
no_frame_reply response.Busy out n sends records other is = absurd (cc)
no_frame_reply (response.Seated a b) out n sends records other is = absurd (cc)
no_frame_reply response.NoPort out n sends records other is = absurd (cc)
no_frame_reply response.Freed out n sends records other is = absurd (cc)
no_frame_reply response.NotNailed out n sends records other is = absurd (cc)
no_frame_reply response.Sent out n sends records other is = absurd (cc)
no_frame_reply (response.Frame m) out n sends records other is = other m refl

-- an input has another response only if it is not a frame
pub other_input : (s : Setting) (timers : LinkTimers) (j : Joint) (e : LinkedEvent) (r : Response) (out : Outbox) → ((m : ℕ) → r ≡ response.Frame m → ⊥)
    → reply_of r out ≡ reply_to s j.world (derived timers j (input_of e)) → IsNoFrame (input_of e)
other_input s timers j (event.Event e) r out other is input frame =
    let same : e.now ≡ Frame input = grind (arith, frame) in
    let a = outcome_of_frame s j.world input in
    no_frame_reply r out j.world.holding.next a.making.sends a.recorded other (is ∙ ap (λ (f : Event). reply s j.world f) same)
other_input s timers j (event.Received line octets) r out other is input frame = absurd (grind (arith, frame))

module _ (p : Played) (s : Setting) (timers : LinkTimers) (j : Joint) (n : ℕ) where
  plain_steps : (e : Event) → IsNoFrame (Happens e)
      → linked_steps p s timers j n (Plain (Said_happens e) ∷ []) ≡ Event_done (text_of s timers j (n + 1) (Happens e)) (calls_of s timers j (Happens e)) ∷ []
  plain_steps (Nail x y) other = refl
  plain_steps (Seat x room) other = refl
  plain_steps (Free x) other = refl
  plain_steps (Message line octets) other = refl
  plain_steps (LinkUp line) other = refl
  plain_steps (LinkDown line) other = refl
  plain_steps (RestartLine line) other = refl
  plain_steps (Frame input) other = absurd (other input refl)

  pub steps_other : (e : LinkedEvent) → IsNoFrame (input_of e)
      → linked_steps p s timers j n (content_of e ∷ []) ≡ Event_done (text_of s timers j (n + 1) (input_of e)) (calls_of s timers j (input_of e)) ∷ []
  steps_other (event.Event e) other = plain_steps e.now other
  steps_other (event.Received line octets) other = refl

  pub steps_frame : (e : LinkedEvent) (input : Input) → input_of e ≡ Happens (Frame input)
      → linked_steps p s timers j n (content_of e ∷ []) ≡ Event_done (happened_line p s timers j (n + 1) (Frame input)) (happened_calls p s timers j (Frame input)) ∷ []
  steps_frame (event.Event e) input is = let same : e.now ≡ Frame input = grind (arith, is) in ap (λ (f : Event). linked_steps p s timers j n (Plain (Said_happens f) ∷ [])) same
  steps_frame (event.Received line octets) input is = absurd (grind (arith, is))

plain_inputs : (e : Event) → IsNoFrame (Happens e) → inputs_of e ≡ Happens e ∷ []
plain_inputs (Nail x y) other = refl
plain_inputs (Seat x room) other = refl
plain_inputs (Free x) other = refl
plain_inputs (Message line octets) other = refl
plain_inputs (LinkUp line) other = refl
plain_inputs (LinkDown line) other = refl
plain_inputs (RestartLine line) other = refl
plain_inputs (Frame input) other = absurd (other input refl)

pub inputs_other : (e : LinkedEvent) → IsNoFrame (input_of e) → inputs_at (content_of e) ≡ input_of e ∷ []
inputs_other (event.Event e) other = append-nil (inputs_of e.now) ∙ plain_inputs e.now other
inputs_other (event.Received line octets) other = refl

pub inputs_frame : (e : LinkedEvent) (input : Input) → input_of e ≡ Happens (Frame input) → inputs_at (content_of e) ≡ Happens (Frame input) ∷ Turns ∷ []
inputs_frame (event.Event e) input is = let same : e.now ≡ Frame input = grind (arith, is) in ap (λ (f : Event). inputs_at (Plain (Said_happens f))) same
inputs_frame (event.Received line octets) input is = absurd (grind (arith, is))

-- ---- what is known after an event

event_not_linked : (e : LinkedEvent) → linked_said (content_of e) ≡ None
event_not_linked (event.Event e) = refl
event_not_linked (event.Received line octets) = refl

event_not_timed : (e : LinkedEvent) → link_timer_said (content_of e) ≡ None
event_not_timed (event.Event e) = refl
event_not_timed (event.Received line octets) = refl

event_said_is : (e : LinkedEvent) → (f : Event) × (plain_of (content_of e) ≡ Said_happens f)
event_said_is (event.Event e) = (e.now, refl)
event_said_is (event.Received line octets) = (Message line octets.now, refl)

-- an event counts, and changes nothing else that is known
abbrev counted : LinkSoFar → LinkSoFar
counted k = record k { plain = with_event k.plain }

pub known_event : (told : List Content) (e : LinkedEvent) → counted (in_turn told) ≡ in_turn (told ++ content_of e ∷ [])
known_event told e =
    let c = content_of e in
    let one = event_said_is e in
    let before = so_far (plain_told told) in
    let plain : with_event before ≡ so_far (plain_told (told ++ c ∷ [])) =
    known_behind before (with_event before) (Said_happens one.0) tt refl (plain_told told) refl ∙ ap so_far (ap (λ (v : Said). plain_told told ++ v ∷ []) (sym one.1) ∙ sym (plain_more told c)) in
    let linked : linked_in told ≡ linked_in (told ++ c ∷ []) = sym (linked_more told c ∙ (ap (λ (o : Option ℕ). linked_in told ++ cons_option o []) (event_not_linked e) ∙ append-nil (linked_in told))) in
    let timers : link_timers_of (link_timers_in told) ≡ link_timers_of (link_timers_in (told ++ c ∷ [])) =
    ap link_timers_of (sym (filter_map-append link_timer_said told (c ∷ []) ∙ (ap (λ o. link_timers_in told ++ cons_option o []) (event_not_timed e) ∙ append-nil (link_timers_in told)))) in
    (λ i. record { plain = plain i; linked = linked i; timers = timers i })

-- ---- events of steps

derived-append : (s : Setting) (timers : LinkTimers) (j : Joint) (is more : List LinkedInput)
    → derived_all s timers j (is ++ more) ≡ derived_all s timers j is ++ derived_all s timers (joint_after_all s timers j is) more
derived-append s timers j [] more = refl
derived-append s timers j (i ∷ is) more =
    let later = next_joint s timers j i in
    ap (λ (es : List Event). derived timers j i ++ es) (derived-append s timers later is more)
    ∙ sym (append_assoc (derived timers j i) (derived_all s timers later is) (derived_all s timers (joint_after_all s timers later is) more))

trace-append : (s : Setting) (timers : LinkTimers) (row : List Bool) (is more : List LinkedInput)
    → derived_trace s timers row (is ++ more) ≡ derived_trace s timers row is ++ derived_all s timers (joint_after_all s timers (start_joint s row) is) more
trace-append s timers row is more =
    ap (λ (es : List Event). links_down 0 row ++ es) (derived-append s timers (start_joint s row) is more)
    ∙ sym (append_assoc (links_down 0 row) (derived_all s timers (start_joint s row) is) (derived_all s timers (joint_after_all s timers (start_joint s row) is) more))

-- each reply of a step moves few paths
one_few : (n : ℕ) (s : Setting) (w : World) (es : List Event) → MovesAtMost n (reply_to s w es) → length es ≤ 1 → All (MovesAtMost n) (run s w es)
one_few n s w [] few short = All-nil (MovesAtMost n)
one_few n s w (e ∷ []) few short = All-cons (MovesAtMost n) (reply s w e) [] few (All-nil (MovesAtMost n))
one_few n s w (e ∷ f ∷ es) few short = absurd (omega (arith, short))

noticed_one : (line : ℕ) (r : Result (Option Notice) NoLinkError) → length (noticed_events line r) ≤ 1
noticed_one line (Ok (Some n)) = omega arith
noticed_one line (Ok None) = omega arith
noticed_one line (Err e) = omega arith

changed_one : (line : ℕ) (o : Option Change) → length (changed_events line o) ≤ 1
changed_one line (Some change) = omega arith
changed_one line None = omega arith

derived_one : (timers : LinkTimers) (j : Joint) (i : LinkedInput) → length (derived timers j i) ≤ 1
derived_one timers j (Happens e) = omega arith
derived_one timers j (Receives line octets) = noticed_one line (noticed_on line octets (frames_so_far j) j.links)
derived_one timers j Turns = changed_one (line_of_turn (frames_so_far j)) (changed_at timers (frames_so_far j) j.links)

few_then : (n : ℕ) (s : Setting) (w : World) (es fs : List Event) → All (MovesAtMost n) (run s w es) → All (MovesAtMost n) (run s (world_after_all s w es) fs) → All (MovesAtMost n) (run s w (es ++ fs))
few_then n s w es fs first second =
    subst (All (MovesAtMost n)) (sym (run-append s w es fs)) (All-append (MovesAtMost n) (run s w es) (run s (world_after_all s w es) fs) first second)

pub step_few : (n : ℕ) (s : Setting) (timers : LinkTimers) (j : Joint) (i : LinkedInput) → MovesAtMost n (reply_to s j.world (derived timers j i)) → All (MovesAtMost n) (run s j.world (derived_all s timers j (i ∷ [])))
step_few n s timers j i few = subst (λ (es : List Event). All (MovesAtMost n) (run s j.world es)) (sym (append-nil (derived timers j i))) (one_few n s j.world (derived timers j i) few (derived_one timers j i))

pub steps_few : (n : ℕ) (s : Setting) (timers : LinkTimers) (j : Joint) (i k : LinkedInput) → MovesAtMost n (reply_to s j.world (derived timers j i))
    → MovesAtMost n (reply_to s (next_joint s timers j i).world (derived timers (next_joint s timers j i) k)) → All (MovesAtMost n) (run s j.world (derived_all s timers j (i ∷ k ∷ [])))
steps_few n s timers j i k first second =
    let later = next_joint s timers j i in
    few_then n s j.world (derived timers j i) (derived_all s timers later (k ∷ [])) (one_few n s j.world (derived timers j i) first (derived_one timers j i))
    (subst (λ (w : World). All (MovesAtMost n) (run s w (derived_all s timers later (k ∷ [])))) (next_world s timers j i) (step_few n s timers later k second))

-- ---- frames so far

other_frames : (s : Setting) (w : World) (e : Event) → ((input : Input) → e ≡ Frame input → ⊥) → (next s w e).holding.next ≡ w.holding.next
other_frames s w e other = (SameFrames-next s w e other).next

up_no_frame : (line : ℕ) (input : Input) → LinkUp line ≡ Frame input → ⊥
up_no_frame line input e = absurd (cc)

down_no_frame : (line : ℕ) (input : Input) → LinkDown line ≡ Frame input → ⊥
down_no_frame line input e = absurd (cc)

changed_frames : (s : Setting) (w : World) (line : ℕ) (o : Option Change) → (world_after_all s w (changed_events line o)).holding.next ≡ w.holding.next
changed_frames s w line (Some Up) = other_frames s w (LinkUp line) (up_no_frame line)
changed_frames s w line (Some Down) = other_frames s w (LinkDown line) (down_no_frame line)
changed_frames s w line None = refl

pub turn_frames : (s : Setting) (timers : LinkTimers) (j : Joint) → (next_joint s timers j Turns).world.holding.next ≡ j.world.holding.next
turn_frames s timers j = ap (λ (w : World). w.holding.next) (next_world s timers j Turns) ∙ changed_frames s j.world (line_of_turn (frames_so_far j)) (changed_at timers (frames_so_far j) j.links)

pub step_frames : (s : Setting) (timers : LinkTimers) (j : Joint) (i : LinkedInput) → (next_joint s timers j i).world.holding.next ≤ j.world.holding.next + 1
step_frames s timers j i =
    let grows = world_next s j.world (derived timers j i) in
    let one = derived_one timers j i in
    let same = ap (λ (w : World). w.holding.next) (next_world s timers j i) in
    omega (arith, grows, one, same)

event_frames : (s : Setting) (timers : LinkTimers) (j : Joint) (e : Event) → (joint_after_all s timers j (inputs_of e)).world.holding.next ≤ j.world.holding.next + 1
event_frames s timers j (Nail x y) = step_frames s timers j (Happens (Nail x y))
event_frames s timers j (Seat x room) = step_frames s timers j (Happens (Seat x room))
event_frames s timers j (Free x) = step_frames s timers j (Happens (Free x))
event_frames s timers j (Message line octets) = step_frames s timers j (Happens (Message line octets))
event_frames s timers j (LinkUp line) = step_frames s timers j (Happens (LinkUp line))
event_frames s timers j (LinkDown line) = step_frames s timers j (Happens (LinkDown line))
event_frames s timers j (RestartLine line) = step_frames s timers j (Happens (RestartLine line))
event_frames s timers j (Frame input) =
    let first = step_frames s timers j (Happens (Frame input)) in
    let second = turn_frames s timers (next_joint s timers j (Happens (Frame input))) in
    omega (arith, first, second)

all_frames : (s : Setting) (timers : LinkTimers) (j : Joint) (told : List Content) → (joint_after_all s timers j (inputs_in told)).world.holding.next ≤ j.world.holding.next + length (events_in (plain_told told))
all_frames s timers j [] = omega arith
all_frames s timers j (Plain (Said_happens e) ∷ told) =
    let first = event_frames s timers j e in
    let rest = all_frames s timers (joint_after_all s timers j (inputs_of e)) told in
    let same = ap (λ (v : Joint). v.world.holding.next) (joint-append s timers j (inputs_of e) (inputs_in told)) in
    omega (arith, first, rest, same)
all_frames s timers j (On_link (Received line octets) ∷ told) =
    let first = step_frames s timers j (Receives line octets) in
    let rest = all_frames s timers (next_joint s timers j (Receives line octets)) told in
    omega (arith, first, rest)
all_frames s timers j (On_link (Linked line) ∷ told) = all_frames s timers j told
all_frames s timers j (On_link (Link_timed given) ∷ told) = all_frames s timers j told
all_frames s timers j (Plain Nothing ∷ told) = all_frames s timers j told
all_frames s timers j (Plain (Header z) ∷ told) = all_frames s timers j told
all_frames s timers j (Plain (Numbered n) ∷ told) = all_frames s timers j told
all_frames s timers j (Plain (Toned given) ∷ told) = all_frames s timers j told
all_frames s timers j (Plain (Timed given) ∷ told) = all_frames s timers j told
all_frames s timers j (Plain Sync ∷ told) = all_frames s timers j told
all_frames s timers j (Plain Said_change ∷ told) = all_frames s timers j told

-- the links that begin down are no frames
down_none : (s : Setting) (w : World) (line : ℕ) (row : List Bool) → (world_after_all s w (links_down line row)).holding.next ≡ w.holding.next
down_none s w line [] = refl
down_none s w line (true ∷ row) = down_none s (next s w (LinkDown line)) (line + 1) row ∙ other_frames s w (LinkDown line) (down_no_frame line)
down_none s w line (false ∷ row) = down_none s w (line + 1) row

pub frames_few : (slots : ℕ) (z : Sizes) (told : List Content) → (joint_said slots z told).world.holding.next ≤ length (events_in (plain_told told))
frames_few slots z told =
    let s = setting_in_turn slots z told in
    let row = link_row z.external (linked_in told) in
    let all = all_frames s (link_timers_said told) (start_joint s row) told in
    let none = down_none s (start s.dimensions) 0 row in
    omega (arith, all, none)

-- ---- the exchange after an event

-- it is at the joint of what is known, in an exchange of these sizes
record IsRunningAt {P E : Type 0} (carries : Carrying E) (frames : E → ℕ) (sizes : E → Dimensions) (slots : ℕ) (moves : ℕ → ℕ) (z : Sizes) (k : LinkSoFar) (is : List LinkedInput) (y : LinkedExchange P E) : Type 0 where
  pub at : IsLinkedAt carries frames sizes y (setting_by slots z k.plain) (joint_by slots z k is)
  pub bound : y.exchange.control.map.bound ≡ moves (z.external + z.bridges)
  pub few : MovesFewIn moves (setting_by slots z k.plain) (trace_by slots z k is)

module _ {P E : Type 0} (carries : Carrying E) (frames : E → ℕ) (sizes : E → Dimensions) (slots : ℕ) (moves : ℕ → ℕ) (told : List Content) (z : Sizes) where
  -- after these inputs of an event
  pub running_after : (e : LinkedEvent) (is : List LinkedInput) → inputs_at (content_of e) ≡ is → 1 ≤ length (linked_in told) → (y : LinkedExchange P E)
      → IsLinkedAt carries frames sizes y (setting_in_turn slots z told) (joint_after_all (setting_in_turn slots z told) (link_timers_said told) (joint_said slots z told) is) → y.exchange.control.map.bound ≡ moves (z.external + z.bridges) → MovesFewInTurn slots moves z told
      → All (MovesAtMost (moves (z.external + z.bridges))) (run (setting_in_turn slots z told) (joint_said slots z told).world (derived_all (setting_in_turn slots z told) (link_timers_said told) (joint_said slots z told) is)) → IsLinkedRunning carries frames sizes slots moves (told ++ content_of e ∷ []) z (Some y)
  running_after e is are some y at bound before few =
      let s = setting_in_turn slots z told in
      let timers = link_timers_said told in
      let j = joint_said slots z told in
      let all = told ++ content_of e ∷ [] in
      let n = moves (z.external + z.bridges) in
      let row = link_row z.external (linked_in told) in
      let inputs : inputs_in told ++ is ≡ inputs_in all = sym (inputs_more told (content_of e) ∙ ap (λ (v : List LinkedInput). inputs_in told ++ v) are) in
      let joint : joint_after_all s timers j is ≡ joint_by slots z (in_turn told) (inputs_in told ++ is) = sym (joint-append s timers (first_joint slots z told) (inputs_in told) is) in
      let earlier : MovesFewIn moves s (trace_by slots z (in_turn told) (inputs_in told)) = subst (MovesFewIn moves s) (events_linked (linked_in told) slots z told some refl) before in
      let world : j.world ≡ world_after_all s (start s.dimensions) (derived_trace s timers row (inputs_in told)) = trace_world s timers row (inputs_in told) in
      let later : MovesFewIn moves s (derived_trace s timers row (inputs_in told ++ is)) =
      subst (MovesFewIn moves s) (sym (trace-append s timers row (inputs_in told) is))
      (few_then n s (start s.dimensions) (derived_trace s timers row (inputs_in told)) (derived_all s timers j is) earlier (subst (λ (w : World). All (MovesAtMost n) (run s w (derived_all s timers j is))) world few)) in
      let here : IsRunningAt carries frames sizes slots moves z (counted (in_turn told)) (inputs_in told ++ is) y =
      record { at = subst (λ (v : Joint). IsLinkedAt carries frames sizes y s v) joint at; bound = bound; few = later } in
      let there : IsRunningAt carries frames sizes slots moves z (in_turn all) (inputs_in all) y =
      subst (λ (v : List LinkedInput). IsRunningAt carries frames sizes slots moves z (in_turn all) v y) inputs (subst (λ (k : LinkSoFar). IsRunningAt carries frames sizes slots moves z k (inputs_in told ++ is) y) (known_event told e) here) in
      let links : 1 ≤ length (linked_in all) = subst (λ (k : LinkSoFar). 1 ≤ length k.linked) (known_event told e) some in
      record {
        driver = y;
        is = refl;
        at = there.at;
        bound = there.bound;
        few = subst (MovesFewIn moves (setting_in_turn slots z all)) (sym (events_linked (linked_in all) slots z all links refl)) there.few;
      }
