-- One line of an exchange and its user, as two links over wires.
use Rattle.std.proofs.Common.{◌≡◌, ◌⊎◌, ℕ, Bool, true, List, [], ◌∷◌, ◌++◌, length, All, refl, sym, ap, ◌∙◌, subst, inl, inr, Some, None, eq-eqb, append-nil, if◌then◌else◌}
use Rattle.std.specs.Prelude.{Option}
use Rattle.std.proofs.lemmas.Bool.{cases_eq, ne_eqb, le-leb}
use Rattle.std.proofs.lemmas.List.Elements.{All-head, All-tail}
use Rattle.circuit_model.specs.FrameInput.{Input}
use Rattle.exchange_events.specs.declared.trace.Event.{Event}
use Rattle.exchange_events.specs.declared.trace.Event.TheVariants as event
use Rattle.exchange_events.specs.Sizes.{Setting}
use Rattle.call_profile.specs.Step.{next as next_world, world_after_all}
use Rattle.call_profile.specs.World.{World}
use Rattle.call_profile.proofs.QuietEventLemmas.{SameFrames-next}
use Rattle.link_frames.specs.declared.frame.Frame.{Frame}
use Rattle.link_frames.specs.declared.frame.Sender.TheVariants.{User, Network}
use Rattle.link_frames.specs.Reading.{reading}
use Rattle.link_procedures.specs.declared.state.LinkTimers.{LinkTimers}
use Rattle.link_procedures.specs.Links.{DataLink, Step, step, initial, is_awaiting, is_up}
use Rattle.link_procedures.specs.Sending.{finished}
use Rattle.link_procedures.specs.Establishment.{Outcome, quietly, submitted}
use Rattle.link_procedures.specs.Receiving.{received}
use Rattle.link_procedures.specs.Timing.{is_due, turned}
use Rattle.link_procedures.specs.AnyPeer.{IsShort}
use Rattle.link_table.specs.Tables.{IsLinkOf, link_of}
use Rattle.link_table.specs.Steps.{line_of_turn}
use Rattle.link_table.specs.Rest.{IsAtRest}
use Rattle.link_table.proofs.RestLemmas.{finished_rest, initial_rest}
use Rattle.link_laws.specs.TwoLinks.{Pair, mirror, as_step, loses, stepped}
use Rattle.link_laws.specs.Numberings.{begun, is_sabme, is_ua, Without}
use Rattle.link_laws.specs.Epochs.{Act, Arrival, Cause, Lose, Request, Steps as Acts_in, Turn, First, Second, IsTimely, IsTimelyAct, IsTimelyEvent, HasArrivedFrom, Story, acts, after_indication, begin, delivery, message_in as message_of_pair, next, oldest, outcome, outcome_of, remaining, run, submits, with_messages, younger}
use Rattle.link_laws.specs.Epochs as epochs
use Rattle.link_laws.proofs.EpochLemmas.{in_order_always, arrived_always}
use Rattle.linked_exchange.specs.Steps.{Joint, LinkedInput, Happens, Receives, Turns, derived, frames_so_far, next_joint, world_after}
use Rattle.exchange_laws.specs.Layers.{BeginsLinked}
use Rattle.exchange_laws.specs.Sides.{as_user}
use Rattle.exchange_laws.specs.Peers as peers
use Rattle.exchange_laws.specs.Peers.{Attached, Happening, Steps, Arrives, Loses, Acts, IsOther, AreShort, ArriveShort, IsTimelyIn, IsAllowed, AreAllowed, IsInOrderOrTold, HasArrived, attached, epochs_told, exchange_receives, exchange_steps, happens, link_on, messages_in, messages_from, pair_on, the_link, user_acts, with_user}
use Rattle.exchange_laws.proofs.SideLemmas.{read_alike}
use Rattle.exchange_laws.proofs.LineLemmas.{all_to}
use Rattle.exchange_laws.proofs.StepLemmas.{outcome_in, outcome_read, line_after, next_free, step_at}
use Rattle.exchange_laws.proofs.EventLemmas.{message_read, noticed_all, changed_all, step_epochs, step_messages}
use Rattle.exchange_laws.proofs.LayerLemmas.{linked_start}

-- ---- the time of a step

abbrev IsNoFrame : Event → Type 0
IsNoFrame e = (input : Input) → e ≡ event.Frame input → ⊥

message_no_frame : (n : ℕ) (m : List ℕ) → IsNoFrame (event.Message n m)
message_no_frame n m input e = absurd (cc)

up_no_frame : (n : ℕ) → IsNoFrame (event.LinkUp n)
up_no_frame n input e = absurd (cc)

down_no_frame : (n : ℕ) → IsNoFrame (event.LinkDown n)
down_no_frame n input e = absurd (cc)

same_time : (s : Setting) (w : World) (es : List Event) → All IsNoFrame es → (world_after_all s w es).holding.next ≡ w.holding.next
same_time s w [] h = refl
same_time s w (e ∷ es) h = same_time s (next_world s w e) es (All-tail IsNoFrame e es h) ∙ (SameFrames-next s w e (All-head IsNoFrame e es h)).next

received_time : (s : Setting) (timers : LinkTimers) (j : Joint) (n : ℕ) (octets : List ℕ) → (world_after s timers j (Receives n octets)).holding.next ≡ frames_so_far j
received_time s timers j n octets =
    same_time s j.world (derived timers j (Receives n octets))
    (noticed_all IsNoFrame n (message_no_frame n) (up_no_frame n) (down_no_frame n) (link_of n j.links) (reading User octets) (frames_so_far j))

turned_time : (s : Setting) (timers : LinkTimers) (j : Joint) → (world_after s timers j Turns).holding.next ≡ frames_so_far j
turned_time s timers j =
    let n = line_of_turn (frames_so_far j) in
    same_time s j.world (derived timers j Turns) (changed_all IsNoFrame n (message_no_frame n) (up_no_frame n) (down_no_frame n) (link_of n j.links) timers (frames_so_far j))

-- ---- lists of events of two links

run-snoc : (es : List epochs.Event) (e : epochs.Event) (s : Story) → run (es ++ e ∷ []) s ≡ next (run es s) e
run-snoc [] e s = refl
run-snoc (x ∷ es) e s = run-snoc es e (next s x)

timely-snoc : (es : List epochs.Event) (e : epochs.Event) (s : Story) → IsTimely es s → IsTimelyEvent (run es s).pair e → IsTimely (es ++ e ∷ []) s
timely-snoc [] e s h last = (last, tt)
timely-snoc (x ∷ es) e s h last = (h.0, timely-snoc es e (next s x) h.1 last)

-- ---- the line and its user, as two links

abbrev story : DataLink → List (List ℕ) → List (List ℕ) → Attached → Story
story l submitted replied a = record {
  pair = record {
    first = l;
    second = a.user;
    there = a.there;
    back = a.back;
    submitted = submitted;
    replied = replied;
    arrived = a.arrived;
    returned = a.returned;
  };
  first = a.sent;
  second = a.said;
}

-- some events of two links from their start come to the state
record Follows (line : ℕ) (a : Attached) : Type 0 where
  link : DataLink
  linked : IsLinkOf a.exchange.links.links line link
  rest : IsAtRest link
  free : a.exchange.links.receiving ≡ None
  second : ℕ
  events : List epochs.Event
  timely : IsTimely events (begin (begun 0 second))
  submitted : List (List ℕ)
  replied : List (List ℕ)
  same : run events (begin (begun 0 second)) ≡ story link submitted replied a

extended : (line : ℕ) (a b : Attached) (h : Follows line a) (e : epochs.Event) (l : DataLink) (submitted replied : List (List ℕ)) → IsLinkOf b.exchange.links.links line l → IsAtRest l
    → b.exchange.links.receiving ≡ None → IsTimelyEvent (story h.link h.submitted h.replied a).pair e → next (story h.link h.submitted h.replied a) e ≡ story l submitted replied b → Follows line b
extended line a b h e l submitted replied linked rest free timely same =
    let start = begin (begun 0 h.second) in record {
      link = l;
      linked = linked;
      rest = rest;
      free = free;
      second = h.second;
      events = h.events ++ e ∷ [];
      timely = timely-snoc h.events e start h.timely (subst (λ (s : Story). IsTimelyEvent s.pair e) (sym h.same) timely);
      submitted = submitted;
      replied = replied;
      same = run-snoc h.events e start ∙ (ap (λ (s : Story). next s e) h.same ∙ same);
    }

-- ---- a step of the exchange

submits_short : (ms : List (List ℕ)) (at : ℕ) (s : Step) → All IsShort ms → submits ms at s ≡ all_to ms at s
submits_short [] at s h = refl
submits_short (m ∷ ms) at s h =
    ap (λ b. submits ms at (if b then submitted m at s else s)) (le-leb (length m) 112 (All-head IsShort m ms h))
    ∙ submits_short ms at (submitted m at s) (All-tail IsShort m ms h)

module _ (s : Setting) (timers : LinkTimers) (line : ℕ) (a : Attached) (h : Follows line a) (i : LinkedInput) (left : List (List ℕ)) where
  abbrev now : Pair
  now = (story h.link h.submitted h.replied a).pair

  abbrev start_time : ℕ
  start_time = frames_so_far a.exchange

  abbrev end_time : ℕ
  end_time = (world_after s timers a.exchange i).holding.next

  abbrev result : Outcome
  result = outcome_in line timers a.exchange h.link i

  abbrev told : List Event
  told = derived timers a.exchange i

  abbrev messages : List (List ℕ)
  messages = messages_in s timers line a.exchange i

  abbrev ended : Step
  ended = line_after s timers line a.exchange h.link i

  abbrev later : Joint
  later = next_joint s timers a.exchange i

  step_follows : (cause : Cause) (at : ℕ) → outcome now cause at ≡ result → remaining now cause ≡ left → delivery now cause at ≡ messages_from line told → end_time ≡ at
      → epochs_told line told a.sent ≡ after_indication result.indication a.sent → All IsShort messages → IsTimelyAct now (Acts_in cause messages at)
      → Follows line (exchange_steps s timers line i left a)
  step_follows cause at out remains delivers time ends short timely =
      let here = step_at s timers line a.exchange h.link i h.linked h.rest h.free in
      let mk : Step → List (List ℕ) → List (List ℕ) → List (List (List ℕ)) → Story
      = λ t rest delivered sent. record { pair = stepped now t rest (h.submitted ++ messages) (a.returned ++ delivered); first = sent; second = a.said } in
      let works : finished at (submits messages at (as_step (outcome now cause at))) ≡ ended
      = ap (λ (o : Outcome). finished at (submits messages at (as_step o))) out
      ∙ (ap (finished at) (submits_short messages at (as_step result) short)
      ∙ ap (λ k. finished k (all_to messages k (step result.link result.out))) (sym time)) in
      let tells : with_messages messages (after_indication (outcome now cause at).indication a.sent) ≡ with_messages messages (epochs_told line told a.sent)
      = ap (λ (o : Outcome). with_messages messages (after_indication o.indication a.sent)) out ∙ ap (with_messages messages) (sym ends) in
      extended line a (exchange_steps s timers line i left a) h (First (Acts_in cause messages at)) ended.link (h.submitted ++ messages) h.replied here.link
      (finished_rest end_time (all_to messages end_time (step result.link result.out))) (next_free s timers a.exchange i) timely
      (ap (λ t. mk t (remaining now cause) (delivery now cause at) (with_messages messages (after_indication (outcome now cause at).indication a.sent))) works
      ∙ (ap (λ r. mk ended r (delivery now cause at) (with_messages messages (after_indication (outcome now cause at).indication a.sent))) remains
      ∙ (ap (λ d. mk ended left d (with_messages messages (after_indication (outcome now cause at).indication a.sent))) delivers
      ∙ (ap (mk ended left (messages_from line told)) tells
      ∙ ap (λ w. mk (step ended.link w) left (messages_from line told) (with_messages messages (epochs_told line told a.sent))) (sym here.sent)))))

module _ (s : Setting) (timers : LinkTimers) (line : ℕ) (a : Attached) (h : Follows line a) where
  event_follows : (e : Event) → IsOther line (Happens e) → AreShort s timers line a.exchange (Happens e) → Follows line (exchange_steps s timers line (Happens e) a.back a)
  event_follows e other short =
      step_follows s timers line a h (Happens e) a.back Request (world_after s timers a.exchange (Happens e)).holding.next refl refl
      (sym (step_messages line timers a.exchange h.link h.linked (Happens e) other)) refl (step_epochs line timers a.exchange h.link h.linked (Happens e) other a.sent) short tt

  other_follows : (n : ℕ) (octets : List ℕ) → IsOther line (Receives n octets) → AreShort s timers line a.exchange (Receives n octets) → Follows line (exchange_steps s timers line (Receives n octets) a.back a)
  other_follows n octets other short =
      let read = outcome_read h.link (frames_so_far a.exchange) (reading User octets) in
      let message = message_read h.link (frames_so_far a.exchange) (reading User octets) in
      step_follows s timers line a h (Receives n octets) a.back Request (world_after s timers a.exchange (Receives n octets)).holding.next
      (sym (ap (λ b. if b then read else quietly (step h.link [])) (ne_eqb n line other))) refl
      (sym (step_messages line timers a.exchange h.link h.linked (Receives n octets) tt ∙ ap (λ b. if b then message else []) (ne_eqb n line other))) refl
      (step_epochs line timers a.exchange h.link h.linked (Receives n octets) tt a.sent) short tt

  linked_here : link_on line a.exchange ≡ h.link
  linked_here = ap the_link h.linked

  timely_here : (at : ℕ) (ms : List (List ℕ)) → IsTimelyAct (pair_on line a) (Acts_in (Turn timers) [] at) → IsTimelyAct (story h.link h.submitted h.replied a).pair (Acts_in (Turn timers) ms at)
  timely_here at ms timely =
      subst (λ (l : DataLink). is_awaiting l.state ≡ true → is_due timers at l.timer ≡ true → Without is_sabme a.there × Without is_ua a.back) linked_here timely

  turn_follows : (line_of_turn (frames_so_far a.exchange) ≡ line) ⊎ (line_of_turn (frames_so_far a.exchange) ≡ line → ⊥) → AreShort s timers line a.exchange Turns → IsTimelyIn timers line a Turns
      → Follows line (exchange_steps s timers line Turns a.back a)
  turn_follows (inl is) short timely =
      let at = frames_so_far a.exchange in
      step_follows s timers line a h Turns a.back (Turn timers) at
      (sym (ap (λ b. if b then turned timers at (step h.link []) else quietly (step h.link [])) (eq-eqb (line_of_turn at) line is))) refl
      (sym (step_messages line timers a.exchange h.link h.linked Turns tt)) (turned_time s timers a.exchange)
      (step_epochs line timers a.exchange h.link h.linked Turns tt a.sent) short (timely_here at (messages_in s timers line a.exchange Turns) (timely is))
  turn_follows (inr other) short timely =
      let at = frames_so_far a.exchange in
      step_follows s timers line a h Turns a.back Request (world_after s timers a.exchange Turns).holding.next
      (sym (ap (λ b. if b then turned timers at (step h.link []) else quietly (step h.link [])) (ne_eqb (line_of_turn at) line other))) refl
      (sym (step_messages line timers a.exchange h.link h.linked Turns tt)) refl (step_epochs line timers a.exchange h.link h.linked Turns tt a.sent) short tt

  -- ---- a frame of the user arrives

  outcome_alike : (at : ℕ) (f : Option Frame) → outcome_of (story h.link h.submitted h.replied a).pair at f ≡ outcome_read h.link at f
  outcome_alike at None = refl
  outcome_alike at (Some f) = refl

  message_alike : (at : ℕ) (f : Option Frame) → message_of_pair (story h.link h.submitted h.replied a).pair at f ≡ message_read h.link at f
  message_alike at None = refl
  message_alike at (Some f) = refl

  frame_follows : (octets : List ℕ) (left : List (List ℕ)) → a.back ≡ octets ∷ left → AreShort s timers line a.exchange (Receives line (as_user octets))
      → Follows line (exchange_steps s timers line (Receives line (as_user octets)) left a)
  frame_follows octets left e short =
      let p = (story h.link h.submitted h.replied a).pair in
      let at = frames_so_far a.exchange in
      let input = Receives line (as_user octets) in
      let read = reading User (as_user octets) in
      let itself = eq-eqb line line refl in
      let out : outcome p Arrival at ≡ outcome_in line timers a.exchange h.link input
      = ap (λ b. outcome_of p at (oldest b)) e ∙ (outcome_alike at (reading Network octets) ∙ (ap (outcome_read h.link at) (sym (read_alike octets))
      ∙ sym (ap (λ b. if b then outcome_read h.link at read else quietly (step h.link [])) itself))) in
      let delivers : delivery p Arrival at ≡ messages_from line (derived timers a.exchange input)
      = ap (λ b. message_of_pair p at (oldest b)) e ∙ (message_alike at (reading Network octets) ∙ (ap (message_read h.link at) (sym (read_alike octets))
      ∙ (sym (ap (λ b. if b then message_read h.link at read else []) itself) ∙ sym (step_messages line timers a.exchange h.link h.linked input tt)))) in
      step_follows s timers line a h input left Arrival at out (ap younger e) delivers (received_time s timers a.exchange line (as_user octets))
      (step_epochs line timers a.exchange h.link h.linked input tt a.sent) short tt

  arrives_follows : (back : List (List ℕ)) → a.back ≡ back → ArriveShort s timers line a.exchange back → Follows line (exchange_receives s timers line back a)
  arrives_follows [] e short = h
  arrives_follows (octets ∷ left) e short = frame_follows octets left e short
  -- ---- a frame is lost

lost_same : (p : Pair) (b : List (List ℕ)) → p.back ≡ b → loses p b ≡ record p { back = younger b }
lost_same p [] e = ap (λ x. record p { back = x }) e
lost_same p (octets ∷ left) e = ap (λ w. record p { there = w; back = left }) (append-nil p.there)

loses_follows : (line : ℕ) (a : Attached) → Follows line a → Follows line (record a { back = younger a.back })
loses_follows line a h =
    let p = (story h.link h.submitted h.replied a).pair in
    extended line a (record a { back = younger a.back }) h (First Lose) h.link h.submitted h.replied h.linked h.rest h.free tt
    (ap (λ q. record { pair = q; first = a.sent; second = a.said }) (lost_same p a.back refl))

-- ---- the user acts

timely_alike : (q r : Pair) (act : Act) → q.first ≡ r.first → q.there ≡ r.there → q.back ≡ r.back → IsTimelyAct r act → IsTimelyAct q act
timely_alike q r (Acts_in Arrival ms at) one two three h = tt
timely_alike q r (Acts_in Request ms at) one two three h = tt
timely_alike q r (Acts_in (Turn t) ms at) one two three h =
    subst (λ (l : DataLink). is_awaiting l.state ≡ true → is_due t at l.timer ≡ true → Without is_sabme q.there × Without is_ua q.back) (sym one)
    (subst (λ w. is_awaiting r.first.state ≡ true → is_due t at r.first.timer ≡ true → Without is_sabme w × Without is_ua q.back) (sym two)
    (subst (λ w. is_awaiting r.first.state ≡ true → is_due t at r.first.timer ≡ true → Without is_sabme r.there × Without is_ua w) (sym three) h))
timely_alike q r Lose one two three h = tt

-- two links with the same first link and the same wire to it
read_same : (q r : Pair) (at : ℕ) (f : Option Frame) → q.first ≡ r.first → outcome_of q at f ≡ outcome_of r at f
read_same q r at None e = ap (λ l. quietly (step l [])) e
read_same q r at (Some f) e = ap (λ l. received f at (step l [])) e

outcome_same : (q r : Pair) (c : Cause) (at : ℕ) → q.first ≡ r.first → q.back ≡ r.back → outcome q c at ≡ outcome r c at
outcome_same q r Arrival at one two = ap (λ b. outcome_of q at (oldest b)) two ∙ read_same q r at (oldest r.back) one
outcome_same q r (Turn t) at one two = ap (λ l. turned t at (step l [])) one
outcome_same q r Request at one two = ap (λ l. quietly (step l [])) one

message_same : (q r : Pair) (at : ℕ) (f : Option Frame) → q.first ≡ r.first → message_of_pair q at f ≡ message_of_pair r at f
message_same q r at None e = refl
message_same q r at (Some f) e = ap (λ l. message_of_pair (record r { first = l }) at (Some f)) e

delivery_same : (q r : Pair) (c : Cause) (at : ℕ) → q.first ≡ r.first → q.back ≡ r.back → delivery q c at ≡ delivery r c at
delivery_same q r Arrival at one two = ap (λ b. message_of_pair q at (oldest b)) two ∙ message_same q r at (oldest r.back) one
delivery_same q r (Turn t) at one two = refl
delivery_same q r Request at one two = refl

remaining_same : (q r : Pair) (c : Cause) → q.back ≡ r.back → remaining q c ≡ remaining r c
remaining_same q r Arrival e = ap younger e
remaining_same q r (Turn t) e = e
remaining_same q r Request e = e

module _ (line : ℕ) (a : Attached) (h : Follows line a) where
  abbrev theirs : Pair
  theirs = mirror (story h.link h.submitted h.replied a).pair

  abbrev ours : Pair
  ours = mirror (pair_on line a)

  user_steps : (c : Cause) (messages : List (List ℕ)) (at : ℕ) → IsTimelyAct ours (Acts_in c messages at) → Follows line (user_acts line (Acts_in c messages at) a)
  user_steps c messages at timely =
      let mk : Outcome → List (List ℕ) → List (List ℕ) → Story = λ o left delivered.
      let t = finished at (submits messages at (as_step o)) in record {
        pair = record {
          first = h.link;
          second = t.link;
          there = left;
          back = a.back ++ t.out;
          submitted = h.submitted;
          replied = h.replied ++ messages;
          arrived = a.arrived ++ delivered;
          returned = a.returned;
        };
        first = a.sent;
        second = with_messages messages (after_indication o.indication a.said);
      } in
      extended line a (user_acts line (Acts_in c messages at) a) h (Second (Acts_in c messages at)) h.link h.submitted (h.replied ++ messages) h.linked h.rest h.free
      (timely_alike theirs ours (Acts_in c messages at) refl refl refl timely)
      (ap (λ o. mk o (remaining theirs c) (delivery theirs c at)) (outcome_same theirs ours c at refl refl)
      ∙ (ap (λ w. mk (outcome ours c at) w (delivery theirs c at)) (remaining_same theirs ours c refl)
      ∙ ap (mk (outcome ours c at) (remaining ours c)) (delivery_same theirs ours c at refl refl)))

  user_loses : Follows line (user_acts line Lose a)
  user_loses =
      extended line a (user_acts line Lose a) h (Second Lose) h.link h.submitted h.replied h.linked h.rest h.free tt
      (ap (λ (q : Pair). record { pair = mirror q; first = a.sent; second = a.said }) (lost_same theirs a.there refl)
      ∙ sym (ap (λ (q : Pair). story h.link h.submitted h.replied (with_user q a.said a)) (lost_same ours a.there refl)))

  user_follows : (act : Act) → IsTimelyAct ours act → Follows line (user_acts line act a)
  user_follows (Acts_in c messages at) timely = user_steps c messages at timely
  user_follows Lose timely = user_loses

-- ---- a run

happens_follows : (s : Setting) (timers : LinkTimers) (line : ℕ) (a : Attached) (x : Happening) → IsAllowed s timers line a x → Follows line a → Follows line (happens s timers line a x)
happens_follows s timers line a (Steps (Happens e)) allowed h = event_follows s timers line a h e allowed.0 allowed.1
happens_follows s timers line a (Steps (Receives n octets)) allowed h = other_follows s timers line a h n octets allowed.0 allowed.1
happens_follows s timers line a (Steps Turns) allowed h = turn_follows s timers line a h (cases_eq (line_of_turn (frames_so_far a.exchange)) line) allowed.1 allowed.2
happens_follows s timers line a Arrives allowed h = arrives_follows s timers line a h a.back refl allowed
happens_follows s timers line a Loses allowed h = loses_follows line a h
happens_follows s timers line a (Acts act) allowed h = user_follows line a h act allowed

run_follows : (s : Setting) (timers : LinkTimers) (line : ℕ) (xs : List Happening) (a : Attached) → AreAllowed s timers line xs a → Follows line a → Follows line (peers.run s timers line xs a)
run_follows s timers line [] a allowed h = h
run_follows s timers line (x ∷ xs) a allowed h = run_follows s timers line xs (happens s timers line a x) allowed.1 (happens_follows s timers line a x allowed.0 h)

start_follows : (s : Setting) (linked : List Bool) (line at : ℕ) → BeginsLinked linked line → Follows line (attached s linked at)
start_follows s linked line at e = record {
  link = initial 0;
  linked = linked_start linked line e;
  rest = initial_rest 0;
  free = refl;
  second = at;
  events = [];
  timely = tt;
  submitted = [];
  replied = [];
  same = refl;
}

in_order_of : (line : ℕ) (a : Attached) → Follows line a → IsInOrderOrTold line a
in_order_of line a h = subst epochs.IsInOrderOrTold h.same (in_order_always h.events (begun 0 h.second) (0, h.second, refl) h.timely)

has_arrived_of : (line : ℕ) (a : Attached) → Follows line a → HasArrived line a
has_arrived_of line a h =
    let both = subst epochs.HasArrivedBothWays h.same (arrived_always h.events (begun 0 h.second) (0, h.second, refl) h.timely) in
    (subst (λ (l : DataLink). is_up l ≡ true → HasArrivedFrom l.queue a.sent a.arrived) (sym (ap the_link h.linked)) both.0, both.1)

pub in_order_on_line : peers.AlwaysOn IsInOrderOrTold
in_order_on_line s timers linked line at xs begins allowed =
    in_order_of line (peers.run s timers line xs (attached s linked at)) (run_follows s timers line xs (attached s linked at) allowed (start_follows s linked line at begins))

pub arrived_on_line : peers.AlwaysOn HasArrived
arrived_on_line s timers linked line at xs begins allowed =
    has_arrived_of line (peers.run s timers line xs (attached s linked at)) (run_follows s timers line xs (attached s linked at) allowed (start_follows s linked line at begins))
