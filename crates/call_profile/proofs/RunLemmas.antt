-- A run with one event more, and how many frames a run has at the most.
use Rattle.std.proofs.Common.{◌≡◌, ℕ, ◌+◌, ◌≤◌, Bool, true, false, List, [], ◌∷◌, ◌++◌, length, Option, Some, None, refl, ◌∙◌, ap, arith, if◌then◌else◌}
use Rattle.std.specs.List.{cons_option}
use Rattle.std.proofs.lemmas.List.Elements.{filter_map-append}
use Rattle.circuit_model.specs.FrameInput.{Input}
use Rattle.exchange_events.specs.declared.trace.Event.{Event}
use Rattle.exchange_events.specs.declared.trace.Event.TheVariants.{Nail, Seat, Free, Message, Frame, LinkUp, LinkDown, RestartLine}
use Rattle.call_states.specs.Acts.{act_on}
use Rattle.clearing_rules.specs.UnknownReference.{answer_without_call}
use Rattle.call_states.specs.Conditions.{unanswered}
use Rattle.call_profile.specs.ActCourse.{course_of}
use Rattle.call_profile.specs.Calls.{Request, For_leg, New_call, On_no_call, Restarts, Confirms, Unanswered, request_of, answer_back, outcome_for}
use Rattle.call_profile.specs.IdleSlots.{is_nailed}
use Rattle.call_profile.specs.Operations as op
use Rattle.call_profile.specs.Operations.{Operation, Making, making_at, making_after, making_after_all}
use Rattle.call_profile.specs.Restarts.{confirm_rule, confirm_slot, restart_rule, restart_slot}
use Rattle.exchange_events.specs.Orders.{event_at}
use Rattle.exchange_events.specs.Sizes.{Setting, Dimensions}
use Rattle.call_profile.specs.Setup.{course_of_setup}
use Rattle.call_profile.specs.Step.{next, world_after_all, events_of, may_nail, may_seat}
use Rattle.call_profile.specs.Expiring.{slot_looked_at, expire_slot}
use Rattle.call_profile.specs.World.{World, pass}
use Rattle.call_profile.proofs.ExpiringLemmas.{each_line}
use Rattle.call_profile.proofs.RestartedSlotLemmas.{each_below, line_restarted_by, linked_by}
use Rattle.call_profile.proofs.ToneLemmas.{with_tone_sounding_next}
use Rattle.call_profile.specs.Legs.{is_down}
use Rattle.call_profile.specs.LinkChanges.{give_up_rule, give_up_slot, outcome_of_line_restart, outcome_of_link, rule_of, with_line}

-- ---- one event more

pub world-snoc : (s : Setting) (w : World) (es : List Event) (e : Event) → world_after_all s w (es ++ e ∷ []) ≡ next s (world_after_all s w es) e
world-snoc s w [] e = refl
world-snoc s w (x ∷ es) e = world-snoc s (next s w x) es e

-- the event with a number, as a list
one_event : (events : List Event) (n : ℕ) (e : Event) → event_at events n ≡ Some e → events_of events (n ∷ []) ≡ e ∷ []
one_event events n e is = ap (λ o. cons_option o []) is

pub events_of-snoc : (events : List Event) (order : List ℕ) (n : ℕ) (e : Event) → event_at events n ≡ Some e → events_of events (order ++ n ∷ []) ≡ events_of events order ++ e ∷ []
events_of-snoc events order n e is =
    filter_map-append (event_at events) order (n ∷ []) ∙ ap (λ es. events_of events order ++ es) (one_event events n e is)

-- ---- the number of the next frame

performed_next : (d : Dimensions) (m : Making) (o : Operation) → (making_after d m o).world.holding.next ≡ m.world.holding.next
performed_next d m (op.Clear x) = refl
performed_next d m (op.Pair x y) = refl
performed_next d m (op.Seat x room) = refl
performed_next d m (op.Sound x kind) = with_tone_sounding_next m.world.holding x kind
performed_next d m (op.Put x leg) = refl
performed_next d m (op.Wait x leg p) = refl
performed_next d m (op.Expect x leg message) = refl
performed_next d m (op.Repeat h octets) = refl
performed_next d m (op.Await x leg) = refl
performed_next d m (op.Remove x condition) = refl
performed_next d m (op.Send line message) = refl

performed_all_next : (d : Dimensions) (m : Making) (os : List Operation) → (making_after_all d m os).world.holding.next ≡ m.world.holding.next
performed_all_next d m [] = refl
performed_all_next d m (o ∷ os) = performed_all_next d (making_after d m o) os ∙ performed_next d m o

received_next : (s : Setting) (w : World) (line : ℕ) (r : Request) → (outcome_for s w line r).making.world.holding.next ≡ w.holding.next
received_next s w line (For_leg h m) = performed_all_next s.dimensions (making_at w) (course_of s w h m (act_on h.leg.state m)).operations
received_next s w line (New_call m) = performed_all_next s.dimensions (making_at w) (course_of_setup s w line m).operations
received_next s w line (On_no_call m) = performed_all_next s.dimensions (making_at w) (answer_back line (answer_without_call m))
received_next s w line (Restarts r) =
    each_below s.dimensions (restart_rule s.tones r) line w (λ a. a.making.world.holding.next ≡ w.holding.next) refl
    (λ a place small same. performed_all_next s.dimensions a.making (restart_slot s.tones r a.making.world.legs (record { line = line; place = place })) ∙ same) 30 (omega arith)
received_next s w line (Confirms r) =
    each_below s.dimensions (confirm_rule r) line w (λ a. a.making.world.holding.next ≡ w.holding.next) refl
    (λ a place small same. performed_all_next s.dimensions a.making (confirm_slot r a.making.world.legs (record { line = line; place = place })) ∙ same) 30 (omega arith)
received_next s w line Unanswered = refl

link_next : (s : Setting) (w : World) (down : Bool) (line : ℕ) → (outcome_of_link s.dimensions s.tones down line w).making.world.holding.next ≡ w.holding.next
link_next s w down line = linked_by s.dimensions s.tones down line w (λ v. v.holding.next ≡ w.holding.next) (λ whole.
    each_below s.dimensions (rule_of s.tones whole down) line (with_line w line down) (λ a. a.making.world.holding.next ≡ w.holding.next) refl
    (λ a place small same. performed_all_next s.dimensions a.making ((rule_of s.tones whole down).does a.making.world.legs (record { line = line; place = place })) ∙ same) 30 (omega arith))

line_restart_next : (s : Setting) (w : World) (line : ℕ) → (outcome_of_line_restart s.dimensions s.tones line w).making.world.holding.next ≡ w.holding.next
line_restart_next s w line =
    let condition = unanswered (is_down w.legs line) in
    line_restarted_by s.dimensions s.tones line w (λ v. v.holding.next ≡ w.holding.next)
    (each_below s.dimensions (give_up_rule s.tones condition) line w (λ a. a.making.world.holding.next ≡ w.holding.next) refl
    (λ a place small same. performed_all_next s.dimensions a.making (give_up_slot s.tones condition a.making.world.legs (record { line = line; place = place })) ∙ same) 30 (omega arith))

turn_next : (s : Setting) (w : World) (input : Input) → (next s w (Frame input)).holding.next ≡ w.holding.next + 1
turn_next s w input =
    let f : ℕ = w.holding.next in
    each_line s f (pass w input) (λ a. a.making.world.holding.next ≡ f + 1) refl
    (λ a line small same. performed_all_next s.dimensions a.making (expire_slot s f a.making.world.legs (slot_looked_at f line)) ∙ same) s.dimensions.external (omega arith)

either_next : (b : Bool) (v w : World) → v.holding.next ≡ w.holding.next → (if b then v else w).holding.next ≤ w.holding.next + 1
either_next true v w same = omega (arith, same)
either_next false v w same = omega arith

next_next : (s : Setting) (w : World) (e : Event) → (next s w e).holding.next ≤ w.holding.next + 1
next_next s w (Nail x y) = either_next (may_nail w x y) _ w refl
next_next s w (Seat x room) = either_next (may_seat s.dimensions w x) _ w refl
next_next s w (Free x) = either_next (is_nailed w x) _ w refl
next_next s w (Message line octets) = let same = received_next s w line (request_of w.legs line octets) in omega (arith, same)
next_next s w (LinkUp line) = let same = link_next s w false line in omega (arith, same)
next_next s w (LinkDown line) = let same = link_next s w true line in omega (arith, same)
next_next s w (RestartLine line) = let same = line_restart_next s w line in omega (arith, same)
next_next s w (Frame input) = let one = turn_next s w input in omega (arith, one)

pub world_next : (s : Setting) (w : World) (es : List Event) → (world_after_all s w es).holding.next ≤ w.holding.next + length es
world_next s w [] = omega arith
world_next s w (e ∷ es) = let rest = world_next s (next s w e) es in let one = next_next s w e in omega (arith, rest, one)

few_more : (o : Option Event) (es : List Event) → length (cons_option o es) ≤ 1 + length es
few_more None es = omega arith
few_more (Some e) es = omega arith

pub length-events_of-le : (events : List Event) (order : List ℕ) → length (events_of events order) ≤ length order
length-events_of-le events [] = omega arith
length-events_of-le events (n ∷ order) = let rest = length-events_of-le events order in let one = few_more (event_at events n) (events_of events order) in omega (arith, rest, one)
