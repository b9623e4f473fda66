-- Each external slot has a condition.
use Rattle.std.proofs.Common.{◌≡◌, ℕ, Bool, true, false, List, [], ◌∷◌, length, refl, ◌∙◌, arith, length-set, if◌then◌else◌}
use Rattle.circuit_model.specs.Holding.{Connect, Seat as Take_seat, Clear}
use Rattle.control_memory.specs.Layout.{number_of}
use Rattle.call_states.specs.Acts.{act_on}
use Rattle.call_states.specs.Conditions.{unanswered}
use Rattle.call_states.specs.declared.condition.Condition.{Condition}
use Rattle.clearing_rules.specs.UnknownReference.{answer_without_call}
use Rattle.exchange_events.specs.declared.trace.Event.{Event}
use Rattle.exchange_events.specs.declared.trace.Event.TheVariants.{Nail, Seat, Free, Message, Frame, LinkUp, LinkDown, RestartLine}
use Rattle.exchange_events.specs.Sizes.{Setting, Dimensions}
use Rattle.call_profile.specs.ActCourse.{course_of}
use Rattle.call_profile.specs.Calls.{Request, For_leg, New_call, On_no_call, Restarts, Confirms, Unanswered, answer_back, outcome_for, request_of}
use Rattle.call_profile.specs.Expiring.{expire_slot, slot_looked_at}
use Rattle.call_profile.specs.IdleSlots.{is_nailed}
use Rattle.call_profile.specs.Legs.{is_down}
use Rattle.call_profile.specs.LinkChanges.{give_up_rule, give_up_slot, outcome_of_line_restart, outcome_of_link, rule_of, with_line}
use Rattle.call_profile.specs.Operations as op
use Rattle.call_profile.specs.Operations.{Operation, Making, making_at, making_after, making_after_all}
use Rattle.call_profile.specs.Restarts.{confirm_rule, confirm_slot, restart_slot, restart_rule}
use Rattle.call_profile.specs.Setup.{course_of_setup}
use Rattle.call_profile.specs.Step.{next, may_nail, may_seat}
use Rattle.call_profile.specs.World.{World, obey, pass}
use Rattle.call_profile.proofs.ExpiringLemmas.{each_line}
use Rattle.call_profile.proofs.RestartedSlotLemmas.{each_below, line_restarted_by, linked_by}

abbrev conditions_of : World → ℕ
conditions_of w = length w.legs.conditions

performed_conditions : (d : Dimensions) (m : Making) (o : Operation) → conditions_of (making_after d m o).world ≡ conditions_of m.world
performed_conditions d m (op.Clear x) = refl
performed_conditions d m (op.Pair x y) = refl
performed_conditions d m (op.Seat x room) = refl
performed_conditions d m (op.Sound x kind) = refl
performed_conditions d m (op.Put x leg) = refl
performed_conditions d m (op.Wait x leg p) = refl
performed_conditions d m (op.Expect x leg message) = refl
performed_conditions d m (op.Repeat h octets) = refl
performed_conditions d m (op.Await x leg) = refl
performed_conditions d m (op.Remove x condition) = length-set m.world.legs.conditions (number_of x) condition
performed_conditions d m (op.Send line message) = refl

pub performed_all_conditions : (d : Dimensions) (m : Making) (os : List Operation) → conditions_of (making_after_all d m os).world ≡ conditions_of m.world
performed_all_conditions d m [] = refl
performed_all_conditions d m (o ∷ os) = performed_all_conditions d (making_after d m o) os ∙ performed_conditions d m o

received_conditions : (s : Setting) (w : World) (line : ℕ) (r : Request) → conditions_of (outcome_for s w line r).making.world ≡ conditions_of w
received_conditions s w line (For_leg h m) = performed_all_conditions s.dimensions (making_at w) (course_of s w h m (act_on h.leg.state m)).operations
received_conditions s w line (New_call m) = performed_all_conditions s.dimensions (making_at w) (course_of_setup s w line m).operations
received_conditions s w line (On_no_call m) = performed_all_conditions s.dimensions (making_at w) (answer_back line (answer_without_call m))
received_conditions s w line (Restarts r) =
    each_below s.dimensions (restart_rule s.tones r) line w (λ a. conditions_of a.making.world ≡ conditions_of w) refl
    (λ a place small same. performed_all_conditions s.dimensions a.making (restart_slot s.tones r a.making.world.legs (record { line = line; place = place }))
    ∙ same)
    30 (omega arith)
received_conditions s w line (Confirms r) =
    each_below s.dimensions (confirm_rule r) line w (λ a. conditions_of a.making.world ≡ conditions_of w) refl
    (λ a place small same. performed_all_conditions s.dimensions a.making (confirm_slot r a.making.world.legs (record { line = line; place = place })) ∙ same)
    30 (omega arith)
received_conditions s w line Unanswered = refl

linked_conditions : (s : Setting) (w : World) (down : Bool) (line : ℕ)
    → conditions_of (outcome_of_link s.dimensions s.tones down line w).making.world ≡ conditions_of w
linked_conditions s w down line = linked_by s.dimensions s.tones down line w (λ v. conditions_of v ≡ conditions_of w) (λ whole.
    each_below s.dimensions (rule_of s.tones whole down) line (with_line w line down) (λ a. conditions_of a.making.world ≡ conditions_of w) refl
    (λ a place small same. performed_all_conditions s.dimensions a.making
    ((rule_of s.tones whole down).does a.making.world.legs (record { line = line; place = place })) ∙ same) 30 (omega arith))

line_restart_conditions : (s : Setting) (w : World) (line : ℕ)
    → conditions_of (outcome_of_line_restart s.dimensions s.tones line w).making.world ≡ conditions_of w
line_restart_conditions s w line =
    let condition : Condition = unanswered (is_down w.legs line) in
    line_restarted_by s.dimensions s.tones line w (λ v. conditions_of v ≡ conditions_of w)
    (each_below s.dimensions (give_up_rule s.tones condition) line w (λ a. conditions_of a.making.world ≡ conditions_of w) refl
    (λ a place small same. performed_all_conditions s.dimensions a.making
    (give_up_slot s.tones condition a.making.world.legs (record { line = line; place = place })) ∙ same) 30 (omega arith))

either_conditions : (b : Bool) (v w : World) → conditions_of v ≡ conditions_of w → conditions_of (if b then v else w) ≡ conditions_of w
either_conditions true v w same = same
either_conditions false v w same = refl

pub next_conditions : (s : Setting) (w : World) (e : Event) → length (next s w e).legs.conditions ≡ length w.legs.conditions
next_conditions s w (Nail x y) = either_conditions (may_nail w x y) (obey s.dimensions w (Connect x y)) w refl
next_conditions s w (Seat x room) = either_conditions (may_seat s.dimensions w x) (obey s.dimensions w (Take_seat x room)) w refl
next_conditions s w (Free x) = either_conditions (is_nailed w x) (obey s.dimensions w (Clear x)) w refl
next_conditions s w (Message line octets) = received_conditions s w line (request_of w.legs line octets)
next_conditions s w (LinkUp line) = linked_conditions s w false line
next_conditions s w (LinkDown line) = linked_conditions s w true line
next_conditions s w (RestartLine line) = line_restart_conditions s w line
next_conditions s w (Frame input) =
    let f : ℕ = w.holding.next in
    each_line s f (pass w input) (λ a. conditions_of a.making.world ≡ conditions_of w) refl
    (λ a line small same. performed_all_conditions s.dimensions a.making (expire_slot s f a.making.world.legs (slot_looked_at f line)) ∙ same)
    s.dimensions.external (omega arith)
