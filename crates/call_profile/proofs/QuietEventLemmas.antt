-- An event that is no frame leaves the frames as they are.
use Rattle.std.proofs.Common.{◌≡◌, ℕ, Bool, true, false, List, [], ◌∷◌, refl, ◌∙◌, arith, if◌then◌else◌}
use Rattle.circuit_model.specs.FrameInput.{Input}
use Rattle.circuit_model.specs.Holding.{Connect, Seat as Take_seat, Clear}
use Rattle.exchange_events.specs.declared.trace.Event.{Event}
use Rattle.exchange_events.specs.declared.trace.Event.TheVariants.{Nail, Seat, Free, Message, Frame, LinkUp, LinkDown, RestartLine}
use Rattle.call_states.specs.Acts.{act_on}
use Rattle.clearing_rules.specs.UnknownReference.{answer_without_call}
use Rattle.call_states.specs.Conditions.{unanswered}
use Rattle.call_profile.specs.ActCourse.{course_of}
use Rattle.call_profile.specs.Calls.{Request, For_leg, New_call, On_no_call, Restarts, Confirms, Unanswered, request_of, answer_back, outcome_for}
use Rattle.call_profile.specs.IdleSlots.{is_nailed}
use Rattle.call_profile.specs.Operations as op
use Rattle.call_profile.specs.Operations.{Operation, Making, making_at, making_after, making_after_all}
use Rattle.call_profile.specs.Restarts.{confirm_rule, confirm_slot, restart_rule, restart_slot}
use Rattle.exchange_events.specs.Sizes.{Setting, Dimensions}
use Rattle.call_profile.specs.Setup.{course_of_setup}
use Rattle.call_profile.specs.Step.{next, may_nail, may_seat}
use Rattle.call_profile.specs.Expiring.{slot_looked_at, expire_slot}
use Rattle.call_profile.specs.World.{World, obey, pass}
use Rattle.call_profile.proofs.ExpiringLemmas.{each_line}
use Rattle.call_profile.proofs.RestartedSlotLemmas.{each_below, line_restarted_by, linked_by}
use Rattle.call_profile.proofs.ToneLemmas.{with_tone_sounding_next}
use Rattle.call_profile.specs.Legs.{is_down}
use Rattle.call_profile.specs.LinkChanges.{give_up_rule, give_up_slot, outcome_of_line_restart, outcome_of_link, rule_of, with_line}

-- two worlds with the same frames behind them
pub record SameFrames (w v : World) : Type 0 where
  pub inputs : v.inputs ≡ w.inputs
  pub held : v.held ≡ w.held
  pub seated : v.seated ≡ w.seated
  pub next : v.holding.next ≡ w.holding.next

performed_same : (d : Dimensions) (m : Making) (o : Operation) → SameFrames m.world (making_after d m o).world
performed_same d m (op.Clear x) = record { inputs = refl; held = refl; seated = refl; next = refl }
performed_same d m (op.Pair x y) = record { inputs = refl; held = refl; seated = refl; next = refl }
performed_same d m (op.Seat x room) = record { inputs = refl; held = refl; seated = refl; next = refl }
performed_same d m (op.Sound x kind) = record { inputs = refl; held = refl; seated = refl; next = with_tone_sounding_next m.world.holding x kind }
performed_same d m (op.Put x leg) = record { inputs = refl; held = refl; seated = refl; next = refl }
performed_same d m (op.Wait x leg p) = record { inputs = refl; held = refl; seated = refl; next = refl }
performed_same d m (op.Expect x leg message) = record { inputs = refl; held = refl; seated = refl; next = refl }
performed_same d m (op.Repeat h octets) = record { inputs = refl; held = refl; seated = refl; next = refl }
performed_same d m (op.Await x leg) = record { inputs = refl; held = refl; seated = refl; next = refl }
performed_same d m (op.Remove x condition) = record { inputs = refl; held = refl; seated = refl; next = refl }
performed_same d m (op.Send line message) = record { inputs = refl; held = refl; seated = refl; next = refl }

performed_all_same : (d : Dimensions) (m : Making) (os : List Operation) → SameFrames m.world (making_after_all d m os).world
performed_all_same d m [] = record { inputs = refl; held = refl; seated = refl; next = refl }
performed_all_same d m (o ∷ os) =
    let one = performed_same d m o in
    let rest = performed_all_same d (making_after d m o) os in
    record { inputs = rest.inputs ∙ one.inputs; held = rest.held ∙ one.held; seated = rest.seated ∙ one.seated; next = rest.next ∙ one.next }

either_same : (may : Bool) (w v : World) → SameFrames w v → SameFrames w (if may then v else w)
either_same true w v same = same
either_same false w v same = record { inputs = refl; held = refl; seated = refl; next = refl }

pub same_self : (w : World) → SameFrames w w
same_self w = record { inputs = refl; held = refl; seated = refl; next = refl }

pub then_same : (u v w : World) → SameFrames u v → SameFrames v w → SameFrames u w
then_same u v w one rest = record { inputs = rest.inputs ∙ one.inputs; held = rest.held ∙ one.held; seated = rest.seated ∙ one.seated; next = rest.next ∙ one.next }

received_same : (s : Setting) (w : World) (line : ℕ) (r : Request) → SameFrames w (outcome_for s w line r).making.world
received_same s w line (For_leg h m) = performed_all_same s.dimensions (making_at w) (course_of s w h m (act_on h.leg.state m)).operations
received_same s w line (New_call m) = performed_all_same s.dimensions (making_at w) (course_of_setup s w line m).operations
received_same s w line (On_no_call m) = performed_all_same s.dimensions (making_at w) (answer_back line (answer_without_call m))
received_same s w line (Restarts r) =
    each_below s.dimensions (restart_rule s.tones r) line w (λ a. SameFrames w a.making.world) (record { inputs = refl; held = refl; seated = refl; next = refl })
    (λ a place small same. then_same w a.making.world _ same (performed_all_same s.dimensions a.making (restart_slot s.tones r a.making.world.legs (record { line = line; place = place })))) 30 (omega arith)
received_same s w line (Confirms r) =
    each_below s.dimensions (confirm_rule r) line w (λ a. SameFrames w a.making.world) (record { inputs = refl; held = refl; seated = refl; next = refl })
    (λ a place small same. then_same w a.making.world _ same (performed_all_same s.dimensions a.making (confirm_slot r a.making.world.legs (record { line = line; place = place })))) 30 (omega arith)
received_same s w line Unanswered = record { inputs = refl; held = refl; seated = refl; next = refl }

linked_same : (s : Setting) (w : World) (down : Bool) (line : ℕ) → SameFrames w (outcome_of_link s.dimensions s.tones down line w).making.world
linked_same s w down line = linked_by s.dimensions s.tones down line w (SameFrames w) (λ whole.
    each_below s.dimensions (rule_of s.tones whole down) line (with_line w line down) (λ a. SameFrames w a.making.world) (record { inputs = refl; held = refl; seated = refl; next = refl })
    (λ a place small same. then_same w a.making.world _ same (performed_all_same s.dimensions a.making ((rule_of s.tones whole down).does a.making.world.legs (record { line = line; place = place })))) 30 (omega arith))

line_restart_same : (s : Setting) (w : World) (line : ℕ) → SameFrames w (outcome_of_line_restart s.dimensions s.tones line w).making.world
line_restart_same s w line =
    let condition = unanswered (is_down w.legs line) in
    line_restarted_by s.dimensions s.tones line w (SameFrames w)
    (each_below s.dimensions (give_up_rule s.tones condition) line w (λ a. SameFrames w a.making.world) (record { inputs = refl; held = refl; seated = refl; next = refl })
    (λ a place small same. then_same w a.making.world _ same (performed_all_same s.dimensions a.making (give_up_slot s.tones condition a.making.world.legs (record { line = line; place = place })))) 30 (omega arith))

pub SameFrames-next : (s : Setting) (w : World) (e : Event) → ((input : Input) → ¬ (e ≡ Frame input)) → SameFrames w (next s w e)
SameFrames-next s w (Nail x y) other = either_same (may_nail w x y) w (obey s.dimensions w (Connect x y)) (record { inputs = refl; held = refl; seated = refl; next = refl })
SameFrames-next s w (Seat x room) other = either_same (may_seat s.dimensions w x) w (obey s.dimensions w (Take_seat x room)) (record { inputs = refl; held = refl; seated = refl; next = refl })
SameFrames-next s w (Free x) other = either_same (is_nailed w x) w (obey s.dimensions w (Clear x)) (record { inputs = refl; held = refl; seated = refl; next = refl })
SameFrames-next s w (Message line octets) other = received_same s w line (request_of w.legs line octets)
SameFrames-next s w (LinkUp line) other = linked_same s w false line
SameFrames-next s w (LinkDown line) other = linked_same s w true line
SameFrames-next s w (RestartLine line) other = line_restart_same s w line
SameFrames-next s w (Frame input) other = absurd (other input refl)

-- what a frame does after its boundary leaves the frames as they are, this one among them
pub passed_same : (s : Setting) (w : World) (input : Input) → SameFrames (pass w input) (next s w (Frame input))
passed_same s w input =
    let f : ℕ = w.holding.next in
    each_line s f (pass w input) (λ a. SameFrames (pass w input) a.making.world) (record { inputs = refl; held = refl; seated = refl; next = refl })
    (λ a line small same. then_same (pass w input) a.making.world _ same (performed_all_same s.dimensions a.making (expire_slot s f a.making.world.legs (slot_looked_at f line)))) s.dimensions.external (omega arith)
