-- The three courses of a STATUS that reports a state: nothing, a leg whose flag is cleared, and a call that is cleared.
use Rattle.std.proofs.Common.{ℕ, Bool, true, false, List, [], ◌∷◌, ◌++◌, Some, if◌then◌else◌}
use Rattle.std.specs.Prelude.{◌==◌}
use Rattle.q931_codec.specs.CallStates.{active}
use Rattle.q931_codec.specs.Causes.{message_not_compatible_with_call_state}
use Rattle.q931_codec.specs.declared.message.Message.{Message}
use Rattle.call_states.specs.declared.act.Act.TheVariants as act
use Rattle.call_states.specs.declared.leg.HeldLeg.{HeldLeg}
use Rattle.exchange_events.specs.Sizes.{Setting}
use Rattle.call_profile.specs.ActCourse.{course_of, course_of_report}
use Rattle.call_profile.specs.Acts.{clear_with, peer_of, with_enquiry, with_peer}
use Rattle.call_profile.specs.Course.{only, nothing}
use Rattle.call_profile.specs.Operations.{Operation, Put}
use Rattle.call_profile.specs.World.{World}

-- the operations for the user's own state, and for another
abbrev pub state_agrees : HeldLeg → List Operation
state_agrees h = Put h.slot (with_enquiry false h.leg) ∷ []

abbrev pub state_differs : Setting → World → HeldLeg → List Operation
state_differs s w h = clear_with s.tones message_not_compatible_with_call_state h ++ with_peer (peer_of w.legs h.leg.peer) (clear_with s.tones message_not_compatible_with_call_state)

-- what holds of each of the three holds of the operations of the message
module _ (P : List Operation → Type 0) (s : Setting) (w : World) (h : HeldLeg) (m : Message) (reported : ℕ) (none : P []) (agrees : P (state_agrees h)) (differs : P (state_differs s w h)) where
  by_state : (same : Bool) → P (if same then only (state_agrees h) else record { operations = state_differs s w h; cause = Some message_not_compatible_with_call_state }).operations
  by_state true = agrees
  by_state false = differs

  by_flag : (asked : Bool) → P (if asked then course_of_report s w h reported else nothing).operations
  by_flag true = by_state (reported == active)
  by_flag false = none

  pub report_does : P (course_of s w h m (act.Report reported)).operations
  report_does = by_flag h.leg.enquired
