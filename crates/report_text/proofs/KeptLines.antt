-- What lines send matters to a frame's line alone.
use Rattle.std.proofs.Common.{◌≡◌, ℕ, Bool, true, false, not, if◌then◌else◌, List, Option, Some, None, refl}
use Rattle.circuit_model.specs.declared.channel.Slot.{Slot}
use Rattle.circuit_model.specs.FrameInput.{Input}
use Rattle.circuit_model.specs.Ports.{port_of, ports_with}
use Rattle.exchange_events.specs.declared.reply.Reply.{Reply}
use Rattle.exchange_events.specs.declared.trace.Event.{Event}
use Rattle.exchange_events.specs.declared.trace.Event.TheVariants.{Nail, Seat, Free, Message, Frame, LinkUp, LinkDown, RestartLine}
use Rattle.exchange_events.specs.Kept.{kept_of}
use Rattle.exchange_events.specs.Sizes.{Setting}
use Rattle.call_profile.specs.IdleSlots.{idle, is_nailed}
use Rattle.call_profile.specs.Step.{may_nail, reply}
use Rattle.call_profile.specs.World.{World, is_full, seat_reply}
use Rattle.report_text.specs.Report.{report_line}

module _ (rows : List (List ℕ)) (n : ℕ) where
  abbrev IsSame : List (List ℕ) → Reply → Type 0
  IsSame others r = report_line rows n (kept_of r) ≡ report_line others n (kept_of r)

  same_either : (others : List (List ℕ)) (b : Bool) (r q : Reply) → IsSame others r → IsSame others q → IsSame others (if b then r else q)
  same_either others true r q one other = one
  same_either others false r q one other = other

  same_seated : (others : List (List ℕ)) (s : Setting) (w : World) (x : Slot) (port : Option Slot) → IsSame others (seat_reply s.dimensions w.layout x port)
  same_seated others s w x None = refl
  same_seated others s w x (Some p) = refl

  -- two lists of rows give an event the same line, where they give it to a frame
  pub same_line : (s : Setting) (w : World) (others : Event → List (List ℕ)) (Known : Event → Type 0)
      → ((input : Input) → Known (Frame input) → IsSame (others (Frame input)) (reply s w (Frame input)))
      → (e : Event) → Known e → IsSame (others e) (reply s w e)
  same_line s w others Known frame (Nail x y) known = same_either (others (Nail x y)) (may_nail w x y) _ _ refl refl
  same_line s w others Known frame (Seat x room) known =
      let sent = others (Seat x room) in
      same_either sent (not (idle w x)) _ _ refl
      (same_either sent (is_full s.dimensions w) _ _ refl (same_seated sent s w x (port_of s.dimensions.external (ports_with x w.ports) x)))
  same_line s w others Known frame (Free x) known = same_either (others (Free x)) (is_nailed w x) _ _ refl refl
  same_line s w others Known frame (Message line octets) known = refl
  same_line s w others Known frame (LinkUp line) known = refl
  same_line s w others Known frame (LinkDown line) known = refl
  same_line s w others Known frame (RestartLine line) known = refl
  same_line s w others Known frame (Frame input) known = frame input known
