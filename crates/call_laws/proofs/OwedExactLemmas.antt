-- For which channels exactly a RESTART is owed after a failure of a data link, after a frame, and after any other event.
use Rattle.std.proofs.Common.{◌≡◌, ℕ, ◌<◌, inl, inr, ◌*◌, Bool, true, false, ◌&&◌, ◌||◌, List, length, Option, Some, None, refl, sym, ◌∙◌, ap, arith, if◌then◌else◌}
use Rattle.std.specs.Prelude.{◌==◌, is_none, is_some, slice_index_or}
use Rattle.circuit_model.specs.declared.channel.Slot.{Slot}
use Rattle.circuit_model.specs.Extent.{IsExternal}
use Rattle.circuit_model.specs.FrameInput.{Input}
use Rattle.q931_codec.specs.CallStates.{active, release_request}
use Rattle.call_states.specs.Conditions.{is_owing, unanswered}
use Rattle.call_states.specs.declared.condition.Condition.{Condition}
use Rattle.call_states.specs.declared.condition.Condition.TheVariants.{Idle, Owed}
use Rattle.call_states.specs.declared.leg.Leg.{Leg}
use Rattle.call_timers.specs.declared.expiry.Expiry.{Expiry}
use Rattle.exchange_events.specs.declared.trace.Event.{Event}
use Rattle.exchange_events.specs.declared.trace.Event.TheVariants.{Nail, Seat, Free, Message, Frame, LinkUp, LinkDown, RestartLine}
use Rattle.exchange_events.specs.Sizes.{Setting, Dimensions}
use Rattle.exchange_events.specs.Sound.{Fits}
use Rattle.call_profile.specs.Calls.{after_message}
use Rattle.call_laws.specs.Dropped.{HasLine}
use Rattle.call_profile.specs.Expiring.{due_of, expire_slot, slot_looked_at}
use Rattle.call_profile.specs.IdleSlots.{is_nailed}
use Rattle.call_profile.specs.Legs.{Legs, is_down, is_owed, leg_at}
use Rattle.call_profile.specs.LegStanding.{CallsStand}
use Rattle.call_profile.specs.LinkChanges.{drop_leg, drop_slot, resume_slot, rule_of, with_line}
use Rattle.call_profile.specs.Operations.{Operation, Making}
use Rattle.call_laws.specs.OwedRestarts.{OwesNoMore, is_removed, is_untold}
use Rattle.call_profile.specs.Step.{next, may_nail, may_seat}
use Rattle.call_profile.specs.World.{World, obey, pass}
use Rattle.circuit_model.specs.Holding.{Connect, Seat as Take_seat, Clear}
use Rattle.call_profile.proofs.ClearingLemmas.{Kept}
use Rattle.call_profile.proofs.CommandLemmas.{pass_kept}
use Rattle.call_profile.proofs.ExpiringLemmas.{at_slot, each_line, place_within, slot_fine}
use Rattle.call_laws.proofs.ChannelConditionLemmas.{message_reads, was_read}
use Rattle.call_laws.proofs.ExpiryChangeLemmas.{due_since}
use Rattle.call_profile.proofs.ExpiryStateLemmas.{due_state}
use Rattle.call_profile.proofs.LinkLemmas.{at_held, linked_kept, rule_kept}
use Rattle.call_laws.proofs.LinkStateLemmas.{performed_all_down}
use Rattle.call_laws.proofs.OwedSlotLemmas.{Owes, owed_all, resume_owes}
use Rattle.call_laws.proofs.OwedTrackLemmas.{Tracks, TrackAll, drop_leg_tracks, expiry_tracks, given, read_exactly, tracked_all}
use Rattle.call_profile.proofs.RestartedSlotLemmas.{each_below, linked_by}

-- ---- a failure of a data link

-- the user of each removed leg is owed a RESTART
abbrev pub always : Slot → Leg → Condition
always z l = Owed

module _ (s : Setting) (w : World) (line : ℕ) (can : HasLine s w line) (count : length w.legs.conditions ≡ 30 * s.dimensions.external) where
  abbrev d : Dimensions
  d = s.dimensions

  abbrev failed : World
  failed = next s w (LinkDown line)

  begins : Tracks d w always (with_line w line true)
  begins = record {
    conditions = count;
    held = can.stands.legs.count;
    next = refl;
    empty = λ z in_z none. (none, refl);
    gone = λ z l in_z at none. let wrong : Some l ≡ None = sym at ∙ none in absurd cc;
    same = λ z k in_z at. inl at;
  }

  slot_tracks : (m : Making) (x : Slot) → Kept d s.tones m.world → IsExternal d.external x → Tracks d w always m.world
      → TrackAll d w always (drop_slot s.tones m.world.legs x)
  slot_tracks m x kept in_x t = at_held m.world.legs x (drop_leg s.tones m.world.legs) (TrackAll d w always) (λ none. tt)
      (λ leg at. drop_leg_tracks d w always s.tones m x leg kept in_x at t (λ z l. refl))

  pub tracked : Tracks d w always failed
  tracked = (each_below d (rule_of s.tones false true) line (with_line w line true) (λ a. Tracks d w always a.making.world × Kept d s.tones a.making.world)
      (begins, linked_kept d s.tones w line true (can.stands.circuits, can.stands.legs)) (λ a place small k.
      let x : Slot = record { line = line; place = place } in (
        tracked_all d w always a.making (drop_slot s.tones a.making.world.legs x) (slot_tracks a.making x k.1 (can.line_exists, small) k.0) k.0,
        rule_kept d s.tones a.making x k.1 (can.line_exists, small) false true,
      )) 30 (omega arith)).0

  removed_owes : (z : Slot) (o p : Option Leg) → ((is_some o && is_none p) && given d w always is_owing z o) ≡ (is_some o && is_none p)
  removed_owes z None p = refl
  removed_owes z (Some l) None = refl
  removed_owes z (Some l) (Some k) = refl

  pub owed_by_failure : (x : Slot) → IsExternal d.external x → is_owed failed.legs x ≡ (is_owed w.legs x || is_removed w failed x)
  owed_by_failure x in_x =
      read_exactly d w always is_owing failed tracked x in_x
      ∙ ap (λ (b : Bool). is_owed w.legs x || b) (removed_owes x (leg_at w.legs x) (leg_at failed.legs x))

-- ---- a frame

-- the condition of the channel of a leg in this state, if a timer removes it
abbrev pub condition_left : Legs → Slot → Leg → Condition
condition_left legs z l = if l.state == active then Owed else if l.state == release_request then unanswered (is_down legs z.line) else Idle

module _ (s : Setting) (w : World) (input : Input) (stands : CallsStand s w) (count : length w.legs.conditions ≡ 30 * s.dimensions.external) where
  abbrev frame : ℕ
  frame = w.holding.next

  abbrev passed : World
  passed = pass w input

  abbrev after_frame : World
  after_frame = next s w (Frame input)

  abbrev untold : Slot → Leg → Condition
  untold = condition_left w.legs

  starts : Tracks s.dimensions passed untold passed
  starts = record {
    conditions = count;
    held = stands.legs.count;
    next = refl;
    empty = λ z in_z none. (none, refl);
    gone = λ z l in_z at none. let wrong : Some l ≡ None = sym at ∙ none in absurd cc;
    same = λ z k in_z at. inl at;
  }

  turn_tracks : (m : Making) (x : Slot) → Kept s.dimensions s.tones m.world → IsExternal s.dimensions.external x → Tracks s.dimensions passed untold m.world
      → m.world.legs.down ≡ w.legs.down
      → TrackAll s.dimensions passed untold (expire_slot s frame m.world.legs x)
  turn_tracks m x kept in_x t down = at_slot s frame m.world.legs x (TrackAll s.dimensions passed untold) tt (λ leg e at due.
      expiry_tracks s.dimensions passed untold s.tones m x leg kept in_x at t (still leg e at due) (λ is. rw is refl) (λ is. rw is refl)
      (λ is. rw is (ap (λ (bs : List Bool). unanswered (slice_index_or bs x.line false)) (sym down)))
      e (due_state leg.state leg.resent leg.since frame s.timers e due))
    where
      still : (leg : Leg) (e : Expiry) → leg_at m.world.legs x ≡ Some leg → due_of s.timers frame leg ≡ Some e → leg_at passed.legs x ≡ Some leg
      still leg e at due = elim (t.same x leg in_x at) [
        | inl before ↦ before
        | inr late ↦ let early = due_since leg.state leg.resent leg.since frame s.timers e due in absurd (omega (arith, late, early))
      ]

  pub turned : Tracks s.dimensions passed untold after_frame
  turned = (each_line s frame passed (λ a. Tracks s.dimensions passed untold a.making.world × Kept s.dimensions s.tones a.making.world
      × (a.making.world.legs.down ≡ w.legs.down))
      (starts, pass_kept s w stands.circuits stands.legs input, refl) (λ a line small k.
      let x : Slot = slot_looked_at frame line in
      let in_x = place_within s.dimensions.external frame line small in
      let os : List Operation = expire_slot s frame a.making.world.legs x in (
        tracked_all s.dimensions passed untold a.making os (turn_tracks a.making x k.1 in_x k.0 k.2) k.0,
        slot_fine s frame a.making x k.1 in_x,
        performed_all_down s.dimensions a.making os ∙ k.2,
      )) s.dimensions.external (omega arith)).0

  owing_by : (up asked down : Bool) → is_owing (if up then Owed else if asked then unanswered down else Idle) ≡ (up || (asked && down))
  owing_by true asked down = refl
  owing_by false true true = refl
  owing_by false true false = refl
  owing_by false false down = refl

  untold_owes : (z : Slot) (o : Option Leg) → given s.dimensions passed untold is_owing z o ≡ is_untold w.legs z o
  untold_owes z None = refl
  untold_owes z (Some l) = owing_by (l.state == active) (l.state == release_request) (is_down w.legs z.line)

  pub owed_by_frame : (x : Slot) → IsExternal s.dimensions.external x
      → is_owed after_frame.legs x ≡ (is_owed w.legs x || (is_removed w after_frame x && is_untold w.legs x (leg_at w.legs x)))
  owed_by_frame x in_x =
      read_exactly s.dimensions passed untold is_owing after_frame turned x in_x
      ∙ ap (λ (b : Bool). is_owed w.legs x || (is_removed w after_frame x && b)) (untold_owes x (leg_at w.legs x))

-- ---- any other event

module _ (s : Setting) (w : World) (stands : CallsStand s w) where
  abbrev Was : Slot → Type 0
  Was z = is_owed w.legs z ≡ true

  abbrev NoMore : World → Type 0
  NoMore v = Owes s.dimensions Was v.legs

  same_owed : NoMore w
  same_owed z in_z owed = owed

  message_owes : (line : ℕ) (octets : List ℕ) → line < s.dimensions.external → NoMore (after_message s w line octets)
  message_owes line octets below z in_z owed =
      was_read (is_owed w.legs z) false (is_none (leg_at (after_message s w line octets).legs z))
      (sym ((message_reads s w stands line octets below).0 z in_z) ∙ owed)

  up_owes : (line : ℕ) → line < s.dimensions.external → NoMore (next s w (LinkUp line))
  up_owes line below = linked_by s.dimensions s.tones false line w NoMore (λ whole.
      (each_below s.dimensions (rule_of s.tones whole false) line (with_line w line false)
      (λ a. NoMore a.making.world × Kept s.dimensions s.tones a.making.world)
      (same_owed, linked_kept s.dimensions s.tones w line false (stands.circuits, stands.legs)) (λ a place small k.
      let x : Slot = record { line = line; place = place } in (
        owed_all s.dimensions Was a.making (resume_slot s.tones whole a.making.world.legs x)
            (resume_owes s.dimensions Was s.tones a.making x k.1 (below, small) whole) k.0,
        rule_kept s.dimensions s.tones a.making x k.1 (below, small) whole false,
      )) 30 (omega arith)).0)

  either_owes : (b : Bool) (u v : World) → NoMore u → NoMore v → NoMore (if b then u else v)
  either_owes true u v one other = one
  either_owes false u v one other = other

  pub owed_no_more : (e : Event) → Fits s.dimensions.external e → OwesNoMore e → NoMore (next s w e)
  owed_no_more (Nail x y) fits other = either_owes (may_nail w x y) (obey s.dimensions w (Connect x y)) w same_owed same_owed
  owed_no_more (Seat x room) fits other = either_owes (may_seat s.dimensions w x) (obey s.dimensions w (Take_seat x room)) w same_owed same_owed
  owed_no_more (Free x) fits other = either_owes (is_nailed w x) (obey s.dimensions w (Clear x)) w same_owed same_owed
  owed_no_more (Message line octets) fits other = message_owes line octets fits.0
  owed_no_more (LinkUp line) fits other = up_owes line fits
  owed_no_more (LinkDown line) fits other = absurd other
  owed_no_more (RestartLine line) fits other = absurd other
  owed_no_more (Frame input) fits other = absurd other
