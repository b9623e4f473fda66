-- Every event keeps a number pending exactly where a leg is in overlap sending, and a message kept exactly where a leg waits for the answer.
use Rattle.std.proofs.Common.{◌≡◌, ℕ, ◌*◌, inl, inr, Bool, true, false, List, [], ◌∷◌, Option, Some, None, refl, sym, ◌∙◌, subst, arith, length-set, if◌then◌else◌, ◌<◌}
use Rattle.std.specs.Prelude.{◌≤◌, IfSome, slice_set}
use Rattle.std.proofs.lemmas.List.{length-replicate}
use Rattle.circuit_model.specs.declared.channel.Slot.{Slot}
use Rattle.circuit_model.specs.FrameInput.{Input}
use Rattle.circuit_model.specs.Extent.{IsExternal}
use Rattle.control_memory.specs.Layout.{number_of}
use Rattle.number_plan.specs.declared.plan.Number.{Number}
use Rattle.q931_codec.specs.Outgoing.{encoding}
use Rattle.call_states.specs.Acts.{act_on}
use Rattle.call_states.specs.Conditions.{unanswered}
use Rattle.call_states.specs.declared.condition.Condition.{Condition}
use Rattle.call_states.specs.declared.leg.Leg.{Leg}
use Rattle.call_states.specs.declared.pending.Pending.{Pending}
use Rattle.clearing_rules.specs.UnknownReference.{answer_without_call}
use Rattle.tone_rules.specs.declared.tones.Tones.{Tones}
use Rattle.exchange_events.specs.declared.trace.Event.{Event}
use Rattle.exchange_events.specs.declared.trace.Event.TheVariants.{Nail, Seat, Free, Message, Frame, LinkUp, LinkDown, RestartLine}
use Rattle.exchange_events.specs.Sizes.{Setting, Dimensions}
use Rattle.exchange_events.specs.Sound.{Fits, IsPlanned}
use Rattle.call_profile.specs.ActCourse.{course_of}
use Rattle.call_profile.specs.Calls.{Request, For_leg, New_call, On_no_call, Restarts, Confirms, Unanswered, request_of, answer_back, outcome_for}
use Rattle.call_profile.specs.Expiring.{slot_looked_at, expire_slot}
use Rattle.call_profile.specs.IdleSlots.{is_nailed}
use Rattle.call_profile.specs.Legs.{Legs, is_down, waiting_from, retransmitted_from, leg_at, pending_at, no_legs, with_entry}
use Rattle.call_profile.specs.LegStanding.{CallsStand}
use Rattle.call_profile.specs.Operations as op
use Rattle.call_profile.specs.Operations.{Operation, Making, begun, with_legs, making_at, making_after, making_after_all}
use Rattle.call_profile.specs.Restarts.{confirm_rule, confirm_slot, restart_rule, restart_slot}
use Rattle.call_profile.specs.Setup.{course_of_setup}
use Rattle.call_profile.specs.Step.{next, may_nail, may_seat}
use Rattle.call_profile.specs.KeptMessages.{MayKeep, LegsWait}
use Rattle.call_profile.specs.Waiting.{IsWaiting, MayWait, NumbersPend}
use Rattle.call_profile.specs.World.{World, pass}
use Rattle.call_profile.proofs.BesideLemmas.{same_or_apart}
use Rattle.call_profile.proofs.EntryLemmas.{written, leg_here, pending_here, leg_else, pending_else, get_or-bare}
use Rattle.call_profile.proofs.ClearingLemmas.{Kept}
use Rattle.call_profile.proofs.CommandLemmas.{pass_kept}
use Rattle.call_profile.proofs.ExpiringLemmas.{slot_may, slot_fine, each_line, place_within}
use Rattle.call_profile.proofs.KeptMessageLemmas.{awaits_by, digits_keep_none, kept_from, kept_anew, kept_there, written_wait, wait_on}
use Rattle.call_profile.proofs.ToneLemmas.{with_tone_sounding_next}
use Rattle.call_profile.proofs.Permitted.{IsPermitted, ArePermitted}
use Rattle.call_profile.proofs.PermittedLemmas.{act_may, call_may, answer_may}
use Rattle.call_profile.proofs.RestartLemmas.{slot_kept, slot_permitted}
use Rattle.call_profile.proofs.RestartedSlotLemmas.{each_below, line_restarted_by, linked_by}
use Rattle.call_profile.specs.LinkChanges.{give_up_rule, give_up_slot, outcome_of_line_restart, outcome_of_link, rule_of, with_line}
use Rattle.call_profile.proofs.LinkLemmas.{linked_kept, rule_kept, rule_may}
use Rattle.call_profile.proofs.ConfirmedSlotLemmas.{confirm_kept, confirm_may}
use Rattle.call_profile.proofs.GivenUpSlotLemmas.{give_up_kept, give_up_may}

-- ---- one entry written

module _ (external : ℕ) (plan : List Number) (legs : Legs) (x : Slot) (pend : NumbersPend external plan legs) (in_x : IsExternal external x) (o : Option Leg) (p : Option Pending) (k : Option (List ℕ)) where
  abbrev now : Legs
  now = written legs x o p k

  written_pend : MayWait plan o p → NumbersPend external plan now
  written_pend may = record {
    legs_count = length-set legs.held (number_of x) o ∙ pend.legs_count;
    count = length-set legs.pending (number_of x) p ∙ pend.count;
    each = λ z in_z. elim (same_or_apart z x) [
      | inl same ↦
          subst (λ (y : Slot). MayWait plan (leg_at now y) (pending_at now y)) (sym same)
          (subst (λ (q : Option Leg). MayWait plan q (pending_at now x)) (sym (leg_here external legs x in_x o p k pend.legs_count)) (subst (MayWait plan o) (sym (pending_here external legs x in_x o p k pend.count)) may))
      | inr apart ↦
          subst (λ (q : Option Leg). MayWait plan q (pending_at now z)) (sym (leg_else external legs x in_x o p k z in_z apart))
          (subst (MayWait plan (leg_at legs z)) (sym (pending_else external legs x in_x o p k z in_z apart)) (pend.each z in_z))
    ];
  }

-- ---- what is done

-- what every event is to keep of the entries of slots
abbrev pub EntriesStand : ℕ → List Number → World → Type 0
EntriesStand external plan w = NumbersPend external plan w.legs × LegsWait external w.holding.next w.legs

-- which depends neither on the conditions of channels nor on the data links
pub flags_stand : (external : ℕ) (plan : List Number) (w : World) (conditions : List Condition) (down : List Bool) → EntriesStand external plan w → EntriesStand external plan (with_legs w (record w.legs { conditions = conditions; down = down }))
flags_stand external plan w conditions down stand = (
  record { legs_count = stand.0.legs_count; count = stand.0.count; each = stand.0.each },
  record { legs_count = stand.1.legs_count; count = stand.1.count; since = stand.1.since; each = stand.1.each },
)

waiting_begun : (plan : List Number) (next : ℕ) (leg : Leg) (p : Pending) → IsWaiting plan leg p → IsWaiting plan (waiting_from next leg) p
waiting_begun plan next leg p is = record { state = is.state; calls = is.calls; alone = is.alone; dialled = is.dialled; fits = is.fits }

module _ (d : Dimensions) (tones : Tones) (plan : List Number) where
  abbrev Stand : World → Type 0
  Stand w = EntriesStand d.external plan w

  -- a slot gets another entry
  entered : (w : World) (x : Slot) → IsExternal d.external x → Stand w → (o : Option Leg) (p : Option Pending) (k : Option (List ℕ)) → MayWait plan o p → IfSome o (λ leg. leg.since ≤ w.holding.next) → MayKeep o k
      → Stand (with_legs w (record w.legs { held = slice_set w.legs.held (number_of x) o; pending = slice_set w.legs.pending (number_of x) p; kept = slice_set w.legs.kept (number_of x) k }))
  entered w x in_x stand o p k waits since keeps = (
    written_pend d.external plan w.legs x stand.0 in_x o p k waits,
    written_wait d.external w.holding.next w.legs x stand.1 in_x o p k since keeps,
  )

  performed : (m : Making) (o : Operation) → IsPermitted d tones plan m o → Stand m.world → Stand (making_after d m o).world
  performed m (op.Clear x) may stand = stand
  performed m (op.Pair x y) may stand = stand
  performed m (op.Seat x room) may stand = stand
  performed m (op.Sound x kind) may stand = (stand.0, subst (λ next. LegsWait d.external next m.world.legs) (sym (with_tone_sounding_next m.world.holding x kind)) stand.1)
  performed m (op.Put x leg) may stand = entered m.world x may.0 stand (Some (begun m.world leg)) None None may.2 (omega arith) may.3
  performed m (op.Wait x leg p) may stand =
      entered m.world x may.0 stand (Some (begun m.world leg)) (Some p) None (waiting_begun plan m.world.holding.next leg p may.2) (omega arith) (digits_keep_none leg.state may.2.state)
  performed m (op.Expect x leg message) may stand =
      entered m.world x may.0 stand (Some (begun m.world leg)) None (Some (encoding message)) (awaits_by message.kind leg.state may.2.state).1 (omega arith) (kept_from m.world.holding.next leg message may.2)
  performed m (op.Repeat h octets) may stand =
      let keeps = kept_there d.external m.world.holding.next m.world.legs h.slot h.leg octets stand.1 may.0 may.1 may.2 in
      entered m.world h.slot may.0 stand (Some (retransmitted_from m.world.holding.next h.leg)) None (Some octets) (awaits_by keeps.message.kind h.leg.state keeps.awaited.state).1 (omega arith)
      (kept_anew m.world.holding.next h.leg octets keeps)
  performed m (op.Await x leg) may stand = entered m.world x may.0 stand (Some (retransmitted_from m.world.holding.next leg)) None None may.2 (omega arith) may.3
  performed m (op.Remove x condition) may stand = flags_stand d.external plan (with_legs m.world (with_entry m.world.legs x None)) _ _ (entered m.world x may stand None None None tt tt tt)
  performed m (op.Send line message) may stand = stand

  pub performed_all : (m : Making) (os : List Operation) → ArePermitted d tones plan m os → Stand m.world → Stand (making_after_all d m os).world
  performed_all m [] may stand = stand
  performed_all m (o ∷ os) may stand = performed_all (making_after d m o) os may.1 (performed m o may.0 stand)

-- ---- a message

module _ (s : Setting) (w : World) (line : ℕ) (octets : List ℕ) (planned : IsPlanned s) (fits : Fits s.dimensions.external (Message line octets)) (stands : CallsStand s w) where
  abbrev Stands : World → Type 0
  Stands v = EntriesStand s.dimensions.external s.plan v

  before : Stands w
  before = (stands.numbers, stands.waits)

  received : (r : Request) → request_of w.legs line octets ≡ r → Stands (outcome_for s w line r).making.world
  received (For_leg h m) is =
      performed_all s.dimensions s.tones s.plan (making_at w) (course_of s w h m (act_on h.leg.state m)).operations (act_may s w line octets planned fits stands h m is) before
  received (New_call m) is = performed_all s.dimensions s.tones s.plan (making_at w) (course_of_setup s w line m).operations (call_may s w line octets planned fits stands m is) before
  received (On_no_call m) is = performed_all s.dimensions s.tones s.plan (making_at w) (answer_back line (answer_without_call m)) (answer_may s w line octets planned fits stands m is) before
  received (Restarts r) is = (each_below s.dimensions (restart_rule s.tones r) line w (λ a. Stands a.making.world × Kept s.dimensions s.tones a.making.world) (before, (stands.circuits, stands.legs)) (λ a place small k.
      let x : Slot = record { line = line; place = place } in (
        performed_all s.dimensions s.tones s.plan a.making (restart_slot s.tones r a.making.world.legs x) (slot_permitted s.dimensions s.tones r a.making x k.1 (fits.0, small) s.plan) k.0,
        slot_kept s.dimensions s.tones r a.making x k.1 (fits.0, small),
      )) 30 (omega arith)).0
  received (Confirms r) is = (each_below s.dimensions (confirm_rule r) line w (λ a. Stands a.making.world × Kept s.dimensions s.tones a.making.world) (before, (stands.circuits, stands.legs)) (λ a place small k.
      let x : Slot = record { line = line; place = place } in (
        performed_all s.dimensions s.tones s.plan a.making (confirm_slot r a.making.world.legs x) (confirm_may s.dimensions s.tones r a.making x k.1 (fits.0, small) s.plan) k.0,
        confirm_kept s.dimensions s.tones r a.making x k.1 (fits.0, small),
      )) 30 (omega arith)).0
  received Unanswered is = before

-- ---- a frame

turn_stands : (s : Setting) (w : World) (input : Input) → CallsStand s w → EntriesStand s.dimensions.external s.plan (next s w (Frame input))
turn_stands s w input stands =
    let f : ℕ = w.holding.next in
    let passed : EntriesStand s.dimensions.external s.plan (pass w input) = (stands.numbers, wait_on s.dimensions.external f (pass w input).holding.next w.legs (omega arith) stands.waits) in
    (each_line s f (pass w input) (λ a. EntriesStand s.dimensions.external s.plan a.making.world × Kept s.dimensions s.tones a.making.world) (passed, pass_kept s w stands.circuits stands.legs input) (λ a line small k.
    let x : Slot = slot_looked_at f line in
    let within = place_within s.dimensions.external f line small in (
      performed_all s.dimensions s.tones s.plan a.making (expire_slot s f a.making.world.legs x) (slot_may s f a.making x k.1 within s.plan) k.0,
      slot_fine s f a.making x k.1 within,
    )) s.dimensions.external (omega arith)).0

-- ---- a change of a data link

link_stands : (s : Setting) (w : World) (down : Bool) (line : ℕ) → line < s.dimensions.external → CallsStand s w → EntriesStand s.dimensions.external s.plan (outcome_of_link s.dimensions s.tones down line w).making.world
link_stands s w down line below stands = linked_by s.dimensions s.tones down line w (EntriesStand s.dimensions.external s.plan) (λ whole.
    (each_below s.dimensions (rule_of s.tones whole down) line (with_line w line down) (λ a. EntriesStand s.dimensions.external s.plan a.making.world × Kept s.dimensions s.tones a.making.world)
    (flags_stand s.dimensions.external s.plan w _ _ (stands.numbers, stands.waits), linked_kept s.dimensions s.tones w line down (stands.circuits, stands.legs)) (λ a place small k.
    let x : Slot = record { line = line; place = place } in (
      performed_all s.dimensions s.tones s.plan a.making ((rule_of s.tones whole down).does a.making.world.legs x) (rule_may s.dimensions s.tones a.making x k.1 (below, small) whole down s.plan) k.0,
      rule_kept s.dimensions s.tones a.making x k.1 (below, small) whole down,
    )) 30 (omega arith)).0)

-- ---- the exchange restarts a line

line_stands : (s : Setting) (w : World) (line : ℕ) → line < s.dimensions.external → CallsStand s w → EntriesStand s.dimensions.external s.plan (outcome_of_line_restart s.dimensions s.tones line w).making.world
line_stands s w line below stands =
    let condition = unanswered (is_down w.legs line) in
    line_restarted_by s.dimensions s.tones line w (EntriesStand s.dimensions.external s.plan)
    (each_below s.dimensions (give_up_rule s.tones condition) line w (λ a. EntriesStand s.dimensions.external s.plan a.making.world × Kept s.dimensions s.tones a.making.world)
    ((stands.numbers, stands.waits), (stands.circuits, stands.legs)) (λ a place small k.
    let x : Slot = record { line = line; place = place } in (
      performed_all s.dimensions s.tones s.plan a.making (give_up_slot s.tones condition a.making.world.legs x) (give_up_may s.dimensions s.tones condition a.making x k.1 (below, small) s.plan) k.0,
      give_up_kept s.dimensions s.tones condition a.making x k.1 (below, small),
    )) 30 (omega arith)).0

-- ---- an event

either_stand : (external : ℕ) (plan : List Number) (b : Bool) (v w : World) → EntriesStand external plan v → EntriesStand external plan w → EntriesStand external plan (if b then v else w)
either_stand external plan true v w one other = one
either_stand external plan false v w one other = other

pub entries_stand : (s : Setting) (w : World) (e : Event) → IsPlanned s → Fits s.dimensions.external e → CallsStand s w → EntriesStand s.dimensions.external s.plan (next s w e)
entries_stand s w (Nail x y) planned fits stands = either_stand s.dimensions.external s.plan (may_nail w x y) _ w (stands.numbers, stands.waits) (stands.numbers, stands.waits)
entries_stand s w (Seat x room) planned fits stands = either_stand s.dimensions.external s.plan (may_seat s.dimensions w x) _ w (stands.numbers, stands.waits) (stands.numbers, stands.waits)
entries_stand s w (Free x) planned fits stands = either_stand s.dimensions.external s.plan (is_nailed w x) _ w (stands.numbers, stands.waits) (stands.numbers, stands.waits)
entries_stand s w (Message line octets) planned fits stands = received s w line octets planned fits stands (request_of w.legs line octets) refl
entries_stand s w (LinkUp line) planned fits stands = link_stands s w false line fits stands
entries_stand s w (LinkDown line) planned fits stands = link_stands s w true line fits stands
entries_stand s w (RestartLine line) planned fits stands = line_stands s w line fits stands
entries_stand s w (Frame input) planned fits stands = turn_stands s w input stands

-- ---- before the first event

pub none_pend : (external : ℕ) (plan : List Number) → NumbersPend external plan (no_legs external)
none_pend external plan = record {
  legs_count = length-replicate (30 * external) None;
  count = length-replicate (30 * external) None;
  each = λ x in_x.
      subst (λ (q : Option Leg). MayWait plan q (pending_at (no_legs external) x)) (sym (get_or-bare Leg (30 * external) (number_of x)))
      (subst (MayWait plan None) (sym (get_or-bare Pending (30 * external) (number_of x))) tt);
}
