-- What permitted operations keep holds in every world that events make.
use Rattle.std.proofs.Common.{◌≡◌, ℕ, ◌*◌, ◌<◌, not, true, List, [], ◌∷◌, Option, refl, inl, inr, arith, Bool, false}
use Rattle.std.specs.Prelude.{All, count_by, is_none}
use Rattle.std.proofs.lemmas.Grind.{common_steps}
use Rattle.std.proofs.lemmas.List.Elements.{All-head, All-tail}
use Rattle.circuit_model.specs.declared.channel.Slot.{Slot}
use Rattle.circuit_model.specs.declared.circuit.Kind.{Kind}
use Rattle.circuit_model.specs.FrameInput.{Input}
use Rattle.circuit_model.specs.Circuits.{is_idle, is_member}
use Rattle.circuit_model.specs.Holding.{Connect, Seat, Clear, Valid}
use Rattle.circuit_model.specs.Extent.{IsExternal}
use Rattle.circuit_model.proofs.Slots.{true_or_false}
use Rattle.tone_rules.specs.declared.tones.Tones.{Tones}
use Rattle.exchange_events.specs.declared.trace.Event.{Event}
use Rattle.exchange_events.specs.declared.trace.Event.TheVariants.{Nail, Seat as Seat_event, Free, Message, Frame as Frame_event, LinkUp, LinkDown, RestartLine}
use Rattle.call_states.specs.Acts.{act_on}
use Rattle.clearing_rules.specs.declared.scope.Restart.{Restart}
use Rattle.clearing_rules.specs.UnknownReference.{answer_without_call}
use Rattle.number_plan.specs.declared.plan.Number.{Number}
use Rattle.call_states.specs.Conditions.{unanswered}
use Rattle.call_profile.specs.ActCourse.{course_of}
use Rattle.call_profile.specs.Calls.{Request, For_leg, New_call, On_no_call, Restarts, Confirms, Unanswered, request_of, answer_back, outcome_for}
use Rattle.call_profile.specs.Expiring.{slot_looked_at, expire_slot}
use Rattle.call_profile.specs.IdleSlots.{idle, is_nailed}
use Rattle.call_profile.specs.LegStanding.{CallsStand}
use Rattle.q931_codec.specs.Outgoing.{encoding}
use Rattle.call_profile.specs.Legs.{Legs, is_down, leg_at, with_leg, retransmitted_from, with_waiting, with_kept, without_leg, with_link}
use Rattle.call_profile.specs.Operations.{Operation, begun, Making, making_at, making_after, making_after_all, with_tone}
use Rattle.call_profile.specs.Operations as op
use Rattle.call_profile.specs.Permitted.{CanSeat}
use Rattle.call_profile.proofs.Permitted.{CanPair, CanSound, IsPermitted, ArePermitted}
use Rattle.call_profile.specs.Restarts.{MessageOutcome, confirm_rule, confirm_slot, outcome_below, restart_rule, restart_slot}
use Rattle.exchange_events.specs.Sizes.{Setting, Dimensions}
use Rattle.call_profile.specs.Setup.{course_of_setup}
use Rattle.exchange_events.specs.Sound.{Fits, IsPlanned}
use Rattle.call_profile.specs.Step.{may_nail, may_seat, next, world_after_all}
use Rattle.call_profile.specs.World.{World, obey, pass, is_full}
use Rattle.call_profile.proofs.ClearingLemmas.{Kept}
use Rattle.call_profile.proofs.CommandLemmas.{both_true, pass_kept}
use Rattle.call_profile.proofs.ExpiringLemmas.{slot_may, slot_fine, each_line, place_within}
use Rattle.call_profile.proofs.StandingLegLemmas.{happened_kept}
use Rattle.call_profile.proofs.PermittedLemmas.{act_may, call_may, answer_may}
use Rattle.call_profile.proofs.RestartedSlotLemmas.{each_below, line_restarted_by, linked_by}
use Rattle.call_profile.proofs.RestartLemmas.{slot_kept, slot_permitted}
use Rattle.call_profile.specs.LinkChanges.{give_up_rule, give_up_slot, outcome_of_line_restart, outcome_of_link, rule_of, with_line}
use Rattle.call_profile.proofs.LinkLemmas.{linked_kept, rule_kept, rule_may}
use Rattle.call_profile.proofs.ConfirmedSlotLemmas.{confirm_kept, confirm_may}
use Rattle.call_profile.proofs.GivenUpSlotLemmas.{give_up_kept, give_up_may}

-- a seat that is allowed finds fewer members than ports
room_left : (d : Dimensions) (w : World) → Valid d.bridges w.holding → not (is_full d w) ≡ true → count_by is_member w.holding.circuits < 30 * d.bridges
room_left d w valid free = grind (arith, common_steps, valid.seated, free)

-- ---- a property of worlds that permitted operations keep

pub record Keeps (d : Dimensions) (tones : Tones) (P : World → Type 0) : Type 0 where
  pub clear : (w : World) (x : Slot) → IsExternal d.external x → P w → P (obey d w (Clear x))
  pub pair : (w : World) (x y : Slot) → CanPair d w x y → P w → P (obey d w (Connect x y))
  pub seat : (w : World) (x : Slot) (room : ℕ) → CanSeat d w x → P w → P (obey d w (Seat x room))
  pub sound : (w : World) (x : Slot) (tone : Option Kind) → CanSound d tones w x tone → P w → P (record w { holding = with_tone w.holding x tone })
  pub legs : (w : World) (legs : Legs) → P w → P (record w { legs = legs })
  pub passes : (w : World) (input : Input) → P w → P (pass w input)

module _ (d : Dimensions) (tones : Tones) (plan : List Number) (P : World → Type 0) (keeps : Keeps d tones P) where
  performed : (m : Making) (o : Operation) → IsPermitted d tones plan m o → P m.world → P (making_after d m o).world
  performed m (op.Clear x) may holds = keeps.clear m.world x may holds
  performed m (op.Pair x y) may holds = keeps.pair m.world x y may holds
  performed m (op.Seat x room) may holds = keeps.seat m.world x room may holds
  performed m (op.Sound x kind) may holds = keeps.sound m.world x kind may holds
  performed m (op.Put x leg) may holds = keeps.legs m.world (with_leg m.world.legs x (begun m.world leg)) holds
  performed m (op.Wait x leg p) may holds = keeps.legs m.world (with_waiting m.world.legs x (begun m.world leg) p) holds
  performed m (op.Expect x leg message) may holds = keeps.legs m.world (with_kept m.world.legs x (begun m.world leg) (encoding message)) holds
  performed m (op.Repeat h octets) may holds = keeps.legs m.world (with_kept m.world.legs h.slot (retransmitted_from m.world.holding.next h.leg) octets) holds
  performed m (op.Await x leg) may holds = keeps.legs m.world (with_leg m.world.legs x (retransmitted_from m.world.holding.next leg)) holds
  performed m (op.Remove x condition) may holds = keeps.legs m.world (without_leg m.world.legs x condition) holds
  performed m (op.Send line message) may holds = holds

  pub performed_all : (m : Making) (os : List Operation) → ArePermitted d tones plan m os → P m.world → P (making_after_all d m os).world
  performed_all m [] may holds = holds
  performed_all m (o ∷ os) may holds = performed_all (making_after d m o) os may.1 (performed m o may.0 holds)

module _ (s : Setting) (P : World → Type 0) (keeps : Keeps s.dimensions s.tones P) where
  abbrev operated : (m : Making) (os : List Operation) → ArePermitted s.dimensions s.tones s.plan m os → P m.world → P (making_after_all s.dimensions m os).world
  operated = performed_all s.dimensions s.tones s.plan P keeps

  -- ---- a message

  module _ (w : World) (line : ℕ) (octets : List ℕ) (planned : IsPlanned s) (fits : Fits s.dimensions.external (Message line octets)) (stands : CallsStand s w) (holds : P w) where
    -- each slot that is restarted keeps the legs consistent, so that the next one can be
    abbrev restarts : Restart → MessageOutcome
    restarts r = outcome_below s.dimensions (restart_rule s.tones r) line w 30

    restarted : (r : Restart) → P (restarts r).making.world
    restarted r = (each_below s.dimensions (restart_rule s.tones r) line w (λ a. P a.making.world × Kept s.dimensions s.tones a.making.world) (holds, (stands.circuits, stands.legs)) (λ a place small k.
        let x : Slot = record { line = line; place = place } in (
          operated a.making (restart_slot s.tones r a.making.world.legs x) (slot_permitted s.dimensions s.tones r a.making x k.1 (fits.0, small) s.plan) k.0,
          slot_kept s.dimensions s.tones r a.making x k.1 (fits.0, small),
        )) 30 (omega arith)).0

    confirmed : (r : Restart) → P (outcome_below s.dimensions (confirm_rule r) line w 30).making.world
    confirmed r = (each_below s.dimensions (confirm_rule r) line w (λ a. P a.making.world × Kept s.dimensions s.tones a.making.world) (holds, (stands.circuits, stands.legs)) (λ a place small k.
        let x : Slot = record { line = line; place = place } in (
          operated a.making (confirm_slot r a.making.world.legs x) (confirm_may s.dimensions s.tones r a.making x k.1 (fits.0, small) s.plan) k.0,
          confirm_kept s.dimensions s.tones r a.making x k.1 (fits.0, small),
        )) 30 (omega arith)).0

    received : (r : Request) → request_of w.legs line octets ≡ r → P (outcome_for s w line r).making.world
    received (For_leg h m) is = operated (making_at w) (course_of s w h m (act_on h.leg.state m)).operations (act_may s w line octets planned fits stands h m is) holds
    received (New_call m) is = operated (making_at w) (course_of_setup s w line m).operations (call_may s w line octets planned fits stands m is) holds
    received (On_no_call m) is = operated (making_at w) (answer_back line (answer_without_call m)) (answer_may s w line octets planned fits stands m is) holds
    received (Restarts r) is = restarted r
    received (Confirms r) is = confirmed r
    received Unanswered is = holds

  -- ---- a frame

  turned : (w : World) (input : Input) → CallsStand s w → P w → P (next s w (Frame_event input))
  turned w input stands holds =
      let f : ℕ = w.holding.next in
      (each_line s f (pass w input) (λ a. P a.making.world × Kept s.dimensions s.tones a.making.world) (keeps.passes w input holds, pass_kept s w stands.circuits stands.legs input) (λ a line small k.
      let x : Slot = slot_looked_at f line in
      let within = place_within s.dimensions.external f line small in (
        operated a.making (expire_slot s f a.making.world.legs x) (slot_may s f a.making x k.1 within s.plan) k.0,
        slot_fine s f a.making x k.1 within,
      )) s.dimensions.external (omega arith)).0

  -- ---- a change of a data link

  linked : (w : World) (down : Bool) (line : ℕ) → line < s.dimensions.external → CallsStand s w → P w → P (outcome_of_link s.dimensions s.tones down line w).making.world
  linked w down line below stands holds = linked_by s.dimensions s.tones down line w P (λ whole.
      (each_below s.dimensions (rule_of s.tones whole down) line (with_line w line down) (λ a. P a.making.world × Kept s.dimensions s.tones a.making.world)
      (keeps.legs w (with_link w.legs line down) holds, linked_kept s.dimensions s.tones w line down (stands.circuits, stands.legs)) (λ a place small k.
      let x : Slot = record { line = line; place = place } in (
        operated a.making ((rule_of s.tones whole down).does a.making.world.legs x) (rule_may s.dimensions s.tones a.making x k.1 (below, small) whole down s.plan) k.0,
        rule_kept s.dimensions s.tones a.making x k.1 (below, small) whole down,
      )) 30 (omega arith)).0)

  -- ---- the exchange restarts a line

  line_restarted : (w : World) (line : ℕ) → line < s.dimensions.external → CallsStand s w → P w → P (outcome_of_line_restart s.dimensions s.tones line w).making.world
  line_restarted w line below stands holds =
      let condition = unanswered (is_down w.legs line) in
      line_restarted_by s.dimensions s.tones line w P
      (each_below s.dimensions (give_up_rule s.tones condition) line w (λ a. P a.making.world × Kept s.dimensions s.tones a.making.world) (holds, (stands.circuits, stands.legs)) (λ a place small k.
      let x : Slot = record { line = line; place = place } in (
        operated a.making (give_up_slot s.tones condition a.making.world.legs x) (give_up_may s.dimensions s.tones condition a.making x k.1 (below, small) s.plan) k.0,
        give_up_kept s.dimensions s.tones condition a.making x k.1 (below, small),
      )) 30 (omega arith)).0

  -- ---- an event

  happened : (w : World) (e : Event) → IsPlanned s → Fits s.dimensions.external e → CallsStand s w → P w → P (next s w e)
  happened w (Nail x y) planned fits stands holds = elim (true_or_false (may_nail w x y)) [
    | inl may ↦
        let both = both_true (idle w x) (idle w y) may in
        let at_x = both_true (is_idle w.holding.circuits x) (is_none (leg_at w.legs x)) both.0 in
        let at_y = both_true (is_idle w.holding.circuits y) (is_none (leg_at w.legs y)) both.1 in
        rw may (keeps.pair w x y (record { first = fits.first; second = fits.second; apart = fits.distinct; idle_first = at_x.0; idle_second = at_y.0 }) holds)
    | inr not_now ↦ rw not_now holds
  ]
  happened w (Seat_event x room) planned fits stands holds = elim (true_or_false (may_seat s.dimensions w x)) [
    | inl may ↦
        let both = both_true (idle w x) (not (is_full s.dimensions w)) may in
        let at_x = both_true (is_idle w.holding.circuits x) (is_none (leg_at w.legs x)) both.0 in
        rw may (keeps.seat w x room (record { within = fits; idle = at_x.0; free = room_left s.dimensions w stands.circuits both.1 }) holds)
    | inr not_now ↦ rw not_now holds
  ]
  happened w (Free x) planned fits stands holds = elim (true_or_false (is_nailed w x)) [
    | inl may ↦ rw may (keeps.clear w x fits holds)
    | inr not_now ↦ rw not_now holds
  ]
  happened w (Message line octets) planned fits stands holds = received w line octets planned fits stands holds (request_of w.legs line octets) refl
  happened w (LinkUp line) planned fits stands holds = linked w false line fits stands holds
  happened w (LinkDown line) planned fits stands holds = linked w true line fits stands holds
  happened w (RestartLine line) planned fits stands holds = line_restarted w line fits stands holds
  happened w (Frame_event input) planned fits stands holds = turned w input stands holds

  -- ---- a run

  pub run_keeps : (w : World) (es : List Event) → IsPlanned s → All (Fits s.dimensions.external) es → CallsStand s w → P w → P (world_after_all s w es)
  run_keeps w [] planned fits stands holds = holds
  run_keeps w (e ∷ es) planned fits stands holds =
      let fit = All-head (Fits s.dimensions.external) e es fits in
      run_keeps (next s w e) es planned (All-tail (Fits s.dimensions.external) e es fits) (happened_kept s w e planned fit stands) (happened w e planned fit stands holds)
