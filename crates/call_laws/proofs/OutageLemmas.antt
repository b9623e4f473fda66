-- T309 of a leg in active runs if and only if the data link of its line is down.
use Rattle.std.proofs.Common.{◌≡◌, ◌≢◌, ℕ, zero, suc, ◌*◌, ◌<◌, inl, inr, Bool, true, false, ◌&&◌, List, [], ◌∷◌, length, Option, Some, None, refl, sym, ◌∙◌, ap, subst, arith, eqb-true, set, get_or, get_or-set_same, get_or-set_other, if◌then◌else◌}
use Rattle.std.specs.Prelude.{◌==◌, not, All, slice_index_or, option_map, replicate}
use Rattle.std.proofs.lemmas.Grind.{common_steps}
use Rattle.std.proofs.lemmas.List.{length-replicate}
use Rattle.circuit_model.specs.declared.channel.Slot.{Slot}
use Rattle.circuit_model.specs.Extent.{IsExternal}
use Rattle.circuit_model.specs.FrameInput.{Input}
use Rattle.circuit_model.specs.Holding.{Connect, Seat as Take_seat, Clear}
use Rattle.circuit_model.proofs.Slots.{true_or_false}
use Rattle.control_memory.specs.Layout.{number_of, slot_numbered}
use Rattle.q931_codec.specs.Causes.{destination_out_of_order}
use Rattle.q931_codec.specs.CallStates.{active, overlap_sending, release_request}
use Rattle.q931_codec.specs.Contents.{call_state_in}
use Rattle.call_timers.specs.declared.expiry.Expiry.TheVariants as expiry
use Rattle.call_states.proofs.Causes.{cause_fits}
use Rattle.call_states.specs.Acts.{act_on, clearing_cause, is_among}
use Rattle.call_states.specs.Conditions.{is_owing, unanswered}
use Rattle.call_states.specs.declared.condition.Condition.{Condition}
use Rattle.call_states.specs.declared.condition.Condition.TheVariants.{Idle}
use Rattle.call_states.specs.declared.leg.Leg.{Leg}
use Rattle.call_states.specs.declared.leg.Peer.{Peer}
use Rattle.call_states.specs.declared.leg.Peer.TheVariants as peer
use Rattle.clearing_rules.specs.UnknownReference.{answer_without_call}
use Rattle.exchange_events.specs.declared.trace.Event.{Event}
use Rattle.exchange_events.specs.declared.trace.Event.TheVariants.{Nail, Seat, Free, Message, Frame, LinkUp, LinkDown, RestartLine}
use Rattle.exchange_events.specs.Sizes.{Setting, Dimensions}
use Rattle.exchange_events.specs.Sound.{Fits, IsPlanned}
use Rattle.call_profile.specs.ActCourse.{course_of}
use Rattle.call_profile.specs.Acts.{in_disconnect_indication, with_enquiry}
use Rattle.call_profile.specs.Calls.{Request, For_leg, New_call, On_no_call, Restarts, Confirms, Unanswered, request_of, answer_back, outcome_for}
use Rattle.call_laws.specs.Dropped.{HasLine, left_by_failure, waiting_for_link}
use Rattle.call_profile.specs.Expiring.{due_of, expire_slot, slot_looked_at}
use Rattle.call_laws.specs.ExpiryBounds.{NoneIsLost}
use Rattle.call_profile.specs.IdleSlots.{is_nailed, lowest_called, lowest_idle_beside}
use Rattle.call_profile.specs.Legs.{Legs, condition_at, is_down, retransmitted_from, leg_at, no_legs, is_owed}
use Rattle.call_profile.specs.LegStanding.{CallsStand}
use Rattle.call_profile.specs.LinkChanges.{being_cleared, give_up_rule, give_up_slot}
use Rattle.call_profile.specs.Operations.{begun, making_at}
use Rattle.call_laws.specs.Outages.{OutagesStand, NoLinkIsDown, HasNoFailure, IsOnLineUp, enquired_in}
use Rattle.call_profile.specs.Restarts.{confirm_rule, confirm_slot, restart_slot, restart_rule}
use Rattle.call_laws.specs.Resumed.{resumed, resumed_on}
use Rattle.call_profile.specs.Setup.{refusal, course_of_setup, called_slot}
use Rattle.call_profile.specs.Step.{next, may_nail, may_seat, world_after_all}
use Rattle.call_profile.specs.World.{World, start, obey, pass}
use Rattle.call_profile.proofs.ConfirmedSlotLemmas.{at_confirmed}
use Rattle.call_laws.proofs.DroppedLineLemmas.{others_are_gone, cleared_stay, none_stay, active_wait, other_lines_are_left}
use Rattle.call_profile.proofs.EntryLemmas.{get_or-bare}
use Rattle.call_profile.proofs.ExpiringLemmas.{each_line, place_within}
use Rattle.call_laws.proofs.LinkedLegLemmas.{Follows, follows_always, MayAll, Wait, performed_all, restart_may, give_up_starts, expire_may, back_may, course_may, setup_may, due_awaits}
use Rattle.call_laws.proofs.LinkStateLemmas.{next_links, links_after, length-next_links, none_fails}
use Rattle.call_profile.proofs.MessageToLegLemmas.{Asked-act_of}
use Rattle.call_profile.proofs.NamedLegLemmas.{received_stands}
use Rattle.call_profile.proofs.RestartedSlotLemmas.{each_below, line_restarted_by}
use Rattle.call_laws.proofs.ResumedLineLemmas.{legs_are_resumed}
use Rattle.call_profile.proofs.StandingLegLemmas.{start_stands, happened_kept, run_stands}
use Rattle.call_laws.proofs.OwedEventLemmas.{next_owed}
use Rattle.call_profile.proofs.CommandLemmas.{both_true}
use Rattle.call_profile.proofs.SetupLemmas.{called_is, lowest_idle_beside_hunted_on}
use Rattle.number_plan.specs.declared.target.Found.{Found}
use Rattle.number_plan.specs.declared.target.Found.TheVariants.{Line, Lines, Room, More, Nothing}
use Rattle.call_laws.proofs.ConditionCountLemmas.{next_conditions}

-- ---- what the invariant says of a leg

module _ (external : ℕ) (legs : Legs) where
  abbrev FollowAll : Type 0
  FollowAll = (z : Slot) (l : Leg) → IsExternal external z → leg_at legs z ≡ Some l → Follows (is_down legs z.line) l

  resent_by : (down : Bool) (leg : Leg) → (leg.state ≡ active → leg.resent ≡ true → down ≡ true) → (leg.state ≡ active → down ≡ true → leg.resent ≡ true)
      → leg.state ≡ active → leg.resent ≡ down
  resent_by true leg only runs is = runs is refl
  resent_by false leg only runs is = never leg.resent refl where
    never : (b : Bool) → leg.resent ≡ b → b ≡ false
    never true same = let wrong = only is same in absurd cc
    never false same = refl

  pub follow_all : OutagesStand external legs → FollowAll
  follow_all stands z l in_z at = (
    resent_by (is_down legs z.line) l (λ is runs. stands.waits z l in_z at (is, runs)) (λ is down. (stands.runs z l in_z at is down).1),
    (λ is asked. (stands.enquiries z l in_z at asked).up is),
    (λ asked. (stands.enquiries z l in_z at asked).states),
  )

  abbrev OnlyDown : Type 0
  OnlyDown = (z : Slot) → IsExternal external z → is_owed legs z ≡ true → is_down legs z.line ≡ true

  pub outages_by : length legs.down ≡ external → length legs.conditions ≡ 30 * external → FollowAll → OnlyDown → OutagesStand external legs
  outages_by links conditions all owed = record {
    links = links;
    conditions = conditions;
    waits = λ x leg in_x at awaits. sym ((all x leg in_x at).0 awaits.0) ∙ awaits.1;
    runs = λ x leg in_x at is down. (is, (all x leg in_x at).0 is ∙ down);
    enquiries = λ x leg in_x at asked. let follows = all x leg in_x at in record { states = follows.2 asked; up = λ is. follows.1 is asked };
    owed = owed;
  }

-- ---- an event

module _ (s : Setting) (w : World) (stands : CallsStand s w) (wait : Wait s.dimensions w.legs.down w.legs) where
  abbrev d : Dimensions
  d = s.dimensions

  abbrev Now : List Bool → World → Type 0
  Now links v = Wait d links v.legs

  received : (line : ℕ) (octets : List ℕ) → line < d.external → (r : Request) → request_of w.legs line octets ≡ r
      → Now w.legs.down (outcome_for s w line r).making.world
  received line octets below (For_leg h m) is =
      let named = received_stands w.legs line octets h m is in
      let within : IsExternal d.external h.slot = (subst (λ n. n < d.external) (sym named.among.0) below, named.among.1) in
      performed_all d w.legs.down (making_at w) (course_of s w h m (act_on h.leg.state m)).operations
      (course_may s w stands.legs h within named.at wait m (act_on h.leg.state m)
      (Asked-act_of h.leg.state m.kind (clearing_cause m.elements) (call_state_in m.elements) (cause_fits m.elements))) wait
  received line octets below (New_call m) is = performed_all d w.legs.down (making_at w) (course_of_setup s w line m).operations
      (setup_may s w line m (refusal s w line m)) wait
  received line octets below (On_no_call m) is = performed_all d w.legs.down (making_at w) (answer_back line (answer_without_call m))
      (back_may d w.legs.down line (answer_without_call m)) wait
  received line octets below (Restarts r) is =
      each_below d (restart_rule s.tones r) line w (λ a. Wait d w.legs.down a.making.world.legs) wait (λ a place small so_far.
      let x : Slot = record { line = line; place = place } in
      performed_all d w.legs.down a.making (restart_slot s.tones r a.making.world.legs x)
      (restart_may d w.legs.down s.tones r a.making.world.legs x) so_far) 30 (omega arith)
  received line octets below (Confirms r) is =
      each_below d (confirm_rule r) line w (λ a. Wait d w.legs.down a.making.world.legs) wait (λ a place small so_far.
      let x : Slot = record { line = line; place = place } in
      performed_all d w.legs.down a.making (confirm_slot r a.making.world.legs x)
      (at_confirmed r a.making.world.legs x (MayAll d w.legs.down) tt (λ none. (tt, tt))) so_far) 30 (omega arith)
  received line octets below Unanswered is = wait

  turned : (input : Input) → Now w.legs.down (next s w (Frame input))
  turned input =
      let f : ℕ = w.holding.next in
      each_line s f (pass w input) (λ a. Wait d w.legs.down a.making.world.legs) wait (λ a line small so_far.
      let x : Slot = slot_looked_at f line in
      performed_all d w.legs.down a.making (expire_slot s f a.making.world.legs x)
      (expire_may d w.legs.down s f a.making.world.legs x (place_within d.external f line small) so_far) so_far) d.external (omega arith)

  -- ---- a change of a data link

  module _ (line : ℕ) (can : HasLine s w line) (size : length w.legs.down ≡ d.external) where
    links_here : (down : Bool) (z : Slot) → z.line ≡ line → slice_index_or (set w.legs.down line down) z.line false ≡ down
    links_here down z on = ap (λ (n : ℕ). slice_index_or (set w.legs.down line down) n false) on
        ∙ get_or-set_same w.legs.down line down false (let below = can.line_exists in omega (arith, below, size))

    links_else : (down : Bool) (z : Slot) → z.line ≢ line → slice_index_or (set w.legs.down line down) z.line false ≡ slice_index_or w.legs.down z.line false
    links_else down z off = get_or-set_other w.legs.down line z.line down false off

    -- a leg that is as it was, on another line
    unmoved : (down : Bool) (z : Slot) (l : Leg) → IsExternal d.external z → z.line ≢ line → leg_at w.legs z ≡ Some l
        → Follows (slice_index_or (set w.legs.down line down) z.line false) l
    unmoved down z l in_z off at = subst (λ (b : Bool). Follows b l) (sym (links_else down z off)) (wait z l in_z at)

    same_leg : (v : World) (z : Slot) (new leg : Leg) → leg_at v.legs z ≡ Some new → leg_at v.legs z ≡ Some leg → new ≡ leg
    same_leg v z new leg is at = let e : Some new ≡ Some leg = sym is ∙ at in cc

    -- the link fails
    abbrev failed : World
    failed = next s w (LinkDown line)

    waiting_follows : (l : Leg) → Follows (slice_index_or w.legs.down line false) l → l.state ≡ active → Follows true (waiting_for_link w l)
    waiting_follows l old is = by l.resent refl where
      by : (b : Bool) → l.resent ≡ b → Follows true (if b then l else retransmitted_from w.holding.next (with_enquiry false l))
      by true same =
          let down : slice_index_or w.legs.down line false ≡ true = sym (old.0 is) ∙ same in
          ((λ up. same), (λ up asked. let wrong : true ≡ false = sym down ∙ old.1 is asked in absurd cc), old.2)
      by false same = ((λ up. refl), (λ up asked. absurd cc), (λ asked. absurd cc))

    cut_follows : (down : Bool) (l : Leg) → Follows down (begun w (in_disconnect_indication destination_out_of_order l))
    cut_follows down l = ((λ e. absurd cc), (λ e asked. absurd cc), (λ asked. refl))

    left_follows : (z : Slot) (l : Leg) → IsExternal d.external z → z.line ≢ line → leg_at w.legs z ≡ Some l → (p : Peer)
        → Follows (slice_index_or (set w.legs.down line true) z.line false) (left_by_failure line w l p)
    left_follows z l in_z off at peer.Alone = unmoved true z l in_z off at
    left_follows z l in_z off at (peer.Leg y) = by ((y.line == line) && not (l.state == active)) where
      by : (b : Bool) → Follows (slice_index_or (set w.legs.down line true) z.line false)
          (if b then begun w (in_disconnect_indication destination_out_of_order l) else l)
      by true = cut_follows (slice_index_or (set w.legs.down line true) z.line false) l
      by false = unmoved true z l in_z off at
    left_follows z l in_z off at (peer.Room room) = unmoved true z l in_z off at

    goes_always : (l : Leg) → is_among being_cleared l.state ≡ true → l.state ≢ active
    goes_always l clears is = grind (arith, common_steps, clears, is)

    failed_on : (z : Slot) (l leg : Leg) → IsExternal d.external z → z.line ≡ line → leg_at w.legs z ≡ Some l → leg_at failed.legs z ≡ Some leg
        → Follows true leg
    failed_on z l leg in_z on at now =
        let old : Follows (slice_index_or w.legs.down line false) l = subst (λ (n : ℕ). Follows (slice_index_or w.legs.down n false) l) on (wait z l in_z at) in
        elim (true_or_false (l.state == active)) [
          | inl up ↦
              let is = eqb-true l.state active up in
              subst (Follows true) (same_leg failed z (waiting_for_link w l) leg (active_wait s w line can z l in_z on at is) now) (waiting_follows l old is)
          | inr not_up ↦ elim (true_or_false (is_among being_cleared l.state)) [
            | inl clears ↦
                subst (Follows true) (same_leg failed z l leg (cleared_stay s w line can z l in_z on at clears) now)
                (follows_always true l (goes_always l clears, old.2))
            | inr goes ↦
                let none = others_are_gone s w line can z l in_z on at (λ is. grind (arith, common_steps, not_up, is)) goes in
                let wrong : None ≡ Some leg = sym none ∙ now in
                absurd cc
          ]
        ]

    failed_by : (z : Slot) (leg : Leg) (o : Option Leg) → IsExternal d.external z → leg_at w.legs z ≡ o → leg_at failed.legs z ≡ Some leg
        → Follows (slice_index_or (set w.legs.down line true) z.line false) leg
    failed_by z leg None in_z none now = let wrong : None ≡ Some leg = sym (none_stay s w line can z in_z none) ∙ now in absurd cc
    failed_by z leg (Some l) in_z at now = elim (true_or_false (z.line == line)) [
      | inl same ↦
          let on = eqb-true z.line line same in
          subst (λ (b : Bool). Follows b leg) (sym (links_here true z on)) (failed_on z l leg in_z on at now)
      | inr apart ↦
          let off : z.line ≢ line = λ is. grind (arith, common_steps, apart, is) in
          subst (Follows (slice_index_or (set w.legs.down line true) z.line false))
          (same_leg failed z (left_by_failure line w l l.peer) leg (other_lines_are_left s w line can z l in_z off at) now)
          (left_follows z l in_z off at l.peer)
    ]

    dropped : Now (set w.legs.down line true) failed
    dropped z leg in_z now = failed_by z leg (leg_at w.legs z) in_z refl now

    -- the link is established
    abbrev raised : World
    raised = next s w (LinkUp line)

    resumed_follows : (l : Leg) → Follows (slice_index_or w.legs.down line false) l → Follows false (resumed w l)
    resumed_follows l old = elim (true_or_false (l.state == active)) [
      | inl up ↦ rw up ((λ is. refl), (λ is asked. refl), (λ asked. ap (is_among enquired_in) (eqb-true l.state active up)))
      | inr not_up ↦ elim (true_or_false (l.state == overlap_sending)) [
        | inl dials ↦ rw (not_up, dials) ((λ e. absurd cc), (λ e asked. refl), (λ asked. refl))
        | inr other ↦ elim (true_or_false (l.state == release_request)) [
          | inl clears ↦ rw (not_up, other, clears) ((λ is. absurd (grind (arith, common_steps, not_up, is))), (λ is asked. refl), old.2)
          | inr quiet ↦ rw (not_up, other, quiet) ((λ is. absurd (grind (arith, common_steps, not_up, is))), (λ is asked. refl), old.2)
        ]
      ]
    ]

    raised_on : (z : Slot) (l : Leg) → IsExternal d.external z → leg_at w.legs z ≡ Some l
        → Follows (slice_index_or (set w.legs.down line false) z.line false) (resumed_on line w z l)
    raised_on z l in_z at = elim (true_or_false (z.line == line)) [
      | inl same ↦
          let on = eqb-true z.line line same in
          let old : Follows (slice_index_or w.legs.down line false) l =
          subst (λ (n : ℕ). Follows (slice_index_or w.legs.down n false) l) on (wait z l in_z at) in
          subst (λ (b : Bool). Follows b (resumed_on line w z l)) (sym (links_here false z on))
          (subst (λ (b : Bool). Follows false (if b then resumed w l else l)) (sym same) (resumed_follows l old))
      | inr apart ↦
          let off : z.line ≢ line = λ is. grind (arith, common_steps, apart, is) in
          subst (λ (b : Bool). Follows (slice_index_or (set w.legs.down line false) z.line false) (if b then resumed w l else l)) (sym apart)
          (unmoved false z l in_z off at)
    ]

    raised_by : (z : Slot) (leg : Leg) (o : Option Leg) → IsExternal d.external z → leg_at w.legs z ≡ o → option_map (resumed_on line w z) o ≡ Some leg
        → Follows (slice_index_or (set w.legs.down line false) z.line false) leg
    raised_by z leg None in_z at is = absurd cc
    raised_by z leg (Some l) in_z at is = let same : resumed_on line w z l ≡ leg = cc in
        subst (Follows (slice_index_or (set w.legs.down line false) z.line false)) same (raised_on z l in_z at)

    established : Now (set w.legs.down line false) raised
    established z leg in_z at = raised_by z leg (leg_at w.legs z) in_z refl (sym (legs_are_resumed s w line can z in_z) ∙ at)

  -- ---- the exchange restarts a line

  line_restarted : (line : ℕ) → Now w.legs.down (next s w (RestartLine line))
  line_restarted line =
      let condition : Condition = unanswered (is_down w.legs line) in
      line_restarted_by d s.tones line w (Now w.legs.down)
      (each_below d (give_up_rule s.tones condition) line w (λ a. Wait d w.legs.down a.making.world.legs) wait (λ a place small so_far.
      let x : Slot = record { line = line; place = place } in
      performed_all d w.legs.down a.making (give_up_slot s.tones condition a.making.world.legs x)
      (give_up_starts d w.legs.down s.tones condition a.making.world.legs x) so_far) 30 (omega arith))

  -- ---- every event

  either_waits : (b : Bool) (u v : World) → Now w.legs.down u → Now w.legs.down v → Now w.legs.down (if b then u else v)
  either_waits true u v one other = one
  either_waits false u v one other = other

  next_waits : (e : Event) → Fits d.external e → length w.legs.down ≡ d.external → Now (links_after w.legs.down e) (next s w e)
  next_waits (Nail x y) fits size = either_waits (may_nail w x y) (obey d w (Connect x y)) w wait wait
  next_waits (Seat x room) fits size = either_waits (may_seat d w x) (obey d w (Take_seat x room)) w wait wait
  next_waits (Free x) fits size = either_waits (is_nailed w x) (obey d w (Clear x)) w wait wait
  next_waits (Message line octets) fits size = received line octets fits.0 (request_of w.legs line octets) refl
  next_waits (LinkUp line) fits size = established line (record { stands = stands; line_exists = fits }) size
  next_waits (LinkDown line) fits size = dropped line (record { stands = stands; line_exists = fits }) size
  next_waits (RestartLine line) fits size = line_restarted line
  next_waits (Frame input) fits size = turned input

pub outages_kept : (s : Setting) (w : World) (e : Event) → Fits s.dimensions.external e → CallsStand s w → OutagesStand s.dimensions.external w.legs
    → OutagesStand s.dimensions.external (next s w e).legs
outages_kept s w e fits stands outages =
    let links = next_links s w e in
    let wait = follow_all s.dimensions.external w.legs outages in
    let all = next_waits s w stands wait e fits outages.links in
    let owed = next_owed s w stands outages.owed outages.conditions wait e fits outages.links in
    outages_by s.dimensions.external (next s w e).legs (length-next_links s w e outages.links) (next_conditions s w e ∙ outages.conditions)
    (λ z l in_z at. subst (λ (bs : List Bool). Follows (slice_index_or bs z.line false) l) (sym links) (all z l in_z at))
    (λ z in_z is. ap (λ (bs : List Bool). slice_index_or bs z.line false) links ∙ owed z in_z is)

-- ---- a run

none_at : (external : ℕ) (x : Slot) (leg : Leg) → leg_at (no_legs external) x ≡ Some leg → ⊥
none_at external x leg at = let e : None ≡ Some leg = sym (get_or-bare Leg (30 * external) (number_of x)) ∙ at in cc

all_idle : (size n : ℕ) → slice_index_or (replicate size Idle) n Idle ≡ Idle
all_idle zero n = refl
all_idle (suc size) zero = refl
all_idle (suc size) (suc n) = all_idle size n

pub start_outages : (s : Setting) → OutagesStand s.dimensions.external (start s.dimensions).legs
start_outages s = record {
  links = length-replicate s.dimensions.external false;
  conditions = length-replicate (30 * s.dimensions.external) Idle;
  waits = λ x leg in_x at awaits. absurd (none_at s.dimensions.external x leg at);
  runs = λ x leg in_x at is down. absurd (none_at s.dimensions.external x leg at);
  enquiries = λ x leg in_x at asked. absurd (none_at s.dimensions.external x leg at);
  owed = λ x in_x owed.
      let owing = (both_true (is_owing (condition_at (no_legs s.dimensions.external) x)) _ owed).0 in
      let wrong : false ≡ true = sym (ap is_owing (all_idle (30 * s.dimensions.external) (number_of x))) ∙ owing in
      absurd cc;
}

run_outages : (s : Setting) (w : World) (es : List Event) → IsPlanned s → All (Fits s.dimensions.external) es → CallsStand s w
    → OutagesStand s.dimensions.external w.legs → OutagesStand s.dimensions.external (world_after_all s w es).legs
run_outages s w [] planned fits stands outages = outages
run_outages s w (e ∷ es) planned fits stands outages =
    let can = fits 0 e (omega arith) in
    run_outages s (next s w e) es planned (λ k d inside. fits (suc k) d (omega (arith, inside))) (happened_kept s w e planned can stands)
    (outages_kept s w e can stands outages)

pub outages_stand : (s : Setting) (es : List Event) → IsPlanned s → All (Fits s.dimensions.external) es
    → OutagesStand s.dimensions.external (world_after_all s (start s.dimensions) es).legs
outages_stand s es planned fits = run_outages s (start s.dimensions) es planned fits (start_stands s) (start_outages s)

-- ---- T309 expires only where it runs

pub up_not_lost : (s : Setting) (w : World) (frame : ℕ) → OutagesStand s.dimensions.external w.legs → (x : Slot) (leg : Leg) → IsOnLineUp s w x leg
    → due_of s.timers frame leg ≢ Some expiry.Outage
up_not_lost s w frame outages x leg is due =
    let wrong : false ≡ true = sym is.up ∙ outages.waits x leg is.within is.at (due_awaits s.timers frame leg due) in
    cc

some_inside : (l : List (Option Leg)) (k : ℕ) (leg : Leg) → get_or l k None ≡ Some leg → k < length l
some_inside [] k leg at = absurd cc
some_inside (a ∷ rest) zero leg at = omega arith
some_inside (a ∷ rest) (suc k) leg at = let more = some_inside rest k leg at in omega (arith, more)

pub none_is_lost : (s : Setting) (w : World) (frame : ℕ) → CallsStand s w → OutagesStand s.dimensions.external w.legs → NoLinkIsDown w.legs
    → NoneIsLost s.timers frame w.legs
none_is_lost s w frame stands outages up x leg at is =
    let size = stands.legs.count in
    let n : ℕ = number_of x in
    let inside : n < length w.legs.held = some_inside w.legs.held n leg at in
    let y = slot_numbered n in
    let in_y : IsExternal s.dimensions.external y = (omega (arith, inside, size), omega arith) in
    let same : number_of y ≡ n = omega arith in
    let at_y : leg_at w.legs y ≡ Some leg = ap (λ (k : ℕ). slice_index_or w.legs.held k None) same ∙ at in
    up_not_lost s w frame outages y leg (record { within = in_y; at = at_y; up = up y.line }) is

pub never_lost : (s : Setting) (es : List Event) (frame : ℕ) → HasNoFailure s es → NoneIsLost s.timers frame (world_after_all s (start s.dimensions) es).legs
never_lost s es frame calm =
    none_is_lost s (world_after_all s (start s.dimensions) es) frame (run_stands s (start s.dimensions) es calm.planned calm.fits (start_stands s))
    (outages_stand s es calm.planned calm.fits) (none_fails s es calm)

-- ---- no call is offered on a channel that is owed a RESTART

lowest_is_up : (w : World) (x : Slot) (line : ℕ) (y : Slot) → lowest_called w x line ≡ Some y → is_down w.legs line ≡ false
lowest_is_up w x line y chosen = by (is_down w.legs line) refl where
  by : (b : Bool) → is_down w.legs line ≡ b → b ≡ false
  by true is = let wrong : None ≡ Some y = sym (ap (λ (b : Bool). if b then None else lowest_idle_beside w x line) is) ∙ chosen in absurd cc
  by false is = refl

offered_is_up : (w : World) (x : Slot) (t : Found) (y : Slot) → called_slot w x t ≡ Some y → is_down w.legs y.line ≡ false
offered_is_up w x (Line line) y chosen = ap (is_down w.legs) (called_is w x line y chosen).2.0 ∙ lowest_is_up w x line y chosen
offered_is_up w x (Lines lines) y chosen = lowest_is_up w x y.line y (lowest_idle_beside_hunted_on w x lines y chosen)
offered_is_up w x (Room room) y chosen = absurd cc
offered_is_up w x More y chosen = absurd cc
offered_is_up w x Nothing y chosen = absurd cc

pub offered_owes_none : (s : Setting) (w : World) → OutagesStand s.dimensions.external w.legs → (x : Slot) (t : Found) (y : Slot)
    → IsExternal s.dimensions.external y → called_slot w x t ≡ Some y
    → is_owed w.legs y ≡ false
offered_owes_none s w outages x t y in_y chosen = by (is_owed w.legs y) refl where
  by : (b : Bool) → is_owed w.legs y ≡ b → b ≡ false
  by true is = let wrong : false ≡ true = sym (offered_is_up w x t y chosen) ∙ outages.owed y in_y is in absurd cc
  by false is = refl
