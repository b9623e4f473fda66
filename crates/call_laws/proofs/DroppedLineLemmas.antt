-- What the failure of a data link leaves of the legs: slot by slot.
use Rattle.std.proofs.Common.{◌≡◌, ◌≢◌, ℕ, zero, suc, ◌<◌, ◌≤◌, ◌⊎◌, ◌&&◌, Bool, true, false, inl, inr, [], ◌∷◌, List, Option, Some, None, refl, sym, ◌∙◌, ap, subst, arith, eqb-true, if◌then◌else◌}
use Rattle.std.specs.Prelude.{IsTrue, nat_lt, not, ◌==◌, option_map}
use Rattle.std.proofs.lemmas.Grind.{common_steps}
use Rattle.circuit_model.specs.declared.channel.Slot.{Slot}
use Rattle.circuit_model.specs.Extent.{IsExternal}
use Rattle.circuit_model.proofs.Slots.{true_or_false}
use Rattle.q931_codec.specs.CallStates.{active}
use Rattle.q931_codec.specs.Causes.{destination_out_of_order}
use Rattle.call_states.specs.declared.leg.HeldLeg.{HeldLeg}
use Rattle.call_states.specs.declared.condition.Condition.TheVariants.{Owed}
use Rattle.call_states.specs.declared.leg.Leg.{Leg}
use Rattle.call_states.specs.declared.leg.Peer.{Peer}
use Rattle.call_states.specs.declared.leg.Peer.TheVariants as peer
use Rattle.call_states.specs.declared.leg.Side.{Side}
use Rattle.call_states.specs.declared.leg.Side.TheVariants.{Caller, Called}
use Rattle.tone_rules.specs.declared.tones.Tones.{Tones}
use Rattle.exchange_events.specs.Sizes.{Dimensions, Setting}
use Rattle.call_profile.specs.Acts.{in_disconnect_indication, with_enquiry}
use Rattle.call_laws.specs.Dropped.{HasLine, waiting_for_link, left_by_failure, OthersAreGone, ActiveWait, OtherLinesAreLeft, ClearedStay}
use Rattle.call_profile.specs.LegStanding.{HasPeer, IsInCall, are_matched}
use Rattle.call_profile.specs.Legs.{leg_at, retransmitted_from, waiting_from}
use Rattle.call_profile.specs.LinkChanges.{whole_line, drop_leg, drop_slot, rule_of, with_line, outcome_of_link, being_cleared}
use Rattle.call_profile.specs.Operations.{Operation, Making, Await, begun, making_after_all}
use Rattle.call_profile.specs.Restarts.{MessageOutcome, outcome_below, restarts_slot, restart_leg}
use Rattle.call_profile.specs.World.{World}
use Rattle.call_profile.proofs.BesideLemmas.{leg_at-with_entry_here, leg_at-with_entry_else, same_or_apart}
use Rattle.call_profile.proofs.ClearingLemmas.{Kept}
use Rattle.call_profile.proofs.LinkLemmas.{drop_slot_kept, linked_kept}
use Rattle.call_laws.proofs.RestartedLegLemmas.{peer_after, leg_done}
use Rattle.call_laws.proofs.RestartedLineLemmas.{was_restarted, same_where_apart, lt_true, lt_false, none_before, named_or_not}
use Rattle.call_profile.proofs.RestartedSlotLemmas.{below_none, below_more}
use Rattle.call_profile.proofs.VacantSlotLemmas.{same_parts}
use Rattle.call_states.specs.Acts.{is_among}

-- ---- both legs of a call are in active, or neither is

both_active : (t s : ℕ) → IsTrue (are_matched t s) → (t ≡ active → s ≡ active) × (s ≡ active → t ≡ active)
both_active t s matched = (λ is. grind (arith, common_steps, is, matched), λ is. grind (arith, common_steps, is, matched))

pub call_active : (side : Side) (x y : Slot) (leg other : Leg) → IsInCall side x leg y other → (leg.state ≡ active → other.state ≡ active) × (other.state ≡ active → leg.state ≡ active)
call_active Caller x y leg other call = both_active leg.state other.state call.matched
call_active Called x y leg other call = let both = both_active other.state leg.state call.matched in (both.1, both.0)

-- a leg of a call is not being cleared
both_go_on : (t s : ℕ) → IsTrue (are_matched t s) → (is_among being_cleared t ≡ false) × (is_among being_cleared s ≡ false)
both_go_on t s matched = (grind (arith, common_steps, matched), grind (arith, common_steps, matched))

pub call_goes_on : (side : Side) (x y : Slot) (leg other : Leg) → IsInCall side x leg y other → is_among being_cleared other.state ≡ false
call_goes_on Caller x y leg other call = (both_go_on leg.state other.state call.matched).1
call_goes_on Called x y leg other call = (both_go_on other.state leg.state call.matched).0

pub leg_goes_on : (side : Side) (x y : Slot) (leg other : Leg) → IsInCall side x leg y other → is_among being_cleared leg.state ≡ false
leg_goes_on Caller x y leg other call = (both_go_on leg.state other.state call.matched).0
leg_goes_on Called x y leg other call = (both_go_on other.state leg.state call.matched).1

-- nor is one in active
not_cleared : (state : ℕ) → state ≡ active → is_among being_cleared state ≡ true → ⊥
not_cleared state is clears = grind (arith, common_steps, is, clears)

-- ---- what one slot does

-- the legs after the slot, by those before it
record Drops (external line : ℕ) (u v : World) (x : Slot) : Type 0 where
  peers : (z : Slot) (l : Leg) → IsExternal external z → leg_at u.legs z ≡ Some l → l.peer ≡ peer.Leg x → l.state ≢ active → leg_at v.legs z ≡ peer_after whole_line destination_out_of_order line u.holding.next z l
  same : (z : Slot) → IsExternal external z → (z ≡ x → ⊥) → ((l : Leg) → leg_at u.legs z ≡ Some l → l.peer ≡ peer.Leg x → l.state ≡ active) → leg_at v.legs z ≡ leg_at u.legs z
  gone : (l : Leg) → leg_at u.legs x ≡ Some l → l.state ≢ active → is_among being_cleared l.state ≡ false → leg_at v.legs x ≡ None
  stays : (l : Leg) → leg_at u.legs x ≡ Some l → is_among being_cleared l.state ≡ true → leg_at v.legs x ≡ Some l
  waits : (l : Leg) → leg_at u.legs x ≡ Some l → l.state ≡ active → leg_at v.legs x ≡ Some (waiting_for_link u l)
  empty : leg_at u.legs x ≡ None → leg_at v.legs x ≡ None
  next : v.holding.next ≡ u.holding.next

module _ (d : Dimensions) (tones : Tones) (line : ℕ) (m : Making) (x : Slot) (on_line : x.line ≡ line) (kept : Kept d tones m.world) (in_x : IsExternal d.external x) where
  abbrev u : World
  u = m.world

  -- the states of a leg that names the slot, and of the leg there
  named_active : (z : Slot) (l : Leg) → IsExternal d.external z → leg_at u.legs z ≡ Some l → l.peer ≡ peer.Leg x → (leg : Leg) × (leg_at u.legs x ≡ Some leg) × (l.state ≡ active → leg.state ≡ active) × (leg.state ≡ active → l.state ≡ active) × (is_among being_cleared leg.state ≡ false)
  named_active z l in_z at_z names_x =
      let has = subst (HasPeer d.external u.legs z l) names_x (kept.1.each z l in_z at_z).peer in
      let both = call_active l.side z x l has.1.0 has.1.2 in
      (has.1.0, has.1.1, both.0, both.1, call_goes_on l.side z x l has.1.0 has.1.2)

  is_leg : (leg other : Leg) → leg_at u.legs x ≡ Some leg → leg_at u.legs x ≡ Some other → other ≡ leg
  is_leg leg other at also = let e : Some other ≡ Some leg = sym also ∙ at in cc

  none_drops : leg_at u.legs x ≡ None → Drops d.external line u u x
  none_drops none = record {
    peers = λ z l in_z at_z names_x quiet. let named = named_active z l in_z at_z names_x in let wrong : None ≡ Some named.0 = sym none ∙ named.1 in absurd cc;
    same = λ z in_z not_x active_if. refl;
    gone = λ l at quiet goes. let wrong : None ≡ Some l = sym none ∙ at in absurd cc;
    stays = λ l at clears. let wrong : None ≡ Some l = sym none ∙ at in absurd cc;
    waits = λ l at is. let wrong : None ≡ Some l = sym none ∙ at in absurd cc;
    empty = λ e. e;
    next = refl;
  }

  module _ (leg : Leg) (at : leg_at u.legs x ≡ Some leg) where
    abbrev h : HeldLeg
    h = record { slot = x; leg = leg }

    abbrev After : List Operation → World
    After os = (making_after_all d m os).world

    -- in active it waits
    started : leg.state ≡ active → (runs : Bool) → leg.resent ≡ runs → Drops d.external line u (After (if runs then [] else Await x (with_enquiry false leg) ∷ [])) x
    started is true runs = record {
      peers = λ z l in_z at_z names_x quiet.
          let named = named_active z l in_z at_z names_x in
          absurd (quiet (named.3 (ap (λ (k : Leg). k.state) (is_leg leg named.0 at named.1) ∙ is)));
      same = λ z in_z not_x active_if. refl;
      gone = λ l also quiet goes. absurd (quiet (ap (λ (k : Leg). k.state) (is_leg leg l at also) ∙ is));
      stays = λ l also clears. absurd (not_cleared l.state (ap (λ (k : Leg). k.state) (is_leg leg l at also) ∙ is) clears);
      waits = λ l also is_active. also ∙ ap (λ (k : Leg). Some k) (sym (ap (λ (b : Bool). if b then l else retransmitted_from u.holding.next (with_enquiry false l)) (ap (λ (k : Leg). k.resent) (is_leg leg l at also) ∙ runs)));
      empty = λ none. let wrong : None ≡ Some leg = sym none ∙ at in absurd cc;
      next = refl;
    }
    started is false runs = record {
      peers = λ z l in_z at_z names_x quiet.
          let named = named_active z l in_z at_z names_x in
          absurd (quiet (named.3 (ap (λ (k : Leg). k.state) (is_leg leg named.0 at named.1) ∙ is)));
      same = λ z in_z not_x active_if. leg_at-with_entry_else d.external u.legs x z (Some (retransmitted_from u.holding.next (with_enquiry false leg))) in_x in_z not_x;
      gone = λ l also quiet goes. absurd (quiet (ap (λ (k : Leg). k.state) (is_leg leg l at also) ∙ is));
      stays = λ l also clears. absurd (not_cleared l.state (ap (λ (k : Leg). k.state) (is_leg leg l at also) ∙ is) clears);
      waits = λ l also is_active.
          leg_at-with_entry_here d.external u.legs x (Some (retransmitted_from u.holding.next (with_enquiry false leg))) kept.1.count in_x
          ∙ ap (λ (k : Leg). Some (retransmitted_from u.holding.next (with_enquiry false k))) (sym (is_leg leg l at also))
          ∙ ap (λ (k : Leg). Some k) (sym (ap (λ (b : Bool). if b then l else retransmitted_from u.holding.next (with_enquiry false l)) (ap (λ (k : Leg). k.resent) (is_leg leg l at also) ∙ runs)));
      empty = λ none. let wrong : None ≡ Some leg = sym none ∙ at in absurd cc;
      next = refl;
    }

    not_eq : (state : ℕ) → (state == active) ≡ false → state ≢ active
    not_eq state not_up is = grind (arith, common_steps, not_up, is)

    -- one that is being cleared stays, and none names its slot
    stayed : is_among being_cleared leg.state ≡ true → Drops d.external line u u x
    stayed clears = record {
      peers = λ z l in_z at_z names_x quiet.
          let named = named_active z l in_z at_z names_x in
          let goes : is_among being_cleared leg.state ≡ false = ap (λ (k : Leg). is_among being_cleared k.state) (sym (is_leg leg named.0 at named.1)) ∙ named.4 in
          let wrong : true ≡ false = sym clears ∙ goes in
          absurd cc;
      same = λ z in_z not_x active_if. refl;
      gone = λ l also quiet goes.
          let wrong : true ≡ false = sym clears ∙ ap (λ (k : Leg). is_among being_cleared k.state) (sym (is_leg leg l at also)) ∙ goes in
          absurd cc;
      stays = λ l also again. also;
      waits = λ l also is. absurd (not_cleared leg.state (ap (λ (k : Leg). k.state) (sym (is_leg leg l at also)) ∙ is) clears);
      empty = λ none. none;
      next = refl;
    }

    removed : leg.state ≢ active → is_among being_cleared leg.state ≡ false → Drops d.external line u (After (restart_leg tones destination_out_of_order Owed whole_line u.legs (Some h))) x
    removed quiet goes =
        let done = leg_done d tones whole_line destination_out_of_order Owed line m x on_line kept in_x leg at in
        record {
          peers = λ z l in_z at_z names_x other. done.other_leg z l in_z at_z names_x;
          same = λ z in_z not_x active_if. done.legs z in_z not_x (λ l at_z names_x.
              let named = named_active z l in_z at_z names_x in
              quiet (ap (λ (k : Leg). k.state) (sym (is_leg leg named.0 at named.1)) ∙ named.2 (active_if l at_z names_x)));
          gone = λ l also other. λ on. done.here;
          stays = λ l also clears.
              let wrong : true ≡ false = sym clears ∙ ap (λ (k : Leg). is_among being_cleared k.state) (is_leg leg l at also) ∙ goes in
              absurd cc;
          waits = λ l also is. absurd (quiet (ap (λ (k : Leg). k.state) (sym (is_leg leg l at also)) ∙ is));
          empty = λ none. done.here;
          next = done.next;
        }

    leg_drops : Drops d.external line u (After (drop_leg tones u.legs (Some h))) x
    leg_drops = elim (true_or_false (leg.state == active)) [
      | inl up ↦ rw up (started (eqb-true leg.state active up) leg.resent refl)
      | inr not_up ↦ elim (true_or_false (is_among being_cleared leg.state)) [
        | inl clears ↦ rw (not_up, clears) (stayed clears)
        | inr goes ↦ rw (not_up, goes) (removed (not_eq leg.state not_up) goes)
      ]
    ]

  held_drops : (o : Option Leg) → leg_at u.legs x ≡ o
      → Drops d.external line u (making_after_all d m (drop_leg tones u.legs (option_map (λ (leg : Leg). let k : HeldLeg = record { slot = x; leg = leg } in k) o))).world x
  held_drops None none = none_drops none
  held_drops (Some leg) at = leg_drops leg at

  slot_drops : Drops d.external line u (making_after_all d m (drop_slot tones u.legs x)).world x
  slot_drops = held_drops (leg_at u.legs x) refl

-- ---- the slots of the line

module _ (line : ℕ) (w : World) where
  abbrev cut : Leg → Leg
  cut leg = begun w (in_disconnect_indication destination_out_of_order leg)

  -- a leg of another line, once the slots below a place are done
  abbrev left_below : ℕ → Leg → Peer → Leg
  left_below n leg peer.Alone = leg
  left_below n leg (peer.Leg y) = if was_restarted whole_line line n y && not (leg.state == active) then cut leg else leg
  left_below n leg (peer.Room room) = leg

  left_same : (n : ℕ) (leg : Leg) (p : Peer) → ((y : Slot) → p ≡ peer.Leg y → was_restarted whole_line line (suc n) y ≡ was_restarted whole_line line n y) → left_below (suc n) leg p ≡ left_below n leg p
  left_same n leg peer.Alone same = refl
  left_same n leg (peer.Leg y) same = ap (λ (b : Bool). if b && not (leg.state == active) then cut leg else leg) (same y refl)
  left_same n leg (peer.Room room) same = refl

  left_unless : (n : ℕ) (leg : Leg) (p : Peer) → ((y : Slot) → p ≡ peer.Leg y → was_restarted whole_line line n y ≡ false) → left_below n leg p ≡ leg
  left_unless n leg peer.Alone none = refl
  left_unless n leg (peer.Leg y) none = ap (λ (b : Bool). if b && not (leg.state == active) then cut leg else leg) (none y refl)
  left_unless n leg (peer.Room room) none = refl

  -- one that names a slot is not cut
  left_named : (n : ℕ) (leg : Leg) (p : Peer) (q : Slot) → leg.peer ≡ p → (left_below n leg p).peer ≡ peer.Leg q → (leg.peer ≡ peer.Leg q) × (left_below n leg p ≡ leg)
  left_named n leg peer.Alone q is e = (e, refl)
  left_named n leg (peer.Leg y) q is e = elim (true_or_false (was_restarted whole_line line n y && not (leg.state == active))) [
    | inl so ↦ let wrong : peer.Alone ≡ peer.Leg q = sym (ap (λ (b : Bool). (if b then cut leg else leg).peer) so) ∙ e in absurd cc
    | inr not_so ↦
        let stays : left_below n leg (peer.Leg y) ≡ leg = ap (λ (b : Bool). if b then cut leg else leg) not_so in
        (sym (ap (λ (l : Leg). l.peer) stays) ∙ e, stays)
  ]
  left_named n leg (peer.Room room) q is e = (e, refl)

-- what the slots of the line below a place leave
record AreDropped (s : Setting) (line : ℕ) (w : World) (n : ℕ) (v : World) : Type 0 where
  kept : Kept s.dimensions s.tones v
  gone : (z : Slot) (l : Leg) → IsExternal s.dimensions.external z → z.line ≡ line → z.place < n → leg_at w.legs z ≡ Some l → l.state ≢ active → is_among being_cleared l.state ≡ false → leg_at v.legs z ≡ None
  stays : (z : Slot) (l : Leg) → IsExternal s.dimensions.external z → z.line ≡ line → leg_at w.legs z ≡ Some l → is_among being_cleared l.state ≡ true → leg_at v.legs z ≡ Some l
  waits : (z : Slot) (l : Leg) → IsExternal s.dimensions.external z → z.line ≡ line → z.place < n → leg_at w.legs z ≡ Some l → l.state ≡ active → leg_at v.legs z ≡ Some (waiting_for_link w l)
  empty : (z : Slot) → IsExternal s.dimensions.external z → leg_at w.legs z ≡ None → leg_at v.legs z ≡ None
  later : (z : Slot) (l : Leg) → IsExternal s.dimensions.external z → z.line ≡ line → n ≤ z.place → leg_at w.legs z ≡ Some l → (leg_at v.legs z ≡ Some l) ⊎ ((leg_at v.legs z ≡ None) × (l.state ≢ active) × (is_among being_cleared l.state ≡ false))
  others : (z : Slot) (l : Leg) → IsExternal s.dimensions.external z → z.line ≢ line → leg_at w.legs z ≡ Some l → leg_at v.legs z ≡ Some (left_below line w n l l.peer)
  next : v.holding.next ≡ w.holding.next

module _ (s : Setting) (line : ℕ) (w : World) (n : ℕ) (below : line < s.dimensions.external) (small : n < 30) (m : Making) (so_far : AreDropped s line w n m.world) where
  abbrev d : Dimensions
  d = s.dimensions

  abbrev here : Slot
  here = record { line = line; place = n }

  in_here : IsExternal d.external here
  in_here = (below, small)

  abbrev v : World
  v = (making_after_all d m (drop_slot s.tones m.world.legs here)).world

  done : Drops d.external line m.world v here
  done = slot_drops d s.tones line m here refl so_far.kept in_here

  -- the slot is the one of this place, or of another
  at_here : (z : Slot) → z.line ≡ line → z.place ≡ n → z ≡ here
  at_here z on place = same_parts z line n on place

  waiting_active : (l : Leg) → l.state ≡ active → (waiting_for_link w l).state ≡ active
  waiting_active l is = either l.resent where
    either : (b : Bool) → (if b then l else retransmitted_from w.holding.next (with_enquiry false l)).state ≡ active
    either true = is
    either false = is

  same_waiting : (l : Leg) → waiting_for_link m.world l ≡ waiting_for_link w l
  same_waiting l = ap (λ (k : ℕ). if l.resent then l else retransmitted_from k (with_enquiry false l)) so_far.next

  -- a leg that is there, where none is
  not_both : (o : Option Leg) (l : Leg) → o ≡ None → o ≡ Some l → ⊥
  not_both o l none at = let wrong : None ≡ Some l = sym none ∙ at in cc

  same_leg : (o : Option Leg) (k l : Leg) → o ≡ Some k → o ≡ Some l → l ≡ k
  same_leg o k l at also = let e : Some l ≡ Some k = sym also ∙ at in cc

  more_gone : (z : Slot) (l : Leg) → IsExternal d.external z → z.line ≡ line → z.place < suc n → leg_at w.legs z ≡ Some l → l.state ≢ active → is_among being_cleared l.state ≡ false → leg_at v.legs z ≡ None
  more_gone z l in_z on less at quiet goes = elim (same_or_apart z here) [
    | inl same ↦
        let place : z.place ≡ n = ap (λ (q : Slot). q.place) same in
        let high : n ≤ z.place = omega (arith, place) in
        elim (so_far.later z l in_z on high at) [
          | inl still ↦ ap (leg_at v.legs) same ∙ done.gone l (ap (leg_at m.world.legs) (sym same) ∙ still) quiet goes
          | inr none ↦ ap (leg_at v.legs) same ∙ done.empty (ap (leg_at m.world.legs) (sym same) ∙ none.0)
        ]
    | inr apart ↦
        let other : z.place ≡ n → ⊥ = λ place. apart (at_here z on place) in
        let none = so_far.gone z l in_z on (omega (arith, less, other)) at quiet goes in
        done.same z in_z apart (λ k at_k is. absurd (not_both (leg_at m.world.legs z) k none at_k)) ∙ none
  ]

  more_waits : (z : Slot) (l : Leg) → IsExternal d.external z → z.line ≡ line → z.place < suc n → leg_at w.legs z ≡ Some l → l.state ≡ active → leg_at v.legs z ≡ Some (waiting_for_link w l)
  more_waits z l in_z on less at is = elim (same_or_apart z here) [
    | inl same ↦
        let place : z.place ≡ n = ap (λ (q : Slot). q.place) same in
        elim (so_far.later z l in_z on (omega (arith, place)) at) [
          | inl still ↦ ap (leg_at v.legs) same ∙ done.waits l (ap (leg_at m.world.legs) (sym same) ∙ still) is ∙ ap (λ (k : Leg). Some k) (same_waiting l)
          | inr none ↦ absurd (none.1 is)
        ]
    | inr apart ↦
        let other : z.place ≡ n → ⊥ = λ place. apart (at_here z on place) in
        let now = so_far.waits z l in_z on (omega (arith, less, other)) at is in
        done.same z in_z apart (λ k at_k names_x. ap (λ (q : Leg). q.state) (same_leg (leg_at m.world.legs z) (waiting_for_link w l) k now at_k) ∙ waiting_active l is) ∙ now
  ]

  -- a leg that is as it was, and is no peer of an inactive leg here
  passed : (z : Slot) (l : Leg) → IsExternal d.external z → (z ≡ here → ⊥) → leg_at m.world.legs z ≡ Some l → (l.peer ≡ peer.Leg here → l.state ≡ active) → leg_at v.legs z ≡ Some l
  passed z l in_z apart now may =
      done.same z in_z apart (λ k at_k names_x.
      let same = same_leg (leg_at m.world.legs z) l k now at_k in
      ap (λ (q : Leg). q.state) same ∙ may (ap (λ (q : Leg). q.peer) (sym same) ∙ names_x)) ∙ now

  -- a leg that names the slot is of a call, and is not being cleared
  named_goes_on : (z : Slot) (l : Leg) → IsExternal d.external z → leg_at m.world.legs z ≡ Some l → l.peer ≡ peer.Leg here → is_among being_cleared l.state ≡ false
  named_goes_on z l in_z at_z names_x =
      let has = subst (HasPeer d.external m.world.legs z l) names_x (so_far.kept.1.each z l in_z at_z).peer in
      leg_goes_on l.side z here l has.1.0 has.1.2

  more_stays : (z : Slot) (l : Leg) → IsExternal d.external z → z.line ≡ line → leg_at w.legs z ≡ Some l → is_among being_cleared l.state ≡ true → leg_at v.legs z ≡ Some l
  more_stays z l in_z on at clears =
      let now = so_far.stays z l in_z on at clears in
      elim (same_or_apart z here) [
        | inl same ↦ ap (leg_at v.legs) same ∙ done.stays l (ap (leg_at m.world.legs) (sym same) ∙ now) clears
        | inr apart ↦ passed z l in_z apart now (λ names_x. let wrong : true ≡ false = sym clears ∙ named_goes_on z l in_z now names_x in absurd cc)
      ]

  more_later : (z : Slot) (l : Leg) → IsExternal d.external z → z.line ≡ line → suc n ≤ z.place → leg_at w.legs z ≡ Some l → (leg_at v.legs z ≡ Some l) ⊎ ((leg_at v.legs z ≡ None) × (l.state ≢ active) × (is_among being_cleared l.state ≡ false))
  more_later z l in_z on high at =
      let apart : z ≡ here → ⊥ = λ same. let place : z.place ≡ n = ap (λ (q : Slot). q.place) same in omega (arith, place, high) in
      elim (so_far.later z l in_z on (omega (arith, high)) at) [
        | inr none ↦ inr (done.same z in_z apart (λ k at_k is. absurd (not_both (leg_at m.world.legs z) k none.0 at_k)) ∙ none.0, none.1, none.2)
        | inl now ↦ elim (named_or_not l.peer here) [
          | inr other ↦ inl (passed z l in_z apart now (λ names_x. absurd (other names_x)))
          | inl names_x ↦ elim (true_or_false (l.state == active)) [
            | inl up ↦ inl (passed z l in_z apart now (λ e. eqb-true l.state active up))
            | inr not_up ↦
                let quiet : l.state ≢ active = λ is. grind (arith, common_steps, not_up, is) in
                let too : restarts_slot whole_line line z ≡ true = grind (arith, common_steps, on) in
                inr (done.peers z l in_z now names_x quiet ∙ ap (λ (b : Bool). if b then None else Some (begun m.world (in_disconnect_indication destination_out_of_order l))) too, quiet, named_goes_on z l in_z now names_x)
          ]
        ]
      ]

  -- a leg of another line that names no inactive leg here
  spared : (z : Slot) (l : Leg) → IsExternal d.external z → z.line ≢ line → leg_at m.world.legs z ≡ Some l → (l.peer ≡ peer.Leg here → l.state ≡ active) → leg_at v.legs z ≡ Some l
  spared z l in_z off now may = passed z l in_z (λ same. off (ap (λ (q : Slot). q.line) same)) now may

  here_is : was_restarted whole_line line (suc n) here ≡ true
  here_is =
      let same : (line == line) ≡ true = grind (arith, common_steps) in
      rw (same, lt_true whole_line line n (suc n) (omega arith)) refl

  more_others : (z : Slot) (l : Leg) → IsExternal d.external z → z.line ≢ line → leg_at w.legs z ≡ Some l → leg_at v.legs z ≡ Some (left_below line w (suc n) l l.peer)
  more_others z l in_z off at = elim (named_or_not l.peer here) [
    | inl names_x ↦
        let not_yet : left_below line w n l l.peer ≡ l =
        left_unless line w n l l.peer (λ y is.
        let e : peer.Leg here ≡ peer.Leg y = sym names_x ∙ is in
        let same : here ≡ y = cc in
        ap (was_restarted whole_line line n) (sym same) ∙ none_before (restarts_slot whole_line line here) (nat_lt n n) (lt_false whole_line line n n (omega arith))) in
        let still : leg_at m.world.legs z ≡ Some l = so_far.others z l in_z off at ∙ ap (λ (q : Leg). Some q) not_yet in
        let now : left_below line w (suc n) l l.peer ≡ (if true && not (l.state == active) then cut line w l else l) =
        ap (left_below line w (suc n) l) names_x ∙ ap (λ (b : Bool). if b && not (l.state == active) then cut line w l else l) here_is in
        elim (true_or_false (l.state == active)) [
          | inl up ↦ spared z l in_z off still (λ e. eqb-true l.state active up) ∙ ap (λ (q : Leg). Some q) (sym (now ∙ ap (λ (b : Bool). if true && not b then cut line w l else l) up))
          | inr not_up ↦
              let quiet : l.state ≢ active = λ is. grind (arith, common_steps, not_up, is) in
              let elsewhere : restarts_slot whole_line line z ≡ false = grind (arith, common_steps, off) in
              done.peers z l in_z still names_x quiet
              ∙ ap (λ (b : Bool). if b then None else Some (begun m.world (in_disconnect_indication destination_out_of_order l))) elsewhere
              ∙ ap (λ (k : ℕ). Some (waiting_from k (in_disconnect_indication destination_out_of_order l))) so_far.next
              ∙ ap (λ (q : Leg). Some q) (sym (now ∙ ap (λ (b : Bool). if true && not b then cut line w l else l) not_up))
        ]
    | inr other ↦
        let k = left_below line w n l l.peer in
        spared z k in_z off (so_far.others z l in_z off at) (λ names_x. absurd (other (left_named line w n l l.peer here refl names_x).0))
        ∙ ap (λ (q : Leg). Some q) (sym (left_same line w n l l.peer (λ y is. same_where_apart whole_line line y n (λ same. other (is ∙ ap (λ (q : Slot). let named : Peer = peer.Leg q in named) same)))))
  ]

  more_empty : (z : Slot) → IsExternal d.external z → leg_at w.legs z ≡ None → leg_at v.legs z ≡ None
  more_empty z in_z none =
      let now = so_far.empty z in_z none in
      elim (same_or_apart z here) [
        | inl same ↦ ap (leg_at v.legs) same ∙ done.empty (ap (leg_at m.world.legs) (sym same) ∙ now)
        | inr apart ↦ done.same z in_z apart (λ k at_k is. absurd (not_both (leg_at m.world.legs z) k now at_k)) ∙ now
      ]

  one_more : AreDropped s line w (suc n) v
  one_more = record {
    kept = drop_slot_kept d s.tones m here so_far.kept in_here;
    gone = more_gone;
    stays = more_stays;
    waits = more_waits;
    empty = more_empty;
    later = more_later;
    others = more_others;
    next = done.next ∙ so_far.next;
  }

module _ (s : Setting) (line : ℕ) (w : World) (below : line < s.dimensions.external) (kept : Kept s.dimensions s.tones w) where
  abbrev begins : World
  begins = with_line w line true

  abbrev so_far_at : ℕ → MessageOutcome
  so_far_at n = outcome_below s.dimensions (rule_of s.tones false true) line begins n

  start : AreDropped s line w 0 begins
  start = record {
    kept = linked_kept s.dimensions s.tones w line true kept;
    gone = λ z l in_z on less at quiet goes. absurd (omega (arith, less));
    stays = λ z l in_z on at clears. at;
    waits = λ z l in_z on less at is. absurd (omega (arith, less));
    empty = λ z in_z none. none;
    later = λ z l in_z on high at. inl at;
    others = λ z l in_z off at. at ∙ ap (λ (q : Leg). Some q) (sym (left_unless line w 0 l l.peer (λ y is. none_before (restarts_slot whole_line line y) (nat_lt y.place 0) (lt_false whole_line line y.place 0 (omega arith)))));
    next = refl;
  }

  dropped_below : (n : ℕ) → n ≤ 30 → AreDropped s line w n (so_far_at n).making.world
  dropped_below zero small = subst (λ (a : MessageOutcome). AreDropped s line w 0 a.making.world) (sym (below_none s.dimensions (rule_of s.tones false true) line begins)) start
  dropped_below (suc n) small =
      subst (λ (a : MessageOutcome). AreDropped s line w (suc n) a.making.world) (sym (below_more s.dimensions (rule_of s.tones false true) line begins n))
      (one_more s line w n below (omega (arith, small)) (so_far_at n).making (dropped_below n (omega (arith, small))))

-- ---- what is left

module _ (s : Setting) (w : World) (line : ℕ) (can : HasLine s w line) where
  all : AreDropped s line w 30 (outcome_of_link s.dimensions s.tones true line w).making.world
  all = dropped_below s line w can.line_exists (can.stands.circuits, can.stands.legs) 30 (omega arith)

  pub others_are_gone : OthersAreGone s.dimensions.external line w (outcome_of_link s.dimensions s.tones true line w).making.world
  others_are_gone x leg in_x on at quiet goes = all.gone x leg in_x on in_x.1 at quiet goes

  pub none_stay : (x : Slot) → IsExternal s.dimensions.external x → leg_at w.legs x ≡ None → leg_at (outcome_of_link s.dimensions s.tones true line w).making.world.legs x ≡ None
  none_stay x in_x none = all.empty x in_x none

  pub cleared_stay : ClearedStay s.dimensions.external line w (outcome_of_link s.dimensions s.tones true line w).making.world
  cleared_stay x leg in_x on at clears = all.stays x leg in_x on at clears

  pub active_wait : ActiveWait s.dimensions.external line w (outcome_of_link s.dimensions s.tones true line w).making.world
  active_wait x leg in_x on at is = all.waits x leg in_x on in_x.1 at is

  left_is : (x : Slot) (leg : Leg) (p : Peer) → HasPeer s.dimensions.external w.legs x leg p → left_below line w 30 leg p ≡ left_by_failure line w leg p
  left_is x leg peer.Alone has = refl
  left_is x leg (peer.Leg y) has =
      let place : nat_lt y.place 30 ≡ true = lt_true whole_line line y.place 30 has.0.1 in
      let whole : was_restarted whole_line line 30 y ≡ (y.line == line) = ap (λ (b : Bool). ((y.line == line) && true) && b) place ∙ both (y.line == line) in
      ap (λ (b : Bool). if b && not (leg.state == active) then cut line w leg else leg) whole
    where
      both : (b : Bool) → ((b && true) && true) ≡ b
      both true = refl
      both false = refl
  left_is x leg (peer.Room room) has = refl

  pub other_lines_are_left : OtherLinesAreLeft s.dimensions.external line w (outcome_of_link s.dimensions s.tones true line w).making.world
  other_lines_are_left x leg in_x off at =
      all.others x leg in_x off at ∙ ap (λ (q : Leg). Some q) (left_is x leg leg.peer (can.stands.legs.each x leg in_x at).peer)
