-- What a RESTART leaves of a line: slot by slot.
use Rattle.std.proofs.Common.{◌≡◌, ℕ, zero, suc, ◌<◌, ◌≤◌, ◌⊎◌, ◌&&◌, Bool, true, false, inl, inr, List, Some, None, refl, sym, ◌∙◌, ap, subst, arith, if◌then◌else◌}
use Rattle.std.specs.Prelude.{nat_lt, ◌==◌}
use Rattle.std.proofs.lemmas.Bool.{eqb-true}
use Rattle.std.proofs.lemmas.Grind.{common_steps}
use Rattle.circuit_model.specs.declared.channel.Slot.{Slot}
use Rattle.circuit_model.specs.Circuits.{heard_by}
use Rattle.circuit_model.specs.Extent.{IsExternal}
use Rattle.circuit_model.proofs.Slots.{true_or_false}
use Rattle.q931_codec.specs.Causes.{temporary_failure}
use Rattle.call_states.specs.declared.leg.Leg.{Leg}
use Rattle.call_states.specs.declared.leg.Peer.{Peer}
use Rattle.call_states.specs.declared.leg.Peer.TheVariants as peer
use Rattle.clearing_rules.specs.declared.scope.Restart.{Restart}
use Rattle.clearing_rules.specs.Restarting.{is_restarted}
use Rattle.call_profile.specs.Acts.{in_disconnect_indication}
use Rattle.call_profile.specs.Calls.{Request, outcome_for, after_message}
use Rattle.call_profile.specs.LegStanding.{HasPeer}
use Rattle.call_profile.specs.Legs.{leg_at}
use Rattle.call_profile.specs.Operations.{begun}
use Rattle.call_laws.specs.Restarted.{IsRestart, left_with, left_by}
use Rattle.call_profile.specs.Restarts.{MessageOutcome, restarts_slot, outcome_at_slot, outcome_below, restart_rule}
use Rattle.exchange_events.specs.Sizes.{Setting}
use Rattle.call_profile.specs.World.{World}
use Rattle.call_profile.proofs.BesideLemmas.{same_or_apart}
use Rattle.call_profile.proofs.ClearingLemmas.{Kept}
use Rattle.call_profile.proofs.CommandLemmas.{both_true}
use Rattle.call_profile.proofs.RestartLemmas.{slot_kept}
use Rattle.call_laws.proofs.RestartedLegLemmas.{IsRestartedAt, peer_after, slot_done}
use Rattle.call_profile.proofs.RestartedSlotLemmas.{below_none, below_more}
use Rattle.call_profile.proofs.VacantSlotLemmas.{same_parts}

-- the slot is one of those that were restarted below a place
abbrev pub was_restarted : Restart → ℕ → ℕ → Slot → Bool
was_restarted r line n x = restarts_slot r line x && nat_lt x.place n

-- a leg at a slot that isn't restarted, once the slots below a place were
abbrev pub left_below : Restart → ℕ → World → ℕ → Leg → Peer → Leg
left_below r line w n leg peer.Alone = leg
left_below r line w n leg (peer.Leg y) = if was_restarted r line n y then begun w (in_disconnect_indication temporary_failure leg) else leg
left_below r line w n leg (peer.Room room) = leg

-- what the slots of the line below a place have left
pub record AreRestartedBelow (s : Setting) (r : Restart) (line : ℕ) (w : World) (n : ℕ) (v : World) : Type 0 where
  pub kept : Kept s.dimensions s.tones v
  pub gone : (x : Slot) → IsExternal s.dimensions.external x → restarts_slot r line x ≡ true → x.place < n → leg_at v.legs x ≡ None
  pub others : (x : Slot) (leg : Leg) → IsExternal s.dimensions.external x → restarts_slot r line x ≡ false → leg_at w.legs x ≡ Some leg
      → leg_at v.legs x ≡ Some (left_below r line w n leg leg.peer)
  pub empty : (x : Slot) → IsExternal s.dimensions.external x → leg_at w.legs x ≡ None → leg_at v.legs x ≡ None
  pub unheld : (x : Slot) → IsExternal s.dimensions.external x → leg_at w.legs x ≡ None → heard_by v.holding.circuits x ≡ heard_by w.holding.circuits x
  pub next : v.holding.next ≡ w.holding.next

-- ---- which slots were restarted, one place further on

pub none_before : (b c : Bool) → c ≡ false → (b && c) ≡ false
none_before true c e = e
none_before false c e = refl

all_places : (b c : Bool) → c ≡ true → (b && c) ≡ b
all_places true c e = e
all_places false c e = refl

pub named_or_not : (p : Peer) (x : Slot) → (p ≡ peer.Leg x) ⊎ (p ≡ peer.Leg x → ⊥)
named_or_not peer.Alone x = inr (λ e. cc)
named_or_not (peer.Leg y) x = elim (same_or_apart y x) [
  | inl same ↦ inl (ap (λ (q : Slot). let named : Peer = peer.Leg q in named) same)
  | inr apart ↦ inr (λ e. let same : y ≡ x = cc in apart same)
]
named_or_not (peer.Room room) x = inr (λ e. cc)

module _ (r : Restart) (line : ℕ) where
  abbrev at_place : ℕ → Slot
  at_place n = record { line = line; place = n }

  pub lt_true : (a b : ℕ) → a < b → nat_lt a b ≡ true
  lt_true a b less = grind (arith, common_steps, less)

  pub lt_false : (a b : ℕ) → b ≤ a → nat_lt a b ≡ false
  lt_false a b more = grind (arith, common_steps, more)

  lt_is : (a b : ℕ) → nat_lt a b ≡ true → a < b
  lt_is a b e = grind (arith, common_steps, e)

  on_line : (x : Slot) → restarts_slot r line x ≡ true → x.line ≡ line
  on_line x e = eqb-true x.line line (both_true (x.line == line) (is_restarted r x.place) e).0

  is_there : (x : Slot) (n : ℕ) → restarts_slot r line x ≡ true → x.place ≡ n → x ≡ at_place n
  is_there x n e place = same_parts x line n (on_line x e) place

  -- none is more where this place isn't restarted
  same_where_not : (x : Slot) (n : ℕ) → is_restarted r n ≡ false → was_restarted r line (suc n) x ≡ was_restarted r line n x
  same_where_not x n none = elim (true_or_false (restarts_slot r line x)) [
    | inl e ↦
        let restarted = (both_true (x.line == line) (is_restarted r x.place) e).1 in
        elim (true_or_false (nat_lt x.place n)) [
          | inl less ↦ rw (e, less, lt_true x.place (suc n) (let l = lt_is x.place n less in omega (arith, l))) refl
          | inr more ↦ elim (true_or_false (nat_lt x.place (suc n))) [
            | inl here ↦
                let low : x.place < suc n = lt_is x.place (suc n) here in
                let high : n ≤ x.place = grind (arith, common_steps, more) in
                let place : x.place ≡ n = omega (arith, low, high) in
                let wrong : true ≡ false = sym restarted ∙ ap (is_restarted r) place ∙ none in
                absurd cc
            | inr beyond ↦ rw (e, more, beyond) refl
          ]
        ]
    | inr e ↦ rw e refl
  ]

  -- and none but this one where it is
  pub same_where_apart : (x : Slot) (n : ℕ) → (x ≡ at_place n → ⊥) → was_restarted r line (suc n) x ≡ was_restarted r line n x
  same_where_apart x n apart = elim (true_or_false (restarts_slot r line x)) [
    | inl e ↦ elim (true_or_false (nat_lt x.place n)) [
      | inl less ↦ rw (e, less, lt_true x.place (suc n) (let l = lt_is x.place n less in omega (arith, l))) refl
      | inr more ↦ elim (true_or_false (nat_lt x.place (suc n))) [
        | inl here ↦
            let low : x.place < suc n = lt_is x.place (suc n) here in
            let high : n ≤ x.place = grind (arith, common_steps, more) in
            absurd (apart (is_there x n e (omega (arith, low, high))))
        | inr beyond ↦ rw (e, more, beyond) refl
      ]
    ]
    | inr e ↦ rw e refl
  ]

-- what is left of a leg, one place further on
module _ (r : Restart) (line : ℕ) (w : World) where
  left_same : (n : ℕ) (leg : Leg) (p : Peer) → ((y : Slot) → p ≡ peer.Leg y → was_restarted r line (suc n) y ≡ was_restarted r line n y) → left_below r line w (suc n) leg p ≡ left_below r line w n leg p
  left_same n leg peer.Alone same = refl
  left_same n leg (peer.Leg y) same = ap (λ (b : Bool). if b then begun w (in_disconnect_indication temporary_failure leg) else leg) (same y refl)
  left_same n leg (peer.Room room) same = refl

  left_peer : (n : ℕ) (leg : Leg) (p : Peer) (q : Slot) → leg.peer ≡ p → (left_below r line w n leg p).peer ≡ peer.Leg q → (p ≡ peer.Leg q) × (left_below r line w n leg p ≡ leg)
  left_peer n leg peer.Alone q is e = (sym is ∙ e, refl)
  left_peer n leg (peer.Leg y) q is e = elim (true_or_false (was_restarted r line n y)) [
    | inl restarted ↦ let wrong : peer.Alone ≡ peer.Leg q = sym (ap (λ (b : Bool). (if b then begun w (in_disconnect_indication temporary_failure leg) else leg).peer) restarted) ∙ e in absurd cc
    | inr not_so ↦
        let stays : left_below r line w n leg (peer.Leg y) ≡ leg = rw not_so refl in
        (sym is ∙ ap (λ (l : Leg). l.peer) (sym stays) ∙ e, stays)
  ]
  left_peer n leg (peer.Room room) q is e = (sym is ∙ e, refl)

  left_none : (leg : Leg) (p : Peer) → left_below r line w 0 leg p ≡ leg
  left_none leg peer.Alone = refl
  left_none leg (peer.Leg y) = ap (λ (b : Bool). if b then begun w (in_disconnect_indication temporary_failure leg) else leg) (none_before (restarts_slot r line y) (nat_lt y.place 0) (lt_false r line y.place 0 (omega arith)))
  left_none leg (peer.Room room) = refl

-- ---- one more place

module _ (s : Setting) (r : Restart) (line : ℕ) (w : World) (below : line < s.dimensions.external) where
  abbrev Below : ℕ → World → Type 0
  Below n v = AreRestartedBelow s r line w n v

  module _ (n : ℕ) (small : n < 30) (u : World) (so_far : Below n u) where
    abbrev x : Slot
    x = record { line = line; place = n }

    in_x : IsExternal s.dimensions.external x
    in_x = (below, small)

    -- it isn't restarted
    not_more : is_restarted r n ≡ false → Below (suc n) u
    not_more none = record {
      kept = so_far.kept;
      gone = λ z in_z restarted less. elim (true_or_false (nat_lt z.place n)) [
        | inl before ↦ so_far.gone z in_z restarted (lt_is r line z.place n before)
        | inr not_before ↦
            let high : n ≤ z.place = grind (arith, common_steps, not_before) in
            let place : z.place ≡ n = omega (arith, less, high) in
            let wrong : true ≡ false = sym (both_true (z.line == line) (is_restarted r z.place) restarted).1 ∙ ap (is_restarted r) place ∙ none in
            absurd cc
      ];
      others = λ z leg in_z other at. so_far.others z leg in_z other at ∙ ap (λ (l : Leg). Some l) (sym (left_same r line w n leg leg.peer (λ y is. same_where_not r line y n none)));
      empty = so_far.empty;
      unheld = so_far.unheld;
      next = so_far.next;
    }

    -- it is
    module _ (restarted : is_restarted r n ≡ true) (v : World) (kept : Kept s.dimensions s.tones v) (done : IsRestartedAt s.dimensions.external r temporary_failure line u v x) where
      x_is : restarts_slot r line x ≡ true
      x_is = rw restarted (grind (arith, common_steps))

      apart : (z : Slot) → restarts_slot r line z ≡ false → z ≡ x → ⊥
      apart z not_so same = let wrong : true ≡ false = sym x_is ∙ ap (restarts_slot r line) (sym same) ∙ not_so in cc

      nobody : (z : Slot) → leg_at u.legs z ≡ None → (other : Leg) → leg_at u.legs z ≡ Some other → other.peer ≡ peer.Leg x → ⊥
      nobody z none other at is = let wrong : None ≡ Some other = sym none ∙ at in cc

      leg_at_more_gone : (z : Slot) → IsExternal s.dimensions.external z → restarts_slot r line z ≡ true → z.place < suc n → leg_at v.legs z ≡ None
      leg_at_more_gone z in_z too less = elim (same_or_apart z x) [
        | inl same ↦ ap (leg_at v.legs) same ∙ done.here
        | inr not_x ↦
            let other : z.place ≡ n → ⊥ = λ place. not_x (is_there r line z n too place) in
            let none = so_far.gone z in_z too (omega (arith, less, other)) in
            done.legs z in_z not_x (nobody z none) ∙ none
      ]

      -- a leg that names the slot was not cleared before
      left_self : (leg : Leg) → leg.peer ≡ peer.Leg x → left_below r line w n leg leg.peer ≡ leg
      left_self leg names_x =
          ap (left_below r line w n leg) names_x
          ∙ ap (λ (b : Bool). if b then begun w (in_disconnect_indication temporary_failure leg) else leg) (none_before (restarts_slot r line x) (nat_lt n n) (lt_false r line n n (omega arith)))

      -- a leg that names it is cleared
      leg_at_cleared : (z : Slot) (leg : Leg) → IsExternal s.dimensions.external z → restarts_slot r line z ≡ false → leg_at u.legs z ≡ Some leg → leg.peer ≡ peer.Leg x
          → leg_at v.legs z ≡ Some (left_below r line w (suc n) leg (peer.Leg x))
      leg_at_cleared z leg in_z not_so at is =
          let here : was_restarted r line (suc n) x ≡ true = rw (x_is, lt_true r line n (suc n) (omega arith)) refl in
          done.other_leg z leg in_z at is ∙ ap (λ next. peer_after r temporary_failure line next z leg) so_far.next ∙ rw (not_so, here) refl

      leg_at_more_others : (z : Slot) (leg : Leg) → IsExternal s.dimensions.external z → restarts_slot r line z ≡ false → leg_at w.legs z ≡ Some leg
          → leg_at v.legs z ≡ Some (left_below r line w (suc n) leg leg.peer)
      leg_at_more_others z leg in_z not_so at =
          let now = left_below r line w n leg leg.peer in
          let at_now : leg_at u.legs z ≡ Some now = so_far.others z leg in_z not_so at in
          elim (named_or_not now.peer x) [
            | inl named ↦
                let is = left_peer r line w n leg leg.peer x refl named in
                leg_at_cleared z leg in_z not_so (at_now ∙ ap (λ (l : Leg). Some l) is.1) is.0 ∙ ap (λ (p : Peer). Some (left_below r line w (suc n) leg p)) (sym is.0)
            | inr other ↦
                let away : (y : Slot) → leg.peer ≡ peer.Leg y → y ≡ x → ⊥ = λ y is same.
                let names_x : leg.peer ≡ peer.Leg x = is ∙ ap (λ (q : Slot). let named : Peer = peer.Leg q in named) same in
                let stays = left_self leg names_x in
                other (ap (λ (l : Leg). l.peer) stays ∙ names_x) in
                done.legs z in_z (apart z not_so) (λ k at_k is.
                let e : Some now ≡ Some k = sym at_now ∙ at_k in
                let same : now ≡ k = cc in
                other (ap (λ (l : Leg). l.peer) same ∙ is))
                ∙ at_now
                ∙ ap (λ (l : Leg). Some l) (sym (left_same r line w n leg leg.peer (λ y is. same_where_apart r line y n (away y is))))
          ]

      leg_at_more_empty : (z : Slot) → IsExternal s.dimensions.external z → leg_at w.legs z ≡ None → leg_at v.legs z ≡ None
      leg_at_more_empty z in_z none = elim (same_or_apart z x) [
        | inl same ↦ ap (leg_at v.legs) same ∙ done.here
        | inr not_x ↦ done.legs z in_z not_x (nobody z (so_far.empty z in_z none)) ∙ so_far.empty z in_z none
      ]

      pub one_more : Below (suc n) v
      one_more = record {
        kept = kept;
        gone = leg_at_more_gone;
        others = leg_at_more_others;
        empty = leg_at_more_empty;
        unheld = λ z in_z none. done.unheld z in_z (so_far.empty z in_z none) ∙ so_far.unheld z in_z none;
        next = done.next ∙ so_far.next;
      }

  pub start_below : Kept s.dimensions s.tones w → Below 0 w
  start_below kept = record {
    kept = kept;
    gone = λ x in_x restarted less. absurd (omega (arith, less));
    others = λ x leg in_x not_so at. at ∙ ap (λ (l : Leg). Some l) (sym (left_none r line w leg leg.peer));
    empty = λ x in_x none. none;
    unheld = λ x in_x none. refl;
    next = refl;
  }

  pub step_below : (n : ℕ) → n < 30 → (a : MessageOutcome) → Below n a.making.world → Below (suc n) (outcome_at_slot s.dimensions (restart_rule s.tones r) (record { line = line; place = n }) a).making.world
  step_below n small a so_far = elim (true_or_false (is_restarted r n)) [
    | inl restarted ↦
        let here : Slot = record { line = line; place = n } in
        one_more n small a.making.world so_far restarted
        (outcome_at_slot s.dimensions (restart_rule s.tones r) here a).making.world
        (slot_kept s.dimensions s.tones r a.making here so_far.kept (below, small))
        (slot_done s.dimensions s.tones r line a.making here refl so_far.kept (below, small) restarted)
    | inr not_so ↦ rw not_so (not_more n small a.making.world so_far not_so)
  ]

  pub restarted_below : Kept s.dimensions s.tones w → (n : ℕ) → n ≤ 30 → Below n (outcome_below s.dimensions (restart_rule s.tones r) line w n).making.world
  restarted_below kept zero small = subst (λ (a : MessageOutcome). Below 0 a.making.world) (sym (below_none s.dimensions (restart_rule s.tones r) line w)) (start_below kept)
  restarted_below kept (suc n) small =
      subst (λ (a : MessageOutcome). Below (suc n) a.making.world) (sym (below_more s.dimensions (restart_rule s.tones r) line w n))
      (step_below n (omega (arith, small)) (outcome_below s.dimensions (restart_rule s.tones r) line w n) (restarted_below kept n (omega (arith, small))))

-- ---- the whole line

module _ (s : Setting) (w : World) (line : ℕ) (octets : List ℕ) (r : Restart) (is : IsRestart s w line octets r) where
  abbrev left : World
  left = (outcome_below s.dimensions (restart_rule s.tones r) line w 30).making.world

  after_is : after_message s w line octets ≡ left
  after_is = ap (λ (q : Request). (outcome_for s w line q).making.world) is.restarts

  all_below : AreRestartedBelow s r line w 30 left
  all_below = restarted_below s r line w is.line_exists (is.stands.circuits, is.stands.legs) 30 (omega arith)

  pub leg_at_restarted_gone : (x : Slot) → IsExternal s.dimensions.external x → restarts_slot r line x ≡ true → leg_at (after_message s w line octets).legs x ≡ None
  leg_at_restarted_gone x in_x restarted = ap (λ (v : World). leg_at v.legs x) after_is ∙ all_below.gone x in_x restarted in_x.1

  left_all : (leg : Leg) (p : Peer) → ((y : Slot) → p ≡ peer.Leg y → y.place < 30) → left_below r line w 30 leg p ≡ left_with r line w leg p
  left_all leg peer.Alone near = refl
  left_all leg (peer.Leg y) near = ap (λ (b : Bool). if b then begun w (in_disconnect_indication temporary_failure leg) else leg) (all_places (restarts_slot r line y) (nat_lt y.place 30) (lt_true r line y.place 30 (near y refl)))
  left_all leg (peer.Room room) near = refl

  pub leg_at_restarted_others : (x : Slot) (leg : Leg) → IsExternal s.dimensions.external x → restarts_slot r line x ≡ false → leg_at w.legs x ≡ Some leg
      → leg_at (after_message s w line octets).legs x ≡ Some (left_by r line w leg)
  leg_at_restarted_others x leg in_x not_so at =
      let has = (is.stands.legs.each x leg in_x at).peer in
      ap (λ (v : World). leg_at v.legs x) after_is
      ∙ all_below.others x leg in_x not_so at
      ∙ ap (λ (l : Leg). Some l) (left_all leg leg.peer (λ y e. (subst (HasPeer s.dimensions.external w.legs x leg) e has).0.1))

  pub restarted_unheld : (x : Slot) → IsExternal s.dimensions.external x → leg_at w.legs x ≡ None
      → (leg_at (after_message s w line octets).legs x ≡ None) × (heard_by (after_message s w line octets).holding.circuits x ≡ heard_by w.holding.circuits x)
  restarted_unheld x in_x none = (
    ap (λ (v : World). leg_at v.legs x) after_is ∙ all_below.empty x in_x none,
    ap (λ (v : World). heard_by v.holding.circuits x) after_is ∙ all_below.unheld x in_x none,
  )
