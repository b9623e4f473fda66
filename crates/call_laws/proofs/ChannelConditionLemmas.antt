-- The condition of each channel after a message, and after the slots of a line follow a rule in sequence.
use Rattle.std.proofs.Common.{◌≡◌, ◌≢◌, ℕ, zero, suc, ◌<◌, ◌≤◌, inl, inr, Bool, true, false, ◌&&◌, List, [], ◌∷◌, Option, Some, None, refl, sym, ◌∙◌, ap, subst, arith, eqb-true, set, get_or, get_or-set_other, if◌then◌else◌}
use Rattle.std.specs.Prelude.{◌==◌, is_none, not, option_map}
use Rattle.std.proofs.lemmas.Grind.{common_steps}
use Rattle.circuit_model.specs.declared.channel.Slot.{Slot}
use Rattle.circuit_model.specs.Extent.{IsExternal}
use Rattle.circuit_model.proofs.Slots.{true_or_false}
use Rattle.control_memory.specs.Layout.{number_of}
use Rattle.control_memory.proofs.Steps.{same_number}
use Rattle.call_states.specs.Acts.{act_on}
use Rattle.call_states.specs.Conditions.{is_open, is_owing}
use Rattle.call_states.specs.declared.condition.Condition.{Condition}
use Rattle.call_states.specs.declared.condition.Condition.TheVariants.{Idle, Owed, Unconfirmed}
use Rattle.call_states.specs.declared.leg.HeldLeg.{HeldLeg}
use Rattle.call_states.specs.declared.leg.Leg.{Leg}
use Rattle.call_states.specs.declared.leg.Peer.{Peer}
use Rattle.call_states.specs.declared.leg.Peer.TheVariants as peer
use Rattle.clearing_rules.specs.declared.scope.Restart.{Restart}
use Rattle.clearing_rules.specs.Restarting.{is_restarted}
use Rattle.clearing_rules.specs.UnknownReference.{answer_without_call}
use Rattle.exchange_events.specs.Sizes.{Setting, Dimensions}
use Rattle.call_profile.specs.ActCourse.{course_of}
use Rattle.call_profile.specs.Acts.{peer_of}
use Rattle.call_profile.specs.Calls.{Request, For_leg, New_call, On_no_call, Restarts, Confirms, Unanswered, after_message, answer_back, outcome_for, request_of}
use Rattle.call_profile.specs.Legs.{Legs, condition_at, is_unconfirmed, leg_at, with_entry, without_leg}
use Rattle.call_profile.specs.LegStanding.{CallsStand}
use Rattle.call_profile.specs.Operations as op
use Rattle.call_profile.specs.Operations.{Operation, Making, Remove, begun, making_at, making_after, making_after_all}
use Rattle.call_profile.specs.Peers.{PeerIsThere}
use Rattle.call_profile.specs.Restarts.{MessageOutcome, SlotRule, confirm_rule, outcome_below, restart_slot, restart_rule, restarts_slot}
use Rattle.call_profile.specs.Setup.{course_of_setup, refusal}
use Rattle.call_profile.specs.World.{World}
use Rattle.call_profile.proofs.BesideLemmas.{look, same_or_apart}
use Rattle.call_profile.proofs.CommandLemmas.{both_true}
use Rattle.call_profile.proofs.ConfirmedSlotLemmas.{confirm_held}
use Rattle.call_profile.proofs.NamedLegLemmas.{received_stands}
use Rattle.call_profile.proofs.PermittedActLemmas.{peer_there_too}
use Rattle.call_profile.proofs.RestartedSlotLemmas.{below_none, below_more}
use Rattle.call_profile.proofs.VacantSlotLemmas.{same_parts}
use Rattle.call_laws.specs.Unconfirmed.{confirms_slot}
use Rattle.call_laws.proofs.LinkedLegLemmas.{entry_or_before}
use Rattle.call_laws.proofs.OwedTrackLemmas.{reads_at}
use Rattle.call_laws.proofs.RemovedSlotLemmas.{GiveAll, MayGive, back_given, course_given, restart_given, setup_given}
use Rattle.call_laws.proofs.RestartedLineLemmas.{AreRestartedBelow, restarted_below}

-- ---- one entry

set_idle : (l : List Condition) (n : ℕ) → get_or (set l n Idle) n Idle ≡ Idle
set_idle [] n = refl
set_idle (a ∷ rest) zero = refl
set_idle (a ∷ rest) (suc n) = set_idle rest n

-- a slot without a leg had none before another slot, or this one, got one
empty_before : (legs : Legs) (x z : Slot) (leg : Leg) → leg_at (with_entry legs x (Some leg)) z ≡ None → leg_at legs z ≡ None
empty_before legs x z leg none = elim (entry_or_before legs.held (number_of x) (number_of z) (Some leg) None) [
  | inl new ↦ let wrong : Some leg ≡ None = sym new ∙ none in absurd cc
  | inr old ↦ sym old ∙ none
]

-- ---- the slots of a line in sequence: each turn gives its channel a condition, and leaves every other channel

module _ (d : Dimensions) (rule : SlotRule) (line : ℕ) (v : World) (given : Slot → Condition) (Fact : ℕ → Making → Type 0) where
  abbrev here : ℕ → Slot
  here n = record { line = line; place = n }

  abbrev turned : ℕ → Making → Making
  turned n m = making_after_all d m (rule.does m.world.legs (here n))

  pub record Turns (n : ℕ) (m : Making) : Type 0 where
    pub next : Fact (suc n) (turned n m)
    pub own : condition_at (turned n m).world.legs (here n) ≡ given (here n)
    pub apart : (z : Slot) → IsExternal d.external z → (z ≡ here n → ⊥) → condition_at (turned n m).world.legs z ≡ condition_at m.world.legs z

  -- the channels below a place have their conditions, and each other one has the condition that it had
  pub record AreGiven (n : ℕ) (m : Making) : Type 0 where
    pub fact : Fact n m
    pub done : (z : Slot) → IsExternal d.external z → z.line ≡ line → z.place < n → condition_at m.world.legs z ≡ given z
    pub later : (z : Slot) → IsExternal d.external z → z.line ≡ line → n ≤ z.place → condition_at m.world.legs z ≡ condition_at v.legs z
    pub others : (z : Slot) → IsExternal d.external z → z.line ≢ line → condition_at m.world.legs z ≡ condition_at v.legs z

  module _ (below : line < d.external) (begins : Fact 0 (making_at v))
      (turns : (n : ℕ) → n < 30 → (m : Making) → Fact n m → condition_at m.world.legs (here n) ≡ condition_at v.legs (here n) → Turns n m) where
    one_more : (n : ℕ) → n < 30 → (m : Making) → AreGiven n m → AreGiven (suc n) (turned n m)
    one_more n small m so_far =
        let turn = turns n small m so_far.fact (so_far.later (here n) (below, small) refl (omega arith)) in
        record {
          fact = turn.next;
          done = λ z in_z on less. elim (same_or_apart z (here n)) [
            | inl is ↦ ap (condition_at (turned n m).world.legs) is ∙ turn.own ∙ ap given (sym is)
            | inr apart ↦
                let other : z.place ≡ n → ⊥ = λ place. apart (same_parts z line n on place) in
                turn.apart z in_z apart ∙ so_far.done z in_z on (omega (arith, less, other))
          ];
          later = λ z in_z on high.
              turn.apart z in_z (λ is. let place : z.place ≡ n = ap (λ (q : Slot). q.place) is in omega (arith, place, high))
              ∙ so_far.later z in_z on (omega (arith, high));
          others = λ z in_z off. turn.apart z in_z (λ is. off (ap (λ (q : Slot). q.line) is)) ∙ so_far.others z in_z off;
        }

    pub all_given : (n : ℕ) → n ≤ 30 → AreGiven n (outcome_below d rule line v n).making
    all_given zero small = subst (λ (a : MessageOutcome). AreGiven 0 a.making) (sym (below_none d rule line v)) (record {
      fact = begins;
      done = λ z in_z on less. absurd (omega (arith, less));
      later = λ z in_z on high. refl;
      others = λ z in_z off. refl;
    })
    all_given (suc n) small =
        subst (λ (a : MessageOutcome). AreGiven (suc n) a.making) (sym (below_more d rule line v n))
        (one_more n (omega (arith, small)) (outcome_below d rule line v n).making (all_given n (omega (arith, small))))

  -- all of them, if each channel of another line is given the condition that it had
  pub each_given : (m : Making) → AreGiven 30 m → (z : Slot) → IsExternal d.external z → ((z.line == line) ≡ false → condition_at v.legs z ≡ given z)
      → condition_at m.world.legs z ≡ given z
  each_given m all z in_z off = elim (true_or_false (z.line == line)) [
    | inl same ↦ all.done z in_z (eqb-true z.line line same) in_z.1
    | inr apart ↦ all.others z in_z (λ is. grind (arith, common_steps, apart, is)) ∙ off apart
  ]

-- ---- a message

-- the other leg of a call holds its slot
held_is : (legs : Legs) (y : Slot) (k : HeldLeg) (o : Option Leg) → leg_at legs y ≡ o
    → option_map (λ (leg : Leg). let h : HeldLeg = record { slot = y; leg = leg } in h) o ≡ Some k → leg_at legs k.slot ≡ Some k.leg
held_is legs y k None at e = absurd (cc e)
held_is legs y k (Some l) at e =
    let h : HeldLeg = record { slot = y; leg = l } in
    let same : h ≡ k = cc in
    subst (λ (q : HeldLeg). leg_at legs q.slot ≡ Some q.leg) same at

peer_held : (legs : Legs) (p : Peer) (k : HeldLeg) → peer_of legs p ≡ Some k → leg_at legs k.slot ≡ Some k.leg
peer_held legs peer.Alone k e = absurd (cc e)
peer_held legs (peer.Leg y) k e = held_is legs y k (leg_at legs y) refl e
peer_held legs (peer.Room room) k e = absurd (cc e)

peer_within : (external : ℕ) (h : HeldLeg) (o : Option HeldLeg) → PeerIsThere external h o → (k : HeldLeg) → o ≡ Some k → IsExternal external k.slot
peer_within external h None there k e = absurd (cc e)
peer_within external h (Some j) there k e =
    let same : j ≡ k = cc in
    subst (λ (q : HeldLeg). IsExternal external q.slot) same there.0.within

module _ (s : Setting) (w : World) where
  abbrev d : Dimensions
  d = s.dimensions

  -- a leg holds the slot before the message
  abbrev WasHeld : Slot → Type 0
  WasHeld x = leg_at w.legs x ≡ None → ⊥

  -- only such a leg is removed, and its channel is idle
  abbrev MayRemove : Slot → Condition → Type 0
  MayRemove x condition = IsExternal d.external x × WasHeld x × (condition ≡ Idle)

  -- a channel that had no leg has its condition, and one whose leg was removed is idle
  abbrev Leaves : Legs → Type 0
  Leaves legs =
      (z : Slot) → IsExternal d.external z
      → (leg_at w.legs z ≡ None → condition_at legs z ≡ condition_at w.legs z)
      × ((l : Leg) → leg_at w.legs z ≡ Some l → leg_at legs z ≡ None → condition_at legs z ≡ Idle)

  put_leaves : (legs : Legs) (x : Slot) (leg : Leg) → Leaves legs → Leaves (with_entry legs x (Some leg))
  put_leaves legs x leg before z in_z = ((before z in_z).0, (λ l at none. (before z in_z).1 l at (empty_before legs x z leg none)))

  removed_leaves : (legs : Legs) (x : Slot) (condition : Condition) → MayRemove x condition → Leaves legs → Leaves (without_leg legs x condition)
  removed_leaves legs x condition may before z in_z = elim (same_or_apart z x) [
    | inl is ↦ (
      (λ none. absurd (may.1 (sym (ap (leg_at w.legs) is) ∙ none))),
      (λ l at none.
          ap (condition_at (without_leg legs x condition)) is
          ∙ ap (λ (c : Condition). get_or (set legs.conditions (number_of x) c) (number_of x) Idle) may.2
          ∙ set_idle legs.conditions (number_of x)),
    )
    | inr apart ↦
        let other : number_of z ≡ number_of x → ⊥ = λ n. apart (same_number z x in_z.1 may.0.1 n) in
        let stays : condition_at (without_leg legs x condition) z ≡ condition_at legs z =
        get_or-set_other legs.conditions (number_of x) (number_of z) condition Idle other in
        let held : leg_at (without_leg legs x condition) z ≡ leg_at legs z = get_or-set_other legs.held (number_of x) (number_of z) None None other in (
          (λ none. stays ∙ (before z in_z).0 none),
          (λ l at none. stays ∙ (before z in_z).1 l at (sym held ∙ none)),
        )
  ]

  performed : (m : Making) (o : Operation) → MayGive MayRemove o → Leaves m.world.legs → Leaves (making_after d m o).world.legs
  performed m (op.Clear x) may before = before
  performed m (op.Pair x y) may before = before
  performed m (op.Seat x room) may before = before
  performed m (op.Sound x kind) may before = before
  performed m (op.Put x leg) may before = put_leaves m.world.legs x (begun m.world leg) before
  performed m (op.Wait x leg p) may before = put_leaves m.world.legs x (begun m.world leg) before
  performed m (op.Expect x leg message) may before = put_leaves m.world.legs x (begun m.world leg) before
  performed m (op.Repeat h octets) may before = put_leaves m.world.legs h.slot (record h.leg { since = m.world.holding.next; resent = true }) before
  performed m (op.Await x leg) may before = put_leaves m.world.legs x (record leg { since = m.world.holding.next; resent = true }) before
  performed m (op.Remove x condition) may before = removed_leaves m.world.legs x condition may before
  performed m (op.Send line message) may before = before

  leaves_all : (m : Making) (os : List Operation) → GiveAll MayRemove os → Leaves m.world.legs → Leaves (making_after_all d m os).world.legs
  leaves_all m [] may before = before
  leaves_all m (o ∷ os) may before = leaves_all (making_after d m o) os may.1 (performed m o may.0 before)

  same_leaves : Leaves w.legs
  same_leaves z in_z = ((λ none. refl), (λ l at none. let wrong : Some l ≡ None = sym at ∙ none in absurd cc))

  -- ---- RESTART ACKNOWLEDGE

  -- the condition of a channel then
  abbrev confirmed : Restart → ℕ → Slot → Condition
  confirmed r line z = if restarts_slot r line z && is_unconfirmed w.legs z then Idle else condition_at w.legs z

  record AreConfirmed (r : Restart) (line : ℕ) (v : World) : Type 0 where
    held : v.legs.held ≡ w.legs.held
    conditions : (z : Slot) → IsExternal d.external z → condition_at v.legs z ≡ confirmed r line z

  module _ (r : Restart) (line : ℕ) (below : line < d.external) where
    abbrev SameHeld : ℕ → Making → Type 0
    SameHeld n m = m.world.legs.held ≡ w.legs.held

    own_idle : (m : Making) (x : Slot) (b : Bool)
        → condition_at (making_after_all d m (if b then Remove x Idle ∷ [] else [])).world.legs x ≡ (if b then Idle else condition_at m.world.legs x)
    own_idle m x true = set_idle m.world.legs.conditions (number_of x)
    own_idle m x false = refl

    others_stay : (m : Making) (x z : Slot) → IsExternal d.external x → IsExternal d.external z → (z ≡ x → ⊥) → (b : Bool)
        → condition_at (making_after_all d m (if b then Remove x Idle ∷ [] else [])).world.legs z ≡ condition_at m.world.legs z
    others_stay m x z in_x in_z apart true =
        get_or-set_other m.world.legs.conditions (number_of x) (number_of z) Idle Idle (λ n. apart (same_number z x in_z.1 in_x.1 n))
    others_stay m x z in_x in_z apart false = refl

    same_line : (line == line) ≡ true
    same_line = grind (arith, common_steps)

    turns : (n : ℕ) → n < 30 → (m : Making) → SameHeld n m
        → condition_at m.world.legs (record { line = line; place = n }) ≡ condition_at w.legs (record { line = line; place = n })
        → Turns d (confirm_rule r) line w (confirmed r line) SameHeld n m
    turns n small m held before =
        let x : Slot = record { line = line; place = n } in
        let leg : leg_at m.world.legs x ≡ leg_at w.legs x = ap (look x) held in
        let covers : Bool = is_restarted r n in
        record {
          next = confirm_held d s.tones r m x ∙ held;
          own =
              own_idle m x (covers && is_unconfirmed m.world.legs x)
              ∙ (λ i. if covers && (is_open (before i) && is_none (leg i)) then Idle else before i)
              ∙ ap (λ (b : Bool). if (b && covers) && is_unconfirmed w.legs x then Idle else condition_at w.legs x) (sym same_line);
          apart = λ z in_z apart. others_stay m x z (below, small) in_z apart (covers && is_unconfirmed m.world.legs x);
        }

    are_confirmed : AreConfirmed r line (outcome_below d (confirm_rule r) line w 30).making.world
    are_confirmed =
        let all = all_given d (confirm_rule r) line w (confirmed r line) SameHeld below refl turns 30 (omega arith) in
        record {
          held = all.fact;
          conditions = λ z in_z. each_given d (confirm_rule r) line w (confirmed r line) SameHeld (outcome_below d (confirm_rule r) line w 30).making all z in_z
              (λ apart. ap (λ (b : Bool). if (b && is_restarted r z.place) && is_unconfirmed w.legs z then Idle else condition_at w.legs z) (sym apart));
        }

  -- ---- each message

  -- what a request leaves
  abbrev Received : ℕ → Request → World → Type 0
  Received line (Confirms r) v = AreConfirmed r line v
  Received line other v = Leaves v.legs

  module _ (stands : CallsStand s w) where
    was_held : (v : World) (x : Slot) (leg : Leg) → (leg_at w.legs x ≡ None → leg_at v.legs x ≡ None) → leg_at v.legs x ≡ Some leg → WasHeld x
    was_held v x leg empty at none = let wrong : None ≡ Some leg = sym (empty none) ∙ at in cc

    module _ (r : Restart) (line n : ℕ) (a : MessageOutcome) (below : line < d.external) (small : n < 30)
        (so_far : AreRestartedBelow s r line w n a.making.world) where
      abbrev at_place : Slot
      at_place = record { line = line; place = n }

      abbrev legs : Legs
      legs = a.making.world.legs

      removes : GiveAll MayRemove (restart_slot s.tones r legs at_place)
      removes = restart_given MayRemove s.tones r legs at_place (λ leg at.
          let h : HeldLeg = record { slot = at_place; leg = leg } in
          let there = peer_there_too d.external s.tones a.making.world h so_far.kept.1 (below, small) at in (
            ((below, small), was_held a.making.world at_place leg (so_far.empty at_place (below, small)) at, refl),
            (λ k is on.
                let in_k = peer_within d.external h (peer_of legs leg.peer) there k is in
                (in_k, was_held a.making.world k.slot k.leg (so_far.empty k.slot in_k) (peer_held legs leg.peer k is), refl)),
          ))

    restarted : (r : Restart) (line : ℕ) → line < d.external → (n : ℕ) → n ≤ 30 → Leaves (outcome_below d (restart_rule s.tones r) line w n).making.world.legs
    restarted r line below zero small = subst (λ (a : MessageOutcome). Leaves a.making.world.legs)
        (sym (below_none d (restart_rule s.tones r) line w)) same_leaves
    restarted r line below (suc n) small =
        let a : MessageOutcome = outcome_below d (restart_rule s.tones r) line w n in
        let x : Slot = record { line = line; place = n } in
        subst (λ (b : MessageOutcome). Leaves b.making.world.legs) (sym (below_more d (restart_rule s.tones r) line w n))
        (leaves_all a.making (restart_slot s.tones r a.making.world.legs x)
        (removes r line n a below (omega (arith, small)) (restarted_below s r line w below (stands.circuits, stands.legs) n (omega (arith, small))))
        (restarted r line below n (omega (arith, small))))

    received_by : (line : ℕ) (octets : List ℕ) → line < d.external → (r : Request) → request_of w.legs line octets ≡ r
        → Received line r (outcome_for s w line r).making.world
    received_by line octets below (For_leg h m) is =
        let named = received_stands w.legs line octets h m is in
        let within : IsExternal d.external h.slot = (subst (λ n. n < d.external) (sym named.among.0) below, named.among.1) in
        let held : WasHeld h.slot = λ none. let wrong : None ≡ Some h.leg = sym none ∙ named.at in cc in
        leaves_all (making_at w) (course_of s w h m (act_on h.leg.state m)).operations
        (course_given MayRemove s w h m (within, held, refl) (act_on h.leg.state m)) same_leaves
    received_by line octets below (New_call m) is =
        leaves_all (making_at w) (course_of_setup s w line m).operations (setup_given MayRemove s w line m (refusal s w line m)) same_leaves
    received_by line octets below (On_no_call m) is =
        leaves_all (making_at w) (answer_back line (answer_without_call m)) (back_given MayRemove line (answer_without_call m)) same_leaves
    received_by line octets below (Restarts r) is = restarted r line below 30 (omega arith)
    received_by line octets below (Confirms r) is = are_confirmed r line below
    received_by line octets below Unanswered is = same_leaves

    received : (line : ℕ) (octets : List ℕ) → line < d.external → Received line (request_of w.legs line octets) (after_message s w line octets)
    received line octets below = received_by line octets below (request_of w.legs line octets) refl

-- ---- two readings of the conditions

and_true : (b : Bool) → (b && true) ≡ b
and_true true = refl
and_true false = refl

and_false : (b : Bool) → (b && false) ≡ false
and_false true = refl
and_false false = refl

-- by its conditions and its legs before and after the event: the condition is the same, or its leg was removed
still_at : (before afterwards : Bool) (o p : Option Leg) → (o ≡ None → afterwards ≡ before) → ((l : Leg) → o ≡ Some l → p ≡ None → afterwards ≡ false)
    → (afterwards && is_none p) ≡ (((before && is_none o) && true) && is_none p)
still_at before afterwards o (Some k) stays gone = and_false afterwards ∙ sym (and_false ((before && is_none o) && true))
still_at before afterwards None None stays gone = ap (λ (b : Bool). b && true) (stays refl ∙ sym (and_true (before && true) ∙ and_true before))
still_at before afterwards (Some l) None stays gone = ap (λ (b : Bool). b && true) (gone l refl refl ∙ sym (and_true (before && false) ∙ and_false before))

-- what is read of a channel is read still, unless the event settles it, or its slot gets a leg
abbrev pub StillReads : ℕ → (Condition → Bool) → World → World → (Slot → Bool) → Type 0
StillReads external reads w v settles =
    (x : Slot) → IsExternal external x → reads_at reads v.legs x ≡ ((reads_at reads w.legs x && not (settles x)) && is_none (leg_at v.legs x))

-- so what is read was read before
pub was_read : (before settled none : Bool) → ((before && not settled) && none) ≡ true → before ≡ true
was_read before settled none is = (both_true before (not settled) (both_true (before && not settled) none is).0).0

module _ (s : Setting) (w v : World) (reads : Condition → Bool) (idle : reads Idle ≡ false) where
  left_still : Leaves s w v.legs → StillReads s.dimensions.external reads w v (λ x. false)
  left_still leaves x in_x = still_at (reads (condition_at w.legs x)) (reads (condition_at v.legs x)) (leg_at w.legs x) (leg_at v.legs x)
      (λ empty. ap reads ((leaves x in_x).0 empty)) (λ l at none. ap reads ((leaves x in_x).1 l at none) ∙ idle)

-- a command leaves it
pub command_reads : (s : Setting) (w u : World) (reads : Condition → Bool) → reads Idle ≡ false → u.legs ≡ w.legs → (b : Bool)
    → StillReads s.dimensions.external reads w (if b then u else w) (λ x. false)
command_reads s w u reads idle same true = left_still s w u reads idle (subst (Leaves s w) (sym same) (same_leaves s w))
command_reads s w u reads idle same false = left_still s w w reads idle (same_leaves s w)

-- RESTART ACKNOWLEDGE settles what is unconfirmed, and nothing that is owed
confirmed_reads : (covers : Bool) (k : Condition) (o : Option Leg)
    → ((is_owing (if covers && (is_open k && is_none o) then Idle else k) && is_none o) ≡ (((is_owing k && is_none o) && not false) && is_none o))
    × ((is_open (if covers && (is_open k && is_none o) then Idle else k) && is_none o) ≡ (((is_open k && is_none o) && not covers) && is_none o))
confirmed_reads true Idle None = (refl, refl)
confirmed_reads true Idle (Some l) = (refl, refl)
confirmed_reads true Unconfirmed None = (refl, refl)
confirmed_reads true Unconfirmed (Some l) = (refl, refl)
confirmed_reads true Owed None = (refl, refl)
confirmed_reads true Owed (Some l) = (refl, refl)
confirmed_reads false Idle None = (refl, refl)
confirmed_reads false Idle (Some l) = (refl, refl)
confirmed_reads false Unconfirmed None = (refl, refl)
confirmed_reads false Unconfirmed (Some l) = (refl, refl)
confirmed_reads false Owed None = (refl, refl)
confirmed_reads false Owed (Some l) = (refl, refl)

module _ (s : Setting) (w v : World) (r : Restart) (line : ℕ) (done : AreConfirmed s w r line v) (x : Slot) (in_x : IsExternal s.dimensions.external x) where
  read_then : (reads : Condition → Bool) → reads_at reads v.legs x ≡ (reads (confirmed s w r line x) && is_none (leg_at w.legs x))
  read_then reads = let condition = done.conditions x in_x in let leg = ap (look x) done.held in λ i. reads (condition i) && is_none (leg i)

  leg_then : is_none (leg_at w.legs x) ≡ is_none (leg_at v.legs x)
  leg_then = ap is_none (sym (ap (look x) done.held))

  confirmed_then : (reads_at is_owing v.legs x ≡ ((reads_at is_owing w.legs x && not false) && is_none (leg_at v.legs x)))
      × (reads_at is_open v.legs x ≡ ((reads_at is_open w.legs x && not (restarts_slot r line x)) && is_none (leg_at v.legs x)))
  confirmed_then =
      let both = confirmed_reads (restarts_slot r line x) (condition_at w.legs x) (leg_at w.legs x) in (
        read_then is_owing ∙ both.0 ∙ ap (λ (b : Bool). (reads_at is_owing w.legs x && not false) && b) leg_then,
        read_then is_open ∙ both.1 ∙ ap (λ (b : Bool). (reads_at is_open w.legs x && not (restarts_slot r line x)) && b) leg_then,
      )

-- what is owed after a message, and what is unconfirmed
module _ (s : Setting) (w : World) where
  abbrev MessageReads : (line : ℕ) → Request → World → Type 0
  MessageReads line r v = StillReads s.dimensions.external is_owing w v (λ x. false) × StillReads s.dimensions.external is_open w v (confirms_slot line r)

  left_reads : (v : World) → Leaves s w v.legs
      → StillReads s.dimensions.external is_owing w v (λ x. false) × StillReads s.dimensions.external is_open w v (λ x. false)
  left_reads v leaves = (left_still s w v is_owing refl leaves, left_still s w v is_open refl leaves)

  reads_by : (line : ℕ) (r : Request) (v : World) → Received s w line r v → MessageReads line r v
  reads_by line (For_leg h m) v leaves = left_reads v leaves
  reads_by line (New_call m) v leaves = left_reads v leaves
  reads_by line (On_no_call m) v leaves = left_reads v leaves
  reads_by line (Restarts r) v leaves = left_reads v leaves
  reads_by line (Confirms r) v done = ((λ x in_x. (confirmed_then s w v r line done x in_x).0), (λ x in_x. (confirmed_then s w v r line done x in_x).1))
  reads_by line Unanswered v leaves = left_reads v leaves

  pub message_reads : CallsStand s w → (line : ℕ) (octets : List ℕ) → line < s.dimensions.external
      → MessageReads line (request_of w.legs line octets) (after_message s w line octets)
  message_reads stands line octets below = reads_by line (request_of w.legs line octets) (after_message s w line octets) (received s w stands line octets below)
