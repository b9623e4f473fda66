-- The condition of each channel after the exchange restarts a line, and for which exactly a RESTART is owed.
use Rattle.std.proofs.Common.{◌≡◌, ◌≢◌, ℕ, zero, suc, ◌*◌, ◌<◌, ◌≤◌, inl, inr, Bool, true, false, ◌&&◌, List, [], ◌∷◌, length, Option, Some, None, refl, sym, ◌∙◌, ap, subst, arith, eqb-true, set, length-set, get_or-set_same, get_or-set_other, if◌then◌else◌}
use Rattle.std.specs.Prelude.{◌==◌, is_none, slice_index_or}
use Rattle.std.proofs.lemmas.Grind.{common_steps}
use Rattle.circuit_model.specs.declared.channel.Slot.{Slot}
use Rattle.circuit_model.specs.Extent.{IsExternal}
use Rattle.circuit_model.proofs.Slots.{true_or_false}
use Rattle.control_memory.specs.Layout.{number_of}
use Rattle.control_memory.proofs.Steps.{same_number, number_inside}
use Rattle.q931_codec.specs.Causes.{temporary_failure}
use Rattle.call_states.specs.Conditions.{is_owing, unanswered}
use Rattle.call_states.specs.declared.condition.Condition.{Condition}
use Rattle.call_states.specs.declared.condition.Condition.TheVariants.{Idle}
use Rattle.call_states.specs.declared.leg.HeldLeg.{HeldLeg}
use Rattle.call_states.specs.declared.leg.Leg.{Leg}
use Rattle.tone_rules.specs.declared.tones.Tones.{Tones}
use Rattle.exchange_events.specs.declared.trace.Event.TheVariants.{RestartLine}
use Rattle.exchange_events.specs.Sizes.{Dimensions, Setting}
use Rattle.call_profile.specs.Acts.{peer_of, remove_leg, with_peer}
use Rattle.call_laws.specs.Dropped.{HasLine}
use Rattle.call_profile.specs.Legs.{condition_at, is_down, is_owed, leg_at}
use Rattle.call_profile.specs.LinkChanges.{give_up_leg, give_up_rule, give_up_slot, whole_line}
use Rattle.call_profile.specs.Operations as op
use Rattle.call_profile.specs.Operations.{Operation, Making, making_after, making_after_all}
use Rattle.call_laws.specs.OwedRestarts.{AreOwedByRestart}
use Rattle.call_profile.specs.Peers.{PeerIsThere}
use Rattle.call_profile.specs.Restarts.{MessageOutcome, outcome_at_slot, outcome_below, restart_peer, restarts_slot}
use Rattle.call_profile.specs.Step.{next}
use Rattle.call_profile.specs.World.{World}
use Rattle.call_profile.proofs.BesideLemmas.{same_or_apart}
use Rattle.call_profile.proofs.ClearingLemmas.{Kept}
use Rattle.call_profile.proofs.CommandLemmas.{both_true}
use Rattle.call_profile.proofs.GivenUpSlotLemmas.{give_up_kept}
use Rattle.call_laws.proofs.LineRestartLemmas.{legs_below, line_is_empty, other_lines_are_cleared}
use Rattle.call_profile.proofs.LinkLemmas.{at_held}
use Rattle.call_laws.proofs.LinkedLegLemmas.{entry_or_before}
use Rattle.call_profile.proofs.PermittedActLemmas.{peer_there_too}
use Rattle.call_laws.proofs.OwedSlotLemmas.{owing_unanswered}
use Rattle.call_laws.proofs.OwedTrackLemmas.{reads_at}
use Rattle.call_laws.proofs.RemovedSlotLemmas.{GiveAll, MayGive}
use Rattle.call_profile.proofs.RestartedSlotLemmas.{below_none, below_more, line_restarted_by}
use Rattle.call_profile.proofs.VacantSlotLemmas.{same_parts}

-- ---- operations that give channels of one line one condition

module _ (d : Dimensions) (line : ℕ) (condition : Condition) where
  record Sets (u v : World) : Type 0 where
    size : length v.legs.conditions ≡ length u.legs.conditions
    stays : (z : Slot) → condition_at u.legs z ≡ condition → condition_at v.legs z ≡ condition
    others : (z : Slot) → IsExternal d.external z → z.line ≢ line → condition_at v.legs z ≡ condition_at u.legs z

  sets_none : (u v : World) → v.legs.conditions ≡ u.legs.conditions → Sets u v
  sets_none u v same = record {
    size = ap length same;
    stays = λ z is. ap (λ (cs : List Condition). slice_index_or cs (number_of z) Idle) same ∙ is;
    others = λ z in_z off. ap (λ (cs : List Condition). slice_index_or cs (number_of z) Idle) same;
  }

  -- the legs of its slots are removed with this condition
  abbrev Here : Slot → Condition → Type 0
  Here x given = IsExternal d.external x × (x.line ≡ line) × (given ≡ condition)

  removed_sets : (m : Making) (x : Slot) (given : Condition) → Here x given → Sets m.world (making_after d m (op.Remove x given)).world
  removed_sets m x given may = record {
    size = length-set m.world.legs.conditions (number_of x) given;
    stays = λ z is. elim (entry_or_before m.world.legs.conditions (number_of x) (number_of z) given Idle) [
      | inl new ↦ new ∙ may.2
      | inr old ↦ old ∙ is
    ];
    others = λ z in_z off. get_or-set_other m.world.legs.conditions (number_of x) (number_of z) given Idle
        (λ n. off (ap (λ (q : Slot). q.line) (same_number z x in_z.1 may.0.1 n) ∙ may.1));
  }

  performed : (m : Making) (o : Operation) → MayGive Here o → Sets m.world (making_after d m o).world
  performed m (op.Clear x) may = sets_none m.world (making_after d m (op.Clear x)).world refl
  performed m (op.Pair x y) may = sets_none m.world (making_after d m (op.Pair x y)).world refl
  performed m (op.Seat x room) may = sets_none m.world (making_after d m (op.Seat x room)).world refl
  performed m (op.Sound x kind) may = sets_none m.world (making_after d m (op.Sound x kind)).world refl
  performed m (op.Put x leg) may = sets_none m.world (making_after d m (op.Put x leg)).world refl
  performed m (op.Wait x leg p) may = sets_none m.world (making_after d m (op.Wait x leg p)).world refl
  performed m (op.Expect x leg message) may = sets_none m.world (making_after d m (op.Expect x leg message)).world refl
  performed m (op.Repeat h octets) may = sets_none m.world (making_after d m (op.Repeat h octets)).world refl
  performed m (op.Await x leg) may = sets_none m.world (making_after d m (op.Await x leg)).world refl
  performed m (op.Remove x given) may = removed_sets m x given may
  performed m (op.Send to message) may = sets_none m.world (making_after d m (op.Send to message)).world refl

  sets_both : (u v w : World) → Sets u v → Sets v w → Sets u w
  sets_both u v w one other = record {
    size = other.size ∙ one.size;
    stays = λ z is. other.stays z (one.stays z is);
    others = λ z in_z off. other.others z in_z off ∙ one.others z in_z off;
  }

  performed_all : (m : Making) (os : List Operation) → GiveAll Here os → Sets m.world (making_after_all d m os).world
  performed_all m [] may = sets_none m.world m.world refl
  performed_all m (o ∷ os) may =
      sets_both m.world (making_after d m o).world (making_after_all d (making_after d m o) os).world (performed m o may.0)
      (performed_all (making_after d m o) os may.1)

  -- ---- one slot

  -- its own condition is set, and no other but of its line
  record SetsHere (u v : World) (x : Slot) : Type 0 where
    here : condition_at v.legs x ≡ condition
    sets : Sets u v

  module _ (tones : Tones) (m : Making) (x : Slot) (on_line : x.line ≡ line) (kept : Kept d tones m.world) (within : IsExternal d.external x)
      (size : length m.world.legs.conditions ≡ 30 * d.external) where
    set_here : slice_index_or (set m.world.legs.conditions (number_of x) condition) (number_of x) Idle ≡ condition
    set_here = get_or-set_same m.world.legs.conditions (number_of x) condition Idle
        (let inside = number_inside d.external x within in omega (arith, inside, size))

    peer_sets : (leg : Leg) (o : Option HeldLeg) → PeerIsThere d.external (record { slot = x; leg = leg }) o
        → GiveAll Here (with_peer o (restart_peer tones temporary_failure condition whole_line x.line))
    peer_sets leg None there = tt
    peer_sets leg (Some k) there = elim (true_or_false (restarts_slot whole_line x.line k.slot)) [
      | inl too ↦ rw too (tt, ((there.0.within, eqb-true k.slot.line x.line (both_true (k.slot.line == x.line) true too).0 ∙ on_line, refl), tt))
      | inr not_so ↦ rw not_so (tt, (tt, (tt, (tt, tt))))
    ]

    leg_sets : (leg : Leg) → leg_at m.world.legs x ≡ Some leg
        → SetsHere m.world (making_after_all d m (give_up_leg tones condition m.world.legs x (Some (record { slot = x; leg = leg })))).world x
    leg_sets leg at =
        let h : HeldLeg = record { slot = x; leg = leg } in
        let gone : Making = making_after_all d m (remove_leg condition h) in
        let others : List Operation = with_peer (peer_of m.world.legs leg.peer) (restart_peer tones temporary_failure condition whole_line x.line) in
        let one = performed_all m (remove_leg condition h) (tt, ((within, on_line, refl), tt)) in
        let rest = performed_all gone others (peer_sets leg (peer_of m.world.legs leg.peer) (peer_there_too d.external tones m.world h kept.1 within at)) in
        record {
          here = rest.stays x set_here;
          sets = sets_both m.world gone.world (making_after_all d gone others).world one rest;
        }

    slot_sets : SetsHere m.world (making_after_all d m (give_up_slot tones condition m.world.legs x)).world x
    slot_sets = at_held m.world.legs x (give_up_leg tones condition m.world.legs x) (λ os. SetsHere m.world (making_after_all d m os).world x)
        (λ none. record { here = set_here; sets = removed_sets m x condition (within, on_line, refl) })
        leg_sets

-- ---- the slots of the line

module _ (s : Setting) (w : World) (line : ℕ) (can : HasLine s w line) (count : length w.legs.conditions ≡ 30 * s.dimensions.external) where
  abbrev d : Dimensions
  d = s.dimensions

  abbrev due : Condition
  due = unanswered (is_down w.legs line)

  record ConditionsBelow (n : ℕ) (v : World) : Type 0 where
    kept : Kept d s.tones v
    size : length v.legs.conditions ≡ 30 * d.external
    here : (z : Slot) → IsExternal d.external z → z.line ≡ line → z.place < n → condition_at v.legs z ≡ due
    others : (z : Slot) → IsExternal d.external z → z.line ≢ line → condition_at v.legs z ≡ condition_at w.legs z

  step : (n : ℕ) → n < 30 → (a : MessageOutcome) → ConditionsBelow n a.making.world
      → ConditionsBelow (suc n) (outcome_at_slot d (give_up_rule s.tones due) (record { line = line; place = n }) a).making.world
  step n small a so_far =
      let x : Slot = record { line = line; place = n } in
      let u : World = a.making.world in
      let v : World = (making_after_all d a.making (give_up_slot s.tones due u.legs x)).world in
      let done = slot_sets d line due s.tones a.making x refl so_far.kept (can.line_exists, small) so_far.size in
      record {
        kept = give_up_kept d s.tones due a.making x so_far.kept (can.line_exists, small);
        size = done.sets.size ∙ so_far.size;
        here = λ z in_z on less. elim (same_or_apart z x) [
          | inl same ↦ ap (condition_at v.legs) same ∙ done.here
          | inr apart ↦
              let other : z.place ≡ n → ⊥ = λ place. apart (same_parts z line n on place) in
              done.sets.stays z (so_far.here z in_z on (omega (arith, less, other)))
        ];
        others = λ z in_z off. done.sets.others z in_z off ∙ so_far.others z in_z off;
      }

  conditions_below : (n : ℕ) → n ≤ 30 → ConditionsBelow n (outcome_below d (give_up_rule s.tones due) line w n).making.world
  conditions_below zero small = subst (λ (a : MessageOutcome). ConditionsBelow 0 a.making.world)
      (sym (below_none d (give_up_rule s.tones due) line w)) (record {
        kept = (can.stands.circuits, can.stands.legs);
        size = count;
        here = λ z in_z on less. absurd (omega (arith, less));
        others = λ z in_z off. refl;
      })
  conditions_below (suc n) small =
      subst (λ (a : MessageOutcome). ConditionsBelow (suc n) a.making.world) (sym (below_more d (give_up_rule s.tones due) line w n))
      (step n (omega (arith, small)) (outcome_below d (give_up_rule s.tones due) line w n) (conditions_below n (omega (arith, small))))

  abbrev after_restart : World
  after_restart = next s w (RestartLine line)

  conditions : ConditionsBelow 30 after_restart
  conditions = line_restarted_by d s.tones line w (ConditionsBelow 30) (conditions_below 30 (omega arith))

  -- ---- what is owed

  and_true : (b : Bool) → (b && true) ≡ b
  and_true true = refl
  and_true false = refl

  pub none_too : (x : Slot) → IsExternal d.external x → x.line ≢ line → (o : Option Leg) → leg_at w.legs x ≡ o
      → is_none (leg_at after_restart.legs x) ≡ is_none o
  none_too x in_x off None at = ap is_none ((legs_below s w line can).empty x in_x at)
  none_too x in_x off (Some leg) at = ap is_none (other_lines_are_cleared s w line can x leg in_x off at)

  -- a reading of the conditions: that a RESTART is owed, or that the channel is unconfirmed
  pub read_after_restart : (reads : Condition → Bool) (x : Slot) → IsExternal d.external x
      → reads_at reads after_restart.legs x ≡ (if x.line == line then reads due else reads_at reads w.legs x)
  read_after_restart reads x in_x = elim (true_or_false (x.line == line)) [
    | inl same ↦
        let on = eqb-true x.line line same in
        let condition = conditions.here x in_x on in_x.1 in
        let none : is_none (leg_at after_restart.legs x) ≡ true = ap is_none (line_is_empty s w line can x in_x on) in
        (λ i. reads (condition i) && none i) ∙ and_true (reads due) ∙ sym (ap (λ (b : Bool). if b then reads due else reads_at reads w.legs x) same)
    | inr apart ↦
        let off : x.line ≢ line = λ is. grind (arith, common_steps, apart, is) in
        let condition = conditions.others x in_x off in
        let none = none_too x in_x off (leg_at w.legs x) refl in
        (λ i. reads (condition i) && none i) ∙ sym (ap (λ (b : Bool). if b then reads due else reads_at reads w.legs x) apart)
  ]

  pub owed_by_restart : AreOwedByRestart d.external line w after_restart
  owed_by_restart x in_x =
      read_after_restart is_owing x in_x
      ∙ ap (λ (b : Bool). if x.line == line then b else is_owed w.legs x) (owing_unanswered (is_down w.legs line))
