-- The condition of each channel after the establishment of a data link.
use Rattle.std.proofs.Common.{◌≡◌, ℕ, ◌*◌, ◌<◌, ◌≤◌, Bool, true, false, ◌&&◌, ◌||◌, List, [], length, Option, Some, None, refl, sym, ◌∙◌, ap, arith, get_or-set_same, get_or-set_other, if◌then◌else◌}
use Rattle.std.specs.Prelude.{◌==◌, is_none, nat_lt, not, option_map}
use Rattle.std.proofs.lemmas.Grind.{common_steps}
use Rattle.circuit_model.specs.declared.channel.Slot.{Slot}
use Rattle.circuit_model.specs.Extent.{IsExternal}
use Rattle.control_memory.specs.Layout.{number_of}
use Rattle.control_memory.proofs.Steps.{same_number, number_inside}
use Rattle.call_states.specs.Conditions.{is_open, is_owing}
use Rattle.call_states.specs.declared.condition.Condition.{Condition}
use Rattle.call_states.specs.declared.condition.Condition.TheVariants.{Idle, Owed, Unconfirmed}
use Rattle.call_states.specs.declared.leg.HeldLeg.{HeldLeg}
use Rattle.call_states.specs.declared.leg.Leg.{Leg}
use Rattle.tone_rules.specs.declared.tones.Tones.{Tones}
use Rattle.exchange_events.specs.declared.trace.Event.TheVariants.{LinkUp}
use Rattle.exchange_events.specs.Sizes.{Dimensions, Setting}
use Rattle.call_profile.specs.Expiring.{send_again}
use Rattle.call_profile.specs.Legs.{awaits_restart, condition_at, kept_at, leg_at, without_leg}
use Rattle.call_profile.specs.LinkChanges.{restart_channel, resume_held, resume_leg, resume_slot, rule_of, whole_line, with_line}
use Rattle.call_profile.specs.Operations.{Operation, Making, making_after_all}
use Rattle.call_profile.specs.Restarts.{outcome_below, restarts_slot}
use Rattle.call_profile.specs.Step.{next}
use Rattle.call_profile.specs.World.{World}
use Rattle.call_laws.specs.Dropped.{HasLine}
use Rattle.call_laws.specs.Resumed.{resumed, resumed_on}
use Rattle.call_profile.proofs.ClearingLemmas.{Kept}
use Rattle.call_profile.proofs.LinkLemmas.{at_held, by_resume}
use Rattle.call_profile.proofs.RestartedSlotLemmas.{linked_by}
use Rattle.call_laws.proofs.ChannelConditionLemmas.{AreGiven, Turns, all_given, each_given}
use Rattle.call_laws.proofs.ConditionCountLemmas.{performed_all_conditions}
use Rattle.call_laws.proofs.OwedTrackLemmas.{reads_at}
use Rattle.call_laws.proofs.RestartedLineLemmas.{lt_false, none_before}
use Rattle.call_laws.proofs.ResumedLineLemmas.{AreResumed, resumed_below, mapped, one_more as legs_one_more, start as legs_start, legs_are_resumed}

-- ---- one slot

module _ (d : Dimensions) (tones : Tones) (whole : Bool) (m : Making) (x : Slot) (kept : Kept d tones m.world) (within : IsExternal d.external x) where
  abbrev condition_after : List Operation → Slot → Condition
  condition_after os z = condition_at (making_after_all d m os).world.legs z

  abbrev turn : List Operation
  turn = resume_slot tones whole m.world.legs x

  -- a slot with a leg changes no condition
  again_stays : (z : Slot) (h : HeldLeg) (o : Option (List ℕ)) → condition_after (send_again h o) z ≡ condition_at m.world.legs z
  again_stays z h None = refl
  again_stays z h (Some octets) = refl

  leg_stays : (z : Slot) (leg : Leg) → leg_at m.world.legs x ≡ Some leg
      → condition_after (resume_leg tones m.world.legs (record { slot = x; leg = leg })) z ≡ condition_at m.world.legs z
  leg_stays z leg at = by_resume d tones m x leg kept within at (λ os. condition_after os z ≡ condition_at m.world.legs z) (λ talks. refl) (λ dials. refl)
      (λ clears. again_stays z (record { slot = x; leg = leg }) (kept_at m.world.legs x)) refl

  -- one without a leg changes no other
  channel_apart : (z : Slot) → IsExternal d.external z → (z ≡ x → ⊥) → (awaits other : Bool)
      → condition_after (if awaits then restart_channel other x else []) z ≡ condition_at m.world.legs z
  channel_apart z in_z apart true true =
      get_or-set_other m.world.legs.conditions (number_of x) (number_of z) Unconfirmed Idle (λ n. apart (same_number z x in_z.1 within.1 n))
  channel_apart z in_z apart true false =
      get_or-set_other m.world.legs.conditions (number_of x) (number_of z) Unconfirmed Idle (λ n. apart (same_number z x in_z.1 within.1 n))
  channel_apart z in_z apart false other = refl

  conditions_apart : (z : Slot) → IsExternal d.external z → (z ≡ x → ⊥) → condition_after turn z ≡ condition_at m.world.legs z
  conditions_apart z in_z apart =
      at_held m.world.legs x (resume_held tones whole m.world.legs x) (λ os. condition_after os z ≡ condition_at m.world.legs z)
      (λ none. channel_apart z in_z apart (awaits_restart m.world.legs x) whole) (leg_stays z)

  -- and is unconfirmed if it awaited RESTART
  module _ (size : length m.world.legs.conditions ≡ 30 * d.external) where
    sent : condition_at (without_leg m.world.legs x Unconfirmed) x ≡ Unconfirmed
    sent = get_or-set_same m.world.legs.conditions (number_of x) Unconfirmed Idle
        (let inside = number_inside d.external x within in omega (arith, inside, size))

    channel_own : (awaits other : Bool) → condition_after (if awaits then restart_channel other x else []) x
        ≡ (if awaits then Unconfirmed else condition_at m.world.legs x)
    channel_own true true = sent
    channel_own true false = sent
    channel_own false other = refl

    no_leg : (owing unsure : Bool) → ((owing && false) || (unsure && false)) ≡ false
    no_leg true true = refl
    no_leg true false = refl
    no_leg false true = refl
    no_leg false false = refl

    held_stays : (leg : Leg) → leg_at m.world.legs x ≡ Some leg
        → (if awaits_restart m.world.legs x then Unconfirmed else condition_at m.world.legs x) ≡ condition_at m.world.legs x
    held_stays leg at =
        let k : Condition = condition_at m.world.legs x in
        (λ i. if (is_owing k && is_none (at i)) || (is_open k && is_none (at i)) then Unconfirmed else k)
        ∙ ap (λ (b : Bool). if b then Unconfirmed else k) (no_leg (is_owing k) (is_open k))

    own_raised : condition_after turn x ≡ (if awaits_restart m.world.legs x then Unconfirmed else condition_at m.world.legs x)
    own_raised =
        at_held m.world.legs x (resume_held tones whole m.world.legs x)
        (λ os. condition_after os x ≡ (if awaits_restart m.world.legs x then Unconfirmed else condition_at m.world.legs x))
        (λ none. channel_own (awaits_restart m.world.legs x) whole) (λ leg at. leg_stays x leg at ∙ sym (held_stays leg at))

-- ---- the slots of the line

-- before its turn a slot has its leg
pub leg_not_yet : (s : Setting) (line : ℕ) (w : World) (n : ℕ) → line < s.dimensions.external → n < 30 → (v : World) → AreResumed s line w n v
    → leg_at v.legs (record { line = line; place = n }) ≡ leg_at w.legs (record { line = line; place = n })
leg_not_yet s line w n below small v so_far =
    let here : Slot = record { line = line; place = n } in
    so_far.legs here (below, small)
    ∙ mapped (resumed_below line w n here) (leg_at w.legs here) (λ l. ap (λ (b : Bool). if b then resumed w l else l)
    (none_before (restarts_slot whole_line line here) (nat_lt n n) (lt_false whole_line line n n (omega arith))))

module _ (s : Setting) (w : World) (line : ℕ) (can : HasLine s w line) (count : length w.legs.conditions ≡ 30 * s.dimensions.external) where
  abbrev d : Dimensions
  d = s.dimensions

  abbrev begins : World
  begins = with_line w line false

  abbrev raised : Slot → Condition
  raised z = if (z.line == line) && awaits_restart w.legs z then Unconfirmed else condition_at w.legs z

  abbrev Fact : ℕ → Making → Type 0
  Fact n m = AreResumed s line w n m.world × (length m.world.legs.conditions ≡ 30 * d.external)

  same_line : (line == line) ≡ true
  same_line = grind (arith, common_steps)

  turns : (whole : Bool) (n : ℕ) → n < 30 → (m : Making) → Fact n m
      → condition_at m.world.legs (record { line = line; place = n }) ≡ condition_at w.legs (record { line = line; place = n })
      → Turns d (rule_of s.tones whole false) line begins raised Fact n m
  turns whole n small m fact before =
      let x : Slot = record { line = line; place = n } in
      let in_x : IsExternal d.external x = (can.line_exists, small) in
      let leg : leg_at m.world.legs x ≡ leg_at w.legs x = leg_not_yet s line w n can.line_exists small m.world fact.0 in
      record {
        next = (
          legs_one_more s whole line w n can.line_exists small m fact.0,
          performed_all_conditions d m (resume_slot s.tones whole m.world.legs x) ∙ fact.1,
        );
        own =
            own_raised d s.tones whole m x fact.0.kept in_x fact.1
            ∙ (λ i. if (is_owing (before i) && is_none (leg i)) || (is_open (before i) && is_none (leg i)) then Unconfirmed else before i)
            ∙ ap (λ (b : Bool). if b && awaits_restart w.legs x then Unconfirmed else condition_at w.legs x) (sym same_line);
        apart = conditions_apart d s.tones whole m x fact.0.kept in_x;
      }

  pub raised_below : (whole : Bool) (n : ℕ) → n ≤ 30
      → AreGiven d (rule_of s.tones whole false) line begins raised Fact n (outcome_below d (rule_of s.tones whole false) line begins n).making
  raised_below whole n small =
      all_given d (rule_of s.tones whole false) line begins raised Fact can.line_exists (legs_start s whole line w can.line_exists can.stands, count)
      (turns whole) n small

  pub conditions_raised : (z : Slot) → IsExternal d.external z → condition_at (next s w (LinkUp line)).legs z ≡ raised z
  conditions_raised z in_z = linked_by d s.tones false line w (λ v. condition_at v.legs z ≡ raised z) (λ whole.
      each_given d (rule_of s.tones whole false) line begins raised Fact (outcome_below d (rule_of s.tones whole false) line begins 30).making
      (raised_below whole 30 (omega arith)) z in_z
      (λ apart. ap (λ (b : Bool). if b && awaits_restart w.legs z then Unconfirmed else condition_at w.legs z) (sym apart)))

  -- ---- two readings of the conditions

  raised_reads : (on : Bool) (k : Condition) (o : Option Leg)
      → ((is_owing (if on && ((is_owing k && is_none o) || (is_open k && is_none o)) then Unconfirmed else k) && is_none o)
      ≡ (((is_owing k && is_none o) && not on) && is_none o))
      × ((is_open (if on && ((is_owing k && is_none o) || (is_open k && is_none o)) then Unconfirmed else k) && is_none o)
      ≡ ((on && ((is_owing k && is_none o) || (is_open k && is_none o))) || (((is_open k && is_none o) && not false) && is_none o)))
  raised_reads true Idle None = (refl, refl)
  raised_reads true Idle (Some l) = (refl, refl)
  raised_reads true Unconfirmed None = (refl, refl)
  raised_reads true Unconfirmed (Some l) = (refl, refl)
  raised_reads true Owed None = (refl, refl)
  raised_reads true Owed (Some l) = (refl, refl)
  raised_reads false Idle None = (refl, refl)
  raised_reads false Idle (Some l) = (refl, refl)
  raised_reads false Unconfirmed None = (refl, refl)
  raised_reads false Unconfirmed (Some l) = (refl, refl)
  raised_reads false Owed None = (refl, refl)
  raised_reads false Owed (Some l) = (refl, refl)

  none_mapped : (f : Leg → Leg) (o : Option Leg) → is_none (option_map f o) ≡ is_none o
  none_mapped f None = refl
  none_mapped f (Some l) = refl

  module _ (x : Slot) (in_x : IsExternal d.external x) where
    abbrev v : World
    v = next s w (LinkUp line)

    no_leg_more : is_none (leg_at v.legs x) ≡ is_none (leg_at w.legs x)
    no_leg_more = ap is_none (legs_are_resumed s w line can x in_x) ∙ none_mapped (resumed_on line w x) (leg_at w.legs x)

    read_raised : (reads : Condition → Bool) → reads_at reads v.legs x ≡ (reads (raised x) && is_none (leg_at w.legs x))
    read_raised reads = let condition = conditions_raised x in_x in λ i. reads (condition i) && no_leg_more i

    pub owed_raised : reads_at is_owing v.legs x ≡ ((reads_at is_owing w.legs x && not (x.line == line)) && is_none (leg_at v.legs x))
    owed_raised =
        read_raised is_owing ∙ (raised_reads (x.line == line) (condition_at w.legs x) (leg_at w.legs x)).0
        ∙ ap (λ (b : Bool). (reads_at is_owing w.legs x && not (x.line == line)) && b) (sym no_leg_more)

    pub unconfirmed_raised : reads_at is_open v.legs x
        ≡ (((x.line == line) && awaits_restart w.legs x) || ((reads_at is_open w.legs x && not false) && is_none (leg_at v.legs x)))
    unconfirmed_raised =
        read_raised is_open ∙ (raised_reads (x.line == line) (condition_at w.legs x) (leg_at w.legs x)).1
        ∙ ap (λ (b : Bool). ((x.line == line) && awaits_restart w.legs x) || ((reads_at is_open w.legs x && not false) && b)) (sym no_leg_more)
