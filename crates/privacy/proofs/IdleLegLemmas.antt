-- An idle slot gets no tone and no leg without another leg, except by an event of its line.
use Rattle.std.proofs.Common.{◌≡◌, ℕ, ◌*◌, ◌<◌, inl, inr, ⊎_elim, Bool, true, false, List, [], ◌∷◌, Option, Some, None, length, length-set, refl, sym, ◌∙◌, ap, subst, arith, ◌⊎◌}
use Rattle.std.specs.List.{Contains}
use Rattle.std.specs.Prelude.{◌==◌, not, if◌then◌else◌}
use Rattle.std.proofs.lemmas.Bool.Decides.{nat_tests}
use Rattle.std.proofs.lemmas.List.Elements.{Contains-append_cases}
use Rattle.circuit_model.specs.declared.channel.Slot.{Slot}
use Rattle.circuit_model.specs.declared.circuit.Circuit.TheVariants as circuit
use Rattle.circuit_model.specs.declared.circuit.Kind.{Kind}
use Rattle.circuit_model.specs.Circuits.{heard_by, names}
use Rattle.circuit_model.specs.Extent.{IsExternal}
use Rattle.circuit_model.specs.Holding.{Connect, Seat as Take_seat, Clear as Clear_slot}
use Rattle.circuit_model.proofs.Age.{cons_cases, none_in_nil, within_filtered}
use Rattle.circuit_model.proofs.Hearing.{heard_by-stands}
use Rattle.circuit_model.proofs.Slots.{heard_by_idle_is_deaf, same_slot-true, true_or_false}
use Rattle.circuit_model.proofs.Validity.{heard_by-listener}
use Rattle.control_memory.specs.Layout.{number_of}
use Rattle.q931_codec.specs.declared.message.Message.{Message}
use Rattle.q931_codec.specs.Contents.{called_in, channel_in}
use Rattle.q931_codec.specs.CallStates.{overlap_sending, active}
use Rattle.call_states.specs.Acts.{act_on}
use Rattle.call_states.specs.declared.act.Act.{Act}
use Rattle.call_states.specs.declared.act.Act.TheVariants as act
use Rattle.call_states.specs.declared.leg.HeldLeg.{HeldLeg}
use Rattle.call_states.specs.declared.leg.Leg.{Leg}
use Rattle.call_states.specs.declared.leg.Peer.TheVariants as peer
use Rattle.call_states.specs.declared.pending.Pending.{Pending}
use Rattle.clearing_rules.specs.UnknownReference.{answer_without_call}
use Rattle.number_plan.specs.declared.target.Found.{Found}
use Rattle.number_plan.specs.declared.target.Found.TheVariants.{Line, Lines, Room, More, Nothing}
use Rattle.exchange_events.specs.declared.trace.Event.{Event}
use Rattle.exchange_events.specs.declared.trace.Event.TheVariants.{Nail, Seat, Free, Message as Message_event, LinkUp, LinkDown, RestartLine, Frame}
use Rattle.exchange_events.specs.Sizes.{Setting, Dimensions}
use Rattle.exchange_events.specs.Sound.{Fits, IsPlanned}
use Rattle.call_profile.specs.ActCourse.{course_of}
use Rattle.call_profile.specs.Calls.{Request, For_leg, New_call, On_no_call, Restarts, Confirms, Unanswered, request_of, answer_back, outcome_for, after_message}
use Rattle.call_profile.specs.Digits.{asked_with, digits_refusal, dial_on, with_pending}
use Rattle.call_profile.specs.IdleSlots.{idle, is_nailed}
use Rattle.call_profile.specs.LegStanding.{CallsStand}
use Rattle.call_profile.specs.Legs.{Legs, leg_at, pending_at, with_entry, retransmitted_from}
use Rattle.call_profile.specs.Operations as op
use Rattle.call_profile.specs.Operations.{Operation, Making, begun, making_at, making_after, making_after_all}
use Rattle.call_profile.specs.Setup.{call, accept, accept_at, setup, refusal, caller_slot, called_slot, target_dialled, call_asked, caller_leg, ask_for_digits}
use Rattle.call_profile.specs.Step.{next, may_nail, may_seat}
use Rattle.call_profile.specs.World.{World, obey}
use Rattle.call_profile.proofs.BesideLemmas.{leg_at-with_entry_here, leg_at-with_entry_else, same_or_apart}
use Rattle.call_profile.proofs.CommandLemmas.{both_true, is_empty}
use Rattle.call_profile.proofs.NamedLegLemmas.{received_stands}
use Rattle.call_profile.proofs.SetupLemmas.{caller_is}
use Rattle.call_profile.proofs.AnsweredLegLemmas.{answered_does}
use Rattle.privacy.specs.Lines.{IsAsBefore, IsChange}
use Rattle.privacy.specs.Undisturbed.{IsOnLine, IsSingle}
use Rattle.privacy.proofs.CalledLemmas.{called_idle}
use Rattle.privacy.proofs.FootprintLemmas.{MissAll, Misses}
use Rattle.privacy.proofs.LineLemmas.{IsStrange, own_cleared, course_skip, answer_skip, confirmed, linked, given_up, restarted}
use Rattle.privacy.proofs.StayingLemmas.{turn_leaves}
use Rattle.privacy.proofs.VoicedLemmas.{tone_before_pair, tone_before_seat}

-- the leg has another leg in its call
abbrev pub HasOther : Leg → Type 0
HasOther leg = (p : Slot) × (leg.peer ≡ peer.Leg p)

-- ---- operations that give a slot no tone, and no leg without another leg

module _ (d : Dimensions) (z : Slot) (in_z : IsExternal d.external z) where
  abbrev Writes : Slot → Leg → Type 0
  Writes x leg = IsExternal d.external x × (z ≡ x → HasOther leg)

  abbrev pub Spares : Operation → Type 0
  Spares (op.Clear x) = Unit {0}
  Spares (op.Pair x y) = Unit {0}
  Spares (op.Seat x room) = Unit {0}
  Spares (op.Sound x kind) = z ≡ x → ⊥
  Spares (op.Put x leg) = Writes x leg
  Spares (op.Wait x leg p) = Writes x leg
  Spares (op.Expect x leg message) = Writes x leg
  Spares (op.Repeat h octets) = Writes h.slot h.leg
  Spares (op.Await x leg) = Writes x leg
  Spares (op.Remove x condition) = IsExternal d.external x
  Spares (op.Send line message) = Unit {0}

  abbrev pub SpareAll : List Operation → Type 0
  SpareAll [] = Unit {0}
  SpareAll (o ∷ os) = Spares o × SpareAll os

  -- an operation that misses the slot spares it
  one_misses : (u : World) (o : Operation) → Misses d u z in_z o → Spares o
  one_misses u (op.Clear x) may = tt
  one_misses u (op.Pair x y) may = tt
  one_misses u (op.Seat x room) may = tt
  one_misses u (op.Sound x kind) may = may.1
  one_misses u (op.Put x leg) may = (may.0, λ same. absurd (may.1 same))
  one_misses u (op.Wait x leg p) may = (may.0, λ same. absurd (may.1 same))
  one_misses u (op.Expect x leg message) may = (may.0, λ same. absurd (may.1 same))
  one_misses u (op.Repeat h octets) may = (may.0, λ same. absurd (may.1 same))
  one_misses u (op.Await x leg) may = (may.0, λ same. absurd (may.1 same))
  one_misses u (op.Remove x condition) may = may.0
  one_misses u (op.Send line message) may = tt

  pub all_miss : (u : World) (os : List Operation) → MissAll d u z in_z os → SpareAll os
  all_miss u [] may = tt
  all_miss u (o ∷ os) may = (one_misses u o may.0, all_miss u os may.1)

  -- the slot has no tone, and no leg without another leg
  pub record IsSpared (v : World) : Type 0 where
    pub size : length v.legs.held ≡ 30 * d.external
    pub leg : (l : Leg) → leg_at v.legs z ≡ Some l → HasOther l
    pub tone : (kind : Kind) (since : ℕ) → ¬ (Contains v.holding.circuits (circuit.Tone kind z since))

  -- one entry written
  module _ (legs : Legs) (x : Slot) (o : Option Leg) (size : length legs.held ≡ 30 * d.external) (in_x : IsExternal d.external x)
      (new : (l : Leg) → o ≡ Some l → z ≡ x → HasOther l) (old : (l : Leg) → leg_at legs z ≡ Some l → HasOther l) where
    wrote : (l : Leg) → leg_at (with_entry legs x o) z ≡ Some l → HasOther l
    wrote l at = elim (same_or_apart z x) [
      | inl same ↦ new l (sym (leg_at-with_entry_here d.external legs x o size in_x) ∙ sym (ap (leg_at (with_entry legs x o)) same) ∙ at) same
      | inr apart ↦ old l (sym (leg_at-with_entry_else d.external legs x z o in_x in_z apart) ∙ at)
    ]

  put : (legs : Legs) (x : Slot) (leg : Leg) → length legs.held ≡ 30 * d.external → Writes x leg → ((l : Leg) → leg_at legs z ≡ Some l → HasOther l)
      → (l : Leg) → leg_at (with_entry legs x (Some leg)) z ≡ Some l → HasOther l
  put legs x leg size may = wrote legs x (Some leg) size may.0 (λ l e same. let here : leg ≡ l = cc in subst HasOther here (may.1 same))

  one_spared : (m : Making) (o : Operation) → Spares o → IsSpared m.world → IsSpared (making_after d m o).world
  one_spared m (op.Clear x) may so_far = record { size = so_far.size; leg = so_far.leg; tone = λ kind since inside. so_far.tone kind since (within_filtered (λ c. not (names x c)) m.world.holding.circuits (circuit.Tone kind z since) inside) }
  one_spared m (op.Pair x y) may so_far = record { size = so_far.size; leg = so_far.leg; tone = λ kind since inside. so_far.tone kind since (tone_before_pair m.world.holding x y z kind since inside) }
  one_spared m (op.Seat x room) may so_far = record { size = so_far.size; leg = so_far.leg; tone = λ kind since inside. so_far.tone kind since (tone_before_seat m.world.holding x room z kind since inside) }
  one_spared m (op.Sound x None) may so_far = record { size = so_far.size; leg = so_far.leg; tone = so_far.tone }
  one_spared m (op.Sound x (Some given)) may so_far = record {
    size = so_far.size;
    leg = so_far.leg;
    tone = λ kind since inside.
        let p = circuit.Tone given x m.world.holding.next in
        let c = circuit.Tone kind z since in
        ⊎_elim (λ (old : Contains m.world.holding.circuits c). so_far.tone kind since old)
        (λ (new : Contains (p ∷ []) c). ⊎_elim (λ (e : p ≡ c). may cc) (λ (never : Contains [] c). none_in_nil c never) (cons_cases p [] c new))
        (Contains-append_cases m.world.holding.circuits (p ∷ []) c inside);
  }
  one_spared m (op.Put x leg) may so_far = record { size = length-set m.world.legs.held (number_of x) (Some (begun m.world leg)) ∙ so_far.size; leg = put m.world.legs x (begun m.world leg) so_far.size may so_far.leg; tone = so_far.tone }
  one_spared m (op.Wait x leg p) may so_far = record { size = length-set m.world.legs.held (number_of x) (Some (begun m.world leg)) ∙ so_far.size; leg = put m.world.legs x (begun m.world leg) so_far.size may so_far.leg; tone = so_far.tone }
  one_spared m (op.Expect x leg message) may so_far = record { size = length-set m.world.legs.held (number_of x) (Some (begun m.world leg)) ∙ so_far.size; leg = put m.world.legs x (begun m.world leg) so_far.size may so_far.leg; tone = so_far.tone }
  one_spared m (op.Repeat h octets) may so_far =
      let again = retransmitted_from m.world.holding.next h.leg in
      record { size = length-set m.world.legs.held (number_of h.slot) (Some again) ∙ so_far.size; leg = put m.world.legs h.slot again so_far.size may so_far.leg; tone = so_far.tone }
  one_spared m (op.Await x leg) may so_far =
      let again = retransmitted_from m.world.holding.next leg in
      record { size = length-set m.world.legs.held (number_of x) (Some again) ∙ so_far.size; leg = put m.world.legs x again so_far.size may so_far.leg; tone = so_far.tone }
  one_spared m (op.Remove x condition) may so_far = record { size = length-set m.world.legs.held (number_of x) None ∙ so_far.size; leg = wrote m.world.legs x None so_far.size may (λ l e. absurd cc) so_far.leg; tone = so_far.tone }
  one_spared m (op.Send line message) may so_far = record { size = so_far.size; leg = so_far.leg; tone = so_far.tone }

  pub all_spared : (m : Making) (os : List Operation) → SpareAll os → IsSpared m.world → IsSpared (making_after_all d m os).world
  all_spared m [] may so_far = so_far
  all_spared m (o ∷ os) may so_far = all_spared (making_after d m o) os may.1 (one_spared m o may.0 so_far)

-- ---- an idle slot

digits_or_not : (a : Act) → (a ≡ act.Digits) ⊎ (a ≡ act.Digits → ⊥)
digits_or_not act.Nothing = inr (λ e. cc)
digits_or_not act.Unexpected = inr (λ e. cc)
digits_or_not act.Enquiry = inr (λ e. cc)
digits_or_not act.Proceeding = inr (λ e. cc)
digits_or_not act.Alerting = inr (λ e. cc)
digits_or_not act.Answer = inr (λ e. cc)
digits_or_not act.Digits = inl refl
digits_or_not (act.Disconnect cause) = inr (λ e. cc)
digits_or_not (act.Release cause) = inr (λ e. cc)
digits_or_not (act.ReleaseComplete cause) = inr (λ e. cc)
digits_or_not (act.Report reported) = inr (λ e. cc)

module _ (s : Setting) (w : World) (planned : IsPlanned s) (stands : CallsStand s w) (z : Slot) (in_z : IsExternal s.dimensions.external z) (free : idle w z ≡ true) where
  empty : leg_at w.legs z ≡ None
  empty = is_empty (leg_at w.legs z) (both_true _ _ free).1

  deaf : heard_by w.holding.circuits z ≡ None
  deaf = heard_by_idle_is_deaf w.holding.circuits z (both_true _ _ free).0

  no_leg : (v : World) → IsAsBefore w v z → (x : Slot) (l : Leg) → leg_at v.legs x ≡ Some l → IsStrange v z x
  no_leg v same x l at = record {
    apart = λ e. let wrong : None ≡ Some l = sym empty ∙ sym same.leg ∙ ap (leg_at v.legs) e ∙ at in cc;
    far = λ leg p at_z names e. let wrong : None ≡ Some leg = sym empty ∙ sym same.leg ∙ at_z in cc;
  }

  abbrev Spare : List Operation → Type 0
  Spare os = SpareAll s.dimensions z in_z os

  spared_first : IsSpared s.dimensions z in_z w
  spared_first = record {
    size = stands.legs.count;
    leg = λ l at. let wrong : None ≡ Some l = sym empty ∙ at in absurd cc;
    tone = λ kind since inside.
        let wrong : None ≡ Some (circuit.Tone kind z since) = sym deaf ∙ heard_by-listener w.holding.circuits (circuit.Tone kind z since) (stands.circuits.standing z) inside in
        cc;
  }

  -- the slot has no tone, and no leg without another leg
  pub record IsLeftOut (v : World) : Type 0 where
    pub legs : (l : Leg) → leg_at v.legs z ≡ Some l → HasOther l
    pub tones : (kind : Kind) (y : Slot) (since : ℕ) → heard_by v.holding.circuits z ≡ Some (circuit.Tone kind y since) → ⊥

  spared_out : (v : World) → IsSpared s.dimensions z in_z v → IsLeftOut v
  spared_out v so_far = record {
    legs = so_far.leg;
    tones = λ kind y since hears.
        let found = heard_by-stands v.holding.circuits z (circuit.Tone kind y since) hears in
        let here : z ≡ y = same_slot-true z y found.1 in
        so_far.tone kind since (subst (λ q. Contains v.holding.circuits (circuit.Tone kind q since)) (sym here) found.0);
  }

  -- a slot that is as it was
  same_out : (v : World) → IsAsBefore w v z → IsLeftOut v
  same_out v same = record {
    legs = λ l at. let wrong : None ≡ Some l = sym empty ∙ sym same.leg ∙ at in absurd cc;
    tones = λ kind y since hears. let wrong : None ≡ Some (circuit.Tone kind y since) = sym deaf ∙ sym same.heard ∙ hears in cc;
  }

  by_spare : (os : List Operation) → Spare os → IsLeftOut (making_after_all s.dimensions (making_at w) os).world
  by_spare os spare = spared_out (making_after_all s.dimensions (making_at w) os).world (all_spared s.dimensions z in_z (making_at w) os spare spared_first)

  -- ---- a new call, from another slot

  module _ (first : Bool) (own : ℕ) (asked : Pending) (x : Slot) (in_x : IsExternal s.dimensions.external x) (apart : z ≡ x → ⊥) where
    asking : (b : Bool) → Spare (ask_for_digits b x (caller_leg overlap_sending own peer.Alone))
    asking true = (tt, tt)
    asking false = tt

    call_spares : (t : Found) (o : Option Slot) → ((y : Slot) → o ≡ Some y → IsExternal s.dimensions.external y) → Spare (call first w own asked x t o)
    call_spares (Line l) (Some y) within = ((in_x, λ same. absurd (apart same)), (tt, ((within y refl, λ same. (x, refl)), tt)))
    call_spares (Line l) None within = tt
    call_spares (Lines ls) (Some y) within = ((in_x, λ same. absurd (apart same)), (tt, ((within y refl, λ same. (x, refl)), tt)))
    call_spares (Lines ls) None within = tt
    call_spares (Room room) o within =
        let mine : Writes s.dimensions z in_z x (caller_leg active own (peer.Room room)) = (in_x, λ same. absurd (apart same)) in
        (answered_does (Spares s.dimensions z in_z) w.legs x (caller_leg active own (peer.Room room)) mine mine, (tt, (tt, (tt, tt))))
    call_spares More o within = ((in_x, λ same. absurd (apart same)), asking first)
    call_spares Nothing o within = tt

    accept_spares : (digits : List ℕ) → Spare (accept first w own asked x (target_dialled s.plan digits))
    accept_spares digits =
        let t = target_dialled s.plan digits in
        call_spares t (called_slot w x t) (λ y chosen. (called_idle s w x planned digits t refl y chosen).0)

  -- ---- a message on another line

  module _ (line : ℕ) (octets : List ℕ) (exists : line < s.dimensions.external) (off : z.line ≡ line → ⊥) where
    module _ (h : HeldLeg) (m : Message) (is : request_of w.legs line octets ≡ For_leg h m) where
      at : leg_at w.legs h.slot ≡ Some h.leg
      at = (received_stands w.legs line octets h m is).at

      in_h : IsExternal s.dimensions.external h.slot
      in_h = let there = received_stands w.legs line octets h m is in (subst (λ n. n < s.dimensions.external) (sym there.among.0) exists, there.among.1)

      odd : IsStrange w z h.slot
      odd = no_leg w (record { leg = refl; pending = refl; kept = refl; heard = refl }) h.slot h.leg at

      dial_spares : (p : Pending) (o : Option ℕ) → Spare (dial_on s w h p o)
      dial_spares p (Some cause) = all_miss s.dimensions z in_z w (dial_on s w h p (Some cause)) (own_cleared s.dimensions s.tones w stands.circuits stands.legs z in_z h in_h at odd cause)
      dial_spares p None = accept_spares false h.leg.reference p h.slot in_h odd.apart p.called

      pending_spares : (o : Option Pending) → Spare (with_pending s w h m o)
      pending_spares None = tt
      pending_spares (Some p) = dial_spares (asked_with p m) (digits_refusal s w h.slot p.called m)

      course_spares : (a : Act) → Spare (course_of s w h m a).operations
      course_spares a = elim (digits_or_not a) [
        | inl is_digits ↦ subst (λ (b : Act). Spare (course_of s w h m b).operations) (sym is_digits) (pending_spares (pending_at w.legs h.slot))
        | inr other ↦ all_miss s.dimensions z in_z w (course_of s w h m a).operations (course_skip s w z stands in_z h in_h at odd m a (λ e. absurd (other e)))
      ]

    accepted_spares : (m : Message) (o : Option Slot) → ((x : Slot) → o ≡ Some x → IsExternal s.dimensions.external x × (z ≡ x → ⊥)) → Spare (accept_at s w m o)
    accepted_spares m None found = tt
    accepted_spares m (Some x) found = let c = found x refl in accept_spares true m.reference (call_asked m) x c.0 c.1 (called_in m.elements)

    setup_spares : (m : Message) (o : Option ℕ) → Spare (setup s w line m o)
    setup_spares m (Some cause) = (tt, tt)
    setup_spares m None = accepted_spares m (caller_slot w line (channel_in m.elements)) (λ x chosen.
        let c = caller_is w line (channel_in m.elements) x chosen in
        ((subst (λ n. n < s.dimensions.external) (sym c.1.0) exists, c.1.1), λ same. off (ap (λ (q : Slot). q.line) same ∙ c.1.0)))

    request_spares : (r : Request) → request_of w.legs line octets ≡ r → IsLeftOut (outcome_for s w line r).making.world
    request_spares (For_leg h m) is = by_spare (course_of s w h m (act_on h.leg.state m)).operations (course_spares h m is (act_on h.leg.state m))
    request_spares (New_call m) is = by_spare (setup s w line m (refusal s w line m)) (setup_spares m (refusal s w line m))
    request_spares (On_no_call m) is =
        by_spare (answer_back line (answer_without_call m)) (all_miss s.dimensions z in_z w (answer_back line (answer_without_call m)) (answer_skip s w z stands in_z line (answer_without_call m)))
    request_spares (Restarts r) is = same_out (outcome_for s w line (Restarts r)).making.world (restarted s w line z stands in_z (λ v same x l on at. no_leg v same x l at) exists r).same
    request_spares (Confirms r) is = same_out (outcome_for s w line (Confirms r)).making.world (confirmed s w line z stands in_z (λ v same x l on at. no_leg v same x l at) exists r).same
    request_spares Unanswered is = same_out w (record { leg = refl; pending = refl; kept = refl; heard = refl })

    pub message_spares : IsLeftOut (after_message s w line octets)
    message_spares = request_spares (request_of w.legs line octets) refl

  -- ---- an event of another line, or of none

  either : (b : Bool) (u : World) → IsLeftOut u → IsLeftOut (if b then u else w)
  either true u first = first
  either false u first = same_out w (record { leg = refl; pending = refl; kept = refl; heard = refl })

  spares : (e : Event) → Fits s.dimensions.external e → ¬ (IsOnLine z.line e) → IsLeftOut (next s w e)
  spares (Nail x y) fits off = either (may_nail w x y) (obey s.dimensions w (Connect x y)) (by_spare (op.Pair x y ∷ []) (tt, tt))
  spares (Seat x room) fits off = either (may_seat s.dimensions w x) (obey s.dimensions w (Take_seat x room)) (by_spare (op.Seat x room ∷ []) (tt, tt))
  spares (Free x) fits off = either (is_nailed w x) (obey s.dimensions w (Clear_slot x)) (by_spare (op.Clear x ∷ []) (tt, tt))
  spares (Message_event line octets) fits off = message_spares line octets fits.0 (λ same. off (sym same))
  spares (LinkUp line) fits off = same_out (next s w (LinkUp line)) (linked s w line z stands in_z (λ v same x l on at. no_leg v same x l at) fits false)
  spares (LinkDown line) fits off = same_out (next s w (LinkDown line)) (linked s w line z stands in_z (λ v same x l on at. no_leg v same x l at) fits true)
  spares (RestartLine line) fits off = same_out (next s w (RestartLine line)) (given_up s w line z stands in_z (λ v same x l on at. no_leg v same x l at) fits)
  spares (Frame input) fits off =
      same_out (next s w (Frame input)) (turn_leaves s w z z stands in_z in_z (λ v same same_too x l e place at due. (no_leg v same x l at, no_leg v same x l at)) input).0

  -- a change of a data link, and the restart of a line
  pub change_leaves : (e : Event) (line : ℕ) → Fits s.dimensions.external e → IsChange line e → IsAsBefore w (next s w e) z
  change_leaves (Nail x y) line fits on = absurd on
  change_leaves (Seat x room) line fits on = absurd on
  change_leaves (Free x) line fits on = absurd on
  change_leaves (Message_event other octets) line fits on = absurd on
  change_leaves (LinkUp other) line fits on = linked s w other z stands in_z (λ v same x l there at. no_leg v same x l at) fits false
  change_leaves (LinkDown other) line fits on = linked s w other z stands in_z (λ v same x l there at. no_leg v same x l at) fits true
  change_leaves (RestartLine other) line fits on = given_up s w other z stands in_z (λ v same x l there at. no_leg v same x l at) fits
  change_leaves (Frame input) line fits on = absurd on

  -- an event is of a line, or it is not
  at_line : (line other : ℕ) → (other ≡ line) ⊎ (other ≡ line → ⊥)
  at_line line other = elim (true_or_false (other == line)) [
    | inl same ↦ inl (grind (arith, nat_tests, same))
    | inr apart ↦ inr (λ e. grind (arith, nat_tests, apart, e))
  ]

  on_or_off : (line : ℕ) (e : Event) → IsOnLine line e ⊎ ¬ (IsOnLine line e)
  on_or_off line (Nail x y) = inr (λ never. never)
  on_or_off line (Seat x room) = inr (λ never. never)
  on_or_off line (Free x) = inr (λ never. never)
  on_or_off line (Message_event other octets) = at_line line other
  on_or_off line (LinkUp other) = at_line line other
  on_or_off line (LinkDown other) = at_line line other
  on_or_off line (RestartLine other) = at_line line other
  on_or_off line (Frame input) = inr (λ never. never)

  pub own_line_gives_leg : (e : Event) → Fits s.dimensions.external e → (leg : Leg) → leg_at (next s w e).legs z ≡ Some leg → IsSingle leg → IsOnLine z.line e
  own_line_gives_leg e fits leg at single = elim (on_or_off z.line e) [
    | inl on ↦ on
    | inr off ↦ let other = (spares e fits off).legs leg at in absurd (single other.0 other.1)
  ]

  pub own_line_gives_tone : (e : Event) → Fits s.dimensions.external e → (kind : Kind) (y : Slot) (since : ℕ) → heard_by (next s w e).holding.circuits z ≡ Some (circuit.Tone kind y since) → IsOnLine z.line e
  own_line_gives_tone e fits kind y since hears = elim (on_or_off z.line e) [
    | inl on ↦ on
    | inr off ↦ absurd ((spares e fits off).tones kind y since hears)
  ]
