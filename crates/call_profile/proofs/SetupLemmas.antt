-- Whatever a SETUP is answered, the legs are consistent afterwards.
use Rattle.std.proofs.Common.{◌≡◌, ℕ, zero, suc, drop, ◌-◌, ◌^◌, ◌<◌, ◌≤◌, ◌⊎◌, inl, inr, Bool, true, false, ◌&&◌, ◌==◌, List, [], ◌∷◌, Option, Some, None, refl, sym, ◌∙◌, ap, subst, arith, if◌then◌else◌}
use Rattle.std.specs.Prelude.{Result, Ok, Err, is_none, not, option_map, option_and_then}
use Rattle.std.specs.List.{AllByRecursion, list_all}
use Rattle.std.specs.Option.{option_or}
use Rattle.std.proofs.lemmas.Bool.Decides.{nat_tests}
use Rattle.circuit_model.specs.declared.channel.Slot.{Slot}
use Rattle.circuit_model.specs.Channels.{between, place_of}
use Rattle.circuit_model.specs.Circuits.{same_slot}
use Rattle.circuit_model.specs.Holding.{Valid}
use Rattle.circuit_model.proofs.Slots.{true_or_false, same_slot-refl}
use Rattle.q931_codec.specs.declared.contents.ChannelIdentification.{ChannelIdentification}
use Rattle.q931_codec.specs.declared.contents.ChannelIdentification.TheVariants.{Any, Preferred, Exclusive, Invalid}
use Rattle.q931_codec.specs.declared.message.Discard.{Discard}
use Rattle.q931_codec.specs.declared.message.Message.{Message}
use Rattle.q931_codec.specs.Contents.{channel_in, called_in}
use Rattle.number_plan.specs.declared.target.Found.{Found}
use Rattle.number_plan.specs.declared.target.Found.TheVariants.{Line, Lines, Room, More, Nothing}
use Rattle.number_plan.specs.declared.target.Target.TheVariants as target
use Rattle.number_plan.proofs.Meanings.{found_passes}
use Rattle.call_states.specs.declared.leg.HeldLeg.{HeldLeg}
use Rattle.clearing_rules.specs.declared.scope.Restart.{Restart}
use Rattle.call_profile.specs.Calls.{New_call, On_no_call, on_global_reference, is_setup, making_by, request_read, with_leg_named, request_without_leg as unnamed}
use Rattle.call_profile.specs.IdleSlots.{idle, lowest_idle, lowest_idle_beside, lowest_called, hunted}
use Rattle.call_profile.specs.LegStanding.{LegsStand}
use Rattle.exchange_events.specs.Sound.{IsPlanned, is_reached, line_exists}
use Rattle.call_profile.specs.Legs.{Legs, leg_named, lowest_free_reference, is_down}
use Rattle.call_profile.specs.Operations.{making_at, making_after_all}
use Rattle.exchange_events.specs.Sizes.{Setting}
use Rattle.call_states.specs.declared.pending.Pending.{Pending}
use Rattle.call_profile.specs.Setup.{Check, checks, is_room_full, first_cause, refusal, call_asked, setup, accept, accept_at, call, target_dialled, slot_asked, if_idle, caller_slot, called_slot, target_of, course_of_setup}
use Rattle.call_profile.specs.World.{World, is_full}
use Rattle.call_profile.proofs.ClearingLemmas.{Kept}
use Rattle.call_profile.proofs.CommandLemmas.{both_true}
use Rattle.call_profile.proofs.NamedLegLemmas.{IsOn, without_leg_by}
use Rattle.call_profile.proofs.NewCallLemmas.{MayCall, MayOffer, leg_at_empty_slot, idle_may, line_call_kept, room_call_kept, waiting_kept}
use Rattle.call_profile.proofs.VacantSlotLemmas.{found_on, new_unused}

-- ---- a SETUP that is not refused has passed each check

pass : (fails : Bool) (cause : ℕ) (others : List Check) → (first_cause others ≡ None → AllByRecursion (λ (c : Check). c.0 ≡ false) others) → first_cause ((fails, cause) ∷ others) ≡ None
    → AllByRecursion (λ (c : Check). c.0 ≡ false) ((fails, cause) ∷ others)
pass true cause others later e = absurd cc
pass false cause others later e = (refl, later e)

pub all_pass : (cs : List Check) → first_cause cs ≡ None → AllByRecursion (λ (c : Check). c.0 ≡ false) cs
all_pass [] e = tt
all_pass ((fails, cause) ∷ others) e = pass fails cause others (all_pass others) e

pub all_from : (k : ℕ) (cs : List Check) → AllByRecursion (λ (c : Check). c.0 ≡ false) cs → AllByRecursion (λ (c : Check). c.0 ≡ false) (drop k cs)
all_from zero cs all = all
all_from (suc k) [] all = tt
all_from (suc k) (c ∷ cs) all = all_from k cs all.1

-- ---- the slots that are chosen

placed : (n p : ℕ) → place_of n ≡ Some p → p < 30
placed n p e = elim (true_or_false (between 1 15 n)) [
  | inl low ↦
      let f : Some (n - 1) ≡ Some p = rw low at e in
      let same : n - 1 ≡ p = cc in
      let small : n ≤ 15 = grind (arith, nat_tests, low) in
      omega (arith, same, small)
  | inr not_low ↦ elim (true_or_false (between 17 31 n)) [
    | inl high ↦
        let f : Some (n - 2) ≡ Some p = rw (not_low, high) at e in
        let same : n - 2 ≡ p = cc in
        let small : n ≤ 31 = grind (arith, nat_tests, high) in
        omega (arith, same, small)
    | inr neither ↦ let f : None ≡ Some p = rw (not_low, neither) at e in absurd cc
  ]
]

slot_on : (line : ℕ) (o : Option ℕ) (x : Slot) → ((p : ℕ) → o ≡ Some p → p < 30) → option_map (λ place. record { line = line; place = place }) o ≡ Some x → IsOn line x
slot_on line None x small e = absurd cc
slot_on line (Some p) x small e =
    let at : Slot = record { line = line; place = p } in
    let f : Some at ≡ Some x = e in
    let same : at ≡ x = cc in
    subst (IsOn line) same (refl, small p refl)

asked_on : (line : ℕ) (channel : Option ChannelIdentification) (x : Slot) → slot_asked line channel ≡ Some x → IsOn line x
asked_on line None x e = absurd cc
asked_on line (Some Any) x e = absurd cc
asked_on line (Some (Preferred channel)) x e = slot_on line (place_of channel) x (placed channel) e
asked_on line (Some (Exclusive channel)) x e = slot_on line (place_of channel) x (placed channel) e
asked_on line (Some Invalid) x e = absurd cc

either_of : (o p : Option Slot) (x : Slot) → option_or o p ≡ Some x → (o ≡ Some x) ⊎ (p ≡ Some x)
either_of None p x e = inr e
either_of (Some y) p x e = inl e

where_idle : (w : World) (o : Option Slot) (x : Slot) → option_and_then (if_idle w) o ≡ Some x → (idle w x ≡ true) × (o ≡ Some x)
where_idle w None x e = absurd cc
where_idle w (Some y) x e = elim (true_or_false (idle w y)) [
  | inl free ↦
      let f : Some y ≡ Some x = rw free at e in
      let same : y ≡ x = cc in
      (subst (λ (z : Slot). idle w z ≡ true) same free, f)
  | inr taken ↦ let f : None ≡ Some x = rw taken at e in absurd cc
]

pub caller_is : (w : World) (line : ℕ) (channel : Option ChannelIdentification) (x : Slot) → caller_slot w line channel ≡ Some x → (idle w x ≡ true) × IsOn line x
caller_is w line channel x e = elim (either_of (option_and_then (if_idle w) (slot_asked line channel)) (lowest_idle w line) x e) [
  | inl named ↦ let is = where_idle w (slot_asked line channel) x named in (is.0, asked_on line channel x is.1)
  | inr lowest ↦ found_on (idle w) line x lowest
]

not_same : (x y : Slot) → not (same_slot x y) ≡ true → y ≡ x → ⊥
not_same x y other same = let e : same_slot x y ≡ true = subst (λ (z : Slot). same_slot x z ≡ true) (sym same) (same_slot-refl x) in let f : not (same_slot x y) ≡ false = ap not e in cc

-- a called line has an idle slot where its data link is up
unless_down : (down : Bool) (o : Option Slot) (y : Slot) → (if down then None else o) ≡ Some y → o ≡ Some y
unless_down true o y e = absurd cc
unless_down false o y e = e

pub called_is : (w : World) (x : Slot) (line : ℕ) (y : Slot) → lowest_called w x line ≡ Some y → (idle w y ≡ true) × (y ≡ x → ⊥) × IsOn line y
called_is w x line y e =
    let is = found_on (λ z. idle w z && not (same_slot x z)) line y (unless_down (is_down w.legs line) (lowest_idle_beside w x line) y e) in
    let both = both_true (idle w y) (not (same_slot x y)) is.0 in
    (both.0, not_same x y both.1, is.1)

-- ---- line hunting

-- the slot that is found is the lowest idle slot of its line
pub lowest_idle_beside_hunted_on : (w : World) (x : Slot) (lines : List ℕ) (y : Slot) → hunted w x lines ≡ Some y → lowest_called w x y.line ≡ Some y
lowest_idle_beside_hunted_on w x [] y e = absurd cc
lowest_idle_beside_hunted_on w x (line ∷ lines) y e = elim (either_of (lowest_called w x line) (hunted w x lines) y e) [
  | inl here ↦ subst (λ n. lowest_called w x n ≡ Some y) (sym (called_is w x line y here).2.0) here
  | inr later ↦ lowest_idle_beside_hunted_on w x lines y later
]

-- its line passes a test that each line of the list passes
pub hunted_passes : (test : ℕ → Bool) (w : World) (x : Slot) (lines : List ℕ) (y : Slot) → list_all test lines ≡ true → hunted w x lines ≡ Some y → test y.line ≡ true
hunted_passes test w x [] y all e = absurd cc
hunted_passes test w x (line ∷ lines) y all e =
    let both = both_true (test line) (list_all test lines) all in
    elim (either_of (lowest_called w x line) (hunted w x lines) y e) [
      | inl here ↦ subst (λ n. test n ≡ true) (sym (called_is w x line y here).2.0) both.0
      | inr later ↦ hunted_passes test w x lines y both.1 later
    ]

-- ---- the new reference

none_of : (o : Option HeldLeg) → is_none o ≡ true → o ≡ None
none_of None e = refl
none_of (Some h) e = absurd cc

pub MayOffer-lowest_free_reference : (s : Setting) (w : World) (x : Slot) (line : ℕ) (y : Slot) → line < s.dimensions.external → lowest_called w x line ≡ Some y → MayOffer s.dimensions w x y (lowest_free_reference w.legs line)
MayOffer-lowest_free_reference s w x line y below e =
    let is = called_is w x line y e in
    let unused = new_unused w.legs line y is.2 (leg_at_empty_slot w y is.0) in
    record {
      in_y = (subst (λ n. n < s.dimensions.external) (sym is.2.0) below, is.2.1);
      apart = is.1;
      idle_y = is.0;
      small = (omega arith, omega (arith, unused.1));
      free = subst (λ n. leg_named w.legs n true (lowest_free_reference w.legs line) ≡ None) (sym is.2.0) (none_of (leg_named w.legs line true (lowest_free_reference w.legs line)) unused.0);
    }

pub offered_by_hunting : (s : Setting) (w : World) (x : Slot) (lines : List ℕ) (y : Slot) → list_all (line_exists s.dimensions.external) lines ≡ true → hunted w x lines ≡ Some y
    → MayOffer s.dimensions w x y (lowest_free_reference w.legs y.line)
offered_by_hunting s w x lines y exist e =
    let passes = hunted_passes (line_exists s.dimensions.external) w x lines y exist e in
    MayOffer-lowest_free_reference s w x y.line y (grind (arith, nat_tests, passes)) (lowest_idle_beside_hunted_on w x lines y e)

pub all_reached : (s : Setting) (called : List ℕ) (lines : List ℕ) → IsPlanned s → target_dialled s.plan called ≡ Lines lines → list_all (line_exists s.dimensions.external) lines ≡ true
all_reached s called lines planned is = found_passes (is_reached s.dimensions.external) s.plan _ (target.Lines lines) planned is

pub reached : (s : Setting) (called : List ℕ) (line : ℕ) → IsPlanned s → target_dialled s.plan called ≡ Line line → line < s.dimensions.external
reached s called line planned is =
    let passes = found_passes (is_reached s.dimensions.external) s.plan _ (target.Line line) planned is in
    grind (arith, nat_tests, passes)

-- ---- what is done, by a SETUP or for more digits

-- each line that the number leads to is one of the exchange's, and a room that it leads to has a free port
pub record CanReach (s : Setting) (w : World) (t : Found) : Type 0 where
  pub line : (line : ℕ) → t ≡ Line line → line < s.dimensions.external
  pub lines : (lines : List ℕ) → t ≡ Lines lines → list_all (line_exists s.dimensions.external) lines ≡ true
  pub room : (room : ℕ) → t ≡ Room room → is_full s.dimensions w ≡ false

module _ (s : Setting) (w : World) (first : Bool) (own : ℕ) (asked : Pending) (x : Slot) (may : MayCall s.dimensions s.tones w own x) where
  call_kept : (t : Found) (called : Option Slot) → called_slot w x t ≡ called → CanReach s w t → Kept s.dimensions s.tones (making_after_all s.dimensions (making_at w) (call first w own asked x t called)).world
  call_kept (Line line) (Some y) chosen can = line_call_kept s.dimensions s.tones w first own asked x y (lowest_free_reference w.legs line) may (MayOffer-lowest_free_reference s w x line y (can.line line refl) chosen)
  call_kept (Line line) None chosen can = (may.valid, may.stand)
  call_kept (Lines lines) (Some y) chosen can = line_call_kept s.dimensions s.tones w first own asked x y (lowest_free_reference w.legs y.line) may (offered_by_hunting s w x lines y (can.lines lines refl) chosen)
  call_kept (Lines lines) None chosen can = (may.valid, may.stand)
  call_kept (Room room) called chosen can = room_call_kept s.dimensions s.tones w first own x room may (can.room room refl)
  call_kept More called chosen can = waiting_kept s.dimensions s.tones w own asked x may first
  call_kept Nothing called chosen can = (may.valid, may.stand)

  pub accepted_kept : (t : Found) → CanReach s w t → Kept s.dimensions s.tones (making_after_all s.dimensions (making_at w) (accept first w own asked x t)).world
  accepted_kept t can = call_kept t (called_slot w x t) refl can

-- a SETUP with a call reference that nobody has
pub record IsNew (s : Setting) (w : World) (line : ℕ) (m : Message) : Type 0 where
  pub planned : IsPlanned s
  pub valid : Valid s.dimensions.bridges w.holding
  pub stand : LegsStand s.dimensions.external s.tones w
  pub below : line < s.dimensions.external
  pub own : (1 ≤ m.reference) × (m.reference < 2 ^ 15)
  pub unused : leg_named w.legs line false m.reference ≡ None

module _ (s : Setting) (w : World) (line : ℕ) (m : Message) (new : IsNew s w line m) where
  accept_kept : (o : Option Slot) → caller_slot w line (channel_in m.elements) ≡ o → refusal s w line m ≡ None → Kept s.dimensions s.tones (making_after_all s.dimensions (making_at w) (accept_at s w m o)).world
  accept_kept None is accepted = (new.valid, new.stand)
  accept_kept (Some x) is accepted =
      let at = caller_is w line (channel_in m.elements) x is in
      let may = idle_may s.dimensions s.tones w m.reference x new.valid new.stand (subst (λ n. n < s.dimensions.external) (sym at.1.0) new.below, at.1.1) at.0 new.own
      (subst (λ n. leg_named w.legs n false m.reference ≡ None) (sym at.1.0) new.unused) in
      let passed = all_pass (checks s w line m) accepted in
      let can : CanReach s w (target_of s m) = record {
        line = λ l is_line. reached s (called_in m.elements) l new.planned is_line;
        lines = λ ls are_lines. all_reached s (called_in m.elements) ls new.planned are_lines;
        room = λ room is_room. sym (ap (is_room_full s.dimensions w) is_room) ∙ (all_from 12 (checks s w line m) passed).0;
      } in
      accepted_kept s w true m.reference (call_asked m) x may (target_of s m) can

  setup_by : (o : Option ℕ) → refusal s w line m ≡ o → Kept s.dimensions s.tones (making_after_all s.dimensions (making_at w) (setup s w line m o)).world
  setup_by (Some cause) is = (new.valid, new.stand)
  setup_by None is = accept_kept (caller_slot w line (channel_in m.elements)) refl is

  pub setup_kept : Kept s.dimensions s.tones (making_by s w (course_of_setup s w line m)).world
  setup_kept = setup_by (refusal s w line m) refl

-- ---- what is received as a new call

unflagged : (setup flag : Bool) → (setup && not flag) ≡ true → flag ≡ false
unflagged setup false e = refl
unflagged true true e = absurd cc
unflagged false true e = absurd cc

not_on_global : (o a : Option Restart) (m : Message) → on_global_reference o a ≡ New_call m → ⊥
not_on_global None None m e = cc
not_on_global None (Some r) m e = cc
not_on_global (Some r) a m e = cc

not_back_on_global : (o a : Option Restart) (m : Message) → on_global_reference o a ≡ On_no_call m → ⊥
not_back_on_global None None m e = cc
not_back_on_global None (Some r) m e = cc
not_back_on_global (Some r) a m e = cc

asked_for : (n m : Message) → unnamed n ≡ New_call m → (n ≡ m) × (n.flag ≡ false) × ((n.reference == 0) ≡ false)
asked_for n m =
    without_leg_by n (λ r. r ≡ New_call m → (n ≡ m) × (n.flag ≡ false) × ((n.reference == 0) ≡ false))
    (λ o a e. absurd (not_on_global o a m e)) (λ asks own e. (cc, unflagged (is_setup n.kind) n.flag asks, own)) (λ back own e. absurd cc)

named_new : (n : Message) (o : Option HeldLeg) (m : Message) → with_leg_named n o ≡ New_call m → (o ≡ None) × (n ≡ m) × (n.flag ≡ false) × ((n.reference == 0) ≡ false)
named_new n None m e = let is = asked_for n m e in (refl, is.0, is.1, is.2)
named_new n (Some h) m e = absurd cc

positive : (n : ℕ) → (n == 0) ≡ false → 1 ≤ n
positive n e = grind (arith, nat_tests, e)

pub new_from : (legs : Legs) (line : ℕ) (r : Result Message Discard) (m : Message) → request_read legs line r ≡ New_call m
    → (r ≡ Ok m) × (1 ≤ m.reference) × (leg_named legs line false m.reference ≡ None)
new_from legs line (Err why) m e = absurd cc
new_from legs line (Ok n) m e =
    let is = named_new n (leg_named legs line n.flag n.reference) m e in
    let none : leg_named legs line false n.reference ≡ None = subst (λ flag. leg_named legs line flag n.reference ≡ None) is.2 is.0 in
    (ap (λ (k : Message). Ok k) is.1, subst (λ (k : Message). 1 ≤ k.reference) is.1 (positive n.reference is.3), subst (λ (k : Message). leg_named legs line false k.reference ≡ None) is.1 none)

-- ---- what is received on the call reference of no call

back_from : (n m : Message) → unnamed n ≡ On_no_call m → n ≡ m
back_from n m = without_leg_by n (λ r. r ≡ On_no_call m → n ≡ m) (λ o a e. absurd (not_back_on_global o a m e)) (λ asks own e. absurd cc) (λ back own e. cc)

named_back : (n : Message) (o : Option HeldLeg) (m : Message) → with_leg_named n o ≡ On_no_call m → n ≡ m
named_back n None m e = back_from n m e
named_back n (Some h) m e = absurd cc

pub no_call_read : (legs : Legs) (line : ℕ) (r : Result Message Discard) (m : Message) → request_read legs line r ≡ On_no_call m → r ≡ Ok m
no_call_read legs line (Err why) m e = absurd cc
no_call_read legs line (Ok n) m e = ap (λ (k : Message). Ok k) (named_back n (leg_named legs line n.flag n.reference) m e)
