-- What a SETUP does is permitted.
use Rattle.std.proofs.Common.{◌≡◌, ℕ, ◌<◌, ◌≤◌, ◌^◌, ◌||◌, inl, inr, Bool, true, false, List, [], length, Option, Some, None, refl, sym, ap, subst, arith}
use Rattle.std.specs.Prelude.{nat_lt, nat_le, is_none, unwrap_or, option_map}
use Rattle.std.specs.List.{list_all}
use Rattle.std.proofs.lemmas.Grind.{common_steps}
use Rattle.std.proofs.lemmas.Bool.Decides.{nat_tests}
use Rattle.circuit_model.specs.declared.channel.Slot.{Slot}
use Rattle.circuit_model.specs.Channels.{channel_at}
use Rattle.circuit_model.specs.Extent.{IsExternal}
use Rattle.circuit_model.proofs.Slots.{true_or_false}
use Rattle.q931_codec.specs.Contents.{is_bearer_channel, bearer_in, bearer_of, called_in, channel_in, contents_in, contents_passed_on}
use Rattle.q931_codec.specs.Identifiers as identifier
use Rattle.q931_codec.specs.Outgoing.{IsWritable, bare}
use Rattle.q931_codec.specs.declared.kind.MessageKind.TheVariants as kind
use Rattle.q931_codec.specs.declared.message.Message.{Message}
use Rattle.call_states.specs.declared.leg.Leg.{Leg}
use Rattle.call_states.specs.declared.pending.Pending.{Pending}
use Rattle.call_states.specs.Pending.{FitsElements}
use Rattle.q931_codec.proofs.Writable.{short_writable}
use Rattle.call_states.specs.Status.{FitsMessages}
use Rattle.number_plan.specs.declared.plan.Number.{Number}
use Rattle.number_plan.specs.Plan.{found_for}
use Rattle.q931_codec.specs.CallStates.{overlap_sending, outgoing_call_proceeding, active}
use Rattle.call_states.specs.declared.leg.Peer.{Peer}
use Rattle.call_states.specs.declared.leg.Peer.TheVariants as peer
use Rattle.number_plan.specs.declared.target.Found.{Found}
use Rattle.number_plan.specs.declared.target.Found.TheVariants.{Line, Lines, Room, More, Nothing}
use Rattle.call_profile.specs.LegStanding.{CallsStand}
use Rattle.call_profile.specs.Legs.{leg_named, lowest_free_reference}
use Rattle.call_profile.specs.Operations.{making_at}
use Rattle.call_profile.specs.Permitted.{CanSeat}
use Rattle.call_profile.proofs.Permitted.{ArePermitted}
use Rattle.exchange_events.specs.Sizes.{Setting}
use Rattle.call_profile.specs.Acts.{message_to}
use Rattle.call_profile.specs.Setup.{bearer_asked, checks, refusal, call_asked, setup, accept, accept_at, call, call_line, call_room, await_digits, caller_leg, digits_in, with_channel, setup_acknowledge, call_proceeding, offer, caller_slot, called_slot, target_of, is_unreadable, course_of_setup}
use Rattle.exchange_events.specs.Sound.{IsPlanned, line_exists}
use Rattle.call_profile.specs.Waiting.{IsWaiting}
use Rattle.call_profile.specs.World.{World}
use Rattle.call_profile.proofs.AcceptedSetupLemmas.{can_seat, refusal_small, can_still}
use Rattle.call_profile.proofs.PermittedActLemmas.{answered_permitted, message_writable}
use Rattle.call_profile.proofs.AnsweredLegLemmas.{joining, room_leg}
use Rattle.call_profile.proofs.SetupLemmas.{all_pass, all_from, all_reached, caller_is, MayOffer-lowest_free_reference, offered_by_hunting, reached}

-- ---- what is passed on is not too long

bearer_short : (o : Option (List ℕ)) → is_unreadable (option_map bearer_of o) ≡ false → length (unwrap_or o []) ≤ 10
bearer_short None e = omega arith
bearer_short (Some contents) e = elim (true_or_false (nat_lt (length contents) 2 || nat_lt 10 (length contents))) [
  | inl long ↦ let f : true ≡ false = rw long at e in absurd cc
  | inr short ↦ grind (arith, nat_tests, short)
]

passed_short : (most : ℕ) (contents : List ℕ) → length (contents_passed_on most contents) ≤ most
passed_short most contents = elim (true_or_false (nat_le (length contents) most)) [
  | inl short ↦ rw short (grind (arith, nat_tests, short))
  | inr long ↦ rw long (omega arith)
]

pub asked_fits : (m : Message) → is_unreadable (bearer_asked m) ≡ false → FitsElements (call_asked m)
asked_fits m readable = record {
  bearer = bearer_short (bearer_in m.elements) readable;
  calling = passed_short 22 (contents_in identifier.calling_party_number m.elements);
  called = passed_short 21 (contents_in identifier.called_party_number m.elements);
  low = passed_short 16 (contents_in identifier.low_layer_compatibility m.elements);
  high = passed_short 3 (contents_in identifier.high_layer_compatibility m.elements);
}

-- ---- what is sent can be written

pub is_bearer_channel_bears : (place : ℕ) → place < 30 → is_bearer_channel (channel_at place) ≡ true
is_bearer_channel_bears place within = grind (arith, common_steps, within)

refusal_writable : (reference cause : ℕ) → reference < 2 ^ 15 → cause < 128 → IsWritable (record (bare true reference kind.ReleaseComplete) { cause = Some cause })
refusal_writable reference cause small few = short_writable true reference kind.ReleaseComplete (Some cause) None None None small tt few tt tt

channel_writable : (x : Slot) (leg : Leg) → x.place < 30 → FitsMessages leg → IsWritable (with_channel x (message_to leg kind.CallProceeding))
channel_writable x leg within told = short_writable _ leg.reference kind.CallProceeding None None (Some (channel_at x.place)) None told.reference tt tt tt (is_bearer_channel_bears x.place within)

proceeding_writable : (first : Bool) (x : Slot) (leg : Leg) → x.place < 30 → FitsMessages leg → IsWritable (call_proceeding first x leg)
proceeding_writable true x leg within told = channel_writable x leg within told
proceeding_writable false x leg within told = message_writable leg kind.CallProceeding told tt

acknowledge_writable : (x : Slot) (leg : Leg) → x.place < 30 → FitsMessages leg → IsWritable (setup_acknowledge x leg)
acknowledge_writable x leg within told = short_writable _ leg.reference kind.SetupAcknowledge None None (Some (channel_at x.place)) None told.reference tt tt tt (is_bearer_channel_bears x.place within)

offer_writable : (p : Pending) (y : Slot) (leg : Leg) → y.place < 30 → FitsMessages leg → FitsElements p → IsWritable (offer p y leg)
offer_writable p y leg within told fits = record {
  reference = told.reference;
  kind = tt;
  bearer = fits.bearer;
  cause = tt;
  state = tt;
  channel = is_bearer_channel_bears y.place within;
  calling = fits.calling;
  called = fits.called;
  low = fits.low;
  high = fits.high;
}

-- ---- the digits so far, where the plan finds that more are to come

pub found_for_begun : (plan : List Number) (o : Option (List ℕ)) → is_none o ≡ false → found_for plan (unwrap_or o []) ≡ More → option_map (found_for plan) o ≡ Some More
found_for_begun plan None some is = absurd cc
found_for_begun plan (Some digits) some is = ap (λ t. Some t) is

-- ---- what is done, by a SETUP or for more digits

-- the leg that waits for the rest of a number
abbrev pub waiting_leg : ℕ → Leg
waiting_leg own = caller_leg overlap_sending own peer.Alone

-- what is passed on fits a message; and what a call asks for whose number leads there
pub record CanAccept (s : Setting) (w : World) (own : ℕ) (asked : Pending) (x : Slot) (t : Found) : Type 0 where
  pub within : IsExternal s.dimensions.external x
  pub small : own < 2 ^ 15
  pub fits : FitsElements asked
  pub line : (line : ℕ) → t ≡ Line line → line < s.dimensions.external
  pub lines : (lines : List ℕ) → t ≡ Lines lines → list_all (line_exists s.dimensions.external) lines ≡ true
  pub room : (room : ℕ) → t ≡ Room room → CanSeat s.dimensions w x
  pub more : t ≡ More → IsWaiting s.plan (waiting_leg own) asked

module _ (s : Setting) (w : World) (first : Bool) (own : ℕ) (asked : Pending) (x : Slot) where
  told : own < 2 ^ 15 → (state : ℕ) (p : Peer) → state < 64 → FitsMessages (caller_leg state own p)
  told small state p few = record { state = few; reference = small }

  line_permitted : (y : Slot) (reference : ℕ) → IsExternal s.dimensions.external x → own < 2 ^ 15 → FitsElements asked → IsExternal s.dimensions.external y → reference < 2 ^ 15
      → ArePermitted s.dimensions s.tones s.plan (making_at w) (call_line first own asked x y reference)
  line_permitted y reference in_x small fits in_y few =
      let caller : FitsMessages _ = told small outgoing_call_proceeding (peer.Leg y) (omega arith) in
      let called : FitsMessages _ = record { state = omega arith; reference = few } in (
        (in_x, caller, λ e. absurd cc, refl),
        (
          (in_x.0, proceeding_writable first x _ in_x.1 caller),
          ((in_y, called, record { flag = refl; reference = refl; state = refl; writable = offer_writable asked y _ in_y.1 called fits; quiet = refl }), tt),
        ),
      )

  room_permitted : (room : ℕ) → IsExternal s.dimensions.external x → own < 2 ^ 15 → CanSeat s.dimensions w x → ArePermitted s.dimensions s.tones s.plan (making_at w) (call_room first w.legs own x room)
  room_permitted room in_x small can =
      let member : FitsMessages _ = told small active (peer.Room room) (omega arith) in
      answered_permitted s.dimensions s.tones s.plan (making_at w) w.legs x (room_leg own room) (joining first own x room) (in_x, member, λ e. absurd cc, refl) (
        can_still s.dimensions w x _ can,
        (
          (in_x.0, proceeding_writable first x _ in_x.1 member),
          ((in_x.0, message_writable _ kind.Connect member tt), tt),
        ),
      )

waiting_permitted : (s : Setting) (w : World) (first : Bool) (own : ℕ) (asked : Pending) (x : Slot) → IsExternal s.dimensions.external x → own < 2 ^ 15 → IsWaiting s.plan (waiting_leg own) asked
    → ArePermitted s.dimensions s.tones s.plan (making_at w) (await_digits first own asked x)
waiting_permitted s w true own asked x in_x small waits =
    let leg = told s w true own asked x small overlap_sending peer.Alone (omega arith) in
    ((in_x, leg, waits), ((in_x.0, acknowledge_writable x _ in_x.1 leg), tt))
waiting_permitted s w false own asked x in_x small waits = ((in_x, told s w false own asked x small overlap_sending peer.Alone (omega arith), waits), tt)

module _ (s : Setting) (w : World) (first : Bool) (own : ℕ) (asked : Pending) (x : Slot) where
  call_permitted : (t : Found) (o : Option Slot) → called_slot w x t ≡ o → CanAccept s w own asked x t → ArePermitted s.dimensions s.tones s.plan (making_at w) (call first w own asked x t o)
  call_permitted (Line l) (Some y) chosen can =
      let may = MayOffer-lowest_free_reference s w x l y (can.line l refl) chosen in
      line_permitted s w first own asked x y (lowest_free_reference w.legs l) can.within can.small can.fits may.in_y may.small.1
  call_permitted (Line l) None chosen can = tt
  call_permitted (Lines ls) (Some y) chosen can =
      let may = offered_by_hunting s w x ls y (can.lines ls refl) chosen in
      line_permitted s w first own asked x y (lowest_free_reference w.legs y.line) can.within can.small can.fits may.in_y may.small.1
  call_permitted (Lines ls) None chosen can = tt
  call_permitted (Room room) o chosen can = room_permitted s w first own asked x room can.within can.small (can.room room refl)
  call_permitted More o chosen can = waiting_permitted s w first own asked x can.within can.small (can.more refl)
  call_permitted Nothing o chosen can = tt

  pub accepted_permitted : (t : Found) → CanAccept s w own asked x t → ArePermitted s.dimensions s.tones s.plan (making_at w) (accept first w own asked x t)
  accepted_permitted t can = call_permitted t (called_slot w x t) refl can

-- ---- what a SETUP does

module _ (s : Setting) (w : World) (line : ℕ) (m : Message) (planned : IsPlanned s) (stands : CallsStand s w) (below : line < s.dimensions.external) (own : (1 ≤ m.reference) × (m.reference < 2 ^ 15)) where
  waits : refusal s w line m ≡ None → target_of s m ≡ More → IsWaiting s.plan (waiting_leg m.reference) (call_asked m)
  waits accepted is =
      let passed = all_pass (checks s w line m) accepted in
      record {
        state = refl;
        calls = refl;
        alone = refl;
        dialled = found_for_begun s.plan (digits_in m) (all_from 5 (checks s w line m) passed).0 is;
        fits = asked_fits m passed.1.0;
      }

  accept_permitted : (o : Option Slot) → refusal s w line m ≡ None → caller_slot w line (channel_in m.elements) ≡ o → ArePermitted s.dimensions s.tones s.plan (making_at w) (accept_at s w m o)
  accept_permitted None accepted at = tt
  accept_permitted (Some x) accepted at =
      let on = caller_is w line (channel_in m.elements) x at in
      let in_x : IsExternal s.dimensions.external x = (subst (λ n. n < s.dimensions.external) (sym on.1.0) below, on.1.1) in
      let can : CanAccept s w m.reference (call_asked m) x (target_of s m) = record {
        within = in_x;
        small = own.1;
        fits = asked_fits m (all_pass (checks s w line m) accepted).1.0;
        line = λ l is. reached s (called_in m.elements) l planned is;
        lines = λ ls are. all_reached s (called_in m.elements) ls planned are;
        room = λ room is. can_seat s w line m x room stands in_x accepted at is;
        more = waits accepted;
      } in
      accepted_permitted s w true m.reference (call_asked m) x (target_of s m) can

  setup_by : (o : Option ℕ) → refusal s w line m ≡ o → ArePermitted s.dimensions s.tones s.plan (making_at w) (setup s w line m o)
  setup_by (Some cause) is = ((below, refusal_writable m.reference cause own.1 (refusal_small s w line m cause is)), tt)
  setup_by None is = accept_permitted (caller_slot w line (channel_in m.elements)) is refl

pub setup_permitted : (s : Setting) (w : World) (line : ℕ) (m : Message) → IsPlanned s → CallsStand s w → line < s.dimensions.external → (1 ≤ m.reference) × (m.reference < 2 ^ 15) → leg_named w.legs line false m.reference ≡ None
    → ArePermitted s.dimensions s.tones s.plan (making_at w) (course_of_setup s w line m).operations
setup_permitted s w line m planned stands below own unused = setup_by s w line m planned stands below own (refusal s w line m) refl
