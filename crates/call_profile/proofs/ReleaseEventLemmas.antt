-- Every event leaves what a slot hears in release request to the RELEASE that is kept there.
use Rattle.std.proofs.Common.{◌≡◌, ◌≢◌, ℕ, ◌*◌, ◌<◌, true, List, [], ◌∷◌, length, Option, Some, None, refl, sym, ◌∙◌, ap, subst, arith, length-set, Bool, false, if◌then◌else◌, ◌++◌, eqb-true}
use Rattle.std.specs.Prelude.{IfSome, IsTrue, slice_set, ◌==◌}
use Rattle.std.proofs.lemmas.Grind.{common_steps}
use Rattle.circuit_model.specs.declared.channel.Slot.{Slot}
use Rattle.circuit_model.specs.Circuits.{heard_by}
use Rattle.circuit_model.specs.Extent.{IsExternal}
use Rattle.circuit_model.specs.Holding.{Clear as Clear_slot}
use Rattle.circuit_model.proofs.Slots.{heard_by_idle_is_deaf}
use Rattle.control_memory.specs.Layout.{number_of}
use Rattle.number_plan.specs.declared.plan.Number.{Number}
use Rattle.q931_codec.specs.CallStates.{call_received, call_delivered, release_request, active}
use Rattle.q931_codec.specs.Outgoing.{encoding}
use Rattle.q931_codec.specs.declared.kind.MessageKind.TheVariants as kind
use Rattle.q931_codec.specs.declared.message.Message.{Message as Q931}
use Rattle.call_states.specs.declared.condition.Condition.TheVariants.{Idle}
use Rattle.call_states.specs.Acts.{is_among}
use Rattle.call_states.specs.declared.act.Act.{Act}
use Rattle.call_states.specs.declared.act.Act.TheVariants as act
use Rattle.call_states.specs.declared.condition.Condition.{Condition}
use Rattle.call_states.specs.declared.leg.HeldLeg.{HeldLeg}
use Rattle.call_states.specs.declared.leg.Leg.{Leg}
use Rattle.call_states.specs.declared.leg.Peer.{Peer}
use Rattle.call_states.specs.declared.leg.Peer.TheVariants as peer
use Rattle.call_states.specs.declared.leg.Side.{Side}
use Rattle.call_states.specs.declared.leg.Side.TheVariants.{Caller, Called}
use Rattle.tone_rules.specs.declared.tones.Tones.{Tones}
use Rattle.exchange_events.specs.Sizes.{Setting, Dimensions}
use Rattle.call_profile.specs.ActCourse.{course_of}
use Rattle.call_profile.specs.Acts.{message_to, in_state, in_disconnect_indication, in_release_request, peer_of, with_peer, clear_with, on_alerting, on_connect, on_disconnect, on_release, remove_leg, answered, with_enquiry}
use Rattle.call_profile.specs.Calls.{making_by}
use Rattle.call_profile.specs.Digits.{on_digits}
use Rattle.call_profile.specs.LegStanding.{CallsStand, LegsStand, HasPeer, IsInCall, are_matched}
use Rattle.call_profile.specs.Legs.{leg_at, with_leg, is_down, Legs}
use Rattle.call_profile.specs.Operations.{Operation, Clear, Remove, Making, begun, making_at, making_after_all, Await, Put, making_after, Pair}
use Rattle.call_profile.specs.Peers.{IsThere, PeerIsThere}
use Rattle.call_profile.specs.ReleaseTones.{SoundsByRelease}
use Rattle.call_profile.specs.World.{World, obey}
use Rattle.call_profile.proofs.AnsweringLemmas.{ringing}
use Rattle.call_profile.proofs.BesideLemmas.{look, leg_at-with_entry_here, leg_at-with_entry_else}
use Rattle.call_profile.proofs.ClearingLemmas.{held_there}
use Rattle.call_profile.proofs.MessageToLegLemmas.{Asked}
use Rattle.call_profile.proofs.Permitted.{ArePermitted}
use Rattle.call_profile.proofs.PermittedActLemmas.{peer_there_too, clear_permitted, is_there}
use Rattle.call_profile.proofs.ReleaseToneLemmas.{Sounding, Unreleased, AreHushed, performed_all, IsHushed}
use Rattle.call_profile.proofs.ToneLemmas.{cleared_is_idle}
use Rattle.call_profile.specs.Course.{Course, only, nothing}
use Rattle.q931_codec.specs.Causes.{message_not_compatible_with_call_state}

pub sounding_of : (s : Setting) (w : World) → CallsStand s w → Sounding s.dimensions s.tones w
sounding_of s w stands = record { valid = stands.circuits; held = stands.legs.count; kept = stands.waits.count; sound = stands.releases }

-- ---- legs in other states

abbrev pub IsElsewhere : Option Leg → Type 0
IsElsewhere o = IfSome o (λ leg. leg.state ≢ release_request)

-- a slot with this leg, or with none
pub unreleased_by : (w : World) (x : Slot) (o : Option Leg) → leg_at w.legs x ≡ o → IsElsewhere o → Unreleased w x
unreleased_by w x o at quiet = subst IsElsewhere (sym at) quiet

-- the two legs of a call
matched_elsewhere : (t s : ℕ) → IsTrue (are_matched t s) → (t ≢ release_request) × (s ≢ release_request)
matched_elsewhere t s matched = (λ is. grind (arith, common_steps, is, matched), λ is. grind (arith, common_steps, is, matched))

other_elsewhere : (side : Side) (x y : Slot) (leg other : Leg) → IsInCall side x leg y other → other.state ≢ release_request
other_elsewhere Caller x y leg other call = (matched_elsewhere leg.state other.state call.matched).1
other_elsewhere Called x y leg other call = (matched_elsewhere other.state leg.state call.matched).0

abbrev pub PeerUnreleased : World → Option HeldLeg → Type 0
PeerUnreleased w o = IfSome o (λ k. Unreleased w k.slot)

pub peer_unreleased : (external : ℕ) (w : World) (x : Slot) (leg : Leg) (p : Peer) → HasPeer external w.legs x leg p → PeerUnreleased w (peer_of w.legs p)
peer_unreleased external w x leg peer.Alone has = tt
peer_unreleased external w x leg (peer.Leg y) has =
    subst (PeerUnreleased w) (sym (held_there w.legs y has.1.0 has.1.1)) (unreleased_by w y (Some has.1.0) has.1.1 (other_elsewhere leg.side x y leg has.1.0 has.1.2))
peer_unreleased external w x leg (peer.Room room) has = tt

-- it is still there once other slots got other entries
pub still_unreleased : (external : ℕ) (w v : World) (h : HeldLeg) (o : Option HeldLeg) → PeerIsThere external h o
    → ((z : Slot) → IsExternal external z → (z ≡ h.slot → ⊥) → leg_at v.legs z ≡ leg_at w.legs z) → PeerUnreleased w o → PeerUnreleased v o
still_unreleased external w v h None there elsewhere quiet = tt
still_unreleased external w v h (Some k) there elsewhere quiet = subst IsElsewhere (sym (elsewhere k.slot there.0.within there.1)) quiet

rings_elsewhere : (state : ℕ) → is_among ringing state ≡ true → state ≢ release_request
rings_elsewhere state among is = grind (arith, common_steps, among, is)

-- ---- pieces of what is done

-- a leg in active, whether its link is down or not
pub answered_quiet : (tones : Tones) (m : Making) (legs : Legs) (x : Slot) (leg : Leg) → IsHushed tones m (answered legs x leg)
answered_quiet tones m legs x leg = by (is_down legs x.line) where
  by : (down : Bool) → IsHushed tones m (if down then Await x leg else Put x leg)
  by true = tt
  by false = tt

module _ (d : Dimensions) (tones : Tones) (plan : List Number) (m : Making) (before : Sounding d tones m.world) where
  abbrev Sounds : List Operation → Type 0
  Sounds os = Sounding d tones (making_after_all d m os).world

  put_elsewhere : (x : Slot) (leg : Leg) → IsExternal d.external x → leg.state ≢ release_request → IsElsewhere (leg_at (with_leg m.world.legs x leg) x)
  put_elsewhere x leg in_x apart = subst IsElsewhere (sym (leg_at-with_entry_here d.external m.world.legs x (Some leg) before.held in_x)) apart

  -- a leg that is gone: neither of the two operations reads what the other one writes
  pub removed_sounds : (condition : Condition) (h : HeldLeg) → IsExternal d.external h.slot → Sounds (remove_leg condition h)
  removed_sounds condition h in_x =
      let x = h.slot in
      let gone = subst IsElsewhere (sym (leg_at-with_entry_here d.external m.world.legs x None before.held in_x)) tt in
      performed_all d tones plan m (Remove x condition ∷ Clear x ∷ []) (in_x, (in_x, tt)) (tt, (gone, tt)) before

  pub clear_quiet : (h : HeldLeg) (cause : ℕ) → IsExternal d.external h.slot → Unreleased m.world h.slot → AreHushed d tones m (clear_with tones cause h)
  clear_quiet h cause in_x quiet = (quiet, (tt, (put_elsewhere h.slot (begun m.world (in_disconnect_indication cause h.leg)) in_x (λ e. absurd cc), (tt, tt))))

  pub cleared_sounds : (h : HeldLeg) (cause : ℕ) → IsThere d.external h → cause < 128 → Unreleased m.world h.slot → Sounds (clear_with tones cause h)
  cleared_sounds h cause there small quiet =
      performed_all d tones plan m (clear_with tones cause h) (clear_permitted d tones plan m cause h there small) (clear_quiet h cause there.within quiet) before

  pub peer_sounds : (h : HeldLeg) (cause : ℕ) (o : Option HeldLeg) → PeerIsThere d.external h o → cause < 128 → PeerUnreleased m.world o → Sounds (with_peer o (clear_with tones cause))
  peer_sounds h cause None there small quiet = before
  peer_sounds h cause (Some k) there small quiet = cleared_sounds k cause there.0 small quiet

  -- a called user's progress
  pub alerting_sounds : (h : HeldLeg) (o : Option HeldLeg) → ArePermitted d tones plan m (with_peer o (on_alerting tones h)) → Sounds (with_peer o (on_alerting tones h))
  alerting_sounds h None may = before
  alerting_sounds h (Some c) may =
      let first = with_leg m.world.legs h.slot (begun m.world (in_state call_received h.leg)) in
      let size : length first.held ≡ 30 * d.external = length-set m.world.legs.held (number_of h.slot) _ ∙ before.held in
      let caller = begun m.world (in_state call_delivered c.leg) in
      let put = subst IsElsewhere (sym (leg_at-with_entry_here d.external first c.slot (Some caller) size may.1.0.0)) (λ e. absurd cc) in
      performed_all d tones plan m (on_alerting tones h c) may (tt, (tt, (put, (tt, tt)))) before

  pub answer_sounds : (h : HeldLeg) (o : Option HeldLeg) → Unreleased m.world h.slot → PeerUnreleased m.world o → (legs : Legs) → ArePermitted d tones plan m (with_peer o (on_connect legs h)) → Sounds (with_peer o (on_connect legs h))
  answer_sounds h None called quiet legs may = before
  answer_sounds h (Some c) called quiet legs may =
      let paired = making_after_all d m (Clear c.slot ∷ Pair c.slot h.slot ∷ []) in
      let talks = making_after d paired (answered legs h.slot (in_state active h.leg)) in
      performed_all d tones plan m (on_connect legs h c) may
      (quiet, ((quiet, called), (answered_quiet tones paired legs h.slot (in_state active h.leg), (answered_quiet tones talks legs c.slot (in_state active c.leg), (tt, (tt, tt)))))) before

-- ---- a leg that goes to release request by its user's DISCONNECT

module _ (d : Dimensions) (tones : Tones) (plan : List Number) (w : World) (h : HeldLeg) (before : Sounding d tones w) where
  abbrev cleared : World
  cleared = obey d w (Clear_slot h.slot)

  silent_release : SoundsByRelease tones h.slot (begun cleared (in_release_request h.leg)) (encoding (message_to h.leg kind.Release)) (heard_by cleared.holding.circuits h.slot)
  silent_release = record {
    cause = None;
    own = tt;
    kept = refl;
    hears = (0, heard_by_idle_is_deaf cleared.holding.circuits h.slot (cleared_is_idle w.holding h.slot));
  }

  pub disconnect_sounds : Unreleased w h.slot → ArePermitted d tones plan (making_at w) (on_disconnect h) → Sounding d tones (making_after_all d (making_at w) (on_disconnect h)).world
  disconnect_sounds quiet may = performed_all d tones plan (making_at w) (on_disconnect h) may (quiet, ((λ is. silent_release), tt)) before

-- ---- the other leg of a call

module _ (d : Dimensions) (tones : Tones) (plan : List Number) (w : World) (h : HeldLeg) (stand : LegsStand d.external tones w) (within : IsExternal d.external h.slot) (at : leg_at w.legs h.slot ≡ Some h.leg) where
  abbrev other : Option HeldLeg
  other = peer_of w.legs h.leg.peer

  pub peer_quiet : PeerUnreleased w other
  peer_quiet = peer_unreleased d.external w h.slot h.leg h.leg.peer (stand.each h.slot h.leg within at).peer

  peer_there : PeerIsThere d.external h other
  peer_there = peer_there_too d.external tones w h stand within at

  -- once the leg's own slot has another entry
  pub peer_quiet_still : (v : World) (o : Option Leg) → v.legs.held ≡ slice_set w.legs.held (number_of h.slot) o → PeerUnreleased v other
  peer_quiet_still v o entry =
      still_unreleased d.external w v h other peer_there (λ z in_z apart. ap (look z) entry ∙ leg_at-with_entry_else d.external w.legs h.slot z o within in_z apart) peer_quiet

  pub then_peer : (o : Option Leg) (cause : ℕ) → cause < 128 → (m : Making) → m.world.legs.held ≡ slice_set w.legs.held (number_of h.slot) o → Sounding d tones m.world
      → Sounding d tones (making_after_all d m (with_peer other (clear_with tones cause))).world
  then_peer o cause small m entry so_far = peer_sounds d tones plan m so_far h cause other peer_there small (peer_quiet_still m.world o entry)

-- ---- an act

module _ (s : Setting) (w : World) (h : HeldLeg) (stands : CallsStand s w) (within : IsExternal s.dimensions.external h.slot) (at : leg_at w.legs h.slot ≡ Some h.leg) where
  abbrev d : Dimensions
  d = s.dimensions

  abbrev before : Sounding s.dimensions s.tones w
  before = sounding_of s w stands

  then_cleared : (o : Option Leg) (cause : ℕ) → cause < 128 → (m : Making) → m.world.legs.held ≡ slice_set w.legs.held (number_of h.slot) o → Sounding d s.tones m.world
      → Sounding d s.tones (making_after_all d m (with_peer (peer_of w.legs h.leg.peer) (clear_with s.tones cause))).world
  then_cleared = then_peer d s.tones s.plan w h stands.legs within at

  -- the user of a leg in active reports its state
  abbrev report : Bool → Bool → Course
  report asked same =
      if asked then (if same then only (Put h.slot (with_enquiry false h.leg) ∷ []) else record {
        operations = clear_with s.tones message_not_compatible_with_call_state h ++ with_peer (peer_of w.legs h.leg.peer) (clear_with s.tones message_not_compatible_with_call_state);
        cause = Some message_not_compatible_with_call_state;
      }) else nothing

  report_sounds : h.leg.state ≡ active → (asked same : Bool) → ArePermitted d s.tones s.plan (making_at w) (report asked same).operations → Sounding d s.tones (making_by s w (report asked same)).world
  report_sounds is true true may = performed_all d s.tones s.plan (making_at w) (Put h.slot (with_enquiry false h.leg) ∷ []) may (tt, tt) before
  report_sounds is true false may =
      let cause : ℕ = message_not_compatible_with_call_state in
      let quiet : h.leg.state ≢ release_request = λ e. let wrong = sym is ∙ e in absurd cc in
      then_cleared (Some (begun w (in_disconnect_indication cause h.leg))) cause (omega arith) (making_after_all d (making_at w) (clear_with s.tones cause h)) refl
      (cleared_sounds d s.tones s.plan (making_at w) before h cause (is_there d.external s.tones w h stands.legs within at) (omega arith) (unreleased_by w h.slot (Some h.leg) at quiet))
  report_sounds is false same may = before

  pub act_sounds : (m : Q931) (a : Act) → Asked h.leg.state a → ArePermitted d s.tones s.plan (making_at w) (course_of s w h m a).operations
      → (Asked h.leg.state act.Digits → ArePermitted d s.tones s.plan (making_at w) (on_digits s w h m) → Sounding d s.tones (making_after_all d (making_at w) (on_digits s w h m)).world)
      → Sounding d s.tones (making_by s w (course_of s w h m a)).world
  act_sounds m act.Nothing asks may digits = before
  act_sounds m act.Unexpected asks may digits = performed_all d s.tones s.plan (making_at w) (course_of s w h m act.Unexpected).operations may (tt, tt) before
  act_sounds m act.Enquiry asks may digits = performed_all d s.tones s.plan (making_at w) (course_of s w h m act.Enquiry).operations may (tt, tt) before
  act_sounds m act.Proceeding asks may digits = performed_all d s.tones s.plan (making_at w) (course_of s w h m act.Proceeding).operations may (tt, tt) before
  act_sounds m act.Alerting asks may digits = alerting_sounds d s.tones s.plan (making_at w) before h (peer_of w.legs h.leg.peer) may
  act_sounds m act.Answer asks may digits =
      answer_sounds d s.tones s.plan (making_at w) before h (peer_of w.legs h.leg.peer) (unreleased_by w h.slot (Some h.leg) at (rings_elsewhere h.leg.state asks))
      (peer_quiet d s.tones s.plan w h stands.legs within at) w.legs may
  act_sounds m act.Digits asks may digits = digits asks may
  act_sounds m (act.Disconnect cause) asks may digits =
      then_cleared (Some (begun w (in_release_request h.leg))) cause asks.0 (making_after_all d (making_at w) (on_disconnect h)) refl
      (disconnect_sounds d s.tones s.plan w h before (unreleased_by w h.slot (Some h.leg) at asks.1) (may.0, (may.1.0, tt)))
  act_sounds m (act.Release cause) asks may digits =
      then_cleared None cause asks (making_after_all d (making_at w) (on_release h)) refl (removed_sounds d s.tones s.plan (making_at w) before Idle h within)
  act_sounds m (act.ReleaseComplete cause) asks may digits =
      then_cleared None cause asks (making_after_all d (making_at w) (remove_leg Idle h)) refl (removed_sounds d s.tones s.plan (making_at w) before Idle h within)
  act_sounds m (act.Report reported) asks may digits = report_sounds (eqb-true h.leg.state active asks) h.leg.enquired (reported == active) may
