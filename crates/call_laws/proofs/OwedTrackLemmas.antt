-- The condition of each channel after some operations: the one that it had, or the one that the removal of its leg gives it.
use Rattle.std.proofs.Common.{◌≡◌, ℕ, ◌*◌, ◌⊎◌, inl, inr, Bool, true, false, ◌&&◌, ◌||◌, List, [], ◌∷◌, ◌++◌, length, Option, Some, None, refl, sym, ◌∙◌, ap, subst, arith, length-set, get_or-set_same, get_or-set_other, if◌then◌else◌}
use Rattle.std.specs.Prelude.{is_none}
use Rattle.circuit_model.specs.declared.channel.Slot.{Slot}
use Rattle.circuit_model.specs.Extent.{IsExternal}
use Rattle.circuit_model.proofs.Slots.{true_or_false}
use Rattle.control_memory.specs.Layout.{number_of}
use Rattle.control_memory.proofs.Steps.{same_number, number_inside}
use Rattle.q931_codec.specs.CallStates.{active, call_present, release_request}
use Rattle.q931_codec.specs.Causes.{destination_out_of_order, invalid_number_format, no_answer_from_user, no_user_responding, recovery_on_timer_expiry}
use Rattle.call_timers.specs.declared.expiry.Expiry.{Expiry}
use Rattle.call_timers.specs.declared.expiry.Expiry.TheVariants as expiry
use Rattle.call_states.specs.Conditions.{unanswered}
use Rattle.call_states.specs.declared.condition.Condition.{Condition}
use Rattle.call_states.specs.declared.condition.Condition.TheVariants.{Idle, Owed}
use Rattle.call_states.specs.declared.leg.HeldLeg.{HeldLeg}
use Rattle.call_states.specs.declared.leg.Leg.{Leg}
use Rattle.call_states.specs.declared.leg.Peer.{Peer}
use Rattle.call_states.specs.declared.leg.Peer.TheVariants as peer
use Rattle.tone_rules.specs.declared.tones.Tones.{Tones}
use Rattle.exchange_events.specs.Sizes.{Dimensions}
use Rattle.call_profile.specs.Acts.{clear_with, peer_of, with_enquiry, with_peer}
use Rattle.call_profile.specs.Expiring.{on_expiry, send_again, timed_state}
use Rattle.call_profile.specs.LegStanding.{HasPeer}
use Rattle.call_profile.specs.Legs.{Legs, condition_at, is_down, kept_at, leg_at, with_entry, without_leg}
use Rattle.call_profile.specs.LinkChanges.{whole_line, drop_leg}
use Rattle.call_profile.specs.Operations as op
use Rattle.call_profile.specs.Operations.{Operation, Making, Await, begun, making_after, making_after_all, with_legs}
use Rattle.call_laws.specs.OwedRestarts.{is_removed}
use Rattle.call_profile.specs.Restarts.{restarts_slot, restart_peer}
use Rattle.call_profile.specs.World.{World}
use Rattle.call_profile.proofs.BesideLemmas.{leg_at-with_entry_here, leg_at-with_entry_else, same_or_apart}
use Rattle.call_profile.proofs.ClearingLemmas.{Kept, held_there}
use Rattle.call_profile.proofs.LinkLemmas.{by_drop}
use Rattle.call_profile.proofs.ToneLemmas.{with_tone_sounding_next}

-- a channel without a leg, read by its condition
abbrev pub reads_at : (Condition → Bool) → Legs → Slot → Bool
reads_at reads legs z = reads (condition_at legs z) && is_none (leg_at legs z)

-- ---- what is tracked

-- the condition of a channel if its leg is removed
module _ (d : Dimensions) (w : World) (cond : Slot → Leg → Condition) where
  pub record Tracks (v : World) : Type 0 where
    pub conditions : length v.legs.conditions ≡ 30 * d.external
    pub held : length v.legs.held ≡ 30 * d.external
    pub next : v.holding.next ≡ w.holding.next
    pub empty : (z : Slot) → IsExternal d.external z → leg_at w.legs z ≡ None
        → (leg_at v.legs z ≡ None) × (condition_at v.legs z ≡ condition_at w.legs z)
    pub gone : (z : Slot) (l : Leg) → IsExternal d.external z → leg_at w.legs z ≡ Some l → leg_at v.legs z ≡ None → condition_at v.legs z ≡ cond z l
    pub same : (z : Slot) (k : Leg) → IsExternal d.external z → leg_at v.legs z ≡ Some k → (leg_at w.legs z ≡ Some k) ⊎ (k.since ≡ w.holding.next)

  -- a leg holds the slot before the first operation
  abbrev pub WasHeld : Slot → Type 0
  WasHeld x = IsExternal d.external x × (leg_at w.legs x ≡ None → ⊥)

  abbrev pub MayTrack : Operation → Type 0
  MayTrack (op.Clear x) = Unit {0}
  MayTrack (op.Pair x y) = Unit {0}
  MayTrack (op.Seat x room) = Unit {0}
  MayTrack (op.Sound x kind) = Unit {0}
  MayTrack (op.Put x leg) = WasHeld x
  MayTrack (op.Wait x leg p) = WasHeld x
  MayTrack (op.Expect x leg message) = WasHeld x
  MayTrack (op.Repeat h octets) = WasHeld h.slot
  MayTrack (op.Await x leg) = WasHeld x
  MayTrack (op.Remove x condition) = WasHeld x × ((l : Leg) → leg_at w.legs x ≡ Some l → condition ≡ cond x l)
  MayTrack (op.Send line message) = Unit {0}

  abbrev pub TrackAll : List Operation → Type 0
  TrackAll [] = Unit {0}
  TrackAll (o ∷ os) = MayTrack o × TrackAll os

  -- the legs are the same, and the number of the next frame
  heard_tracks : (u v : World) → v.legs ≡ u.legs → v.holding.next ≡ u.holding.next → Tracks u → Tracks v
  heard_tracks u v legs next t =
      subst (λ (ls : Legs). Tracks (with_legs v ls)) (sym legs)
      (record { conditions = t.conditions; held = t.held; next = next ∙ t.next; empty = t.empty; gone = t.gone; same = t.same })

  written_tracks : (v : World) (x : Slot) (stored : Leg) → stored.since ≡ w.holding.next → WasHeld x → Tracks v
      → Tracks (with_legs v (with_entry v.legs x (Some stored)))
  written_tracks v x stored since was t = record {
    conditions = t.conditions;
    held = length-set v.legs.held (number_of x) (Some stored) ∙ t.held;
    next = t.next;
    empty = λ z in_z none.
        let before = t.empty z in_z none in
        (leg_at-with_entry_else d.external v.legs x z (Some stored) was.0 in_z (λ is. was.1 (sym (ap (leg_at w.legs) is) ∙ none)) ∙ before.0, before.1);
    gone = λ z l in_z at none. elim (same_or_apart z x) [
      | inl is ↦
          let wrong : Some stored ≡ None = sym (leg_at-with_entry_here d.external v.legs x (Some stored) t.held was.0)
          ∙ ap (leg_at (with_entry v.legs x (Some stored))) (sym is) ∙ none in
          absurd cc
      | inr apart ↦ t.gone z l in_z at (sym (leg_at-with_entry_else d.external v.legs x z (Some stored) was.0 in_z apart) ∙ none)
    ];
    same = λ z k in_z at. elim (same_or_apart z x) [
      | inl is ↦
          let e : Some stored ≡ Some k = sym (leg_at-with_entry_here d.external v.legs x (Some stored) t.held was.0)
          ∙ ap (leg_at (with_entry v.legs x (Some stored))) (sym is) ∙ at in
          let same : stored ≡ k = cc in
          inr (ap (λ (l : Leg). l.since) (sym same) ∙ since)
      | inr apart ↦ t.same z k in_z (sym (leg_at-with_entry_else d.external v.legs x z (Some stored) was.0 in_z apart) ∙ at)
    ];
  }

  removed_tracks : (v : World) (x : Slot) (condition : Condition) → WasHeld x → ((l : Leg) → leg_at w.legs x ≡ Some l → condition ≡ cond x l) → Tracks v
      → Tracks (with_legs v (without_leg v.legs x condition))
  removed_tracks v x condition was is_cond t =
      let apart_stays : (z : Slot) → IsExternal d.external z → (z ≡ x → ⊥) → condition_at (without_leg v.legs x condition) z ≡ condition_at v.legs z =
      λ z in_z apart. get_or-set_other v.legs.conditions (number_of x) (number_of z) condition Idle (λ n. apart (same_number z x in_z.1 was.0.1 n)) in
      record {
        conditions = length-set v.legs.conditions (number_of x) condition ∙ t.conditions;
        held = length-set v.legs.held (number_of x) None ∙ t.held;
        next = t.next;
        empty = λ z in_z none.
            let before = t.empty z in_z none in
            let apart : z ≡ x → ⊥ = λ is. was.1 (sym (ap (leg_at w.legs) is) ∙ none) in
            (leg_at-with_entry_else d.external v.legs x z None was.0 in_z apart ∙ before.0, apart_stays z in_z apart ∙ before.1);
        gone = λ z l in_z at none. elim (same_or_apart z x) [
          | inl is ↦
              ap (condition_at (without_leg v.legs x condition)) is
              ∙ get_or-set_same v.legs.conditions (number_of x) condition Idle
              (let n = number_inside d.external x was.0 in let size = t.conditions in omega (arith, n, size))
              ∙ is_cond l (sym (ap (leg_at w.legs) is) ∙ at)
              ∙ ap (λ (q : Slot). cond q l) (sym is)
          | inr apart ↦ apart_stays z in_z apart ∙ t.gone z l in_z at (sym (leg_at-with_entry_else d.external v.legs x z None was.0 in_z apart) ∙ none)
        ];
        same = λ z k in_z at. elim (same_or_apart z x) [
          | inl is ↦
              let wrong : None ≡ Some k = sym (leg_at-with_entry_here d.external v.legs x None t.held was.0)
              ∙ ap (leg_at (with_entry v.legs x None)) (sym is) ∙ at in
              absurd cc
          | inr apart ↦ t.same z k in_z (sym (leg_at-with_entry_else d.external v.legs x z None was.0 in_z apart) ∙ at)
        ];
      }

  performed : (m : Making) (o : Operation) → MayTrack o → Tracks m.world → Tracks (making_after d m o).world
  performed m (op.Clear x) may t = heard_tracks m.world (making_after d m (op.Clear x)).world refl refl t
  performed m (op.Pair x y) may t = heard_tracks m.world (making_after d m (op.Pair x y)).world refl refl t
  performed m (op.Seat x room) may t = heard_tracks m.world (making_after d m (op.Seat x room)).world refl refl t
  performed m (op.Sound x kind) may t = heard_tracks m.world (making_after d m (op.Sound x kind)).world refl (with_tone_sounding_next m.world.holding x kind) t
  performed m (op.Put x leg) may t = written_tracks m.world x (begun m.world leg) t.next may t
  performed m (op.Wait x leg p) may t =
      let done = written_tracks m.world x (begun m.world leg) t.next may t in
      record { conditions = done.conditions; held = done.held; next = done.next; empty = done.empty; gone = done.gone; same = done.same }
  performed m (op.Expect x leg message) may t =
      let done = written_tracks m.world x (begun m.world leg) t.next may t in
      record { conditions = done.conditions; held = done.held; next = done.next; empty = done.empty; gone = done.gone; same = done.same }
  performed m (op.Repeat h octets) may t =
      let done = written_tracks m.world h.slot (record h.leg { since = m.world.holding.next; resent = true }) t.next may t in
      record { conditions = done.conditions; held = done.held; next = done.next; empty = done.empty; gone = done.gone; same = done.same }
  performed m (op.Await x leg) may t = written_tracks m.world x (record leg { since = m.world.holding.next; resent = true }) t.next may t
  performed m (op.Remove x condition) may t = removed_tracks m.world x condition may.0 may.1 t
  performed m (op.Send line message) may t = t

  pub tracked_all : (m : Making) (os : List Operation) → TrackAll os → Tracks m.world → Tracks (making_after_all d m os).world
  tracked_all m [] may t = t
  tracked_all m (o ∷ os) may t = tracked_all (making_after d m o) os may.1 (performed m o may.0 t)

  -- ---- what the conditions say

  and_none : (b : Bool) → (b && true) ≡ b
  and_none true = refl
  and_none false = refl

  and_some : (b : Bool) → (b && false) ≡ false
  and_some true = refl
  and_some false = refl

  or_none : (b : Bool) → (b || false) ≡ b
  or_none true = refl
  or_none false = refl

  -- a reading of the conditions: that a RESTART is owed, or that the channel is unconfirmed
  module _ (reads : Condition → Bool) where
    abbrev pub given : Slot → Option Leg → Bool
    given z None = false
    given z (Some l) = reads (cond z l)

    module _ (v : World) (t : Tracks v) (z : Slot) (in_z : IsExternal d.external z) where
      abbrev before : Bool
      before = reads (condition_at w.legs z)

      exact_by : (o p : Option Leg) → leg_at w.legs z ≡ o → leg_at v.legs z ≡ p
          → reads_at reads v.legs z ≡ (reads_at reads w.legs z || (is_removed w v z && given z (leg_at w.legs z)))
      exact_by None p none now =
          let facts = t.empty z in_z none in
          rw (none, facts.0, facts.1) (sym (or_none (before && true)))
      exact_by (Some l) None at now =
          let condition = t.gone z l in_z at now in
          rw (at, now, condition) (and_none (reads (cond z l)) ∙ sym (ap (λ (b : Bool). b || reads (cond z l)) (and_some before)))
      exact_by (Some l) (Some k) at now =
          rw (at, now) (and_some (reads (condition_at v.legs z)) ∙ sym (ap (λ (b : Bool). b || false) (and_some before)))

      -- what is read of a channel without a leg is read still
      stays_by : (o : Option Leg) → leg_at w.legs z ≡ o → reads_at reads w.legs z ≡ ((reads_at reads w.legs z && true) && is_none (leg_at v.legs z))
      stays_by None none =
          let empty = (t.empty z in_z none).0 in
          rw (none, empty) (sym (and_none ((before && true) && true) ∙ and_none (before && true)))
      stays_by (Some l) at = rw at (and_some before ∙ sym (ap (λ (b : Bool). (b && true) && is_none (leg_at v.legs z)) (and_some before)))

      pub read_stays : reads_at reads w.legs z ≡ ((reads_at reads w.legs z && true) && is_none (leg_at v.legs z))
      read_stays = stays_by (leg_at w.legs z) refl

      pub read_exactly : reads_at reads v.legs z ≡ (reads_at reads w.legs z || (is_removed w v z && given z (leg_at w.legs z)))
      read_exactly = exact_by (leg_at w.legs z) (leg_at v.legs z) refl refl

  -- ---- pieces of operations

  -- a leg that holds a slot now held it before
  pub was_held : (v : World) → Tracks v → (x : Slot) (leg : Leg) → IsExternal d.external x → leg_at v.legs x ≡ Some leg → WasHeld x
  was_held v t x leg in_x at = (in_x, λ none. let wrong : None ≡ Some leg = sym (t.empty x in_x none).0 ∙ at in cc)

  cleared_tracks : (tones : Tones) (cause : ℕ) (k : HeldLeg) (os : List Operation) → WasHeld k.slot → TrackAll os → TrackAll (clear_with tones cause k ++ os)
  cleared_tracks tones cause k os was rest = (tt, (was, (tt, (tt, rest))))

  module _ (tones : Tones) (m : Making) (x : Slot) (leg : Leg) (kept : Kept d tones m.world) (in_x : IsExternal d.external x)
      (at : leg_at m.world.legs x ≡ Some leg) (t : Tracks m.world) where
    peer_tracks_by : (cause : ℕ) (p : Peer) → HasPeer d.external m.world.legs x leg p → TrackAll (with_peer (peer_of m.world.legs p) (clear_with tones cause))
    peer_tracks_by cause peer.Alone has = tt
    peer_tracks_by cause (peer.Leg y) has =
        rw (held_there m.world.legs y has.1.0 has.1.1) (cleared_tracks tones cause (record { slot = y; leg = has.1.0 }) []
        (was_held m.world t y has.1.0 has.0 has.1.1) tt)
    peer_tracks_by cause (peer.Room room) has = tt

    peer_tracks : (cause : ℕ) → TrackAll (with_peer (peer_of m.world.legs leg.peer) (clear_with tones cause))
    peer_tracks cause = peer_tracks_by cause leg.peer (kept.1.each x leg in_x at).peer

    -- the link of its line fails, and the user of every removed leg is owed a RESTART
    module _ (always : (z : Slot) (l : Leg) → cond z l ≡ Owed) where
      other_tracks_by : (p : Peer) → HasPeer d.external m.world.legs x leg p
          → TrackAll (with_peer (peer_of m.world.legs p) (restart_peer tones destination_out_of_order Owed whole_line x.line))
      other_tracks_by peer.Alone has = tt
      other_tracks_by (peer.Leg y) has =
          let k : HeldLeg = record { slot = y; leg = has.1.0 } in
          let was = was_held m.world t y has.1.0 has.0 has.1.1 in
          rw (held_there m.world.legs y has.1.0 has.1.1) (elim (true_or_false (restarts_slot whole_line x.line y)) [
            | inl too ↦ rw too (tt, ((was, λ l before. sym (always y l)), tt))
            | inr not_so ↦ rw not_so (cleared_tracks tones destination_out_of_order k [] was tt)
          ])
      other_tracks_by (peer.Room room) has = tt

      waits_tracks : (runs : Bool) → TrackAll (if runs then [] else Await x (with_enquiry false leg) ∷ [])
      waits_tracks true = tt
      waits_tracks false = (was_held m.world t x leg in_x at, tt)

      pub drop_leg_tracks : TrackAll (drop_leg tones m.world.legs (Some (record { slot = x; leg = leg })))
      drop_leg_tracks = by_drop d tones m x leg kept in_x at TrackAll (λ talks. waits_tracks leg.resent) (λ clears. tt)
          (λ goes. (tt, ((was_held m.world t x leg in_x at, λ l before. sym (always x l)), other_tracks_by leg.peer (kept.1.each x leg in_x at).peer)))

    -- a timer expires, of a leg that held the slot before the frame
    module _ (still : leg_at w.legs x ≡ Some leg) (outage : leg.state ≡ active → cond x leg ≡ Owed) (setup : leg.state ≡ call_present → cond x leg ≡ Idle)
        (release : leg.state ≡ release_request → cond x leg ≡ unanswered (is_down m.world.legs x.line)) where
      abbrev h : HeldLeg
      h = record { slot = x; leg = leg }

      here : WasHeld x
      here = was_held m.world t x leg in_x at

      is_still : (condition : Condition) → cond x leg ≡ condition → (l : Leg) → leg_at w.legs x ≡ Some l → condition ≡ cond x l
      is_still condition is l before = let e : Some leg ≡ Some l = sym still ∙ before in let same : leg ≡ l = cc in sym is ∙ ap (cond x) same

      again_tracks : (o : Option (List ℕ)) → TrackAll (send_again h o)
      again_tracks None = tt
      again_tracks (Some octets) = (here, tt)

      pub expiry_tracks : (e : Expiry) → leg.state ≡ timed_state e → TrackAll (on_expiry tones m.world.legs h e)
      expiry_tracks expiry.Digits state = cleared_tracks tones invalid_number_format h [] here tt
      expiry_tracks expiry.SetupAgain state = again_tracks (kept_at m.world.legs x)
      expiry_tracks expiry.SetupOver state = (tt, ((here, is_still Idle (setup state)), (tt, peer_tracks no_user_responding)))
      expiry_tracks expiry.Proceeding state = cleared_tracks tones recovery_on_timer_expiry h _ here (peer_tracks no_user_responding)
      expiry_tracks expiry.Alerting state = cleared_tracks tones recovery_on_timer_expiry h _ here (peer_tracks no_answer_from_user)
      expiry_tracks expiry.Outage state = (tt, ((here, is_still Owed (outage state)), peer_tracks destination_out_of_order))
      expiry_tracks expiry.Disconnect state = (here, tt)
      expiry_tracks expiry.ReleaseAgain state = again_tracks (kept_at m.world.legs x)
      expiry_tracks expiry.ReleaseOver state = (tt, ((here, is_still (unanswered (is_down m.world.legs x.line)) (release state)), tt))
