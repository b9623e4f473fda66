-- The legs are consistent after the two of a call have gone to other states.
use Rattle.std.proofs.Common.{◌≡◌, ℕ, ◌*◌, Bool, true, inl, inr, length, Some, refl, sym, ◌∙◌, ap, subst}
use Rattle.circuit_model.specs.declared.channel.Slot.{Slot}
use Rattle.circuit_model.specs.Circuits.{heard_by}
use Rattle.circuit_model.specs.Extent.{IsExternal}
use Rattle.call_states.specs.Acts.{is_among, every_state}
use Rattle.call_states.specs.declared.leg.Leg.{Leg}
use Rattle.call_states.specs.declared.leg.Side.{Side}
use Rattle.tone_rules.specs.declared.tones.Tones.{Tones}
use Rattle.call_profile.specs.Acts.{in_state}
use Rattle.call_profile.specs.LegStanding.{LegStands, LegsStand, HasPeer, MayHear, IsInCall, AreOneCall, are_matched}
use Rattle.call_profile.specs.Legs.{leg_at}
use Rattle.call_profile.specs.Operations.{begun}
use Rattle.call_profile.specs.World.{World}
use Rattle.call_profile.proofs.BesideLemmas.{same_or_apart, Beside, each_stands, SameReferences, still_one}

-- a leg that has gone to another state
abbrev pub gone_to : World → ℕ → Leg → Leg
gone_to w state leg = begun w (in_state state leg)

-- the same, whatever its wait: the leg may have stayed in its state, or wait for its data link
abbrev pub moved_to : ℕ → ℕ → Bool → Leg → Leg
moved_to state since resent leg = record leg { state = state; since = since; resent = resent }

-- what is known once the called leg at x is in state s and the caller's at y in state t
pub record HasGone (external : ℕ) (tones : Tones) (w v : World) (x y : Slot) (leg other : Leg) (s t since : ℕ) (waits resent : Bool) : Type 0 where
  pub stand : LegsStand external tones w
  pub in_x : IsExternal external x
  pub in_y : IsExternal external y
  pub at_x : leg_at w.legs x ≡ Some leg
  pub at_y : leg_at w.legs y ≡ Some other
  pub call : AreOneCall y other x leg
  pub state_x : is_among every_state s ≡ true
  pub state_y : is_among every_state t ≡ true
  pub matched : are_matched t s ≡ true
  pub size : length v.legs.held ≡ 30 * external
  pub here_x : leg_at v.legs x ≡ Some (moved_to s w.holding.next waits leg)
  pub here_y : leg_at v.legs y ≡ Some (moved_to t since resent other)
  pub hears_x : MayHear tones (moved_to s w.holding.next waits leg) (heard_by v.holding.circuits x)
  pub hears_y : MayHear tones (moved_to t since resent other) (heard_by v.holding.circuits y)
  pub beside : Beside external w v x y

module _ (external : ℕ) (tones : Tones) (w v : World) (x y : Slot) (leg other : Leg) (s t since : ℕ) (waits resent : Bool) (g : HasGone external tones w v x y leg other s t since waits resent) where
  gone_call : AreOneCall y (moved_to t since resent other) x (moved_to s w.holding.next waits leg)
  gone_call = let c = g.call in record { calls = c.calls; is_called = c.is_called; there = c.there; back = c.back; matched = g.matched }

  called_stands : LegStands external tones v x (moved_to s w.holding.next waits leg)
  called_stands =
      let old = g.stand.each x leg g.in_x g.at_x in
      let in_call : IsInCall leg.side x (moved_to s w.holding.next waits leg) y (moved_to t since resent other) = subst (λ (side : Side). IsInCall side x (moved_to s w.holding.next waits leg) y (moved_to t since resent other)) (sym g.call.is_called) gone_call in
      record {
        state = g.state_x;
        reference = old.reference;
        cause = old.cause;
        peer = subst (HasPeer external v.legs x (moved_to s w.holding.next waits leg)) (sym g.call.back) (g.in_y, (moved_to t since resent other, g.here_y, in_call));
        hears = g.hears_x;
      }

  caller_stands : LegStands external tones v y (moved_to t since resent other)
  caller_stands =
      let old = g.stand.each y other g.in_y g.at_y in
      let in_call : IsInCall other.side y (moved_to t since resent other) x (moved_to s w.holding.next waits leg) = subst (λ (side : Side). IsInCall side y (moved_to t since resent other) x (moved_to s w.holding.next waits leg)) (sym g.call.calls) gone_call in
      record {
        state = g.state_y;
        reference = old.reference;
        cause = old.cause;
        peer = subst (HasPeer external v.legs y (moved_to t since resent other)) (sym g.call.there) (g.in_x, (moved_to s w.holding.next waits leg, g.here_x, in_call));
        hears = g.hears_y;
      }

  gone_x : (l : Leg) → leg_at v.legs x ≡ Some l → LegStands external tones v x l
  gone_x l is = let e : Some (moved_to s w.holding.next waits leg) ≡ Some l = sym g.here_x ∙ is in let same : moved_to s w.holding.next waits leg ≡ l = cc in subst (LegStands external tones v x) same called_stands

  gone_y : (l : Leg) → leg_at v.legs y ≡ Some l → LegStands external tones v y l
  gone_y l is = let e : Some (moved_to t since resent other) ≡ Some l = sym g.here_y ∙ is in let same : moved_to t since resent other ≡ l = cc in subst (LegStands external tones v y) same caller_stands

  references_gone : SameReferences external w v
  references_gone z b in_z at_z = elim (same_or_apart z x) [
    | inl is_x ↦
        let e : Some (moved_to s w.holding.next waits leg) ≡ Some b = sym g.here_x ∙ sym (ap (leg_at v.legs) is_x) ∙ at_z in
        let same : moved_to s w.holding.next waits leg ≡ b = cc in
        (leg, ap (leg_at w.legs) is_x ∙ g.at_x, ap (λ (l : Leg). l.side) same, ap (λ (l : Leg). l.reference) same)
    | inr not_x ↦ elim (same_or_apart z y) [
      | inl is_y ↦
          let e : Some (moved_to t since resent other) ≡ Some b = sym g.here_y ∙ sym (ap (leg_at v.legs) is_y) ∙ at_z in
          let same : moved_to t since resent other ≡ b = cc in
          (other, ap (leg_at w.legs) is_y ∙ g.at_y, ap (λ (l : Leg). l.side) same, ap (λ (l : Leg). l.reference) same)
      | inr not_y ↦ (b, sym (g.beside.legs z in_z not_x not_y) ∙ at_z, refl, refl)
    ]
  ]

  pub LegsStand_both_gone : LegsStand external tones v
  LegsStand_both_gone = record {
    count = g.size;
    each = each_stands external tones w v x y g.beside g.stand gone_x gone_y;
    one = still_one external tones w v references_gone g.stand;
  }
