-- The legs are consistent after one leg of a call is released and the other is disconnected.
use Rattle.std.proofs.Common.{◌≡◌, ℕ, ◌<◌, true, Option, Some, None, refl, sym, ◌∙◌, ap, subst}
use Rattle.circuit_model.specs.declared.channel.Slot.{Slot}
use Rattle.circuit_model.specs.declared.circuit.Kind.{Kind}
use Rattle.circuit_model.specs.Circuits.{heard_by, is_idle}
use Rattle.circuit_model.specs.Extent.{IsExternal}
use Rattle.circuit_model.specs.Holding.{Holding, Clear, after, Valid}
use Rattle.circuit_model.proofs.Validity.{valid-clear}
use Rattle.call_states.specs.declared.leg.Leg.{Leg}
use Rattle.tone_rules.specs.declared.tones.Tones.{Tones}
use Rattle.call_profile.specs.Acts.{in_disconnect_indication, tone_of}
use Rattle.call_profile.specs.LegStanding.{LegStands, LegsStand, MayHear}
use Rattle.call_profile.specs.Legs.{leg_at, with_entry}
use Rattle.call_profile.specs.Operations.{begun, with_tone}
use Rattle.call_profile.specs.World.{World}
use Rattle.call_profile.proofs.HearingLemmas.{heard_by_clear_both_keeps}
use Rattle.call_profile.proofs.OneLegClearedLemmas.{IsLeft, left_stands, left_reference, disconnected_stands, heard_by_deaf_once, heard_by_deaf_still}
use Rattle.call_profile.proofs.TwoEntriesLemmas.{ArePeers, strange_both, IsFine, both_stand, fine_leg}
use Rattle.call_profile.proofs.ToneLemmas.{cleared_is_idle, heard_by_sounding_keeps, sounds}

module _ (external : ℕ) (tones : Tones) (bridges : ℕ) (w v : World) (x y : Slot) (leg other : Leg) (o : Option Leg) (cause : ℕ) (small : cause < 128) (valid : Valid bridges w.holding) (stand : LegsStand external tones w)
    (peers : ArePeers external w x y leg other) (left : IsLeft w.holding.next leg o)
    (legs : v.legs.held ≡ (with_entry (with_entry w.legs x o) y (Some (begun w (in_disconnect_indication cause other)))).held)
    (holding : v.holding ≡ with_tone (after (after w.holding (Clear x)) (Clear y)) y (tone_of tones (in_disconnect_indication cause other))) where
  -- once both slots are cleared, and before the one gets its tone
  abbrev cleared : Holding
  cleared = after (after w.holding (Clear x)) (Clear y)

  -- the other leg, as it is cleared
  abbrev told : Leg
  told = begun w (in_disconnect_indication cause other)

  abbrev tone : Option Kind
  tone = tone_of tones (in_disconnect_indication cause other)

  idle_y : is_idle cleared.circuits y ≡ true
  idle_y = cleared_is_idle (after w.holding (Clear x)) y

  heard_both : (z : Slot) (l : Leg) → IsExternal external z → leg_at w.legs z ≡ Some l → (z ≡ x → ⊥) → (z ≡ y → ⊥) → heard_by v.holding.circuits z ≡ heard_by w.holding.circuits z
  heard_both z l in_z at_z not_x not_y =
      let strange = strange_both external tones w x y leg other stand peers z l in_z at_z not_x not_y in
      ap (λ (h : Holding). heard_by h.circuits z) holding
      ∙ heard_by_sounding_keeps cleared y idle_y z not_y tone
      ∙ heard_by_clear_both_keeps bridges tones w.holding l z x y valid (stand.each z l in_z at_z).hears not_x strange.0 not_y strange.1

  deaf_x : heard_by v.holding.circuits x ≡ None
  deaf_x =
      ap (λ (h : Holding). heard_by h.circuits x) holding
      ∙ heard_by_sounding_keeps cleared y idle_y x (λ e. peers.apart (sym e)) tone
      ∙ heard_by_deaf_still bridges (after w.holding (Clear x)) x y (valid-clear bridges w.holding x valid) (heard_by_deaf_once bridges w.holding x valid)

  hears_y : MayHear tones told (heard_by v.holding.circuits y)
  hears_y = subst (λ (h : Holding). MayHear tones told (heard_by h.circuits y)) (sym holding) (sounds cleared y idle_y tones told (λ e. absurd cc))

  fine_x : IsFine external tones v x leg o
  fine_x = record {
    stands = left_stands external tones w v x leg w.holding.next o left (stand.each x leg peers.in_x peers.at_x) deaf_x;
    same = left_reference leg w.holding.next o left;
  }

  told_stands : LegStands external tones v y told
  told_stands = disconnected_stands external tones w v y other w.holding.next cause small (stand.each y other peers.in_y peers.at_y) hears_y

  pub both_cleared : LegsStand external tones v
  both_cleared = both_stand external tones w v x y leg other o (Some told) stand peers legs heard_both fine_x (fine_leg external tones v y other told told_stands refl refl)
