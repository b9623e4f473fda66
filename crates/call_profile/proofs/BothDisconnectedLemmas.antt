-- The legs are consistent after both legs of a call are disconnected, each with a cause of its own.
use Rattle.std.proofs.Common.{◌≡◌, ℕ, ◌<◌, true, Option, Some, refl, sym, ◌∙◌, ap, subst}
use Rattle.circuit_model.specs.declared.channel.Slot.{Slot}
use Rattle.circuit_model.specs.declared.circuit.Kind.{Kind}
use Rattle.circuit_model.specs.Circuits.{heard_by, is_idle}
use Rattle.circuit_model.specs.Extent.{IsExternal}
use Rattle.circuit_model.specs.Holding.{Holding, Clear, after, Valid}
use Rattle.circuit_model.proofs.Validity.{valid-clear}
use Rattle.call_states.specs.declared.leg.Leg.{Leg}
use Rattle.call_states.specs.declared.leg.Peer.TheVariants as peer
use Rattle.tone_rules.specs.declared.tones.Tones.{Tones}
use Rattle.call_profile.specs.Acts.{in_disconnect_indication, tone_of}
use Rattle.call_profile.specs.LegStanding.{LegStands, LegsStand, MayHear}
use Rattle.call_profile.specs.Legs.{leg_at, with_entry}
use Rattle.call_profile.specs.Operations.{begun, with_tone}
use Rattle.call_profile.specs.World.{World}
use Rattle.call_profile.proofs.TwoEntriesLemmas.{ArePeers, strange_both, both_stand, fine_leg}
use Rattle.call_profile.proofs.HearingLemmas.{heard_by_clear_keeps}
use Rattle.call_profile.proofs.OneLegClearedLemmas.{disconnected_stands}
use Rattle.call_profile.proofs.ToneLemmas.{cleared_is_idle, heard_by_sounding_keeps, sounding_valid, sounds}

module _ (external : ℕ) (tones : Tones) (bridges : ℕ) (w v : World) (x y : Slot) (leg other : Leg) (cause also : ℕ) (small : cause < 128) (small_too : also < 128)
    (valid : Valid bridges w.holding) (stand : LegsStand external tones w) (peers : ArePeers external w x y leg other) where
  -- the legs as they are cleared
  abbrev one : Leg
  one = begun w (in_disconnect_indication cause leg)

  abbrev two : Leg
  two = begun w (in_disconnect_indication also other)

  abbrev tone_one : Option Kind
  tone_one = tone_of tones (in_disconnect_indication cause leg)

  abbrev tone_two : Option Kind
  tone_two = tone_of tones (in_disconnect_indication also other)

  -- the circuits: the one slot is cleared and gets its tone, and then the other
  abbrev cleared_one : Holding
  cleared_one = after w.holding (Clear x)

  abbrev first : Holding
  first = with_tone cleared_one x tone_one

  abbrev cleared_two : Holding
  cleared_two = after first (Clear y)

  abbrev both : Holding
  both = with_tone cleared_two y tone_two

  idle_x : is_idle cleared_one.circuits x ≡ true
  idle_x = cleared_is_idle w.holding x

  idle_y : is_idle cleared_two.circuits y ≡ true
  idle_y = cleared_is_idle first y

  first_valid : Valid bridges first
  first_valid = sounding_valid cleared_one x idle_x bridges (valid-clear bridges w.holding x valid) tone_one

  pub both_valid : Valid bridges both
  both_valid = sounding_valid cleared_two y idle_y bridges (valid-clear bridges first y first_valid) tone_two

  module _ (legs : v.legs.held ≡ (with_entry (with_entry w.legs x (Some one)) y (Some two)).held) (holding : v.holding ≡ both) where
    -- a third leg hears what it heard
    heard_first : (z : Slot) (l : Leg) → IsExternal external z → leg_at w.legs z ≡ Some l → (z ≡ x → ⊥) → (z ≡ y → ⊥) → heard_by first.circuits z ≡ heard_by w.holding.circuits z
    heard_first z l in_z at_z not_x not_y =
        heard_by_sounding_keeps cleared_one x idle_x z not_x tone_one
        ∙ heard_by_clear_keeps bridges tones w.holding l z x valid (stand.each z l in_z at_z).hears not_x (strange_both external tones w x y leg other stand peers z l in_z at_z not_x not_y).0

    heard_both : (z : Slot) (l : Leg) → IsExternal external z → leg_at w.legs z ≡ Some l → (z ≡ x → ⊥) → (z ≡ y → ⊥) → heard_by both.circuits z ≡ heard_by w.holding.circuits z
    heard_both z l in_z at_z not_x not_y =
        let once = heard_first z l in_z at_z not_x not_y in
        heard_by_sounding_keeps cleared_two y idle_y z not_y tone_two
        ∙ heard_by_clear_keeps bridges tones first l z y first_valid (subst (MayHear tones l) (sym once) (stand.each z l in_z at_z).hears) not_y (strange_both external tones w x y leg other stand peers z l in_z at_z not_x not_y).1
        ∙ once

    heard_then : (z : Slot) (l : Leg) → IsExternal external z → leg_at w.legs z ≡ Some l → (z ≡ x → ⊥) → (z ≡ y → ⊥) → heard_by v.holding.circuits z ≡ heard_by w.holding.circuits z
    heard_then z l in_z at_z not_x not_y = ap (λ (h : Holding). heard_by h.circuits z) holding ∙ heard_both z l in_z at_z not_x not_y

    -- and each of the two what it may
    first_sounds : MayHear tones one (heard_by first.circuits x)
    first_sounds = sounds cleared_one x idle_x tones one (λ e. absurd cc)

    still_sounds : heard_by both.circuits x ≡ heard_by first.circuits x
    still_sounds =
        let apart : x ≡ y → ⊥ = λ e. peers.apart (sym e) in
        heard_by_sounding_keeps cleared_two y idle_y x apart tone_two
        ∙ heard_by_clear_keeps bridges tones first one x y first_valid first_sounds apart (λ p is same. let wrong : peer.Alone ≡ peer.Leg p = is in cc)

    hears_x : MayHear tones one (heard_by v.holding.circuits x)
    hears_x = subst (λ (h : Holding). MayHear tones one (heard_by h.circuits x)) (sym holding) (subst (MayHear tones one) (sym still_sounds) first_sounds)

    hears_y : MayHear tones two (heard_by v.holding.circuits y)
    hears_y = subst (λ (h : Holding). MayHear tones two (heard_by h.circuits y)) (sym holding) (sounds cleared_two y idle_y tones two (λ e. absurd cc))

    one_stands : LegStands external tones v x one
    one_stands = disconnected_stands external tones w v x leg w.holding.next cause small (stand.each x leg peers.in_x peers.at_x) hears_x

    two_stands : LegStands external tones v y two
    two_stands = disconnected_stands external tones w v y other w.holding.next also small_too (stand.each y other peers.in_y peers.at_y) hears_y

    pub both_disconnected : LegsStand external tones v
    both_disconnected =
        both_stand external tones w v x y leg other (Some one) (Some two) stand peers legs heard_then
        (fine_leg external tones v x leg one one_stands refl refl) (fine_leg external tones v y other two two_stands refl refl)
