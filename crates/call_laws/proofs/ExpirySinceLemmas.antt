-- What a frame does with a leg lets it wait anew from the next frame on.
use Rattle.std.proofs.Common.{◌≡◌, ℕ, ◌*◌, ◌≤◌, ◌⊎◌, inl, inr, List, [], ◌∷◌, length, Option, Some, None, refl, sym, ◌∙◌, ap, subst, length-set}
use Rattle.std.specs.Prelude.{IfSome}
use Rattle.circuit_model.specs.declared.channel.Slot.{Slot}
use Rattle.circuit_model.specs.Extent.{IsExternal}
use Rattle.control_memory.specs.Layout.{number_of}
use Rattle.number_plan.specs.declared.plan.Number.{Number}
use Rattle.call_states.specs.declared.leg.Leg.{Leg}
use Rattle.tone_rules.specs.declared.tones.Tones.{Tones}
use Rattle.exchange_events.specs.Sizes.{Setting, Dimensions}
use Rattle.call_profile.specs.Expiring.{expire_slot, slot_looked_at, outcome_of_lines}
use Rattle.call_profile.specs.Legs.{Legs, retransmitted_from, leg_at, with_entry}
use Rattle.call_profile.specs.Operations as op
use Rattle.call_profile.specs.Operations.{Operation, Making, begun, making_after, making_after_all}
use Rattle.call_profile.specs.World.{World}
use Rattle.call_profile.proofs.BesideLemmas.{leg_at-with_entry_here, leg_at-with_entry_else, same_or_apart}
use Rattle.call_profile.proofs.ClearingLemmas.{Kept}
use Rattle.call_profile.proofs.ExpiringLemmas.{each_line, slot_fine, slot_may, place_within}
use Rattle.call_profile.proofs.Permitted.{IsPermitted, ArePermitted}
use Rattle.call_profile.proofs.ToneLemmas.{with_tone_sounding_next}

-- the leg at a slot is as it was, or waits from this frame on
abbrev pub StaysOrBegins : ℕ → Legs → Legs → Slot → Type 0
StaysOrBegins next before after z = (leg_at after z ≡ leg_at before z) ⊎ IfSome (leg_at after z) (λ leg. leg.since ≡ next)

module _ (d : Dimensions) (tones : Tones) (plan : List Number) (before : Legs) (next : ℕ) (z : Slot) (in_z : IsExternal d.external z) where
  -- with the next frame and the size of the table
  abbrev Fine : World → Type 0
  Fine w = (w.holding.next ≡ next) × (length w.legs.held ≡ 30 * d.external) × StaysOrBegins next before w.legs z

  begins : (o : Option Leg) (legs : Legs) → leg_at legs z ≡ o → IfSome o (λ leg. leg.since ≡ next) → StaysOrBegins next before legs z
  begins o legs at since = inr (subst (λ (p : Option Leg). IfSome p (λ leg. leg.since ≡ next)) (sym at) since)

  entered : (legs : Legs) (x : Slot) (o : Option Leg) → IsExternal d.external x → length legs.held ≡ 30 * d.external → StaysOrBegins next before legs z → IfSome o (λ leg. leg.since ≡ next) → StaysOrBegins next before (with_entry legs x o) z
  entered legs x o in_x size so_far since = elim (same_or_apart z x) [
    | inl same ↦ begins o (with_entry legs x o) (ap (leg_at (with_entry legs x o)) same ∙ leg_at-with_entry_here d.external legs x o size in_x) since
    | inr apart ↦
        let else = leg_at-with_entry_else d.external legs x z o in_x in_z apart in
        elim so_far [
          | inl stays ↦ inl (else ∙ stays)
          | inr began ↦ inr (subst (λ (p : Option Leg). IfSome p (λ leg. leg.since ≡ next)) (sym else) began)
        ]
  ]

  performed : (m : Making) (o : Operation) → IsPermitted d tones plan m o → Fine m.world → Fine (making_after d m o).world
  performed m (op.Clear x) may fine = fine
  performed m (op.Pair x y) may fine = fine
  performed m (op.Seat x room) may fine = fine
  performed m (op.Sound x kind) may fine = (with_tone_sounding_next m.world.holding x kind ∙ fine.0, fine.1, fine.2)
  performed m (op.Put x leg) may fine = (fine.0, length-set m.world.legs.held (number_of x) (Some (begun m.world leg)) ∙ fine.1, entered m.world.legs x (Some (begun m.world leg)) may.0 fine.1 fine.2 fine.0)
  performed m (op.Wait x leg p) may fine = (fine.0, length-set m.world.legs.held (number_of x) (Some (begun m.world leg)) ∙ fine.1, entered m.world.legs x (Some (begun m.world leg)) may.0 fine.1 fine.2 fine.0)
  performed m (op.Expect x leg message) may fine = (fine.0, length-set m.world.legs.held (number_of x) (Some (begun m.world leg)) ∙ fine.1, entered m.world.legs x (Some (begun m.world leg)) may.0 fine.1 fine.2 fine.0)
  performed m (op.Repeat h octets) may fine =
      let again = retransmitted_from m.world.holding.next h.leg in
      (fine.0, length-set m.world.legs.held (number_of h.slot) (Some again) ∙ fine.1, entered m.world.legs h.slot (Some again) may.0 fine.1 fine.2 fine.0)
  performed m (op.Await x leg) may fine =
      let waits = retransmitted_from m.world.holding.next leg in
      (fine.0, length-set m.world.legs.held (number_of x) (Some waits) ∙ fine.1, entered m.world.legs x (Some waits) may.0 fine.1 fine.2 fine.0)
  performed m (op.Remove x condition) may fine = (fine.0, length-set m.world.legs.held (number_of x) None ∙ fine.1, entered m.world.legs x None may fine.1 fine.2 tt)
  performed m (op.Send line message) may fine = fine

  pub performed_all : (m : Making) (os : List Operation) → ArePermitted d tones plan m os → Fine m.world → Fine (making_after_all d m os).world
  performed_all m [] may fine = fine
  performed_all m (o ∷ os) may fine = performed_all (making_after d m o) os may.1 (performed m o may.0 fine)

module _ (s : Setting) (frame : ℕ) (w : World) (kept : Kept s.dimensions s.tones w) (z : Slot) (in_z : IsExternal s.dimensions.external z) where
  lines_fine : (lines : ℕ) → lines ≤ s.dimensions.external → Fine s.dimensions s.tones s.plan w.legs w.holding.next z in_z (outcome_of_lines s frame w lines).making.world
  lines_fine lines few =
      let next : ℕ = w.holding.next in
      (each_line s frame w (λ a. Fine s.dimensions s.tones s.plan w.legs next z in_z a.making.world × Kept s.dimensions s.tones a.making.world) ((refl, kept.1.count, inl refl), kept) (λ a line small k.
      let x : Slot = slot_looked_at frame line in
      let within = place_within s.dimensions.external frame line small in (
        performed_all s.dimensions s.tones s.plan w.legs next z in_z a.making (expire_slot s frame a.making.world.legs x) (slot_may s frame a.making x k.1 within s.plan) k.0,
        slot_fine s frame a.making x k.1 within,
      )) lines few).0

  pub began_by : (lines : ℕ) → lines ≤ s.dimensions.external → StaysOrBegins w.holding.next w.legs (outcome_of_lines s frame w lines).making.world.legs z
  began_by lines few = (lines_fine lines few).2

  pub outcome_of_lines_next : (lines : ℕ) → lines ≤ s.dimensions.external → (outcome_of_lines s frame w lines).making.world.holding.next ≡ w.holding.next
  outcome_of_lines_next lines few = (lines_fine lines few).0
