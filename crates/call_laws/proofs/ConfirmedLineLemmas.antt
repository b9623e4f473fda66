-- A RESTART ACKNOWLEDGE leaves all legs as they are, and records the end of no call.
use Rattle.std.proofs.Common.{◌≡◌, ℕ, [], ◌++◌, refl, ◌∙◌, ap, arith}
use Rattle.circuit_model.specs.declared.channel.Slot.{Slot}
use Rattle.clearing_rules.specs.declared.scope.Restart.{Restart}
use Rattle.q931_codec.specs.Causes.{temporary_failure}
use Rattle.exchange_events.specs.Sizes.{Dimensions}
use Rattle.tone_rules.specs.declared.tones.Tones.{Tones}
use Rattle.call_profile.specs.CallRecords.{records}
use Rattle.call_profile.specs.Operations.{making_after_all, with_legs}
use Rattle.call_profile.specs.Restarts.{MessageOutcome, confirm_rule, confirm_slot, outcome_of_confirmation}
use Rattle.call_profile.specs.World.{World}
use Rattle.call_profile.proofs.ConfirmedSlotLemmas.{confirm_held}
use Rattle.call_profile.proofs.RefusalLemmas.{no_records}
use Rattle.call_profile.proofs.RestartedSlotLemmas.{each_below}

-- where the legs are the same, no call has ended
pub records_of_none : (u v : World) (cause : ℕ) → v.legs.held ≡ u.legs.held → records u v cause ≡ []
records_of_none u v cause same = ap (λ held. records u (with_legs u (record u.legs { held = held })) cause) same ∙ no_records u cause

module _ (d : Dimensions) (tones : Tones) (r : Restart) (line : ℕ) (w : World) where
  abbrev Keeps : MessageOutcome → Type 0
  Keeps a = (a.making.world.legs.held ≡ w.legs.held) × (a.recorded ≡ [])

  keeps : Keeps (outcome_of_confirmation d r line w)
  keeps = each_below d (confirm_rule r) line w Keeps (refl, refl) (λ a place small so_far.
      let x : Slot = record { line = line; place = place } in
      let v = (making_after_all d a.making (confirm_slot r a.making.world.legs x)).world in
      let same = confirm_held d tones r a.making x in
      (same ∙ so_far.0, ap (λ told. told ++ records a.making.world v temporary_failure) so_far.1 ∙ records_of_none a.making.world v temporary_failure same)) 30 (omega arith)

  pub confirmed_held : (outcome_of_confirmation d r line w).making.world.legs.held ≡ w.legs.held
  confirmed_held = keeps.0

  pub confirmed_records : (outcome_of_confirmation d r line w).recorded ≡ []
  confirmed_records = keeps.1
