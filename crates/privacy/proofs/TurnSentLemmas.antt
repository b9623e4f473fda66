-- The lines to which a frame sends messages.
use Rattle.std.proofs.Common.{◌≡◌, ℕ, zero, suc, ◌<◌, ◌≤◌, Option, Some, refl, sym, ap, subst, arith}
use Rattle.std.specs.Prelude.{All, is_some}
use Rattle.std.proofs.lemmas.List.Elements.{All-nil}
use Rattle.circuit_model.specs.declared.channel.Slot.{Slot}
use Rattle.circuit_model.specs.Extent.{IsExternal}
use Rattle.circuit_model.specs.FrameInput.{Input}
use Rattle.call_timers.specs.declared.expiry.Expiry.{Expiry}
use Rattle.call_states.specs.declared.leg.Leg.{Leg}
use Rattle.exchange_events.specs.declared.signal.Signal.{Signal}
use Rattle.exchange_events.specs.Sizes.{Setting}
use Rattle.call_profile.specs.Expiring.{due_of, expire_slot, slot_looked_at, outcome_of_lines, outcome_of_frame}
use Rattle.call_laws.specs.ExpiryBounds.{RunsOut}
use Rattle.call_profile.specs.LegStanding.{CallsStand}
use Rattle.call_profile.specs.Legs.{leg_at}
use Rattle.call_profile.specs.Restarts.{MessageOutcome}
use Rattle.call_profile.specs.World.{World, pass}
use Rattle.call_profile.proofs.ClearingLemmas.{Kept}
use Rattle.call_profile.proofs.CommandLemmas.{pass_kept}
use Rattle.call_profile.proofs.ExpiringLemmas as expiring
use Rattle.call_laws.proofs.ExpiryChangeLemmas.{unchanged_due}
use Rattle.privacy.specs.Lines.{IsTimed, Own_timer, Other_timer}
use Rattle.privacy.proofs.SentLemmas.{SendAll, AreTo, all_sent, expiry_sends}

module _ (s : Setting) (w : World) (input : Input) (stands : CallsStand s w) where
  abbrev frame : ℕ
  frame = w.holding.next

  abbrev To : ℕ → Type 0
  To line = IsTimed s w line

  kept_first : Kept s.dimensions s.tones (pass w input)
  kept_first = pass_kept s w stands.circuits stands.legs input

  -- the lines below n have had their turn
  module _ (n : ℕ) (few : n < s.dimensions.external) where
    abbrev so_far : MessageOutcome
    so_far = outcome_of_lines s frame (pass w input) n

    abbrev here : Slot
    here = slot_looked_at frame n

    in_here : IsExternal s.dimensions.external here
    in_here = expiring.place_within s.dimensions.external frame n few

    kept_so_far : Kept s.dimensions s.tones so_far.making.world
    kept_so_far = expiring.lines_kept s frame (pass w input) kept_first n (omega (arith, few))

    -- a leg that is due was there before the frame
    runs : (leg : Leg) (e : Expiry) → leg_at so_far.making.world.legs here ≡ Some leg → due_of s.timers frame leg ≡ Some e → RunsOut s.timers frame w.legs here leg
    runs leg e at is = record {
      looked = refl;
      at = unchanged_due s frame (pass w input) kept_first (omega arith) n (omega (arith, few)) here in_here leg e at is;
      due = ap (λ (o : Option Expiry). is_some o) is;
    }

    slot_sends : SendAll s.dimensions To (expire_slot s frame so_far.making.world.legs here)
    slot_sends = expiring.at_slot s frame so_far.making.world.legs here (SendAll s.dimensions To) tt (λ leg e at is.
        expiry_sends s.dimensions s.tones so_far.making.world kept_so_far.1 To (record { slot = here; leg = leg }) in_here at
        (Own_timer here leg in_here (runs leg e at is) refl) (λ y names. Other_timer here y leg in_here (runs leg e at is) names refl) e)

  turn_sends : (lines : ℕ) → lines ≤ s.dimensions.external → AreTo s.dimensions To (outcome_of_lines s frame (pass w input) lines).making.sends
  turn_sends zero few = subst (λ (a : MessageOutcome). AreTo s.dimensions To a.making.sends) (sym (expiring.lines_none s frame (pass w input))) (All-nil (λ (m : Signal). To m.line))
  turn_sends (suc line) few =
      let a = outcome_of_lines s frame (pass w input) line in
      let x = slot_looked_at frame line in
      subst (λ (b : MessageOutcome). AreTo s.dimensions To b.making.sends) (sym (expiring.lines_more s frame (pass w input) line))
      (all_sent s.dimensions To a.making (expire_slot s frame a.making.world.legs x) (slot_sends line (omega (arith, few))) (turn_sends line (omega (arith, few))))

  pub sent_in_frame : All (λ (m : Signal). To m.line) (outcome_of_frame s w input).making.sends
  sent_in_frame = turn_sends s.dimensions.external (omega arith)
