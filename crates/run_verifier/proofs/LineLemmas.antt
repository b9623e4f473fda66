-- The exchange after an event more, and the line of that event.
use Rattle.std.proofs.Common.{◌≡◌, ℕ, ◌<◌, List, [], ◌∷◌, ◌++◌, length, Result, Ok, Err, OnOk, sym, ap, subst, ◌∙◌, arith}
use Rattle.circuit_model.specs.Dimensions.{Dimensions}
use Rattle.frame_engine.specs.Carries.{EngineCarries, Stages}
use Rattle.exchange_events.specs.declared.trace.Event.{Event}
use Rattle.exchange_events.specs.declared.trace.Trace.{Trace}
use Rattle.exchange_events.specs.Sound.{Fits, IsSound, setting_of}
use Rattle.exchange_events.proofs.EventNumbers.{of_event_at}
use Rattle.call_profile.specs.Step.{events_of, next, world_after_all}
use Rattle.call_profile.specs.World.{World, start}
use Rattle.call_profile.proofs.RunLemmas.{events_of-snoc, length-events_of-le, world-snoc, world_next}
use Rattle.exchange_core.specs.Working.{IsNumbered, world_after}
use Rattle.lone_exchange.specs.declared.exchange.LoneExchange.{LoneExchange}
use Rattle.lone_exchange.specs.At.{IsAt}
use Rattle.run_verifier.specs.Replaying.{HasDone, engine_sizes}

module _ {P : Type 0} (slots : ℕ) (trace : Trace) (order : List ℕ) (x : LoneExchange P Stages) (done : HasDone slots trace order x) where
  -- fewer frames have been than there are numbers of frames
  pub frames_few : IsSound trace → length order < length trace.events → x.control.map.next < 4294967295
  frames_few sound room =
      let s = setting_of slots trace in
      let grows = world_next s (start s.dimensions) (events_of trace.events order) in
      let few = length-events_of-le trace.events order in
      let same = done.work.holds.circuits.holds.next in
      let most = sound.count in
      omega (arith, grows, few, same, room, most)

  -- an event of the trace fits the exchange
  pub event_fits : (n : ℕ) (e : Event) → IsSound trace → IsNumbered trace n e → Fits x.control.map.external e
  event_fits n e sound number =
      subst (λ (d : Dimensions). Fits d.external e) (sym done.work.holds.sizes) (of_event_at (Fits trace.external) trace.events n e sound.events number)

world_longer : (slots : ℕ) (trace : Trace) (order : List ℕ) (n : ℕ) (e : Event) → IsNumbered trace n e
    → world_after slots trace (order ++ n ∷ []) ≡ next (setting_of slots trace) (world_after slots trace order) e
world_longer slots trace order n e number =
    let s = setting_of slots trace in
    ap (world_after_all s (start s.dimensions)) (events_of-snoc trace.events order n e number) ∙ world-snoc s (start s.dimensions) (events_of trace.events order) e

pub done_after : {P : Type 0} (slots : ℕ) (trace : Trace) (order : List ℕ) (n : ℕ) (e : Event) (y : LoneExchange P Stages) → IsNumbered trace n e
    → IsAt EngineCarries (λ (g : Stages). g.next) engine_sizes y (setting_of slots trace) (next (setting_of slots trace) (world_after slots trace order) e)
    → HasDone slots trace (order ++ n ∷ []) y
done_after slots trace order n e y number at =
    subst (λ (w : World). IsAt EngineCarries (λ (g : Stages). g.next) engine_sizes y (setting_of slots trace) w) (sym (world_longer slots trace order n e number)) at

-- what was appended to nothing, where memory lasts
pub appended : {E : Type 0} (r : Result (Unit {0}) E) (after cleared line due : List ℕ) → cleared ≡ [] → line ≡ due → OnOk r (after ≡ cleared ++ line) → OnOk r (after ≡ due)
appended (Ok done) after cleared line due empty is held = held ∙ ap (λ (l : List ℕ). l ++ line) empty ∙ is
appended (Err fault) after cleared line due empty is held = held
