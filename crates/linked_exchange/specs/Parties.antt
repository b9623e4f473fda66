-- The meters after the steps of a story, and the engine that a call returns. Source: this project.
use Rattle.std.specs.Prelude.{◌≡◌, ◌++◌, ℕ, List, [], Option, Some, None, map}
use Rattle.std.specs.List.{AllZip, concat}
use Rattle.exchange_events.specs.declared.record.CallRecord.{CallRecord}
use Rattle.exchange_events.specs.Sizes.{Dimensions}
use Rattle.call_profile.specs.World.{World}
use Rattle.lone_exchange.specs.At.{Carrying}
use Rattle.meters.specs.Changing.{Metering, Step, after_steps, handed_in, steps_text, AreMetered}
use Rattle.meters.specs.Telling.{IsTold}

-- a meter recorded all of some calls, and then a prefix of further ones
abbrev pub IsToldBeyond : List CallRecord → List CallRecord → (stood stands : List CallRecord → Type 0) → (said says : List CallRecord → List ℕ) → Type 0
IsToldBeyond calls more stood stands said says = (front rest : List CallRecord) × (more ≡ front ++ rest) × IsTold (calls ++ front) stood stands said says

-- each active meter recorded all of some calls and then a prefix of further ones, and these are the spare meters
pub record AreMeteredBeyond {M : Type 0} (more : List CallRecord) (stands : M → List CallRecord → Type 0) (text : M → List CallRecord → List ℕ) (s : Metering M) (meters spare : List M) : Type 0 where
  pub on : AllZip (λ w m. IsToldBeyond w.time more (stands w.meter) (stands m) (text w.meter) (text m)) s.on meters
  pub spares : spare ≡ s.spare

-- the meters of a run after the steps of its story: the meters with their records; the same with a prefix of further
-- records; the text that is written; and the summaries at the end
pub record MeterStory : Type 1 where
  pub left : List Step → Type 0
  pub left_beyond : List Step → List CallRecord → Type 0
  pub written : List Step → List ℕ
  pub summary : List ℕ

-- the active and spare meters are the result of these steps
abbrev pub AreLeft : {M : Type 0} → (M → List CallRecord → Type 0) → (M → List CallRecord → List ℕ) → (old spare new new_spare : List M) → List Step → Type 0
AreLeft stands text old spare new new_spare steps = AreMetered stands text (after_steps steps (handed_in old spare)) new new_spare

-- the story of the active and spare meters before and after a run, by the definitions of their type
abbrev pub meter_story : {M : Type 0} → (M → List CallRecord → Type 0) → (M → List CallRecord → List ℕ) → (old spare new new_spare : List M) → MeterStory
meter_story stands text old spare new new_spare = record {
  left = AreLeft stands text old spare new new_spare;
  left_beyond = λ steps more. AreMeteredBeyond more stands text (after_steps steps (handed_in old spare)) new new_spare;
  written = λ steps. steps_text text steps (handed_in old spare);
  summary = concat (map (λ m. text m []) new);
}

-- the engine that a call returns has these dimensions, and carries the frames of the exchange state
abbrev pub HandsOut : {E : Type 0} → (E → Dimensions) → Carrying E → Option E → Dimensions → World → Type 0
HandsOut sizes carries None d w = ⊥
HandsOut sizes carries (Some e) d w = (sizes e ≡ d) × carries e w.inputs w.held w.seated
