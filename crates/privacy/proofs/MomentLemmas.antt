-- A run with one event more, and its states since one of its events.
use Rattle.std.proofs.Common.{◌≡◌, List, [], ◌∷◌, ◌++◌, refl, ◌∙◌, ap, append_assoc}
use Rattle.exchange_events.specs.declared.trace.Event.{Event}
use Rattle.exchange_events.specs.Sizes.{Setting}
use Rattle.call_laws.specs.Fabrics.{world_of_run}
use Rattle.call_profile.specs.Step.{next, world_after_all}
use Rattle.call_profile.specs.World.{World, start}
use Rattle.privacy.specs.Throughout.{Throughout}

module _ (s : Setting) where
  pub world_append : (w : World) (es fs : List Event) → world_after_all s w (es ++ fs) ≡ world_after_all s (world_after_all s w es) fs
  world_append w [] fs = refl
  world_append w (e ∷ es) fs = world_append (next s w e) es fs

  pub throughout_more : (holds : World → Type 0) (w : World) (es : List Event) (e : Event) → Throughout s holds w es → holds (next s (world_after_all s w es) e) → Throughout s holds w (es ++ e ∷ [])
  throughout_more holds w [] e first last = (first, last)
  throughout_more holds w (f ∷ es) e first last = (first.0, throughout_more holds (next s w f) es e first.1 last)

  pub more : (before after es : List Event) (f e : Event) → es ≡ before ++ f ∷ after → es ++ e ∷ [] ≡ before ++ f ∷ (after ++ e ∷ [])
  more before after es f e whole = ap (λ (l : List Event). l ++ e ∷ []) whole ∙ append_assoc before (f ∷ after) (e ∷ [])

  -- the state after the events after a moment
  pub from_moment : (es before after : List Event) (f : Event) → es ≡ before ++ f ∷ after → world_of_run s es ≡ world_after_all s (next s (world_of_run s before) f) after
  from_moment es before after f whole = ap (world_of_run s) whole ∙ world_append (start s.dimensions) before (f ∷ after)
