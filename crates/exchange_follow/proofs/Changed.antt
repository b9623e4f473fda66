-- One change of meters.
use Rattle.std.proofs.Common.{◌≡◌, ℕ, List, [], ◌++◌, map, take, drop, sym, ap, ◌∙◌, append-nil}
use Rattle.std.specs.List.{concat}
use Rattle.exchange_events.specs.declared.record.CallRecord.{CallRecord}
use Rattle.meters.specs.Changing.{AreChangedBy, Meters_changed, step_text}
use Rattle.meters.proofs.Changes.{metered-change, says-change}

module _ {M : Type 0} (stands : M → List CallRecord → Type 0) (text : M → List CallRecord → List ℕ) where
  pub changed_one : (meters spare now now_spare : List M) (out all : List ℕ) → now ≡ drop 1 meters ++ take 1 spare → now_spare ≡ drop 1 spare
      → all ≡ out ++ concat (map (λ m. text m []) (take 1 meters)) → AreChangedBy stands text 1 meters spare out now now_spare all
  changed_one meters spare now now_spare out all is spares says = record {
    left = λ s a. rw (is, spares) (metered-change stands text s meters spare a);
    said_is = λ s a. says ∙ ap (λ (t : List ℕ). out ++ t) (says-change stands text s meters spare a ∙ sym (append-nil (step_text text Meters_changed s)));
  }
