-- Meters that note calls and are changed, and then more; the calls up to an index.
use Rattle.std.proofs.Common.{◌≡◌, ℕ, zero, suc, ◌+◌, ◌<◌, List, [], ◌∷◌, ◌++◌, length, take, drop, get_or, refl, sym, ap, ◌∙◌, arith, add-one, append-nil, take-append-drop}
use Rattle.exchange_events.specs.declared.record.CallRecord.{CallRecord}
use Rattle.meters.specs.Changing.{Metering, AreMetered, handed_in}
use Rattle.meters.proofs.Changes.{metered-first, zip_compose, zip_other}
use Rattle.meters.proofs.Zips.{zip-same}
use Rattle.meters.proofs.Told.{told-equal, told-same, told-then, told_front-none}
use Rattle.linked_exchange.specs.Parties.{AreLeft, AreMeteredBeyond}
use Rattle.linked_exchange.specs.Telling.{AreToldFront}

-- what was noted, and one more
pub take_read : {X : Type 0} (xs : List X) (i : ℕ) (d : X) → i < length xs → take i xs ++ get_or xs i d ∷ [] ≡ take (i + 1) xs
take_read xs i d within = go xs i within ∙ ap (λ n. take n xs) (sym (add-one i))
  where
    go : (xs : List _) (i : ℕ) → i < length xs → take i xs ++ get_or xs i d ∷ [] ≡ take (suc i) xs
    go [] i within = absurd (omega arith)
    go (y ∷ ys) zero within = refl
    go (y ∷ ys) (suc i) within = ap (λ zs. y ∷ zs) (go ys i (omega arith))

pub read_more : {X : Type 0} (xs : List X) (i : ℕ) (d : X) → i < length xs → (take i xs ++ get_or xs i d ∷ []) ++ drop (i + 1) xs ≡ xs
read_more xs i d within = ap (λ ys. ys ++ drop (i + 1) xs) (take_read xs i d within) ∙ take-append-drop (i + 1) xs

module _ {M : Type 0} (stands : M → List CallRecord → Type 0) (text : M → List CallRecord → List ℕ) where
  pub none_front : (ms : List M) (calls : List CallRecord) → AreToldFront stands text ms ms calls
  none_front ms calls = zip-same _ (λ m. told_front-none (told-same (stands m) (text m))) ms

  -- meters that nothing happens to
  pub none_left : (meters spare : List M) → AreLeft stands text meters spare meters spare []
  none_left meters spare = metered-first stands text meters spare

  -- none of more records
  pub beyond_none : (s : Metering M) (meters spare : List M) → AreMetered stands text s meters spare → AreMeteredBeyond [] stands text s meters spare
  beyond_none s meters spare a = record {
    on = zip_other _ _ (λ w m told. ([], [], refl, told-equal (sym (append-nil w.time)) told)) s.on meters a.on;
    spares = a.spares;
  }

  pub none_beyond : (meters spare : List M) → AreMeteredBeyond [] stands text (handed_in meters spare) meters spare
  none_beyond meters spare = beyond_none (handed_in meters spare) meters spare (none_left meters spare)

  -- the first few of more records
  pub both_beyond : (s : Metering M) (meters now spare : List M) (more : List CallRecord) → AreMetered stands text s meters spare → AreToldFront stands text meters now more
      → AreMeteredBeyond more stands text s now spare
  both_beyond s meters now spare more a front = record {
    on = zip_compose _ _ _ (λ w m n one other. (other.0, other.1, other.2, told-then one other.3)) s.on meters now a.on front;
    spares = a.spares;
  }
