-- Steps of a run, one after another, and the meters after them.
use Rattle.std.proofs.Common.{◌≡◌, ℕ, zero, suc, List, [], ◌∷◌, ◌++◌, map, take, drop, refl, sym, ap, ◌∙◌, subst, append_assoc, append-nil}
use Rattle.std.specs.Prelude.{replicate}
use Rattle.std.specs.List.{AllZip, concat}
use Rattle.exchange_events.specs.declared.record.CallRecord.{CallRecord}
use Rattle.meters.specs.Telling.{IsTold}
use Rattle.meters.specs.Changing.{Step, Event_done, Meters_changed, Watch, Metering, begun, noting, handed_in, after_step, step_text, after_steps, steps_text, records_of, HasNoted, AreMetered, AreChangedBy, AreEvents, HaveNoted, lines_of}
use Rattle.meters.proofs.Told.{told-same, told-then}

-- ---- a relation of two lists, place by place

module _ {A B : Type 0} (R : A → B → Type 0) where
  zip_map : {C : Type 0} (f : C → A) (xs : List C) (ys : List B) → AllZip (λ x y. R (f x) y) xs ys → AllZip R (map f xs) ys
  zip_map f [] [] zip = tt
  zip_map f [] (y ∷ ys) zip = absurd zip
  zip_map f (x ∷ xs) [] zip = absurd zip
  zip_map f (x ∷ xs) (y ∷ ys) zip = (zip.0, zip_map f xs ys zip.1)

  zip_drop : (xs : List A) (ys : List B) → AllZip R xs ys → AllZip R (drop 1 xs) (drop 1 ys)
  zip_drop [] [] zip = tt
  zip_drop [] (y ∷ ys) zip = absurd zip
  zip_drop (x ∷ xs) [] zip = absurd zip
  zip_drop (x ∷ xs) (y ∷ ys) zip = zip.1

  zip_append : (xs : List A) (ys : List B) (xs' : List A) (ys' : List B) → AllZip R xs ys → AllZip R xs' ys' → AllZip R (xs ++ xs') (ys ++ ys')
  zip_append [] [] xs' ys' zip more = more
  zip_append [] (y ∷ ys) xs' ys' zip more = absurd zip
  zip_append (x ∷ xs) [] xs' ys' zip more = absurd zip
  zip_append (x ∷ xs) (y ∷ ys) xs' ys' zip more = (zip.0, zip_append xs ys xs' ys' zip.1 more)

pub zip_other : {A B : Type 0} (R S : A → B → Type 0) → ((a : A) (b : B) → R a b → S a b) → (xs : List A) (ys : List B) → AllZip R xs ys → AllZip S xs ys
zip_other R S other [] [] zip = tt
zip_other R S other [] (y ∷ ys) zip = absurd zip
zip_other R S other (x ∷ xs) [] zip = absurd zip
zip_other R S other (x ∷ xs) (y ∷ ys) zip = (other x y zip.0, zip_other R S other xs ys zip.1)

-- one relation after another
pub zip_compose : {A B C : Type 0} (R : A → B → Type 0) (S : B → C → Type 0) (T : A → C → Type 0) → ((a : A) (b : B) (c : C) → R a b → S b c → T a c)
    → (xs : List A) (ys : List B) (zs : List C) → AllZip R xs ys → AllZip S ys zs → AllZip T xs zs
zip_compose R S T both [] [] [] first second = tt
zip_compose R S T both [] [] (c ∷ zs) first second = absurd second
zip_compose R S T both [] (b ∷ ys) zs first second = absurd first
zip_compose R S T both (a ∷ xs) [] zs first second = absurd first
zip_compose R S T both (a ∷ xs) (b ∷ ys) [] first second = absurd second
zip_compose R S T both (a ∷ xs) (b ∷ ys) (c ∷ zs) first second = (both a b c first.0 second.0, zip_compose R S T both xs ys zs first.1 second.1)

-- the lists may be read either way round
zip_unmap : {A B C : Type 0} (R : A → B → Type 0) (f : C → A) (xs : List C) (ys : List B) → AllZip R (map f xs) ys → AllZip (λ x y. R (f x) y) xs ys
zip_unmap R f [] [] zip = tt
zip_unmap R f [] (y ∷ ys) zip = absurd zip
zip_unmap R f (x ∷ xs) [] zip = absurd zip
zip_unmap R f (x ∷ xs) (y ∷ ys) zip = (zip.0, zip_unmap R f xs ys zip.1)

-- ---- steps and then more

module _ {M : Type 0} where
  pub after-append : (xs ys : List Step) (s : Metering M) → after_steps (xs ++ ys) s ≡ after_steps ys (after_steps xs s)
  after-append [] ys s = refl
  after-append (x ∷ xs) ys s = after-append xs ys (after_step x s)

  pub text-append : (text : M → List CallRecord → List ℕ) (xs ys : List Step) (s : Metering M) → steps_text text (xs ++ ys) s ≡ steps_text text xs s ++ steps_text text ys (after_steps xs s)
  text-append text [] ys s = refl
  text-append text (x ∷ xs) ys s =
      ap (λ (l : List ℕ). step_text text x s ++ l) (text-append text xs ys (after_step x s))
      ∙ sym (append_assoc (step_text text x s) (steps_text text xs (after_step x s)) (steps_text text ys (after_steps xs (after_step x s))))

  -- where no meter is changed, what is written is what is written of the events
  pub law_of_lines : (text : M → List CallRecord → List ℕ) (steps : List Step) (s : Metering M) → AreEvents steps → steps_text text steps s ≡ lines_of steps
  law_of_lines text [] s are = refl
  law_of_lines text (Event_done line records ∷ steps) s are = ap (λ (l : List ℕ). line ++ l) (law_of_lines text steps (after_step (Event_done line records) s) are)
  law_of_lines text (Meters_changed ∷ steps) s are = absurd are

pub records-append : (xs ys : List Step) → records_of (xs ++ ys) ≡ records_of xs ++ records_of ys
records-append [] ys = refl
records-append (Event_done line records ∷ xs) ys = ap (λ (l : List CallRecord). records ++ l) (records-append xs ys) ∙ sym (append_assoc records (records_of xs) (records_of ys))
records-append (Meters_changed ∷ xs) ys = records-append xs ys

pub records-changes : (n : ℕ) → records_of (replicate n Meters_changed) ≡ []
records-changes zero = refl
records-changes (suc n) = records-changes n

-- ---- the meters of a run

module _ {M : Type 0} (stands : M → List CallRecord → Type 0) (text : M → List CallRecord → List ℕ) where
  begun_same : (ms : List M) → AllZip (HasNoted stands text) (map begun ms) ms
  begun_same [] = tt
  begun_same (m ∷ ms) = (told-same (stands m) (text m), begun_same ms)

  -- before the first step
  pub metered-first : (meters spare : List M) → AreMetered stands text (handed_in meters spare) meters spare
  metered-first meters spare = record { on = begun_same meters; spares = refl }

  -- a change: the first meter out, and the first spare one in
  pub metered-change : (s : Metering M) (meters spare : List M) → AreMetered stands text s meters spare
      → AreMetered stands text (after_step Meters_changed s) (drop 1 meters ++ take 1 spare) (drop 1 spare)
  metered-change s meters spare a = record {
    on = zip_append (HasNoted stands text) (drop 1 s.on) (drop 1 meters) (map begun (take 1 s.spare)) (take 1 spare) (zip_drop (HasNoted stands text) s.on meters a.on)
        (subst (λ (ss : List M). AllZip (HasNoted stands text) (map begun (take 1 s.spare)) (take 1 ss)) (sym a.spares) (begun_same (take 1 s.spare)));
    spares = ap (drop 1) a.spares;
  }

  says_first : (on : List (Watch M)) (meters : List M) → AllZip (HasNoted stands text) on meters
      → concat (map (λ m. text m []) (take 1 meters)) ≡ concat (map (λ (w : Watch M). text w.meter w.time) (take 1 on))
  says_first [] [] zip = refl
  says_first [] (m ∷ ms) zip = absurd zip
  says_first (w ∷ on) [] zip = absurd zip
  says_first (w ∷ on) (m ∷ ms) zip = ap (λ (l : List ℕ). concat (l ∷ [])) (zip.0.says_of_all [] ∙ ap (text w.meter) (append-nil w.time))

  -- what is written at it
  pub says-change : (s : Metering M) (meters spare : List M) → AreMetered stands text s meters spare → concat (map (λ m. text m []) (take 1 meters)) ≡ step_text text Meters_changed s
  says-change s meters spare a = says_first s.on meters a.on

  events_on : (steps : List Step) → AreEvents steps → (s : Metering M) (meters : List M)
      → AllZip (λ w m. IsTold (w.time ++ records_of steps) (stands w.meter) (stands m) (text w.meter) (text m)) s.on meters → AllZip (HasNoted stands text) (after_steps steps s).on meters
  events_on [] are s meters zip =
      zip_other _ (HasNoted stands text) (λ w m told. subst (λ (rs : List CallRecord). IsTold rs (stands w.meter) (stands m) (text w.meter) (text m)) (append-nil w.time) told) s.on meters zip
  events_on (Event_done line records ∷ steps) are s meters zip =
      events_on steps are (after_step (Event_done line records) s) meters
      (zip_map (λ w m. IsTold (w.time ++ records_of steps) (stands w.meter) (stands m) (text w.meter) (text m)) (noting records) s.on meters
      (zip_other _ _ (λ w m told. subst (λ (rs : List CallRecord). IsTold rs (stands w.meter) (stands m) (text w.meter) (text m)) (sym (append_assoc w.time records (records_of steps))) told) s.on meters zip))
  events_on (Meters_changed ∷ steps) are s meters zip = absurd are

  events_spare : (steps : List Step) → AreEvents steps → (s : Metering M) → (after_steps steps s).spare ≡ s.spare
  events_spare [] are s = refl
  events_spare (Event_done line records ∷ steps) are s = events_spare steps are (after_step (Event_done line records) s)
  events_spare (Meters_changed ∷ steps) are s = absurd are

  -- events, whose records all meters that are on note
  pub metered-events : (steps : List Step) → AreEvents steps → (s : Metering M) (meters then spare : List M) → AreMetered stands text s meters spare
      → HaveNoted stands text (records_of steps) meters then → AreMetered stands text (after_steps steps s) then spare
  metered-events steps are s meters then spare a told = record {
    on = events_on steps are s then (zip_compose (HasNoted stands text) _ _ (λ w m n one other. told-then one other) s.on meters then a.on told);
    spares = a.spares ∙ sym (events_spare steps are s);
  }

  on_events : (steps : List Step) → AreEvents steps → (s : Metering M) (meters : List M) → AllZip (HasNoted stands text) (after_steps steps s).on meters
      → AllZip (λ w m. IsTold (w.time ++ records_of steps) (stands w.meter) (stands m) (text w.meter) (text m)) s.on meters
  on_events [] are s meters zip =
      zip_other (HasNoted stands text) _ (λ w m told. subst (λ (rs : List CallRecord). IsTold rs (stands w.meter) (stands m) (text w.meter) (text m)) (sym (append-nil w.time)) told) s.on meters zip
  on_events (Event_done line records ∷ steps) are s meters zip =
      zip_other _ _ (λ w m told. subst (λ (rs : List CallRecord). IsTold rs (stands w.meter) (stands m) (text w.meter) (text m)) (append_assoc w.time records (records_of steps)) told) s.on meters
      (zip_unmap (λ w m. IsTold (w.time ++ records_of steps) (stands w.meter) (stands m) (text w.meter) (text m)) (noting records) s.on meters
      (on_events steps are (after_step (Event_done line records) s) meters zip))
  on_events (Meters_changed ∷ steps) are s meters zip = absurd are

  -- where no meter is changed, each notes all records, and the spare ones are as they were
  pub law_of_times : (steps : List Step) (meters spare then now : List M) → AreEvents steps
      → AreMetered stands text (after_steps steps (handed_in meters spare)) then now → HaveNoted stands text (records_of steps) meters then × (now ≡ spare)
  law_of_times steps meters spare then now are a = (
    zip_unmap (λ (w : Watch M) m. IsTold (w.time ++ records_of steps) (stands w.meter) (stands m) (text w.meter) (text m)) begun meters then (on_events steps are (handed_in meters spare) then a.on),
    a.spares ∙ events_spare steps are (handed_in meters spare),
  )

  pub law_of_noting : (steps : List Step) (meters spare then : List M) → AreEvents steps → HaveNoted stands text (records_of steps) meters then
      → AreMetered stands text (after_steps steps (handed_in meters spare)) then spare
  law_of_noting steps meters spare then are told = metered-events steps are (handed_in meters spare) meters then spare (metered-first meters spare) told

  -- ---- changes, one after another

  after_last : (n : ℕ) (s : Metering M) → after_steps (replicate (suc n) Meters_changed) s ≡ after_step Meters_changed (after_steps (replicate n Meters_changed) s)
  after_last zero s = refl
  after_last (suc n) s = after_last n (after_step Meters_changed s)

  text_last : (n : ℕ) (s : Metering M)
      → steps_text text (replicate (suc n) Meters_changed) s ≡ steps_text text (replicate n Meters_changed) s ++ step_text text Meters_changed (after_steps (replicate n Meters_changed) s)
  text_last zero s = append-nil (step_text text Meters_changed s)
  text_last (suc n) s =
      ap (λ (l : List ℕ). step_text text Meters_changed s ++ l) (text_last n (after_step Meters_changed s))
      ∙ sym (append_assoc (step_text text Meters_changed s) (steps_text text (replicate n Meters_changed) (after_step Meters_changed s)) (step_text text Meters_changed (after_steps (replicate n Meters_changed) (after_step Meters_changed s))))

  pub changed-none : (meters spare : List M) (said : List ℕ) → AreChangedBy stands text 0 meters spare said meters spare said
  changed-none meters spare said = record { left = λ s a. a; said_is = λ s a. sym (append-nil said) }

  -- one change more
  pub changed-more : (n : ℕ) (meters spare : List M) (said : List ℕ) (between left : List M) (told : List ℕ) (then now : List M) (all : List ℕ) → AreChangedBy stands text n meters spare said between left told
      → then ≡ drop 1 between ++ take 1 left → now ≡ drop 1 left → all ≡ told ++ concat (map (λ m. text m []) (take 1 between)) → AreChangedBy stands text (suc n) meters spare said then now all
  changed-more n meters spare said between left told then now all c is spares says = record {
    left = λ s a.
        subst (λ (t : Metering M). AreMetered stands text t then now) (sym (after_last n s))
        (subst (λ (ms : List M). AreMetered stands text (after_step Meters_changed (after_steps (replicate n Meters_changed) s)) ms now) (sym is)
        (subst (λ (ss : List M). AreMetered stands text (after_step Meters_changed (after_steps (replicate n Meters_changed) s)) (drop 1 between ++ take 1 left) ss) (sym spares)
        (metered-change (after_steps (replicate n Meters_changed) s) between left (c.left s a))));
    said_is = λ s a.
        says
        ∙ ((λ i. c.said_is s a i ++ says-change (after_steps (replicate n Meters_changed) s) between left (c.left s a) i)
        ∙ (append_assoc said (steps_text text (replicate n Meters_changed) s) (step_text text Meters_changed (after_steps (replicate n Meters_changed) s))
        ∙ ap (λ (l : List ℕ). said ++ l) (sym (text_last n s))));
  }
