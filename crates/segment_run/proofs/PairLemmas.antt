-- What the workers of a segment kept, beside each of them.
use Rattle.std.proofs.Common.{◌≡◌, ℕ, zero, suc, Bool, List, [], ◌∷◌, ◌++◌, map, length, reverse, refl, sym, ap, subst, arith}
use Rattle.std.specs.List.{All, AllZip}
use Rattle.std.proofs.lemmas.List.{reverse-append}
use Rattle.seat_history.specs.declared.seat_knowledge.SeatKnowledge.{SeatKnowledge}
use Rattle.exchange_core.specs.Boards.{Board}
use Rattle.call_processor.specs.declared.worked.Placed.{Placed}
use Rattle.call_processor.specs.declared.worked.WorkerBuffers.{WorkerBuffers}
use Rattle.call_processor.specs.Keeping.{KeepsWork}
use Rattle.call_processor.specs.Work.{Works}
use Rattle.segment_run.specs.Merging.{Keep}

keep_last : {K : Type 0} (holds : K → List Placed → Type 0) (used : List (WorkerBuffers K)) (parts : List (List Placed)) (w : WorkerBuffers K) (ps : List Placed) → Keep holds used parts → holds w.sink ps → Keep holds (used ++ w ∷ []) (parts ++ ps ∷ [])
keep_last holds [] [] w ps h r = (r, tt)
keep_last holds [] (qs ∷ parts) w ps h r = absurd h
keep_last holds (u ∷ used) [] w ps h r = absurd h
keep_last holds (u ∷ used) (qs ∷ parts) w ps h r = (h.0, keep_last holds used parts w ps h.1 r)

module _ {J F K : Type 0} (holds : K → List Placed → Type 0) (board : Board) (octets : J → SeatKnowledge → Placed → Type 0) (part : J → List ℕ) (kj : J → SeatKnowledge) (kf : F → SeatKnowledge) (buffers : F → WorkerBuffers K) (whole : F → Bool) where
  abbrev pub Kept_part : J → F → Type 0
  Kept_part j f = KeepsWork holds board (octets j) (part j) (kj j) (buffers f).sink (whole f) (kf f)

  abbrev pub pairs : (js : List J) (fs : List F) → AllZip Kept_part js fs → List (F × List Placed)
  pairs [] [] z = []
  pairs [] (f ∷ fs) z = absurd z
  pairs (j ∷ js) [] z = absurd z
  pairs (j ∷ js) (f ∷ fs) z = (f, z.0.answers) ∷ pairs js fs z.1

  pub pairs_work : (js : List J) (fs : List F) (z : AllZip Kept_part js fs) → AllZip (λ j (u : F × List Placed). Works board (part j) (kj j) u.1 (whole u.0) (kf u.0)) js (pairs js fs z)
  pairs_work [] [] z = tt
  pairs_work [] (f ∷ fs) z = absurd z
  pairs_work (j ∷ js) [] z = absurd z
  pairs_work (j ∷ js) (f ∷ fs) z = (z.0.works, pairs_work js fs z.1)

  pub pairs_said : (js : List J) (fs : List F) (z : AllZip Kept_part js fs) → AllZip (λ j (u : F × List Placed). All (octets j (kf u.0)) u.1) js (pairs js fs z)
  pairs_said [] [] z = tt
  pairs_said [] (f ∷ fs) z = absurd z
  pairs_said (j ∷ js) [] z = absurd z
  pairs_said (j ∷ js) (f ∷ fs) z = (z.0.said, pairs_said js fs z.1)

  pub pairs_zip : (R : J → F → Type 0) (js : List J) (fs : List F) (z : AllZip Kept_part js fs) → AllZip R js fs → AllZip (λ j (u : F × List Placed). R j u.0) js (pairs js fs z)
  pairs_zip R [] [] z r = tt
  pairs_zip R [] (f ∷ fs) z r = absurd z
  pairs_zip R (j ∷ js) [] z r = absurd z
  pairs_zip R (j ∷ js) (f ∷ fs) z r = (r.0, pairs_zip R js fs z.1 r.1)

  pub pairs_map : {X : Type 0} (g : F → X) (js : List J) (fs : List F) (z : AllZip Kept_part js fs) → map (λ (u : F × List Placed). g u.0) (pairs js fs z) ≡ map g fs
  pairs_map g [] [] z = refl
  pairs_map g [] (f ∷ fs) z = absurd z
  pairs_map g (j ∷ js) [] z = absurd z
  pairs_map g (j ∷ js) (f ∷ fs) z = ap (λ l. g f ∷ l) (pairs_map g js fs z.1)

  pub length-pairs : (js : List J) (fs : List F) (z : AllZip Kept_part js fs) → length (pairs js fs z) ≡ length fs
  length-pairs [] [] z = refl
  length-pairs [] (f ∷ fs) z = absurd z
  length-pairs (j ∷ js) [] z = absurd z
  length-pairs (j ∷ js) (f ∷ fs) z = ap (λ n. suc n) (length-pairs js fs z.1)

  pub pairs_all : (P : F → Type 0) (js : List J) (fs : List F) (z : AllZip Kept_part js fs) → All P fs → All (λ (u : F × List Placed). P u.0) (pairs js fs z)
  pairs_all P [] [] z a = λ k d within. absurd (omega (arith, within))
  pairs_all P [] (f ∷ fs) z a = absurd z
  pairs_all P (j ∷ js) [] z a = absurd z
  pairs_all P (j ∷ js) (f ∷ fs) z a = both (pairs js fs z.1) (a 0 f (omega arith)) (pairs_all P js fs z.1 (λ k d within. a (suc k) d (omega (arith, within))))
    where
      both : (us : List (F × List Placed)) → P f → All (λ (u : F × List Placed). P u.0) us → All (λ (u : F × List Placed). P u.0) ((f, z.0.answers) ∷ us)
      both us p rest zero d within = p
      both us p rest (suc k) d within = rest k d (omega (arith, within))

  reverse_more : {X : Type 0} (x : X) (xs : List X) → reverse (x ∷ xs) ≡ reverse xs ++ x ∷ []
  reverse_more x xs = reverse-append (x ∷ []) xs

  -- the buffers lie in the other order
  pub pairs_keep : (js : List J) (fs : List F) (z : AllZip Kept_part js fs) → Keep holds (reverse (map buffers fs)) (reverse (map (λ (u : F × List Placed). u.1) (pairs js fs z)))
  pairs_keep [] [] z = tt
  pairs_keep [] (f ∷ fs) z = absurd z
  pairs_keep (j ∷ js) [] z = absurd z
  pairs_keep (j ∷ js) (f ∷ fs) z =
      subst (λ (l : List (WorkerBuffers K)). Keep holds l (reverse (map (λ (u : F × List Placed). u.1) (pairs (j ∷ js) (f ∷ fs) z)))) (sym (reverse_more (buffers f) (map buffers fs)))
      (subst (λ (l : List (List Placed)). Keep holds (reverse (map buffers fs) ++ buffers f ∷ []) l) (sym (reverse_more z.0.answers (map (λ (u : F × List Placed). u.1) (pairs js fs z.1))))
      (keep_last holds (reverse (map buffers fs)) (reverse (map (λ (u : F × List Placed). u.1) (pairs js fs z.1))) (buffers f) z.0.answers (pairs_keep js fs z.1) z.0.held))
