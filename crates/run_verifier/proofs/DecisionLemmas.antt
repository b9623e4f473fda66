-- What can be decided of the next line of a report, and that one verdict is always right.
use Rattle.std.proofs.Common.{◌≡◌, ℕ, zero, suc, ◌+◌, ◌<◌, ◌≤◌, ◌⊎◌, true, false, eqb, List, [], ◌∷◌, ◌++◌, length, drop, Contains, Option, Some, None, refl, sym, ap, subst, ◌∙◌, arith, inl, inr}
use Rattle.std.specs.List.{list_any}
use Rattle.std.proofs.lemmas.Bool.{cases_lt, cases_eq, cases_Bool, eqb-true}
use Rattle.std.proofs.lemmas.Cmp.{nat_eq_equiv}
use Rattle.std.proofs.lemmas.Map.Views.{Contains-from_any, list_any-from_Contains}
use Rattle.exchange_events.specs.declared.trace.Event.{Event}
use Rattle.exchange_events.specs.declared.trace.Trace.{Trace}
use Rattle.exchange_events.specs.Orders.{Worker, Processor, Frame_worker, IsEvent, Precedes, SameWorker, event_at, segment_of, worker_of}
use Rattle.exchange_events.specs.Sound.{IsSound}
use Rattle.exchange_events.proofs.EventNumbers.{event_there}
use Rattle.report_reader.specs.Reading.{parse_number}
use Rattle.run_verifier.specs.Replaying.{line_due}
use Rattle.run_verifier.specs.Verdicts.{IsInvalidAt, IsValid, MayFollow}
use Rattle.run_verifier.specs.Verifying.{GoesOn, IsStuck}
use Rattle.run_verifier.proofs.EndLemmas.{HasRead, invalid_here, read_more, read_none, IsInvalidAt_too_long, valid_here}
use Rattle.run_verifier.proofs.NextLemmas.{no_line, no_number, no_turn}

-- ---- what holds or doesn't

abbrev Decided : Type 0 → Type 0
Decided A = A ⊎ (A → ⊥)

both : {A B : Type 0} → Decided A → Decided B → Decided (A × B)
both (inl a) (inl b) = inl (a, b)
both (inl a) (inr never) = inr (λ p. never p.1)
both (inr never) b = inr (λ p. never p.0)

either : {A B : Type 0} → Decided A → Decided B → Decided (A ⊎ B)
either (inl a) b = inl (inl a)
either (inr never) (inl b) = inl (inr b)
either (inr never) (inr nor) = inr (λ p. elim p [ inl a ↦ never a | inr b ↦ nor b ])

implies : {A B : Type 0} → Decided A → Decided B → Decided (A → B)
implies (inr never) b = inl (λ a. absurd (never a))
implies (inl a) (inl b) = inl (λ other. b)
implies (inl a) (inr never) = inr (λ f. never (f a))

opposite : {A : Type 0} → Decided A → Decided (A → ⊥)
opposite (inl a) = inr (λ never. never a)
opposite (inr never) = inl never

less : (m n : ℕ) → Decided (m < n)
less m n = elim (cases_lt m n) [
  | inl below ↦ inl below
  | inr above ↦ inr (λ below. absurd (omega (arith, below, above)))
]

equal : (m n : ℕ) → Decided (m ≡ n)
equal m n = elim (cases_eq m n) [
  | inl same ↦ inl same
  | inr other ↦ inr other
]

each_below : (P : ℕ → Type 0) → ((m : ℕ) → Decided (P m)) → (n : ℕ) → Decided ((m : ℕ) → m < n → P m)
each_below P decide zero = inl (λ m below. absurd (omega (arith, below)))
each_below P decide (suc n) = elim (both (each_below P decide n) (decide n)) [
  | inl all ↦ inl (λ m below. elim (cases_lt m n) [
    | inl under ↦ all.0 m under
    | inr not_under ↦ let same : n ≡ m = omega (arith, below, not_under) in subst P same all.1
  ])
  | inr never ↦ inr (λ every. never ((λ m under. every m (omega (arith, under))), every n (omega arith)))
]

contains : (order : List ℕ) (n : ℕ) → Decided (Contains order n)
contains order n = elim (cases_Bool (list_any (eqb n) order)) [
  | inl there ↦ inl (Contains-from_any (λ x y. eqb-true x y) n order there)
  | inr none ↦ inr (λ at. let there = list_any-from_Contains nat_eq_equiv n order at in let never : true ≡ false = sym there ∙ none in absurd cc)
]

-- ---- which event may come next

worker : (u v : Worker) → Decided (u ≡ v)
worker (Processor m) (Processor n) = elim (cases_eq m n) [
  | inl same ↦ inl (ap Processor same)
  | inr other ↦ inr (λ e. other cc)
]
worker (Processor m) Frame_worker = inr (λ e. cc)
worker Frame_worker (Processor n) = inr (λ e. cc)
worker Frame_worker Frame_worker = inl refl

module _ (trace : Trace) where
  same_worker : (m n : ℕ) → Decided (SameWorker trace m n)
  same_worker m n = known (event_at trace.events m) (event_at trace.events n) refl refl
    where
      known : (o p : Option Event) → event_at trace.events m ≡ o → event_at trace.events n ≡ p → Decided (SameWorker trace m n)
      known None p first second = inr (λ w. let never = sym first ∙ w.is_first in absurd cc)
      known (Some e) None first second = inr (λ w. let never = sym second ∙ w.is_second in absurd cc)
      known (Some e) (Some f) first second = elim (worker (worker_of trace.processors e) (worker_of trace.processors f)) [
        | inl same ↦ inl (record { first = e; second = f; is_first = first; is_second = second; same = same })
        | inr other ↦ inr (λ w.
            let one : Some e ≡ Some w.first = sym first ∙ w.is_first in
            let two : Some f ≡ Some w.second = sym second ∙ w.is_second in
            let this : e ≡ w.first = cc in
            let that : f ≡ w.second = cc in
            other (ap (worker_of trace.processors) this ∙ w.same ∙ sym (ap (worker_of trace.processors) that)))
      ]

  abbrev IsLater : ℕ → ℕ → Type 0
  IsLater m n = (segment_of trace.segments m ≡ segment_of trace.segments n) × ((m < n) × SameWorker trace m n)

  later : (m n : ℕ) → Precedes trace m n → (segment_of trace.segments m < segment_of trace.segments n) ⊎ IsLater m n
  later m n (inl earlier) = inl earlier
  later m n (inr behind) = inr (behind.0, (behind.1, behind.2))

  precedes : (m n : ℕ) → Decided (Precedes trace m n)
  precedes m n =
      let s = segment_of trace.segments m in
      let t = segment_of trace.segments n in
      elim (either (less s t) (both (equal s t) (both (less m n) (same_worker m n)))) [
        | inl (inl earlier) ↦ inl (inl earlier)
        | inl (inr behind) ↦ inl (inr (behind.0, behind.1.0, behind.1.1))
        | inr never ↦ inr (λ p. never (later m n p))
      ]

  is_event : (n : ℕ) → Decided (IsEvent trace n)
  is_event n = both (from_one n) (up_to (length trace.events) n)
    where
      up_to : (high m : ℕ) → Decided (m ≤ high)
      up_to high m = elim (cases_lt high m) [
        | inl above ↦ inr (λ below. absurd (omega (arith, below, above)))
        | inr below ↦ inl (omega (arith, below))
      ]

      from_one : (m : ℕ) → Decided (1 ≤ m)
      from_one m = up_to m 1

  may_follow : (order : List ℕ) (n : ℕ) → Decided (MayFollow trace order n)
  may_follow order n =
      let waits = each_below (λ m. IsEvent trace m → Precedes trace m n → Contains order m) (λ m. implies (is_event m) (implies (precedes m n) (contains order m))) (suc (length trace.events)) in
      elim (both (is_event n) (both (opposite (contains order n)) waits)) [
        | inl all ↦ inl (record { known = all.0; new = all.1.0; waits = λ m is. all.1.1 m (let high = is.1 in omega (arith, high)) is })
        | inr never ↦ inr (λ may. never (may.known, (may.new, λ m below. may.waits m)))
      ]

-- ---- whether a text begins with a line

behind_line : (line text : List ℕ) → Decided ((behind : List ℕ) × (text ≡ line ++ behind))
behind_line [] text = inl (text, refl)
behind_line (a ∷ line) [] = inr (λ there. let e = there.1 in absurd cc)
behind_line (a ∷ line) (b ∷ text) = elim (cases_eq b a) [
  | inr other ↦ inr (λ there. let e = there.1 in other cc)
  | inl same ↦ elim (behind_line line text) [
    | inl there ↦ inl (there.0, λ i. same i ∷ there.1 i)
    | inr never ↦ inr (λ there. never (there.0, ap (drop 1) there.1))
  ]
]

-- ---- the next line

module _ (slots : ℕ) (trace : Trace) (order text : List ℕ) (sound : IsSound trace) where
  record IsLine : Type 0 where
    behind : List ℕ
    goes : GoesOn slots trace order text behind

  next : IsLine ⊎ IsStuck slots trace order text
  next = read (parse_number text) refl
    where
      read : (o : Option (ℕ × List ℕ)) → parse_number text ≡ o → IsLine ⊎ IsStuck slots trace order text
      read None none = inr (no_number slots trace order text sound none)
      read (Some (n, more)) is = elim (may_follow trace order n) [
        | inr nor ↦ inr (no_turn slots trace order text sound n more is nor)
        | inl may ↦
            let e = event_there trace n may.known in
            elim (behind_line (line_due slots trace order n e.0) text) [
              | inl there ↦ inl (record { behind = there.0; goes = record { number = n; event = e.0; may = may; numbered = e.1; line = there.1 } })
              | inr nor ↦ inr (no_line slots trace order text sound n e.0 more (line_due slots trace order n e.0) is e.1 refl (λ behind there. nor (behind, there)))
            ]
      ]

-- ---- one verdict

abbrev pub HasVerdict : ℕ → Trace → List ℕ → Type 0
HasVerdict slots trace bytes = IsValid slots trace bytes ⊎ ((n : ℕ) × IsInvalidAt slots trace bytes n)

judge : (slots : ℕ) (trace : Trace) (bytes : List ℕ) (m : ℕ) (order text : List ℕ) (k : ℕ) → IsSound trace → HasRead slots trace order bytes text k → k + m ≡ length trace.events → HasVerdict slots trace bytes
judge slots trace bytes zero order [] k sound read all = inl (valid_here slots trace order bytes [] k sound read (omega (arith, all)) refl)
judge slots trace bytes zero order (o ∷ text) k sound read all = inr (k + 1, IsInvalidAt_too_long slots trace order bytes (o ∷ text) k sound read (omega (arith, all)) (λ e. cc))
judge slots trace bytes (suc m) order text k sound read all = elim (next slots trace order text sound) [
  | inl line ↦ judge slots trace bytes m (order ++ line.goes.number ∷ []) line.behind (k + 1) sound (read_more slots trace order bytes text line.behind k read line.goes) (omega (arith, all))
  | inr stuck ↦ inr (k + 1, invalid_here slots trace order bytes text k sound read (omega (arith, all)) stuck)
]

pub always_one : (slots : ℕ) (trace : Trace) (bytes : List ℕ) → IsSound trace → HasVerdict slots trace bytes
always_one slots trace bytes sound = judge slots trace bytes (length trace.events) [] bytes 0 sound (read_none slots trace bytes) (omega arith)
