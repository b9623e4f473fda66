-- Which lines are good, and which verdict is right.
use Rattle.std.proofs.Common.{◌≡◌, ◌≢◌, ℕ, suc, ◌+◌, ◌<◌, ◌≤◌, true, eqb, List, ◌∷◌, ◌++◌, length, take, sym, ap, ◌∙◌, arith, inl, inr, append_assoc, length-take-le}
use Rattle.std.specs.Prelude.{All, AllPairs}
use Rattle.std.proofs.lemmas.Bool.{cases_lt, eqb-true}
use Rattle.std.proofs.lemmas.Bool.Decides.{Decides-eqb}
use Rattle.std.proofs.lemmas.List.{append-nil}
use Rattle.std.proofs.lemmas.List.Elements.{All-cons, All-weaker, All-contains}
use Rattle.std.proofs.lemmas.List.Kept.{AllPairs-cons}
use Rattle.std.proofs.lemmas.Map.Made.{IsDistinct-from_AllPairs}
use Rattle.std.proofs.lemmas.Map.Steps.{length-le_from_distinct_below}
use Rattle.std.proofs.lemmas.Map.Views.{Contains-from_any}
use Rattle.circuit_model.specs.Hears.{hears}
use Rattle.exchange_events.specs.declared.trace.Trace.{Trace}
use Rattle.exchange_events.specs.Orders.{IsEvent, IsLawfulPrefix}
use Rattle.exchange_events.specs.Sound.{IsSound, setting_of}
use Rattle.tone_rules.specs.Tables.{table_of}
use Rattle.call_profile.specs.World.{start}
use Rattle.run_verifier.specs.Verdicts.{IsGood, IsInvalidAt, IsValid, report_due}
use Rattle.run_verifier.proofs.OrderLemmas.{lawful_take}
use Rattle.run_verifier.proofs.ReportLemmas.{lines_front, same_order}

-- ---- one order

pub one_order : (slots : ℕ) (trace : Trace) (one other : List ℕ) → IsSound trace → IsLawfulPrefix trace one → IsLawfulPrefix trace other
    → report_due slots trace one ≡ report_due slots trace other → one ≡ other
one_order slots trace one other sound lawful also same =
    let s = setting_of slots trace in
    same_order (hears (table_of trace.tones)) s trace sound (start s.dimensions) one other lawful.known also.known
    (append-nil (report_due slots trace one) ∙ same ∙ sym (append-nil (report_due slots trace other)))

-- ---- good lines

pub fewer_good : (slots : ℕ) (trace : Trace) (bytes : List ℕ) (j k : ℕ) → j ≤ k → IsGood slots trace bytes k → IsGood slots trace bytes j
fewer_good slots trace bytes j k below good =
    let s = setting_of slots trace in
    let front = lines_front (hears (table_of trace.tones)) s trace (start s.dimensions) good.order j good.lawful.known in
    let count = good.count in
    record {
      order = take j good.order;
      lawful = lawful_take trace good.order j good.lawful;
      count = length-take-le j good.order (omega (arith, below, count));
      rest = front.0 ++ good.rest;
      begins = good.begins ∙ ap (λ (l : List ℕ). l ++ good.rest) front.1 ∙ append_assoc (report_due slots trace (take j good.order)) front.0 good.rest;
    }

-- events that differ are no more than there are
few_lawful : (trace : Trace) (order : List ℕ) → IsLawfulPrefix trace order → length order ≤ length trace.events
few_lawful trace order lawful =
    let count = length trace.events in
    let apart : AllPairs (λ (m n : ℕ). m ≢ n) (0 ∷ order) =
    AllPairs-cons (λ (m n : ℕ). m ≢ n) 0 order (All-weaker (IsEvent trace) (λ n. 0 ≢ n) (λ n is same. let low = is.0 in omega (arith, low, same)) order lawful.known) lawful.distinct in
    let small : All (λ n. n < suc count) (0 ∷ order) =
    All-cons (λ n. n < suc count) 0 order (omega arith) (All-weaker (IsEvent trace) (λ n. n < suc count) (λ n is. let high = is.1 in omega (arith, high)) order lawful.known) in
    let few = length-le_from_distinct_below (0 ∷ order) (suc count) (IsDistinct-from_AllPairs Decides-eqb (0 ∷ order) apart)
    (λ q there. All-contains (λ n. n < suc count) (0 ∷ order) q small (Contains-from_any eqb_same q (0 ∷ order) there)) in
    omega (arith, few)
  where
    eqb_same : (x y : ℕ) → eqb x y ≡ true → x ≡ y
    eqb_same x y = eqb-true x y

pub few_good : (slots : ℕ) (trace : Trace) (bytes : List ℕ) (k : ℕ) → IsGood slots trace bytes k → k ≤ length trace.events
few_good slots trace bytes k good = let few = few_lawful trace good.order good.lawful in let count = good.count in omega (arith, few, count)

-- ---- verdicts

pub never_both : (slots : ℕ) (trace : Trace) (bytes : List ℕ) (n : ℕ) → IsValid slots trace bytes → IsInvalidAt slots trace bytes n → ⊥
never_both slots trace bytes n valid invalid = invalid.other valid

not_below : (slots : ℕ) (trace : Trace) (bytes : List ℕ) (m n : ℕ) → m < n → IsInvalidAt slots trace bytes m → IsInvalidAt slots trace bytes n → ⊥
not_below slots trace bytes m n less one other =
    let number = other.number in one.first (fewer_good slots trace bytes m other.before (omega (arith, less, number)) other.good)

pub one_line : (slots : ℕ) (trace : Trace) (bytes : List ℕ) (m n : ℕ) → IsInvalidAt slots trace bytes m → IsInvalidAt slots trace bytes n → m ≡ n
one_line slots trace bytes m n one other = elim (cases_lt m n) [
  | inl less ↦ absurd (not_below slots trace bytes m n less one other)
  | inr not_less ↦ elim (cases_lt n m) [
    | inl more ↦ absurd (not_below slots trace bytes n m more other one)
    | inr not_more ↦ omega (arith, not_less, not_more)
  ]
]

pub named : (slots : ℕ) (trace : Trace) (bytes : List ℕ) (n : ℕ) → IsInvalidAt slots trace bytes n → n ≤ length trace.events + 1
named slots trace bytes n invalid =
    let few = few_good slots trace bytes invalid.before invalid.good in let number = invalid.number in omega (arith, few, number)
