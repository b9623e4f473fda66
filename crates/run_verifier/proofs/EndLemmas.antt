-- How far a report was read, and the verdict there.
use Rattle.std.proofs.Common.{◌≡◌, ◌≢◌, ℕ, zero, suc, ◌+◌, ◌<◌, ◌≤◌, true, false, eqb, List, [], ◌∷◌, ◌++◌, length, take, get_or, Contains, refl, sym, ap, subst, ◌∙◌, arith, inl, inr, append_assoc, length-append, length-take-le}
use Rattle.std.specs.Prelude.{All, AllPairs}
use Rattle.std.specs.List.{list_any}
use Rattle.std.proofs.lemmas.Bool.{cases_Bool, eqb-true}
use Rattle.std.proofs.lemmas.Bool.Decides.{Decides-eqb}
use Rattle.std.proofs.lemmas.Cmp.{nat_eq_equiv}
use Rattle.std.proofs.lemmas.List.{append-nil, get_or_default, take_all}
use Rattle.std.proofs.lemmas.List.Elements.{All-cons, All-weaker, All-contains}
use Rattle.std.proofs.lemmas.List.Kept.{AllPairs-cons}
use Rattle.std.proofs.lemmas.Map.Made.{IsDistinct-from_AllPairs}
use Rattle.std.proofs.lemmas.Map.Steps.{length-le_from_distinct_below, le-length_from_below}
use Rattle.std.proofs.lemmas.Map.Views.{Contains-from_any, list_any-from_Contains}
use Rattle.std.proofs.Math.Seq.{take-suc}
use Rattle.circuit_model.specs.Hears.{hears}
use Rattle.exchange_events.specs.declared.trace.Trace.{Trace}
use Rattle.exchange_events.specs.Orders.{IsEvent, IsLawful, IsLawfulPrefix}
use Rattle.exchange_events.specs.Sound.{IsSound, setting_of}
use Rattle.exchange_events.proofs.EventNumbers.{event_there}
use Rattle.frame_engine.specs.Carries.{Stages}
use Rattle.lone_exchange.specs.declared.exchange.LoneExchange.{LoneExchange}
use Rattle.tone_rules.specs.Tables.{table_of}
use Rattle.call_profile.specs.Step.{events_of, world_after_all}
use Rattle.call_profile.specs.World.{start}
use Rattle.report_text.specs.RunReport.{event_line}
use Rattle.run_verifier.specs.Replaying.{line_due}
use Rattle.run_verifier.specs.Verdicts.{IsGood, IsInvalidAt, IsValid, MayFollow, report_due}
use Rattle.run_verifier.specs.declared.turns.Turns.{Turns}
use Rattle.run_verifier.specs.Verifying.{GoesOn, IsStuck, IsUnderway}
use Rattle.run_verifier.proofs.OrderLemmas.{follows, IsLawfulPrefix_goes_on, lawful_take, none_lawful}
use Rattle.run_verifier.proofs.ReportLemmas.{line_last, same_front}
use Rattle.run_verifier.proofs.VerdictLemmas.{few_good, fewer_good}

-- k events happened in the order that the bytes give, and their lines come before the rest
pub record HasRead (slots : ℕ) (trace : Trace) (order bytes text : List ℕ) (k : ℕ) : Type 0 where
  pub count : length order ≡ k
  pub lawful : IsLawfulPrefix trace order
  pub report : bytes ≡ report_due slots trace order ++ text

pub read_none : (slots : ℕ) (trace : Trace) (bytes : List ℕ) → HasRead slots trace [] bytes bytes 0
read_none slots trace bytes = record { count = refl; lawful = none_lawful trace; report = refl }

pub read_more : (slots : ℕ) (trace : Trace) (order bytes text behind : List ℕ) (k : ℕ) → HasRead slots trace order bytes text k → (goes : GoesOn slots trace order text behind)
    → HasRead slots trace (order ++ goes.number ∷ []) bytes behind (k + 1)
read_more slots trace order bytes text behind k read goes =
    let s = setting_of slots trace in
    let played = hears (table_of trace.tones) in
    let n = goes.number in
    let line = line_last played s trace (start s.dimensions) order n goes.event read.lawful.known goes.numbered in
    let count = read.count in
    let long = length-append order (n ∷ []) in
    record {
      count = omega (arith, count, long);
      lawful = IsLawfulPrefix_goes_on trace order n read.lawful goes.may;
      report = read.report ∙ ap (λ (l : List ℕ). report_due slots trace order ++ l) goes.line
          ∙ sym (append_assoc (report_due slots trace order) (line_due slots trace order n goes.event) behind)
          ∙ ap (λ (l : List ℕ). l ++ behind) (sym line);
    }

-- so much of a report is read, and what is done again of its trace is underway there
pub record IsReading {P : Type 0} (slots : ℕ) (trace : Trace) (bytes text : List ℕ) (k : ℕ) (turns : Turns) (exchange : LoneExchange P Stages) : Type 0 where
  pub order : List ℕ
  pub read : HasRead slots trace order bytes text k
  pub underway : IsUnderway slots trace order turns exchange

-- ---- whole orders

module _ (trace : Trace) (order : List ℕ) where
  eqb_same : (x y : ℕ) → eqb x y ≡ true → x ≡ y
  eqb_same x y = eqb-true x y

  -- an order of all events has as many
  pub whole_length : IsLawful trace order → length trace.events ≤ length order
  whole_length whole =
      let many = le-length_from_below (0 ∷ order) (suc (length trace.events)) there in omega (arith, many)
    where
      there : (q : ℕ) → q < suc (length trace.events) → list_any (eqb q) (0 ∷ order) ≡ true
      there zero small = refl
      there (suc q) small = list_any-from_Contains nat_eq_equiv (suc q) (0 ∷ order) (behind_zero (whole.whole (suc q) (omega arith, omega (arith, small))))
        where
          behind_zero : Contains order (suc q) → Contains (0 ∷ order) (suc q)
          behind_zero at = let inside = at.1 in (suc at.0, omega (arith, inside), at.2)

  -- one of as many that differ has all
  pub whole_lawful : IsLawfulPrefix trace order → length order ≡ length trace.events → IsLawful trace order
  whole_lawful lawful long = record {
    begun = lawful;
    whole = λ n is. elim (cases_Bool (list_any (eqb n) order)) [
      | inl there ↦ Contains-from_any eqb_same n order there
      | inr none ↦
          let count = length trace.events in
          let apart : All (λ m. n ≢ m) order = λ i d inside same.
          let there = list_any-from_Contains nat_eq_equiv n order (i, inside, get_or_default order i n d inside ∙ sym same) in
          let no : true ≡ false = sym there ∙ none in
          absurd cc in
          let zero_apart : All (λ m. 0 ≢ m) (n ∷ order) =
          All-cons (λ m. 0 ≢ m) n order (λ same. let low = is.0 in omega (arith, low, same)) (All-weaker (IsEvent trace) (λ m. 0 ≢ m) (λ m event same. let low = event.0 in omega (arith, low, same)) order lawful.known) in
          let distinct : AllPairs (λ (m k : ℕ). m ≢ k) (0 ∷ n ∷ order) =
          AllPairs-cons (λ (m k : ℕ). m ≢ k) 0 (n ∷ order) zero_apart (AllPairs-cons (λ (m k : ℕ). m ≢ k) n order apart lawful.distinct) in
          let small : All (λ m. m < suc count) (0 ∷ n ∷ order) =
          All-cons (λ m. m < suc count) 0 (n ∷ order) (omega arith) (All-cons (λ m. m < suc count) n order (let high = is.1 in omega (arith, high))
          (All-weaker (IsEvent trace) (λ m. m < suc count) (λ m event. let high = event.1 in omega (arith, high)) order lawful.known)) in
          let few = length-le_from_distinct_below (0 ∷ n ∷ order) (suc count) (IsDistinct-from_AllPairs Decides-eqb (0 ∷ n ∷ order) distinct)
          (λ q there. All-contains (λ m. m < suc count) (0 ∷ n ∷ order) q small (Contains-from_any eqb_same q (0 ∷ n ∷ order) there)) in
          absurd (omega (arith, few, long))
    ];
  }

-- ---- verdicts

-- what is valid has as many good lines as there are events
valid_good : (slots : ℕ) (trace : Trace) (bytes : List ℕ) (k : ℕ) → k ≤ length trace.events → IsValid slots trace bytes → IsGood slots trace bytes k
valid_good slots trace bytes k within valid =
    let long = whole_length trace valid.order valid.lawful in
    fewer_good slots trace bytes k (length valid.order) (omega (arith, within, long))
    (record { order = valid.order; lawful = valid.lawful.begun; count = refl; rest = []; begins = valid.text ∙ sym (append-nil (report_due slots trace valid.order)) })

module _ (slots : ℕ) (trace : Trace) (order bytes text : List ℕ) (k : ℕ) (sound : IsSound trace) (read : HasRead slots trace order bytes text k) where
  pub good : IsGood slots trace bytes k
  good = record { order = order; lawful = read.lawful; count = read.count; rest = text; begins = read.report }

  -- the next line is not good where the rest begins with no line that may come
  not_good : IsStuck slots trace order text → IsGood slots trace bytes (k + 1) → ⊥
  not_good stuck more =
      let s = setting_of slots trace in
      let played = hears (table_of trace.tones) in
      let w = start s.dimensions in
      let long = more.count in
      let count = read.count in
      let init = take k more.order in
      let n = get_or more.order k 0 in
      let split : more.order ≡ init ++ n ∷ [] = sym (take_all (suc k) more.order (omega (arith, long))) ∙ take-suc more.order k 0 (omega (arith, long)) in
      let lawful : IsLawfulPrefix trace (init ++ n ∷ []) = subst (IsLawfulPrefix trace) split more.lawful in
      let may = follows trace init n lawful in
      let begun = lawful_take trace more.order k more.lawful in
      let e = event_there trace n may.known in
      let line = line_last played s trace w init n e.0 begun.known e.1 in
      let due = event_line played s (world_after_all s w (events_of trace.events init)) n e.0 in
      let there : report_due slots trace order ++ text ≡ report_due slots trace init ++ (due ++ more.rest) =
      sym read.report ∙ more.begins ∙ ap (λ (l : List ℕ). l ++ more.rest) (ap (report_due slots trace) split ∙ line) ∙ append_assoc (report_due slots trace init) due more.rest in
      let size : length init ≡ k = length-take-le k more.order (omega (arith, long)) in
      let same = same_front played s trace sound w order init text (due ++ more.rest) read.lawful.known begun.known (count ∙ sym size) there in
      stuck n e.0 more.rest (subst (λ (l : List ℕ). MayFollow trace l n) (sym same.0) may) e.1
      (same.1 ∙ ap (λ (l : List ℕ). event_line played s (world_after_all s w (events_of trace.events l)) n e.0 ++ more.rest) (sym same.0))

  pub invalid_here : k < length trace.events → IsStuck slots trace order text → IsInvalidAt slots trace bytes (k + 1)
  invalid_here within stuck = record {
    before = k;
    number = refl;
    good = good;
    first = not_good stuck;
    other = λ valid. not_good stuck (valid_good slots trace bytes (k + 1) (omega (arith, within)) valid);
  }

  pub valid_here : k ≡ length trace.events → text ≡ [] → IsValid slots trace bytes
  valid_here all empty = record {
    order = order;
    lawful = whole_lawful trace order read.lawful (read.count ∙ all);
    text = read.report ∙ ap (λ (l : List ℕ). report_due slots trace order ++ l) empty ∙ append-nil (report_due slots trace order);
  }

  pub IsInvalidAt_too_long : k ≡ length trace.events → (text ≡ [] → ⊥) → IsInvalidAt slots trace bytes (k + 1)
  IsInvalidAt_too_long all some = record {
    before = k;
    number = refl;
    good = good;
    first = λ more. let few = few_good slots trace bytes (k + 1) more in absurd (omega (arith, few, all));
    other = λ valid.
        let long = whole_length trace valid.order valid.lawful in
        let few = few_good slots trace bytes (length valid.order) (record { order = valid.order; lawful = valid.lawful.begun; count = refl; rest = []; begins = valid.text ∙ sym (append-nil (report_due slots trace valid.order)) }) in
        let s = setting_of slots trace in
        let same = same_front (hears (table_of trace.tones)) s trace sound (start s.dimensions) order valid.order text [] read.lawful.known valid.lawful.begun.known
        (read.count ∙ omega (arith, all, long, few)) (sym read.report ∙ valid.text ∙ sym (append-nil (report_due slots trace valid.order))) in
        some same.1;
  }
