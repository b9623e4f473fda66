-- Meters that note calls, one list after the other.
use Rattle.std.proofs.Common.{◌≡◌, ℕ, List, [], ◌++◌, refl, sym, ap, ◌∙◌, subst}
use Rattle.std.proofs.lemmas.List.{append_assoc, append-nil}
use Rattle.exchange_events.specs.declared.record.CallRecord.{CallRecord}
use Rattle.meters.specs.Telling.{IsTold, IsToldFront}

-- a meter that nothing happens to notes no call
pub told-same : (stood : List CallRecord → Type 0) (said : List CallRecord → List ℕ) → IsTold [] stood stood said said
told-same stood said = record {
  stands_for_all = λ before it. subst stood (sym (append-nil before)) it;
  says_of_all = λ more. refl;
}

module _ {stood stands : List CallRecord → Type 0} {said says : List CallRecord → List ℕ} where
  -- the same calls, written in another way
  pub told-equal : {calls again : List CallRecord} → calls ≡ again → IsTold calls stood stands said says → IsTold again stood stands said says
  told-equal is told = subst (λ calls. IsTold calls stood stands said says) is told

  pub told_front-equal : {calls again : List CallRecord} → calls ≡ again → IsToldFront calls stood stands said says → IsToldFront again stood stands said says
  told_front-equal is told = subst (λ calls. IsToldFront calls stood stands said says) is told

  -- all of the calls are the first few of them, and so are none
  pub told_front-all : {calls : List CallRecord} → IsTold calls stood stands said says → IsToldFront calls stood stands said says
  told_front-all {calls} told = (calls, [], sym (append-nil calls), told)

  pub told_front-none : {calls : List CallRecord} → IsTold [] stood stands said says → IsToldFront calls stood stands said says
  told_front-none {calls} told = ([], calls, refl, told)

  -- the first few of some calls are the first few of them and more
  pub told_front-append : {calls : List CallRecord} (more : List CallRecord) → IsToldFront calls stood stands said says → IsToldFront (calls ++ more) stood stands said says
  told_front-append more told = (told.0, told.1 ++ more, ap (λ calls. calls ++ more) told.2 ∙ append_assoc told.0 told.1 more, told.3)

  module _ {stands_then : List CallRecord → Type 0} {says_then : List CallRecord → List ℕ} where
    -- some calls noted, and then more
    pub told-then : {calls more : List CallRecord} → IsTold calls stood stands said says → IsTold more stands stands_then says says_then → IsTold (calls ++ more) stood stands_then said says_then
    told-then {calls} {more} first second = record {
      stands_for_all = λ before it. subst stands_then (append_assoc before calls more) (second.stands_for_all (before ++ calls) (first.stands_for_all before it));
      says_of_all = λ others. second.says_of_all others ∙ first.says_of_all (more ++ others) ∙ ap said (sym (append_assoc calls more others));
    }

    -- some calls noted, and then the first few of more
    pub told-then_front : {calls more : List CallRecord} → IsTold calls stood stands said says → IsToldFront more stands stands_then says says_then → IsToldFront (calls ++ more) stood stands_then said says_then
    told-then_front {calls} first second = (calls ++ second.0, second.1, ap (λ more. calls ++ more) second.2 ∙ sym (append_assoc calls second.0 second.1), told-then first second.3)
