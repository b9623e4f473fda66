-- The correct verdict on a report. Source: this project.
use Rattle.std.specs.Prelude.{◌≡◌, ℕ, ◌+◌, ◌++◌, List, length, Contains}
use Rattle.circuit_model.specs.Hears.{hears}
use Rattle.exchange_events.specs.declared.trace.Trace.{Trace}
use Rattle.exchange_events.specs.Orders.{IsEvent, IsLawful, IsLawfulPrefix, Precedes}
use Rattle.report_text.specs.RunReport.{report}

-- the report of a trace whose events are processed in this order on this number of internal slots, with the octets that each slot is sent
abbrev pub report_due : ℕ → Trace → List ℕ → List ℕ
report_due slots trace order = report hears slots trace order

-- the first k lines of the bytes are correct: each has its line feed, and they are the report of k events in a lawful prefix of an order
pub record IsGood (slots : ℕ) (trace : Trace) (bytes : List ℕ) (k : ℕ) : Type 0 where
  pub order : List ℕ
  pub lawful : IsLawfulPrefix trace order
  pub count : length order ≡ k
  pub rest : List ℕ
  pub begins : bytes ≡ report_due slots trace order ++ rest

-- the bytes are the report of all events of the trace in a lawful order
pub record IsValid (slots : ℕ) (trace : Trace) (bytes : List ℕ) : Type 0 where
  pub order : List ℕ
  pub lawful : IsLawful trace order
  pub text : bytes ≡ report_due slots trace order

-- the bytes are not such a report, and line n is the first that is wrong or missing
pub record IsInvalidAt (slots : ℕ) (trace : Trace) (bytes : List ℕ) (n : ℕ) : Type 0 where
  pub before : ℕ
  pub number : n ≡ before + 1
  pub good : IsGood slots trace bytes before
  pub first : IsGood slots trace bytes n → ⊥
  pub other : IsValid slots trace bytes → ⊥

-- event n may come next: it has not been processed, and all events that must come before it have been
pub record MayFollow (trace : Trace) (order : List ℕ) (n : ℕ) : Type 0 where
  pub known : IsEvent trace n
  pub new : Contains order n → ⊥
  pub waits : (m : ℕ) → IsEvent trace m → Precedes trace m n → Contains order m
