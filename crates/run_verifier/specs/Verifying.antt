-- The verification of a report, line by line. Source: this project.
use Rattle.std.specs.Prelude.{◌≡◌, ⊤, ℕ, ◌<◌, ◌≤◌, ◌++◌, [], ◌∷◌, List, length, Result, Ok, Err}
use Rattle.exchange_events.specs.declared.trace.Event.{Event}
use Rattle.exchange_events.specs.declared.trace.Trace.{Trace}
use Rattle.exchange_core.specs.Working.{IsNumbered}
use Rattle.frame_engine.specs.Carries.{Stages}
use Rattle.lone_exchange.specs.declared.exchange.LoneExchange.{LoneExchange}
use Rattle.run_verifier.specs.declared.turns.Turns.{Turns}
use Rattle.run_verifier.specs.declared.verdict.Verdict.{Verdict}
use Rattle.run_verifier.specs.declared.verdict.Verdict.TheVariants.{Valid, Invalid}
use Rattle.run_verifier.specs.declared.verdict.VerifyFault.{VerifyFault}
use Rattle.run_verifier.specs.declared.verdict.VerifyFault.TheVariants.{Memory, Trace as Refused}
use Rattle.trace_text.specs.TraceGrammar.{IsRefused, IsTrace}
use Rattle.run_verifier.specs.Replaying.{HasDone, line_due}
use Rattle.run_verifier.specs.Turns.{AreTurns, IsLeft}
use Rattle.run_verifier.specs.Verdicts.{IsInvalidAt, IsValid, MayFollow}

-- the exchange has processed the events of this order, and the turns are the turns after it
pub record IsUnderway {P : Type 0} (slots : ℕ) (trace : Trace) (order : List ℕ) (turns : Turns) (exchange : LoneExchange P Stages) : Type 0 where
  pub done : HasDone slots trace order exchange
  pub within : turns.segment ≤ length trace.segments
  pub passed : AreTurns trace turns.segment turns.end turns.next order
  pub left : IsLeft trace turns.segment turns.end turns.next

-- the exchange has processed some events of the trace, and not all
abbrev pub IsBegun : {P : Type 0} → Trace → Turns → LoneExchange P Stages → Type 0
IsBegun trace turns exchange =
    (slots : ℕ) × (order : List ℕ) × IsUnderway slots trace order turns exchange × (length order < length trace.events)

-- the text starts with the report line of an event that may come next; `behind` is the text after the line
pub record GoesOn (slots : ℕ) (trace : Trace) (order text behind : List ℕ) : Type 0 where
  pub number : ℕ
  pub event : Event
  pub may : MayFollow trace order number
  pub numbered : IsNumbered trace number event
  pub line : text ≡ line_due slots trace order number event ++ behind

-- the text starts with such a line, and the exchange has processed its event
pub record HasGoneOn {P : Type 0} (slots : ℕ) (trace : Trace) (order text behind : List ℕ) (turns : Turns) (exchange : LoneExchange P Stages) : Type 0 where
  pub goes : GoesOn slots trace order text behind
  pub underway : IsUnderway slots trace (order ++ goes.number ∷ []) turns exchange

-- the text does not start with such a line
abbrev pub IsStuck : ℕ → Trace → (order text : List ℕ) → Type 0
IsStuck slots trace order text =
    (n : ℕ) (e : Event) (behind : List ℕ) → MayFollow trace order n → IsNumbered trace n e → text ≡ line_due slots trace order n e ++ behind → ⊥

-- the verdict is correct
abbrev pub IsRight : ℕ → Trace → List ℕ → Verdict → Type 0
IsRight slots trace bytes Valid = IsValid slots trace bytes
IsRight slots trace bytes (Invalid n) = IsInvalidAt slots trace bytes n

-- the result is correct: the bytes are a trace and the verdict on its report is correct, or they are refused for this reason
abbrev pub IsAnswer : ℕ → (trace report : List ℕ) → Result Verdict VerifyFault → Type 0
IsAnswer slots trace report (Ok verdict) = (t : Trace) × IsTrace trace t × IsRight slots t report verdict
IsAnswer slots trace report (Err Memory) = ⊤
IsAnswer slots trace report (Err (Refused number why)) = IsRefused trace number why
