-- The calls that meters record. Source: this project.
use Rattle.std.specs.Prelude.{ℕ, List}
use Rattle.std.specs.List.{AllZip}
use Rattle.exchange_events.specs.declared.record.CallRecord.{CallRecord}
use Rattle.meters.specs.Telling.{IsTold, IsToldFront}

-- a statement on the calls that meters recorded
abbrev pub Telling : Type 1
Telling = List CallRecord → Type 0

-- each meter recorded these calls, by the definitions of its type
abbrev pub AreTold : {M : Type 0} → (M → List CallRecord → Type 0) → (M → List CallRecord → List ℕ) → List M → List M → Telling
AreTold stands text old new calls = AllZip (λ m n. IsTold calls (stands m) (stands n) (text m) (text n)) old new

-- each meter recorded a prefix of these calls
abbrev pub AreToldFront : {M : Type 0} → (M → List CallRecord → Type 0) → (M → List CallRecord → List ℕ) → List M → List M → Telling
AreToldFront stands text old new calls = AllZip (λ m n. IsToldFront calls (stands m) (stands n) (text m) (text n)) old new
