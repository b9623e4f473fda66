-- The contents of a requested call, wherever its octets are in memory. Source: this project.
use Rattle.std.specs.Prelude.{ℕ, List, Option, Some, None}
use Rattle.call_states.specs.declared.pending.Pending.{Pending}
use Rattle.call_control.specs.declared.asked.Asked.{Asked}

abbrev pub asked_of : Asked → Pending
asked_of a = record {
  bearer = a.bearer.now;
  calling = a.calling.now;
  called = a.called.now;
  low = a.low.now;
  high = a.high.now;
}

-- contents that were found, or else the contents in the rest
abbrev pub first_or : Option (List ℕ) → Option (List ℕ) → Option (List ℕ)
first_or (Some contents) others = Some contents
first_or None others = others
