-- The trace of a seed and a number of calls. Source: this project.
use Rattle.std.specs.Prelude.{◌≡◌, ℕ, List, map}
use Rattle.exchange_events.specs.declared.trace.Trace.{Trace}
use Rattle.trace_text.specs.declared.said.Said.{Said}
use Rattle.trace_text.specs.TraceGrammar.{IsTrace}
use Rattle.traffic_gen.specs.Traffic.{traffic, traffic_lines}
use Rattle.generated_trace.specs.Told.{said_by}

-- the trace of the octets that are generated from a seed with n calls
abbrev pub IsTrafficOf : ℕ → ℕ → Trace → Type 0
IsTrafficOf seed calls t = IsTrace (traffic seed calls) t

-- the contents of the lines that are generated from a seed with n calls
abbrev pub traffic_told : ℕ → ℕ → List Said
traffic_told seed calls = map said_by (traffic_lines seed calls)

-- the trace has an exchange with these numbers of external lines, bridge lines and call processors
pub record HasExchangeSizes (t : Trace) (external bridges processors : ℕ) : Type 0 where
  pub external_is : t.external ≡ external
  pub bridges_is : t.bridges ≡ bridges
  pub processors_is : t.processors ≡ processors
