-- The stories of traces that are followed are reports. Source: this project.
use Rattle.std.specs.Prelude.{◌≡◌, ℕ, List, []}
use Rattle.circuit_model.specs.Hears.{hears}
use Rattle.exchange_events.specs.declared.record.CallRecord.{CallRecord}
use Rattle.exchange_events.specs.declared.trace.Trace.{Trace}
use Rattle.meters.specs.Changing.{handed_in, steps_text}
use Rattle.trace_text.specs.declared.said.Said.{Said}
use Rattle.trace_text.specs.TraceGrammar.{IsTrace}
use Rattle.trace_text.specs.TraceWords.{lines}
use Rattle.run_verifier.specs.Verdicts.{IsValid}
use Rattle.linked_exchange.specs.Told.{EachFollows, story_said}

-- If the bytes that are followed are a trace that changes no meters, the text of their story is a valid report of the
-- trace, on every fabric and for all meters of this type.
abbrev pub HasValidStories : {M : Type 0} → (M → List CallRecord → List ℕ) → Type 0
HasValidStories {M} text =
    (slots : ℕ) (bytes : List ℕ) (t : Trace) (told : List Said) (old spare : List M) → IsTrace bytes t → EachFollows [] (lines bytes) told → t.changes ≡ []
    → IsValid slots t (steps_text text (story_said hears slots told) (handed_in old spare))
