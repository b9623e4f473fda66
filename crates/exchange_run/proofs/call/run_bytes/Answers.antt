use Rattle.std.proofs.Common.{◌∙◌, ap, Err}
use Rattle.run_verifier.specs.declared.ending.Ending.TheVariants as ended
use Rattle.exchange_run.specs.Endings.{For_run}
use Rattle.exchange_run.proofs.Endings.{ends_at_once, ends_line, ends_run}
use Rattle.exchange_run.proofs.Sums.{keeps}
use Rattle.linked_exchange.proofs.Tellings.{none_left}
use Rattle.trace_text.proofs.SoundLemmas.{sound_trace}
use Rattle.exchange_run.proofs.call.run_bytes.Goals as goal

pub run_trace-requires-clause-sound : goal.run_trace-requires-clause-sound
run_trace-requires-clause-sound g c lifetimes outlive = sound_trace _ c.in-Ok.trace c.in-Ok.ensures.read

pub returns-in-Ok-clause-ends : goal.returns-in-Ok-clause-ends
returns-in-Ok-clause-ends g c arguments input asked read =
    let is = rw c.as_slice.ensures.value at c.in-Ok.ensures.read in
    ends_run arguments input _ c.args.strict c.in-Ok.trace _
    (record { asked = asked; bytes = c.args.bytes.items; read = record { front = read.front; ended = read.whole is.few }; is_trace = is }) c.run_trace.ensures.runs

pub returns-in-Ok-refusal-clause-ends : goal.returns-in-Ok-refusal-clause-ends
returns-in-Ok-refusal-clause-ends g c arguments input asked read =
    let told = c.in-Err-Line.ensures.refused c.in-Err-Line.number c.in-Err-Line.reason (ap Err c.in-Err-Line.field-0-is) in
    let refused = rw c.as_slice.ensures.value at told in
    ends_line arguments input _ (ended.Refused c.in-Err-Line.number c.in-Err-Line.reason) c.refuse.result.ending _ (For_run (c.args.strict, asked) c.args.bytes.items read refused)
    (c.as_slice-in-Ok-refusal.ensures.value ∙ c.in-Ok-refusal.ensures) c.refuse.ensures.answer
    (record { order = c.refuse.ensures.none; meters = none_left _ _ _ _; engine = c.refuse.ensures.engine })

pub returns-in-Err-Memory-clause-ends : goal.returns-in-Err-Memory-clause-ends
returns-in-Err-Memory-clause-ends g c arguments input asked read =
    let e = c.idle.ensures in
    ends_at_once arguments input _ _ e.ending (keeps _) (record { order = e.none; meters = none_left _ _ _ _; engine = e.engine })

pub returns-clause-ends : goal.returns-clause-ends
returns-clause-ends g c arguments input asked read =
    let e = c.idle-in-Err.ensures in
    ends_at_once arguments input _ _ e.ending (keeps _) (record { order = e.none; meters = none_left _ _ _ _; engine = e.engine })
