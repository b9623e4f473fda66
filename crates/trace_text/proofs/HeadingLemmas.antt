-- A line that a heading read.
use Rattle.std.proofs.Common.{◌≡◌, ◌<◌, ◌≤◌, List, ℕ, Result, Ok, Err, refl, subst}
use Rattle.std.proofs.lemmas.Bool.{lt-ltb, le-ltb}
use Rattle.std.specs.Prelude.{OnOk, IfOk}
use Rattle.trace_text.specs.declared.fault.LineError.{LineError}
use Rattle.trace_text.specs.declared.heading.Happening.{Happening}
use Rattle.trace_text.specs.declared.limits.Limits.{Limits}
use Rattle.exchange_events.specs.declared.trace.Event.{Event}
use Rattle.trace_text.specs.declared.fault.Reason.{Reason}
use Rattle.trace_text.specs.declared.fault.Reason.TheVariants.{Limit}
use Rattle.trace_text.specs.declared.heading.Happening.TheVariants as happening
use Rattle.trace_text.specs.declared.said.Said.{Said}
use Rattle.trace_text.specs.declared.said.Said.TheVariants.{Happens}
use Rattle.trace_text.specs.TraceLines.{SoFar, reads, joins, says, trace_limits}
use Rattle.trace_text.specs.TraceHeading.{happening_of, with_event, with_said, Suits, IsLineRead}
use Rattle.trace_text.proofs.TraceParts.{says_both}
use Rattle.trace_text.proofs.TraceHolds.{known_behind}

pub line_read : (limits : Limits) (before after : SoFar) (line : List ℕ) (said : Said) (r : Result Happening LineError) → reads before line ≡ Ok said → Suits before said
    → OnOk r (after ≡ with_said before said) → IfOk r (λ h. h ≡ happening_of said) → OnOk r (joins limits before said ≡ Ok said) → IfOk r (λ h. IsLineRead limits before line h after)
line_read limits before after line said (Ok h) read suits known happens joined = record {
  said = said;
  meets = says_both limits before line said read joined;
  happens = happens;
  known = known;
  behind = known_behind before after said suits known;
}
line_read limits before after line said (Err e) read suits known happens joined = tt

-- a line that is an event, within the limits
pub event_read : (limits : Limits) (before after : SoFar) (line : List ℕ) (event : Event) → limits ≡ trace_limits → reads before line ≡ Ok (Happens event) → before.events < limits.max_events
    → after ≡ with_event before → IsLineRead trace_limits before line (happening.Event event) after
event_read limits before after line event same read few known =
    let joined : joins limits before (Happens event) ≡ Ok (Happens event) = rw (lt-ltb before.events limits.max_events few) refl in
    subst (λ l. IsLineRead l before line (happening.Event event) after) same (record {
      said = Happens event;
      meets = says_both limits before line (Happens event) read joined;
      happens = refl;
      known = known;
      behind = known_behind before after (Happens event) tt known;
    })

-- and beyond them
pub event_refused : (limits : Limits) (before : SoFar) (line : List ℕ) (event : Event) (why : Reason) → limits ≡ trace_limits → reads before line ≡ Ok (Happens event) → why ≡ Limit
    → limits.max_events ≤ before.events → says trace_limits before line ≡ Err why
event_refused limits before line event why same read is many =
    let none : says limits before line ≡ Err Limit = rw (read, le-ltb before.events limits.max_events many) refl in
    rw is (subst (λ l. says l before line ≡ Err Limit) same none)
