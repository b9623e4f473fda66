use Rattle.std.proofs.Common.{◌≡◌, ◌<◌, ◌++◌, List, ℕ, length, take, false, get_or, None, is_some, Ok, ap, sym, ◌∙◌, arith}
use Rattle.trace_text.specs.TraceFields.{octets_written, thirty}
use Rattle.trace_text.specs.TracePlain.{PartAt}
use Rattle.trace_text.proofs.PlainLemmas.{takes_part}
use Rattle.trace_text.proofs.plain.plain_part.Goals as goal

pub returns : goal.returns
returns c =
    let given = c.args.given.now in
    let line = c.in_ok-line.line in
    let part : PartAt c.args.rest.now line c.in_ok-line.sixty.now c.in_ok-line.others.now = grind arith in
    let within : line < length given = grind arith in
    let free : is_some (get_or given line None) ≡ false = rw (← c.from-place.ensures) (sym c.is_some.ensures ∙ c.if-is_some.false) in
    let halves : thirty (octets_written c.in_ok-line.sixty.now) ≡ Ok (take 14 c.in_ok-first.first ++ c.in_ok-first.last) = grind arith in
    let read = halves ∙ ap (λ (l : List ℕ). Ok l) (sym c.thirty_of.ensures) in
    rw c.from-place.ensures (takes_part given c.args.rest.now c.in_ok-line.sixty.now c.in_ok-line.others.now c.thirty_of.result line part within free read)
