use Rattle.std.proofs.Common.{◌≡◌, ◌-◌, ◌<◌, List, ℕ, length, get_or, take, drop, Ok, arith}
use Rattle.std.proofs.lemmas.Bool.Decides.{nat_tests}
use Rattle.trace_text.specs.TraceFields.{at_most, max_message_len, octets_written}
use Rattle.trace_text.specs.TracePlain.{NumberAt}
use Rattle.trace_text.proofs.PlainLemmas.{message_gives}
use Rattle.trace_text.proofs.plain.plain_message.Goals as goal

pub returns : goal.returns
returns c =
    let line : List ℕ = c.args.line.now in
    let rest : List ℕ = c.in_ok-number.behind.now in
    let digits : List ℕ = take (length rest - 1) (drop 1 rest) in
    let p : get_or line 0 0 ≡ 77 = grind arith in
    let q : get_or line 1 0 ≡ 32 = grind arith in
    let number : NumberAt (take (length line - 2) (drop 2 line)) c.in_ok-number.number rest = grind arith in
    let space : get_or rest 0 0 ≡ 32 = grind arith in
    let within : c.in_ok-number.number < c.args.external = grind (arith, nat_tests) in
    let filled : 0 < length digits = grind (arith, nat_tests) in
    let read : at_most max_message_len (octets_written digits) ≡ Ok c.in_ok-octets.octets = grind arith in
    message_gives c.args.external line rest c.in_ok-octets.octets c.in_ok-number.number c.in-77.len_at_least p q number c.in-32.len_at_least space within filled read
