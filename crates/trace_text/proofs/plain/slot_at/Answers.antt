use Rattle.std.proofs.Common.{◌≡◌, ◌-◌, ◌<◌, List, ℕ, length, get_or, take, drop, Some, arith}
use Rattle.std.proofs.lemmas.Bool.Decides.{nat_tests}
use Rattle.circuit_model.specs.Channels.{place_of}
use Rattle.trace_text.specs.TracePlain.{NumberAt}
use Rattle.trace_text.proofs.PlainLemmas.{slot_found}
use Rattle.trace_text.proofs.plain.slot_at.Goals as goal

pub returns : goal.returns
returns c =
    let behind : List ℕ = c.in_ok-line.behind.now in
    let first : NumberAt c.args.octets.now c.in_ok-line.line behind = grind arith in
    let mark : get_or behind 0 0 ≡ 47 = grind arith in
    let second : NumberAt (take (length behind - 1) (drop 1 behind)) c.in_ok-channel.channel c.in_ok-channel.others.now = grind arith in
    let within : c.in_ok-line.line < c.args.external = grind (arith, nat_tests) in
    let found : place_of c.in_ok-channel.channel ≡ Some c.in_ok-place.place = grind arith in
    slot_found c.args.external c.args.octets.now behind c.in_ok-channel.others.now c.in_ok-line.line c.in_ok-channel.channel c.in_ok-place.place first c.in-47.len_at_least mark second within found
