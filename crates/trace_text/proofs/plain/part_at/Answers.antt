use Rattle.std.proofs.Common.{◌≡◌, ◌-◌, ◌≤◌, List, ℕ, length, get_or, take, drop, true, arith}
use Rattle.trace_text.specs.TracePlain.{ends_word, NumberAt}
use Rattle.trace_text.proofs.PlainLemmas.{part_found}
use Rattle.trace_text.proofs.plain.part_at.Goals as goal

pub returns : goal.returns
returns c =
    let rest : List ℕ = c.args.rest.now in
    let behind : List ℕ = c.in_ok-line.behind.now in
    let after : List ℕ = take (length behind - 1) (drop 1 behind) in
    let others : List ℕ = c.in_ok-sixty.others.now in
    let number : NumberAt (take (length rest - 1) (drop 1 rest)) c.in_ok-line.line behind = grind arith in
    let space : get_or rest 0 0 ≡ 32 = grind arith in
    let mark : get_or behind 0 0 ≡ 58 = grind arith in
    let room : 60 ≤ length after = grind arith in
    let first : c.in_ok-sixty.sixty.now ≡ take 60 after = grind arith in
    let left : others ≡ drop 60 after = grind arith in
    let ends : ends_word others ≡ true = grind arith in
    rw first (part_found rest behind others c.in_ok-line.line c.in-32.len_at_least space number c.in-58.len_at_least mark room left ends)
