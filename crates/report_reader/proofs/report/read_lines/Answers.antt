use Rattle.std.proofs.Common.{◌+◌, ℕ, List, arith}
use Rattle.std.proofs.lemmas.Option.{MatchOption-at_none, MatchOption-at_some}
use Rattle.exchange_events.specs.declared.answer.Answer.{Answer}
use Rattle.report_reader.specs.Spelling.{Spells}
use Rattle.report_reader.proofs.FeedLemmas.{IsCut}
use Rattle.report_reader.proofs.ReportLemmas.{lost_line, read_more}
use Rattle.report_reader.proofs.report.read_lines.Goals as goal

pub returns-in_default-2-clause-refused : goal.returns-in_default-2-clause-refused
returns-in_default-2-clause-refused c =
    let line : List ℕ = c.in-Some.line.now in
    let cut : IsCut c.loop-rest.rest.now line c.in-Some.others.now = record { there = c.in-Some.ensures.0; first = c.in-Some.ensures.1 } in
    let none = MatchOption-at_none ((answer : Answer) → Spells line answer → ⊥) (λ (answer : Answer). Spells line answer) c.in_default-2.is c.in_ok-answer.ensures.spelled in
    lost_line c.args.bytes.now c.loop-rest.answers.items c.loop-rest.rest.now line c.in-Some.others.now (c.len.result + 1) c.loop-rest.invariant cut none (omega (arith, c.len.ensures, c.loop-rest.answers.ok.0))

pub loop-rest-preserved : goal.loop-rest-preserved
loop-rest-preserved c =
    let line : List ℕ = c.in-Some.line.now in
    let spells = MatchOption-at_some ((answer : Answer) → Spells line answer → ⊥) (λ (answer : Answer). Spells line answer) c.in-Some-2.answer c.in-Some-2.is c.in_ok-answer.ensures.spelled in
    read_more c.args.bytes.now c.loop-rest.answers.items c.push.new.self.items c.loop-rest.rest.now line c.in-Some.others.now c.in-Some-2.answer c.loop-rest.invariant c.in-Some.ensures.0 spells c.in_ok-push.ensures.items
