use Rattle.std.proofs.Common.{◌≡◌, ◌<◌, ◌+◌, [], ◌∷◌, ◌++◌, ℕ, length, sym, ap, ◌∙◌, subst, arith}
use Rattle.std.proofs.lemmas.Bool.Decides.{nat_tests}
use Rattle.std.proofs.lemmas.List.{nil_from_length}
use Rattle.std.proofs.lemmas.Option.{MatchOption-at_none, MatchOption-at_some}
use Rattle.run_verifier.specs.Verdicts.{IsInvalidAt}
use Rattle.run_verifier.specs.Verifying.{HasGoneOn, IsStuck}
use Rattle.run_verifier.proofs.EndLemmas.{invalid_here, read_more, read_none, IsInvalidAt_too_long, valid_here}
use Rattle.run_verifier.proofs.replaying.verdict_on.Goals as goal

pub loop-number-init : goal.loop-number-init
loop-number-init g c = record {
  reading = λ slots done. record {
    order = [];
    read = read_none slots c.args.trace.now c.args.report.now;
    underway = record { done = done; within = c.new-turns.ensures.within; passed = c.new-turns.ensures.turns; left = c.new-turns.ensures.left };
  };
}

pub next_line-requires-clause-begun : goal.next_line-requires-clause-begun
next_line-requires-clause-begun g c lifetimes outlive =
    let (slots, done) = c.requires.fresh in
    let r = c.loop-number.invariant.reading slots done in
    let count : length c.as_slice.result.now ≡ length c.args.trace.now.events = ap length c.as_slice.ensures in
    let read = r.read.count in
    (slots, r.order, r.underway, omega (arith, count, read, c.loop-number-test.true))

pub returns-in_default : goal.returns-in_default
returns-in_default g c =
    let trace = c.args.trace.now in
    let text = c.loop-number.text.now in
    let y = c.next_line.new in
    let count : length c.as_slice.result.now ≡ length trace.events = ap length c.as_slice.ensures in
    let within : c.loop-number.number < length trace.events = omega (arith, count, c.loop-number-test.true) in
    record {
      right = λ slots done.
          let r = c.loop-number.invariant.reading slots done in
          let stuck = MatchOption-at_none (IsStuck slots trace r.order text) (λ behind. HasGoneOn slots trace r.order text behind.now y.turns y.exchange) c.in_default.is
          (c.in_ok-behind.ensures.next slots r.order r.underway) in
          invalid_here slots trace r.order c.args.report.now text c.loop-number.number c.requires.sound r.read within stuck;
    }

pub loop-number-preserved : goal.loop-number-preserved
loop-number-preserved g c =
    let trace = c.args.trace.now in
    let text = c.loop-number.text.now in
    let y = c.next_line.new in
    record {
      reading = λ slots done.
          let r = c.loop-number.invariant.reading slots done in
          let step = MatchOption-at_some (IsStuck slots trace r.order text) (λ behind. HasGoneOn slots trace r.order text behind.now y.turns y.exchange) c.in-Some.behind c.in-Some.is
          (c.in_ok-behind.ensures.next slots r.order r.underway) in
          record {
            order = r.order ++ step.goes.number ∷ [];
            read = read_more slots trace r.order c.args.report.now text c.in-Some.behind.now c.loop-number.number r.read step.goes;
            underway = step.underway;
          };
    }

pub returns-then-is_empty : goal.returns-then-is_empty
returns-then-is_empty g c =
    let trace = c.args.trace.now in
    let text = c.loop-number.text.now in
    let count : length c.as_slice.result.now ≡ length trace.events = ap length c.as_slice.ensures in
    let all : c.loop-number.number ≡ length trace.events = omega (arith, count, c.loop-number-test.false, c.loop-number.auto.number-end) in
    record {
      right = λ slots done.
          let r = c.loop-number.invariant.reading slots done in
          valid_here slots trace r.order c.args.report.now text c.loop-number.number c.requires.sound r.read all (nil_from_length text (grind (arith, nat_tests, c.is_empty.ensures, c.if-is_empty.true)));
    }

pub returns : goal.returns
returns g c =
    let trace = c.args.trace.now in
    let text = c.loop-number.text.now in
    let count : length c.as_slice.result.now ≡ length trace.events = ap length c.as_slice.ensures in
    let all : c.loop-number.number ≡ length trace.events = omega (arith, count, c.loop-number-test.false, c.loop-number.auto.number-end) in
    let count_again : length c.as_slice-2.result.now ≡ c.loop-number.number = ap length c.as_slice-2.ensures ∙ sym all in
    record {
      right = λ slots done.
          let r = c.loop-number.invariant.reading slots done in
          subst (λ (n : ℕ). IsInvalidAt slots trace c.args.report.now (n + 1)) (sym count_again)
          (IsInvalidAt_too_long slots trace r.order c.args.report.now text c.loop-number.number c.requires.sound r.read all
          (λ (empty : text ≡ []). let none : length text ≡ 0 = ap length empty in absurd (grind (arith, nat_tests, none, c.is_empty.ensures, c.if-is_empty.false))));
    }
