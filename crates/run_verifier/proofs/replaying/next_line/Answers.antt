use Rattle.std.proofs.Common.{◌++◌, List, ℕ, None, Some, refl, sym, ap, ◌∙◌}
use Rattle.std.proofs.lemmas.Bool.Decides.{Decides-eqb}
use Rattle.std.proofs.lemmas.Slice.Eq.{strip_prefix_is}
use Rattle.exchange_events.specs.Orders.{IsEvent}
use Rattle.exchange_events.proofs.EventNumbers.{event_there}
use Rattle.run_verifier.proofs.NextLemmas.{no_line, no_number, no_turn}
use Rattle.run_verifier.proofs.replaying.next_line.Goals as goal

pub returns-in_default : goal.returns-in_default
returns-in_default g c = record { next = λ slots order underway. no_number slots c.args.trace.now order c.args.text.now c.requires.sound (sym c.in_default.ensures) }

pub returns-then-not-may_come : goal.returns-then-not-may_come
returns-then-not-may_come g c = record {
  next = λ slots order underway. no_turn slots c.args.trace.now order c.args.text.now c.requires.sound c.in-Some.event c.in-Some.field-0-1.now (sym c.in-Some.ensures)
      (λ may. let no = c.if-not-may_come.ensures.may_not order underway.passed may in absurd cc);
}

pub returns-in_default-strip_prefix : goal.returns-in_default-strip_prefix
returns-in_default-strip_prefix g c =
    let n = c.in-Some.event in
    let known : IsEvent c.args.trace.now n = (c.if-not-may_come.ensures.next refl).known in
    let e = event_there c.args.trace.now n known in
    record {
      next = λ slots order underway. no_line slots c.args.trace.now order c.args.text.now c.requires.sound n e.0 c.in-Some.field-0-1.now c.line_of.new.line.items (sym c.in-Some.ensures) e.1
          (c.in_ok-line_of.ensures.line slots order e.0 underway.done e.1)
          (λ behind there. strip_prefix_is Decides-eqb c.args.text.now c.as_slice.result.now None c.in_default-strip_prefix.ensures.cases behind (there ∙ ap (λ (l : List ℕ). l ++ behind) (sym c.as_slice.ensures.value)));
    }

pub returns : goal.returns
returns g c =
    let n = c.in-Some.event in
    let known : IsEvent c.args.trace.now n = (c.if-not-may_come.ensures.next refl).known in
    let e = event_there c.args.trace.now n known in
    record {
      next = λ slots order underway. record {
        goes = record {
          number = n;
          event = e.0;
          may = c.if-not-may_come.ensures.may order underway.passed refl;
          numbered = e.1;
          line = strip_prefix_is Decides-eqb c.args.text.now c.as_slice.result.now (Some c.in-Some-strip_prefix.behind) c.in-Some-strip_prefix.ensures.cases
              ∙ ap (λ (l : List ℕ). l ++ c.in-Some-strip_prefix.behind.now) (c.as_slice.ensures.value ∙ c.in_ok-line_of.ensures.line slots order e.0 underway.done e.1);
        };
        underway = record {
          done = c.line_of.ensures.done slots order underway.done;
          within = c.pass.ensures.within;
          passed = c.pass.ensures.turns order underway.passed;
          left = c.pass.ensures.left;
        };
      };
    }
