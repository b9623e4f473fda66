use Rattle.std.proofs.Common.{sym, arith}
use Rattle.std.proofs.lemmas.Bool.Decides.{nat_tests}
use Rattle.report_reader.proofs.SignalLemmas.{GoesOn_begun, front_shorter, signals_empty, signals_end, signals_more, signals_none}
use Rattle.report_reader.proofs.signals.signals_at.Goals.{in-Some+then-is_empty, in_default}
use Rattle.report_reader.proofs.signals.signals_at.Goals as goal

pub loop-front-init : goal.loop-front-init
loop-front-init c = GoesOn_begun c.args.word.now c.args.octets.now c.new-sends.result.items c.new-sends.ensures.items

pub returns-in_default-signal_at : goal.returns-in_default-signal_at
returns-in_default-signal_at c =
    sym (signals_none _ _ _ _ _ c.loop-front.invariant (sym c.in-Some.ensures) (λ e. absurd (grind (arith, nat_tests, e, c.is_empty.ensures, c.if-is_empty.false))) (sym c.in_default-signal_at.ensures))

pub loop-front-smaller : goal.loop-front-smaller
loop-front-smaller c = front_shorter c.args.word.now c.loop-front.rest.now c.in-Some.front.now c.in-Some-signal_at.others.now c.in-Some-signal_at.signal (sym c.in-Some.ensures) (sym c.in-Some-signal_at.ensures)

pub loop-front-preserved : goal.loop-front-preserved
loop-front-preserved c =
    signals_more _ _ _ _ _ _ _ _ c.loop-front.invariant (sym c.in-Some.ensures) (λ e. absurd (grind (arith, nat_tests, e, c.is_empty.ensures, c.if-is_empty.false)))
    (sym c.in-Some-signal_at.ensures) c.in_ok-push.ensures.items

pub returns : goal.returns
returns c = rw c.of.ensures (sym (elim c.match-behind.branch [
  | in-Some+then-is_empty w ↦
      signals_empty _ _ _ _ _ c.loop-front.invariant (sym w.in-Some.ensures) (grind (arith, nat_tests, w.is_empty.ensures, w.if-is_empty.true))
  | in_default w ↦ signals_end _ _ _ _ c.loop-front.invariant (sym w.in_default.ensures)
]))
