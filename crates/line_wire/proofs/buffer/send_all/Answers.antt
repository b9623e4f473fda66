use Rattle.std.proofs.Common.{arith, take, drop, take-add, length-drop, ◌∙◌, append_assoc, sym}
use Rattle.std.proofs.lemmas.List.{take_rest, take-append-drop}
use Rattle.line_wire.proofs.Steps.{on_err_any}
use Rattle.line_wire.proofs.buffer.send_all.Goals as goal

pub loop-done-preserved : goal.loop-done-preserved
loop-done-preserved g c =
    let inv = c.loop-done.invariant in
    let all = c.args.bytes.now in
    let done = c.loop-done.done in
    let bound = rw (take_rest all done) at c.in_ok-done.ensures.bound in
    let more = rw (take_rest all done) at c.in_ok-done.ensures.said in
    record {
      within = let w = inv.within in omega (arith, w, bound, length-drop done all);
      told = λ heard said stood.
          rw (take-add done c.in_ok-done.field-0 all, ← append_assoc) (more heard _ (inv.told heard said stood));
      steady = c.in_ok-done.ensures.steady ∙ inv.steady;
      reads = c.in_ok-done.ensures.reads ∙ inv.reads;
      end = λ was. c.in_ok-done.ensures.end (inv.end was);
    }

pub returns-in_err-done-clause-front : goal.returns-in_err-done-clause-front
returns-in_err-done-clause-front g c = on_err_any c.from_residual.result (λ heard said stood. (
  take c.loop-done.done c.args.bytes.now,
  drop c.loop-done.done c.args.bytes.now,
  sym (take-append-drop c.loop-done.done c.args.bytes.now),
  c.in_err-done.ensures.kept heard _ (c.loop-done.invariant.told heard said stood),
))
