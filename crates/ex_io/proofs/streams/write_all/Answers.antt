use Rattle.std.proofs.Common.{arith, take-add, length-drop, ◌∙◌}
use Rattle.std.proofs.lemmas.List.{take_rest}
use Rattle.std.proofs.KnownBytes.{Appends-trans}
use Rattle.ex_io.proofs.streams.write_all.Goals as goal

-- what was written before, and then a prefix of the rest
pub loop-done-preserved : goal.loop-done-preserved
loop-done-preserved g c =
    let inv = c.loop-done.invariant in
    let all = c.args.bytes.now in
    let done = c.loop-done.done in
    let bound = rw (take_rest all done) at c.in_ok-done.ensures.bound in
    let more = rw (take_rest all done) at c.in_ok-done.ensures.appended in
    record {
      within = omega (arith, inv.within, bound, length-drop done all);
      steady = c.in_ok-done.ensures.steady ∙ inv.steady;
      taken = rw (take-add done c.in_ok-done.field-0 all) (Appends-trans _ _ _ _ _ inv.taken more);
    }
