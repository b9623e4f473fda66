use Rattle.std.proofs.Common.{sym, arith, ◌∙◌}
use Rattle.std.proofs.lemmas.Bool.Decides.{nat_tests}
use Rattle.report_reader.proofs.RowLemmas.{GoesOn_begun, pushed, row_shorter, rows_below, rows_end, rows_more, rows_none}
use Rattle.report_reader.proofs.rows.rows_of.Goals as goal

pub loop-rest-init : goal.loop-rest-init
loop-rest-init c = GoesOn_begun c.args.octets.now c.new-rows.result.items c.new-rows.ensures.items

pub returns-in_default : goal.returns-in_default
returns-in_default c =
    sym (rows_none _ _ _ c.loop-rest.invariant (λ e. absurd (grind (arith, nat_tests, e, c.is_empty.ensures, c.loop-rest-test.true))) (sym c.in_default.ensures.read))

pub returns-then-line-len : goal.returns-then-line-len
returns-then-line-len c =
    sym (rows_below _ _ _ _ _ c.loop-rest.invariant (λ e. absurd (grind (arith, nat_tests, e, c.is_empty.ensures, c.loop-rest-test.true))) (sym c.in-Some.ensures.read)
    (omega (arith, c.if-line-len.true, c.len.ensures, c.from-line.ensures)))

pub loop-rest-smaller : goal.loop-rest-smaller
loop-rest-smaller c = row_shorter c.loop-rest.rest.now c.in-Some.sent c.in-Some.others.now (sym c.in-Some.ensures.read)

pub loop-rest-preserved : goal.loop-rest-preserved
loop-rest-preserved c =
    rows_more _ _ _ _ _ _ c.loop-rest.invariant (λ e. absurd (grind (arith, nat_tests, e, c.is_empty.ensures, c.loop-rest-test.true))) (sym c.in-Some.ensures.read)
    (omega (arith, c.if-line-len.false, c.len.ensures, c.from-line.ensures))
    (pushed c.in-Some.sent c.from-line.result c.loop-rest.rows.items c.fill_before.new.rows.items c.push.new.self.items c.row_of.result c.from-line.ensures c.in_ok-fill_before.ensures
    (c.row_of.ensures ∙ c.as_slice.ensures.octets) c.in_ok-push.ensures.items)

pub returns : goal.returns
returns c = rw c.of.ensures (sym (rows_end _ _ _ c.loop-rest.invariant (grind (arith, nat_tests, c.is_empty.ensures, c.loop-rest-test.false))))
