use Rattle.std.proofs.Common.{IsTrue, rules, sym}
use Rattle.segment_run.proofs.MergeLemmas.{if_err}
use Rattle.segment_run.proofs.apart.merge_or_truncate.Goals as goal

pub returns-then-not-whole-clause-kept : goal.returns-then-not-whole-clause-kept
returns-then-not-whole-clause-kept g c kept held apart = held

pub returns-then-is_err-clause-kept : goal.returns-then-is_err-clause-kept
returns-then-is_err-clause-kept g c = if_err c.merge-done.result (λ still kept held apart.
    let whole : IsTrue c.args.whole = search rules in
    let a = apart whole in
    let s = still kept a.parts held a.kept a.apart in
    c.truncate.ensures kept s.more s.held (sym (c.len-kept.ensures kept held))) c.merge-done.ensures.refused
