use Rattle.std.proofs.Common.{rules, ◌-◌, length, ap, ◌∙◌}
use Rattle.segment_run.proofs.LoadLemmas.{length-range_with_len}
use Rattle.segment_run.proofs.choice.is_short.Goals as goal

pub returns : goal.returns
returns c = rw (ap length c.event_range-first.ensures.all ∙ length-range_with_len c.event_range-first.result.0 (c.event_range-first.result.1 - c.event_range-first.result.0)) (search rules)
