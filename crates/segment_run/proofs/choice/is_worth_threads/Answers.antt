use Rattle.std.proofs.Common.{◌<◌, ◌∙◌, ap, arith, get_or, length, take}
use Rattle.std.proofs.lemmas.List.{take_more}
use Rattle.segment_run.specs.Choice.{events_beside, largest_part}
use Rattle.segment_run.proofs.ChoiceLemmas.{beside_more, largest_more}
use Rattle.segment_run.proofs.choice.is_worth_threads.Goals as goal

pub loop-load-preserved : goal.loop-load-preserved
loop-load-preserved c =
    let inv = c.loop-load.invariant in
    let done = take c.loop-load.load-index c.args.loads.now in
    let n = get_or c.args.loads.now c.loop-load.load-index 0 in
    let below = c.loop-load-test.true in
    let long = c.told-loads in
    let within : c.loop-load.load-index < length c.args.loads.now = omega (arith, below, long) in
    let more = take_more c.args.loads.now c.loop-load.load-index 0 within in
    let most = ap largest_part more ∙ largest_more done n in
    let beside = ap events_beside more ∙ beside_more done n in
    record {
      largest_is = let m = c.max-largest.ensures in omega (arith, m, most, inv.largest_is);
      beside_is = let m = c.min.ensures in let a = c.saturating_add-beside.ensures in omega (arith, m, a, beside, inv.largest_is, inv.beside_is);
    }
