use Rattle.std.proofs.Common.{rules}
use Rattle.meters.proofs.Appending.{lines_of_pieces}
use Rattle.meters.proofs.call_detail.put_ring.Goals as goal

pub returns-clause-lines : goal.returns-clause-lines
returns-clause-lines c = rw (← lines_of_pieces c.args.out.now.items c.as_slices.result.0.now c.as_slices.result.1.now c.args.calls.now.items c.as_slices.ensures.items) (search rules)
