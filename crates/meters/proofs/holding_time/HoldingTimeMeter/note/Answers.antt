use Rattle.std.proofs.Common.{rules}
use Rattle.meters.proofs.Registering.{held_more}
use Rattle.meters.proofs.holding_time.HoldingTimeMeter.note.Goals as goal

pub returns-clause-stands : goal.returns-clause-stands
returns-clause-stands c = λ calls held. held_more calls c.args.told.now c.args.self.now _ (search rules) (search rules) (search rules) held
