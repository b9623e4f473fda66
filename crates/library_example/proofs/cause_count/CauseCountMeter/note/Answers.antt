use Rattle.std.proofs.Common.{rules}
use Rattle.library_example.proofs.CountLemmas.{count_more}
use Rattle.library_example.proofs.cause_count.CauseCountMeter.note.Goals as goal

pub returns-then-told-self-clause-stands : goal.returns-then-told-self-clause-stands
returns-then-told-self-clause-stands c = λ calls is. count_more calls c.args.told.now c.args.self.now _ _ (search rules) (search rules) (search rules) is
