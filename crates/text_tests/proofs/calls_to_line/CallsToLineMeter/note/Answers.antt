use Rattle.std.proofs.Common.{rules}
use Rattle.text_tests.proofs.CountLemmas.{count_more}
use Rattle.text_tests.proofs.calls_to_line.CallsToLineMeter.note.Goals as goal

pub returns-then-is_to-clause-stands : goal.returns-then-is_to-clause-stands
returns-then-is_to-clause-stands c = λ calls is. count_more calls c.args.told.now c.args.self.now _ _ (search rules) (search rules) (search rules) is
