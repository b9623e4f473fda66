use Rattle.std.proofs.Common.{List, ◌∙◌, ap}
use Rattle.circuit_model.specs.Hears.{hears}
use Rattle.meters.specs.Changing.{Step, handed_in, steps_text}
use Rattle.linked_text.specs.LinkEffects.{plain_told}
use Rattle.linked_exchange.proofs.PlainInTurn.{plain_story}
use Rattle.exchange_laws.proofs.StoryLemmas.{run_lines, plain_lines}
use Rattle.exchange_laws.proofs.story_laws.law_of_stories.Goals as goal

pub returns-clause-run : goal.returns-clause-run
returns-clause-run g c = run_lines

pub returns-clause-followed : goal.returns-clause-followed
returns-clause-followed g c = λ slots sizes told old spare is.
    ap (λ (steps : List Step). steps_text g.M.Meter.text steps (handed_in old spare)) (plain_story hears slots told is.plain)
    ∙ plain_lines g.M.Meter.text (handed_in old spare) slots sizes (plain_told told) is.header is.unchanged
