use Rattle.command_words.proofs.Spelling.{command_of_asked}
use Rattle.command_words.proofs.laws.law_of_asking.Goals as goal

pub returns : goal.returns
returns c = command_of_asked
