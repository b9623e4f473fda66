use Rattle.command_words.proofs.Plain.{command_of_plain_texts}
use Rattle.command_words.proofs.laws.law_of_plain_texts.Goals as goal

pub returns : goal.returns
returns c = command_of_plain_texts
