use Rattle.command_words.proofs.Spelling.{decimal_no_other, numeral_spelled}
use Rattle.command_words.proofs.laws.law_of_numerals.Goals as goal

pub returns : goal.returns
returns c = record {
  spelled = numeral_spelled;
  no_other = decimal_no_other;
}
