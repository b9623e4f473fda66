use Rattle.std.proofs.Common.{refl}
use Rattle.clap.proofs.OnLiterals.{clap_on_literals}
use Rattle.command_words.specs.Words.{command_of, gen_app, takes_words, text_for}
use Rattle.command_words.proofs.laws.worked_generations.Goals as goal

pub returns : goal.returns
unfolding clap_on_literals gen_app takes_words text_for command_of
returns c = record {
  ended = refl;
  last = refl;
  and_less = refl;
  and_one_more = refl;
  strict = refl;
  help = refl;
}
