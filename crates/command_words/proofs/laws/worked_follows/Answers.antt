use Rattle.std.proofs.Common.{refl}
use Rattle.clap.proofs.OnLiterals.{clap_on_literals}
use Rattle.command_words.specs.Words.{strict_app, command_of, follow_of, takes_words, text_for}
use Rattle.command_words.proofs.laws.worked_follows.Goals as goal

pub returns : goal.returns
unfolding clap_on_literals strict_app takes_words text_for command_of follow_of
returns c = record {
  follow = refl;
  strict = refl;
  and_more = refl;
  twice = refl;
  another = refl;
  whole = refl;
}
