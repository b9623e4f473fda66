use Rattle.std.proofs.Common.{refl}
use Rattle.clap.proofs.OnLiterals.{clap_on_literals}
use Rattle.command_words.specs.Words.{command_of, strict_app, takes_words, text_for}
use Rattle.command_words.proofs.laws.worked_runs.Goals as goal

pub returns : goal.returns
unfolding clap_on_literals strict_app takes_words text_for command_of
returns c = record {
  run = refl;
  strict = refl;
  ended = refl;
  strict_ended = refl;
  and_more = refl;
  strict_and_more = refl;
  too_late = refl;
  twice = refl;
  with_a_value = refl;
  too_early = refl;
}
