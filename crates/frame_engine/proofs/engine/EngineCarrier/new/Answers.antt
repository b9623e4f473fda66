use Rattle.std.proofs.Common.{refl, rules}
use Rattle.frame_engine.proofs.engine.EngineCarrier.new.Goals as goal

pub returns-clause-carries : goal.returns-clause-carries
returns-clause-carries c = record {
  sizes = search rules;
  fades = record {
    taken = λ few at here near. search rules;
    crossed = λ few line slot here low. search rules;
    read = λ still at here near. search rules;
  };
  counted = record { inputs_counted = refl; held_counted = refl; ports_counted = refl };
  last = record {
    paths = search rules;
    quiet = search rules;
    taken = λ at here near. search rules;
    crossed = λ line slot here low. search rules;
  };
}
