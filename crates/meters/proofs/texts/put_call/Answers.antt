use Rattle.std.proofs.Common.{◌≡◌, subst}
use Rattle.std.specs.Result.{OnOk}
use Rattle.meters.proofs.Appending.{line_of_words}
use Rattle.meters.proofs.texts.put_call.Goals as goal

pub returns-clause-line : goal.returns-clause-line
returns-clause-line c = subst (λ text. OnOk c.put_figures.result (c.put_figures.new.out.items ≡ text)) (line_of_words c.args.out.now.items c.put_caller.new.out.items c.put_called.new.out.items c.args.call.now c.in_ok-put_caller.ensures.caller c.in_ok-put_called.ensures.called) c.put_figures.ensures.figures
