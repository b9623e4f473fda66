use Rattle.std.proofs.Common.{sym, ◌∙◌, arith}
use Rattle.std.proofs.lemmas.Grind.{common_steps}
use Rattle.q931_codec.proofs.Messages.{reading_message, read_message}
use Rattle.q931_codec.proofs.message.read.Goals as goal

pub returns-in-8-clause-computed : goal.returns-in-8-clause-computed
returns-in-8-clause-computed c = grind (arith, common_steps)

pub returns-in-8-clause-found : goal.returns-in-8-clause-found
returns-in-8-clause-found c = read_message c.args.octets.now _ (λ i. omega (arith, c.type_inv.octets i)) (sym (returns-in-8-clause-computed c))

pub returns-in-8-clause-only : goal.returns-in-8-clause-only
returns-in-8-clause-only c m is = returns-in-8-clause-computed c ∙ reading_message c.args.octets.now m is
