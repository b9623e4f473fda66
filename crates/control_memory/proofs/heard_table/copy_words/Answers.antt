use Rattle.std.proofs.Common.{◌∙◌, sym, arith}
use Rattle.std.proofs.lemmas.List.{ext_get_or}
use Rattle.control_memory.specs.declared.heard.Heard.TheVariants.{Silent}
use Rattle.control_memory.proofs.heard_table.copy_words.Goals as goal

pub returns : goal.returns
returns c =
    ext_get_or Silent c.loop-pair.to c.args.from.now (c.loop-pair.invariant.size ∙ sym c.requires.from) (λ k inside. c.loop-pair.invariant.copied k (omega (arith, inside, c.loop-pair.invariant.size, c.loop-pair-test.false)))
