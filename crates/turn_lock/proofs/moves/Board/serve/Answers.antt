use Rattle.std.proofs.Common.{rules, sym, ap, ◌∙◌, ◌∷◌, Some}
use Rattle.atomic_table.specs.Table.{rest}
use Rattle.turn_lock.proofs.moves.Board.serve.Goals as goal

pub exchange-requires : goal.exchange-requires
exchange-requires g c = (search rules, (Some c.requires.state.0, c.requires.state.1 ∙ (λ i. (0, Some c.requires.state.0) ∷ sym (ap rest c.requires.state.1) i)))
