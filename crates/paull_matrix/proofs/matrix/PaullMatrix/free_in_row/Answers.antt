use Rattle.std.proofs.Common.{sym, refl, ◌∙◌}
use Rattle.paull_matrix.proofs.Laws.{row_lacks_one}
use Rattle.paull_matrix.proofs.Tables.{row_word_lowest}
use Rattle.paull_matrix.proofs.matrix.PaullMatrix.free_in_row.Goals as goal

pub unreachable-requires : goal.unreachable-requires
unreachable-requires g c =
    row_lacks_one c.args.self.now c.args.i c.args.self.now.slots refl c.requires.room
    (row_word_lowest c.self.inside.lines c.self.inside.slots c.self.inside.columns.items c.self.inside.rows.items c.self.inside.row_words.items c.self.inside.column_words.items _ c.args.i c.from.result c.index.result.now c.self.invariant c.self.view_is c.requires.row c.from.ensures c.index.ensures
    ∙ sym c.lowest_missing.ensures.lowest ∙ c.in-None.is)

pub returns-clause-lowest : goal.returns-clause-lowest
returns-clause-lowest g c =
    row_word_lowest c.self.inside.lines c.self.inside.slots c.self.inside.columns.items c.self.inside.rows.items c.self.inside.row_words.items c.self.inside.column_words.items _ c.args.i c.from.result c.index.result.now c.self.invariant c.self.view_is c.requires.row c.from.ensures c.index.ensures
    ∙ sym c.lowest_missing.ensures.lowest ∙ c.in-Some.is
