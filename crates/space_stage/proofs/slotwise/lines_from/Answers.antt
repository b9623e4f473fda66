use Rattle.std.proofs.Common.{◌+◌, ◌*◌, ◌++◌, ℕ, get_or, sym, subst, ap, ◌∙◌}
use Rattle.space_stage.specs.Turning.{IsSquare, AreTurnedNumbers, row_of, octet_at}
use Rattle.space_stage.proofs.Turns.{is_square_of, turned_of, octet_of_square, same_square}
use Rattle.space_stage.proofs.SlotRows.{turned_numbers}
use Rattle.space_stage.proofs.slotwise.lines_from.Goals as goal

pub crossed-requires-clause-square : goal.crossed-requires-clause-square
crossed-requires-clause-square c = subst IsSquare (sym c.slots_from.ensures) (is_square_of (λ slot line. get_or c.args.numbers.now (c.args.from + line * 30 + slot) 0))

pub crossed-requires-clause-numbers : goal.crossed-requires-clause-numbers
crossed-requires-clause-numbers c = subst AreTurnedNumbers (sym c.slots_from.ensures) (turned_numbers c.args.numbers.now c.args.from c.requires.numbers)

pub turned-requires : goal.turned-requires
turned-requires c =
    subst IsSquare (sym c.crossed.ensures) (is_square_of (λ slot line. get_or (row_of c.args.low.now slot ++ row_of c.args.high.now slot) (octet_at c.slots_from.result slot line) 213))

pub returns : goal.returns
returns c =
    let low = c.args.low.now in
    let high = c.args.high.now in
    let numbers = c.args.numbers.now in
    let from = c.args.from in
    let slots = c.slots_from.result in
    let got : ℕ → ℕ → ℕ = λ slot line. get_or (row_of low slot ++ row_of high slot) (octet_at slots slot line) 213 in
    turned_of got c.crossed.result c.turned.result c.crossed.ensures c.turned.ensures
    ∙ same_square (λ line slot. got slot line) (λ line slot. get_or (row_of low slot ++ row_of high slot) (get_or numbers (from + line * 30 + slot) 0) 213)
    (λ line slot near within. ap (λ n. get_or (row_of low slot ++ row_of high slot) n 213)
    (ap (λ s. octet_at s slot line) c.slots_from.ensures ∙ octet_of_square (λ s l. get_or numbers (from + l * 30 + s) 0) slot line within near))
