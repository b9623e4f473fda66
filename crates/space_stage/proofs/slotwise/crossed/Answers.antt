use Rattle.std.proofs.Common.{◌≡◌, ℕ, ◌+◌, ◌<◌, ◌≤◌, ◌++◌, List, [], length, get_or, set, sym, subst, ◌∙◌, arith, rules}
use Rattle.std.proofs.lemmas.List.Edits.{fill_by_more}
use Rattle.space_stage.specs.Turning.{row_of, octet_at}
use Rattle.space_stage.proofs.Turns.{row_by, square_by_rows}
use Rattle.space_stage.proofs.SlotRows.{each_number, map_is_row}
use Rattle.space_stage.proofs.slotwise.crossed.Goals as goal

pub looked_up-requires : goal.looked_up-requires
looked_up-requires c =
    let k = c.loop-k.k in
    let near : k < 16 = search rules in
    each_number (row_of c.args.numbers.now k) (c.requires.square.octets k near) (λ at within. c.requires.numbers k at near within)

pub loop-k-preserved : goal.loop-k-preserved
loop-k-preserved c =
    let l = c.loop-k in
    let low = c.args.low.now in
    let high = c.args.high.now in
    let numbers = c.args.numbers.now in
    let f : ℕ → List ℕ = row_by (λ slot line. get_or (row_of low slot ++ row_of high slot) (octet_at numbers slot line) 213) in
    let near : l.k < 16 = search rules in
    let room : l.k < length l.octets = search rules in
    let is : c.looked_up.result ≡ f l.k = c.looked_up.ensures ∙ map_is_row (λ slot. row_of low slot ++ row_of high slot) (row_of numbers) l.k (c.requires.square.octets l.k near) in
    record {
      size = search rules;
      done = subst (λ v. (j : ℕ) → j < l.k + 1 → get_or (set l.octets l.k v) j [] ≡ f j) (sym is) (fill_by_more f l.octets l.k [] room l.invariant.done);
    }

pub returns : goal.returns
returns c = square_by_rows _ c.loop-k.octets c.loop-k.invariant.size (λ row near. c.loop-k.invariant.done row (search (rules, near)))
