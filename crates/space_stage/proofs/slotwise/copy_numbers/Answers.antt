use Rattle.std.proofs.Common.{◌≡◌, ◌≢◌, ℕ, ◌+◌, ◌-◌, ◌*◌, ◌<◌, ◌≤◌, None, length, get_or, sym, ap, subst, ◌∙◌, inl, inr, arith, rules}
use Rattle.std.proofs.lemmas.Bool.{cases_lt}
use Rattle.std.proofs.lemmas.List.{get_or_past}
use Rattle.control_memory.specs.Tables.{IsRow, entry, number_in}
use Rattle.space_stage.proofs.SlotRows.{length-after, entries_more, within_more, rest_more}
use Rattle.space_stage.proofs.slotwise.copy_numbers.Goals as goal

pub loop-line-init : goal.loop-line-init
loop-line-init c =
    let numbers = c.args.numbers.now in
    record {
      size = search rules;
      entries = λ row at none near. absurd (omega (arith, none));
      within = λ i past. elim (cases_lt i 960) [
        | inl inside ↦ c.requires.empty i inside
        | inr beyond ↦ absurd (omega (arith, past, c.requires.some, get_or_past numbers i 0 (search (rules, beyond))))
      ];
      rest = λ i _ inside. c.requires.empty i inside;
    }

pub loop-line-preserved : goal.loop-line-preserved
loop-line-preserved c =
    let t = c.args.table.now in
    let l = c.loop-line in
    let bytes = c.row-bytes.result.now in
    let a = c.from-start.result * 30 in
    let k = a + 30 - a in
    let starts : a ≡ l.line * 30 = search rules in
    let wide : k ≡ 30 = omega arith in
    let new = c.copy_row.new.to in
    let row_inside : l.line < t.rows = search rules in
    let room : a + k ≤ length l.numbers = omega (arith, starts, wide, row_inside, c.requires.rows, l.invariant.size) in
    let thirty : length new ≡ 30 = search rules in
    let fits : length new ≡ k = thirty ∙ sym wide in
    let is : IsRow 30 t.limit (entry t l.line) bytes = subst (λ (w : ℕ). IsRow w t.limit (entry t l.line) bytes) c.requires.columns c.row-bytes.ensures in
    record {
      size = length-after (entry t) t.limit l.numbers bytes new l.line a k starts wide room fits c.copy_row.ensures.bytes is ∙ l.invariant.size;
      entries = entries_more (entry t) t.limit l.numbers bytes new l.line a k starts wide room fits c.copy_row.ensures.bytes is l.invariant.entries;
      within = within_more (entry t) t.limit l.numbers bytes new l.line a k starts wide room fits c.copy_row.ensures.bytes is l.invariant.within;
      rest = rest_more (entry t) t.limit l.numbers bytes new l.line a k starts wide room fits c.copy_row.ensures.bytes is l.invariant.rest;
    }

pub returns-clause-entries : goal.returns-clause-entries
returns-clause-entries c line slot inside near =
    let t = c.args.table.now in
    let l = c.loop-line in
    elim (cases_lt line l.line) [
      | inl used ↦ l.invariant.entries line slot used near
      | inr past ↦
          ap number_in (l.invariant.rest (line * 30 + slot) (omega (arith, past)) (omega (arith, inside, near, c.requires.rows)))
          ∙ sym (c.used_rows-line-end.ensures.empty line slot (search (rules, past)) inside (omega (arith, near, c.requires.columns)))
    ]

pub returns-clause-small : goal.returns-clause-small
returns-clause-small c at past = c.loop-line.invariant.within at (omega (arith, past, c.requires.limit))
