use Rattle.std.proofs.Common.{◌≡◌, ℕ, ◌%◌, ◌<◌, length, sym, ap, ◌∙◌, subst, inl, inr, arith, rules}
use Rattle.std.specs.Prelude.{bit_or}
use Rattle.std.specs.Int.{bit_at}
use Rattle.std.proofs.lemmas.Bool.{cases_lt}
use Rattle.control_memory.specs.HeardRows.{AreHeardOn, heard_on}
use Rattle.control_memory.proofs.HeardLines.{taken_over}
use Rattle.control_memory.proofs.heard_table.HeardTable.copy_from.Goals as goal

pub returns : goal.returns
returns c =
    let t = c.self.inside in
    let o = c.other.inside in
    let e = c.copy_rows.ensures in
    let new = c.copy_rows.new.to.items in
    let unmarked = c.marked_rows-lines.ensures.unmarked in
    let taken : (line place : ℕ) → line < t.lines → place < 30 → bit_at (bit_or t.marks o.marks) (line % 64) ≡ 1 → heard_on new line place ≡ heard_on o.words.items line place =
    λ line place inside near bit. elim (cases_lt line c.marked_rows-lines.result) [
      | inl early ↦ e.marked line place early near bit ∙ ap (λ h. heard_on h line place) c.deref.ensures.value
      | inr late ↦ let none = unmarked line late inside in absurd (cc)
    ] in
    let kept : (line place : ℕ) → line < t.lines → place < 30 → bit_at (bit_or t.marks o.marks) (line % 64) ≡ 0 → heard_on new line place ≡ heard_on t.words.items line place =
    λ line place inside near bit. elim (cases_lt line c.marked_rows-lines.result) [
      | inl early ↦ e.unmarked line place early near bit
      | inr late ↦ e.rest line place late near
    ] in
    let whole : new ≡ o.words.items = taken_over t.lines t.words.items o.words.items new t.marks o.marks t.tones.items o.tones.items c.self.invariant (search rules) (e.size ∙ c.self.invariant.size) taken kept in
    whole ∙ c.other.view_is

pub invariant_of-self : goal.invariant_of-self
invariant_of-self c =
    let o = c.other.inside in
    let whole : o.words.items ≡ c.copy_rows.new.to.items = c.other.view_is ∙ sym (returns c) in
    let here = c.copy_rows.ensures.size ∙ c.self.invariant.size in
    let there = sym (ap length whole) ∙ c.other.invariant.size in
    let lines : o.lines ≡ c.self.inside.lines = omega (arith, here, there) in
    let tones : o.tones.items ≡ c.copy_from_slice.new.self.items = search rules in
    subst (λ t. AreHeardOn c.self.inside.lines c.copy_rows.new.to.items o.marks t) tones (subst (λ n. AreHeardOn n c.copy_rows.new.to.items o.marks o.tones.items) lines (subst (λ h. AreHeardOn o.lines h o.marks o.tones.items) whole c.other.invariant))
