use Rattle.std.proofs.Common.{List, ℕ, Some, ap, sym, ◌∙◌}
use Rattle.trace_text.proofs.DigitVectors.{few_lost, few_read}
use Rattle.trace_text.proofs.octets.few_octets.Goals as goal

pub returns-clause-read : goal.returns-clause-read
returns-clause-read c =
    few_read c.args.digits.now _ c.in-Some.read c.requires.0 c.requires.1 c.wide-text.ensures (sym c.in-Some.is ∙ c.octets_from.ensures)
    ∙ ap (λ (l : List ℕ). Some l) (sym c.from_short_slice.ensures)

pub returns-in_default-clause-refused : goal.returns-in_default-clause-refused
returns-in_default-clause-refused c = few_lost c.args.digits.now _ c.requires.0 c.requires.1 c.wide-text.ensures (sym (sym c.octets_from.ensures ∙ c.in_default.is))
