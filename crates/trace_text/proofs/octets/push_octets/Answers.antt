use Rattle.std.proofs.Common.{◌≡◌, ◌++◌, ◌/◌, length, take, sym, refl, ◌∙◌, arith}
use Rattle.trace_text.proofs.DigitVectors.{few_lost, few_read}
use Rattle.trace_text.proofs.octets.push_octets.Goals as goal

pub returns-clause-read : goal.returns-clause-read
returns-clause-read c =
    let read = few_read c.args.digits.now _ c.in-Some.read c.requires.0 c.requires.1 c.wide-text.ensures (sym c.in-Some.is ∙ c.octets_from.ensures) in
    let pushed : c.extend_from_slice.new.self.items ≡ c.args.octets.now.items ++ take (length c.args.digits.now / 2) c.in-Some.read = grind arith in
    rw (read, pushed) refl

pub returns-in_default-clause-refused : goal.returns-in_default-clause-refused
returns-in_default-clause-refused c = few_lost c.args.digits.now _ c.requires.0 c.requires.1 c.wide-text.ensures (sym (sym c.octets_from.ensures ∙ c.in_default.is))
