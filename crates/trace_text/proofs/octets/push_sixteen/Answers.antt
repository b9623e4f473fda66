use Rattle.std.proofs.Common.{◌≡◌, ◌++◌, sym, refl, ◌∙◌, arith}
use Rattle.trace_text.proofs.DigitVectors.{sixteen_lost, sixteen_read}
use Rattle.trace_text.proofs.octets.push_sixteen.Goals as goal

pub returns-clause-read : goal.returns-clause-read
returns-clause-read c =
    let read = sixteen_read c.args.digits.now c.in-Some.read c.requires (sym c.in-Some.is ∙ c.octets_from.ensures) in
    let pushed : c.extend_from_slice.new.self.items ≡ c.args.octets.now.items ++ c.in-Some.read = grind arith in
    rw (read, pushed) refl

pub returns-in_default-clause-refused : goal.returns-in_default-clause-refused
returns-in_default-clause-refused c = sixteen_lost c.args.digits.now c.requires (sym (sym c.octets_from.ensures ∙ c.in_default.is))
