use Rattle.std.proofs.Common.{rules, ◌≡◌, ◌+◌, ◌*◌, ◌-◌, List, ℕ, length, take, drop, sym, arith, refl}
use Rattle.hex.specs.Hex.{encode_upper}
use Rattle.report_text.proofs.message.put_few.Goals as goal

pub returns-clause-digits : goal.returns-clause-digits
returns-clause-digits c =
    let octets : List ℕ = c.args.octets.now in
    let count : 22 + 2 * length octets - 22 ≡ 2 * length octets = omega arith in
    let written : take (22 + 2 * length octets - 22) (drop 22 c.put_digits.new.text) ≡ encode_upper octets = rw (count, c.put_digits.ensures) refl in
    rw (sym written) (search rules)
