use Rattle.std.proofs.Common.{◌≡◌, ◌≢◌, List, ℕ, length, Ok, sym, ap, ◌∙◌, arith}
use Rattle.std.proofs.lemmas.Bool.Decides.{nat_tests}
use Rattle.trace_text.proofs.TraceOctets.{thirty_refused_length, thirty_refused_digits}
use Rattle.trace_text.proofs.DigitVectors.{sixty_read, first_lost, last_lost}
use Rattle.trace_text.proofs.octets.thirty_octets.Goals as goal

pub returns-then-are_pairs : goal.returns-then-are_pairs
returns-then-are_pairs c =
    let other : length c.args.digits.now ≢ 60 = grind (arith, nat_tests) in
    sym (thirty_refused_length c.args.digits.now (sym c.are_pairs.ensures ∙ c.if-are_pairs.true) other)

pub returns-else-are_pairs : goal.returns-else-are_pairs
returns-else-are_pairs c = sym (thirty_refused_digits c.args.digits.now (sym c.are_pairs.ensures ∙ c.if-are_pairs.false))

pub returns-in_default : goal.returns-in_default
returns-in_default c =
    let long : length c.args.digits.now ≡ 60 = grind (arith, nat_tests) in
    sym (first_lost c.args.digits.now long (sym c.octets_from.ensures ∙ c.in_default.is))

pub returns-in_default-octets_from : goal.returns-in_default-octets_from
returns-in_default-octets_from c =
    let long : length c.args.digits.now ≡ 60 = grind (arith, nat_tests) in
    sym (last_lost c.args.digits.now long (sym c.octets_from-2.ensures ∙ c.in_default-octets_from.is))

pub returns : goal.returns
returns c =
    let digits : List ℕ = c.args.digits.now in
    let long : length digits ≡ 60 = grind (arith, nat_tests) in
    sym (sixty_read digits long c.in-Some.first c.in-Some-octets_from.last (sym c.octets_from.ensures ∙ c.in-Some.is) (sym c.octets_from-2.ensures ∙ c.in-Some-octets_from.is)
    ∙ ap (λ (l : List ℕ). Ok l) (sym c.thirty_of.ensures))
