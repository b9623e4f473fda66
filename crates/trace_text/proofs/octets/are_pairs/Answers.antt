use Rattle.std.proofs.Common.{◌≡◌, sym, ◌∙◌, rules, tests, arith}
use Rattle.std.specs.List.{list_all}
use Rattle.std.proofs.lemmas.Bool.Decides.{nat_tests}
use Rattle.std.proofs.lemmas.Iterator.{YieldsList-from_slice}
use Rattle.std.proofs.lemmas.Iterator.Search.{all_from_yields_List}
use Rattle.trace_text.specs.TraceFields.{is_digit}
use Rattle.trace_text.proofs.TraceOctets.{all_digits, octets_written_odd_digits}
use Rattle.trace_text.proofs.octets.are_pairs.Goals as goal

pub returns-then-digits-eq0 : goal.returns-then-digits-eq0
returns-then-digits-eq0 c =
    let all : c.all.result ≡ list_all is_digit c.args.digits.now =
    all_from_yields_List is_digit _ _ c.all.result c.all.ensures.ran (YieldsList-from_slice c.args.digits.now cc) (λ x b q k. search (rules, tests)) in
    all ∙ sym (all_digits c.args.digits.now (grind (arith, nat_tests)))

pub returns-else-digits-eq0 : goal.returns-else-digits-eq0
returns-else-digits-eq0 c = rw (octets_written_odd_digits c.args.digits.now (grind (arith, nat_tests))) (search rules)
