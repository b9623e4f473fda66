use Rattle.std.proofs.Common.{◌≡◌, ◌%◌, List, ℕ, length, take, drop, refl, sym, ◌∙◌, rules, arith}
use Rattle.std.specs.Prelude.{ok_or}
use Rattle.trace_text.specs.declared.fault.Reason.TheVariants.{Hex}
use Rattle.trace_text.specs.TraceLines.{Fails}
use Rattle.std.proofs.lemmas.Bool.Decides.{nat_tests}
use Rattle.trace_text.specs.TraceFields.{octets_written}
use Rattle.trace_text.proofs.TraceOctets.{octets_written_odd_digits, behind-octets_written_pushed, octets_lost, rest_lost, fails_lost}
use Rattle.trace_text.proofs.octets.octets_read.Goals as goal

pub returns-then-digits-ne0-clause-refused : goal.returns-then-digits-ne0-clause-refused
returns-then-digits-ne0-clause-refused c = rw (octets_written_odd_digits c.args.digits.now (grind (arith, nat_tests))) refl

pub returns-in_err-push_sixteen-clause-refused : goal.returns-in_err-push_sixteen-clause-refused
returns-in_err-push_sixteen-clause-refused c =
    let rest : List ℕ = c.loop-rest.rest.now in
    let front : c.split_at.result.0.now ≡ take 32 rest = c.split_at.ensures.front in
    let even : length (take 32 rest) % 2 ≡ 0 = rw (← front) (grind arith) in
    let fails : Fails c.in_err-push_sixteen.field-0.0 (ok_or (octets_written c.args.digits.now) Hex) = fails_lost c.in_err-push_sixteen.field-0.0 (octets_written (take 32 rest)) (octets_written c.args.digits.now)
    (λ lost. octets_lost 32 rest c.loop-rest.octets.items (octets_written c.args.digits.now) even lost c.loop-rest.invariant.read) (rw front at c.in_err-push_sixteen.ensures.refused) in
    search (rules, fails)

pub loop-rest-preserved : goal.loop-rest-preserved
loop-rest-preserved c =
    let rest : List ℕ = c.loop-rest.rest.now in
    let front : c.split_at.result.0.now ≡ take 32 rest = c.split_at.ensures.front in
    let others : c.split_at.result.1.now ≡ drop 32 rest = c.split_at.ensures.back in
    let even : length (take 32 rest) % 2 ≡ 0 = rw (← front) (grind arith) in
    record {
      even = grind arith;
      read = rw others (behind-octets_written_pushed 32 rest c.loop-rest.octets.items c.push_sixteen.new.octets.items (octets_written c.args.digits.now) even (rw front at c.in_ok-push_sixteen.ensures.read) c.loop-rest.invariant.read);
    }

pub returns-in_err-push_octets-clause-refused : goal.returns-in_err-push_octets-clause-refused
returns-in_err-push_octets-clause-refused c =
    let rest : List ℕ = c.loop-rest.rest.now in
    let fails : Fails c.in_err-push_octets.field-0.0 (ok_or (octets_written c.args.digits.now) Hex) = fails_lost c.in_err-push_octets.field-0.0 (octets_written rest) (octets_written c.args.digits.now)
    (rest_lost c.loop-rest.octets.items (octets_written rest) (octets_written c.args.digits.now) c.loop-rest.invariant.read) c.in_err-push_octets.ensures.refused in
    search (rules, fails)

pub returns-clause-read : goal.returns-clause-read
returns-clause-read c = sym c.loop-rest.invariant.read ∙ c.in_ok-push_octets.ensures.read
