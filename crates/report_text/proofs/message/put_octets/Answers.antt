use Rattle.std.proofs.Common.{◌≡◌, ◌++◌, List, ℕ, take, drop, arith}
use Rattle.std.proofs.Transfers.{starts_with_trans}
use Rattle.hex.specs.Hex.{encode_upper}
use Rattle.report_text.proofs.Texts.{octets_more, octets_done}
use Rattle.report_text.proofs.message.put_octets.Goals as goal

pub loop-rest-preserved : goal.loop-rest-preserved
loop-rest-preserved c =
    let rest : List ℕ = c.loop-rest.rest.now in
    let out : List ℕ = c.loop-rest.out.items in
    let now : List ℕ = c.put_few.new.out.items in
    let front : c.split_at.result.0.now ≡ take c.min.result rest = grind arith in
    let others : c.split_at.result.1.now ≡ drop c.min.result rest = grind arith in
    let pushed : now ≡ out ++ encode_upper (take c.min.result rest) = rw (← front) (grind arith) in
    record {
      front = starts_with_trans now out c.args.out.now.items c.put_few.ensures.front c.loop-rest.invariant.front;
      done = rw others (octets_more out now rest (c.args.out.now.items ++ encode_upper c.args.octets.now) c.min.result pushed c.loop-rest.invariant.done);
    }

pub returns-clause-digits : goal.returns-clause-digits
returns-clause-digits c =
    octets_done c.loop-rest.out.items c.loop-rest.rest.now (c.args.out.now.items ++ encode_upper c.args.octets.now) (grind arith) c.loop-rest.invariant.done
