use Rattle.std.proofs.Common.{◌≡◌, ℕ, ◌∙◌, arith, ap, length, slice_index}
use Rattle.std.proofs.lemmas.List.{length-set}
use Rattle.std.proofs.lemmas.Nat.{and_mask}
use Rattle.hex.proofs.Pairs.{encode_step, encode_done}
use Rattle.hex.specs.Hex.{upper_digits}
use Rattle.traffic_gen.proofs.lines.hex_digits.Goals as goal

pub loop-place-preserved : goal.loop-place-preserved
loop-place-preserved c =
    let done = c.loop-place.invariant in
    let thirty : length c.args.octets.now ≡ 30 = c.told-octets in
    let octet : ℕ = slice_index c.args.octets.now c.loop-place.place in
    record {
      wide = length-set _ _ _ ∙ length-set _ _ _ ∙ done.wide;
      done = encode_step upper_digits c.args.octets.now c.loop-place.digits c.loop-place.place _ _ (omega (arith, thirty, c.loop-place-test.true)) (omega (arith, done.wide, c.loop-place-test.true)) c.digit.ensures (c.digit-in-loop-place.ensures ∙ ap (λ (k : ℕ). slice_index upper_digits k) (and_mask octet 4)) done.done;
    }

pub returns : goal.returns
returns c =
    let done = c.loop-place.invariant in
    let thirty : length c.args.octets.now ≡ 30 = c.told-octets in
    encode_done upper_digits _ _ c.loop-place.place (omega (arith, thirty, c.loop-place-test.false)) (omega (arith, thirty, done.wide)) done.done
