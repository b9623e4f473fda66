use Rattle.std.proofs.Common.{rules, ◌≡◌, length, slice_index, pos, ◌-ℤ◌, to_z, of_z, ap, ◌∙◌, arith, below_more}
use Rattle.std.specs.Int.{w32}
use Rattle.std.proofs.Math.ListN.{get_or-append}
use Rattle.std.proofs.lemmas.List.{get_or_push}
use Rattle.std.proofs.lemmas.Int.{ints}
use Rattle.circuit_model.specs.ALaw.{compress}
use Rattle.alaw_codec.proofs.code_table.CodeTable.new.Goals as goal

pub loop-index-preserved : goal.loop-index-preserved
loop-index-preserved c =
    let octets = c.loop-index.octets.items in
    let index = c.loop-index.index in
    let size : length octets ≡ index = search (rules, c.loop-index.invariant.count) in
    let near = c.loop-index-test.true in
    let pushed = c.push_reserved.ensures.items in
    let coded : c.compress.result ≡ compress (pos index -ℤ pos 4095) = let value : to_z w32 (of_z w32 (to_z w32 index -ℤ pos 4095)) ≡ pos index -ℤ pos 4095 = omega (arith, ints, near) in c.compress.ensures ∙ ap compress value in
    record {
      count = search rules;
      room = search rules;
      codes = below_more _ _
          (λ k h. ap (λ items. slice_index items k) pushed ∙ get_or-append octets _ 0 k (omega (arith, h, size)) ∙ c.loop-index.invariant.codes k h)
          (ap (λ items. slice_index items index) pushed ∙ get_or_push octets _ 0 index size ∙ coded);
    }
