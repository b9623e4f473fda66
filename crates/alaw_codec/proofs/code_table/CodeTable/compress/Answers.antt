use Rattle.std.proofs.Common.{rules, ◌≡◌, ◌<◌, get_or, ℤ, pos, nat_abs, ◌+ℤ◌, ◌-ℤ◌, to_z, of_z, ap, sym, ◌∙◌, arith}
use Rattle.std.specs.Int.{w32}
use Rattle.std.proofs.lemmas.Int.{ints}
use Rattle.std.proofs.lemmas.List.{get_or_read_under}
use Rattle.circuit_model.specs.ALaw.{compress}
use Rattle.alaw_codec.proofs.TableEnds.{clamped, compress-clamped}
use Rattle.alaw_codec.proofs.code_table.CodeTable.compress.Goals as goal

-- a value as a call passes it
abbrev passed : ℤ → ℤ
passed z = to_z w32 (of_z w32 z)

pub returns : goal.returns
returns c =
    let z = c.clamp-index.result in
    let given : passed c.args.value ≡ c.args.value = search rules in
    let value : z ≡ clamped c.args.value = c.clamp-index.ensures.value ∙ ap clamped given in
    let low = c.clamp-index.ensures.lower_bound in
    let high = c.clamp-index.ensures.upper_bound in
    let i = nat_abs (passed (passed z +ℤ pos 4095)) in
    let back : pos i -ℤ pos 4095 ≡ z = omega (arith, ints, low, high) in
    let inside : i < 8191 = omega (arith, ints, low, high) in
    let size = c.self.invariant.size in
    let read : c.index.result.now ≡ get_or c.self.inside.octets.items i 0 = get_or_read_under c.self.inside.octets.items i 8191 c.index.result.now 0 c.index.ensures inside (sym size) in
    read ∙ c.self.invariant.codes i inside ∙ ap compress (back ∙ value) ∙ compress-clamped c.args.value
