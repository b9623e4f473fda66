use Rattle.std.proofs.Common.{◌≡◌, ◌<◌, ◌≤◌, List, All, ℤ, nat_abs, take, length, to_z, of_z, subst, sym, ◌∙◌, arith}
use Rattle.std.specs.Int.{w32}
use Rattle.std.proofs.lemmas.Int.{ints, to_z-of_z}
use Rattle.std.proofs.lemmas.List.{take_more_set}
use Rattle.std.proofs.lemmas.List.Elements.{All-push}
use Rattle.conference_mix.specs.Bridge.{value_of}
use Rattle.conference_mix.proofs.Sums.{sum_of-more, wrote_more}
use Rattle.conference_mix.proofs.expand_each.Goals as goal

-- a value as the loop writes it
abbrev stored : ℤ → ℤ
stored z = to_z w32 (of_z w32 z)

stored_is : (c : goal.After-value_of-value) → stored c.value_of-value.result ≡ c.value_of-value.result
stored_is c = omega (arith, ints)

pub loop-k-preserved : goal.loop-k-preserved
loop-k-preserved c =
    let k = c.loop-k.k in
    let values = c.loop-k.values in
    let value = stored c.value_of-value.result in
    let in_values : k < length values = omega arith in
    let IsSmall = λ (z : ℤ). nat_abs z ≤ 4032 in
    record {
      each = wrote_more value_of c.args.members.now values k value _ c.loop-k-test.true in_values c.loop-k.invariant.each (stored_is c ∙ c.value_of-value.ensures.value);
      small = subst (λ (vs : List ℤ). All IsSmall vs) (sym (take_more_set values k value in_values)) (All-push IsSmall (take k values) value c.loop-k.invariant.small (omega (arith, ints)));
      total = grind (arith, ints, to_z-of_z, sum_of-more);
      within = grind (arith, ints, to_z-of_z);
    }
