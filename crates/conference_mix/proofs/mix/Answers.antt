use Rattle.std.proofs.Common.{◌≡◌, ◌<◌, ◌≤◌, ◌≢◌, ℤ, pos, ◌-ℤ◌, to_z, of_z, nat_abs, get_or, length, ap, ◌∙◌, arith, below_more, get_or-set_other, get_or-set_same}
use Rattle.std.specs.Int.{w32}
use Rattle.std.proofs.lemmas.List.{length-map}
use Rattle.std.proofs.lemmas.Int.{ints}
use Rattle.circuit_model.specs.ALaw.{compress}
use Rattle.circuit_model.specs.Hears.{sum_of_values}
use Rattle.conference_mix.specs.Bridge.{others, value_of, mixed_for}
use Rattle.conference_mix.proofs.Sums.{sum_of_values-left}
use Rattle.conference_mix.proofs.mix.Goals as goal

same_length : (c : goal.After-compress) → length c.expand_each-total.new.values ≡ length c.args.members.now
same_length c = ap length c.expand_each-total.ensures.each ∙ length-map c.args.members.now value_of

-- a value as a call passes it
abbrev passed : ℤ → ℤ
passed z = to_z w32 (of_z w32 z)

sum_is : (c : goal.After-compress) → passed (passed c.expand_each-total.result -ℤ passed (get_or c.expand_each-total.new.values c.loop-k.k (pos 0))) ≡ sum_of_values (others c.loop-k.k c.args.members.now)
sum_is c =
    let e = c.expand_each-total.ensures in
    let own = get_or c.expand_each-total.new.values c.loop-k.k (pos 0) in
    let small : nat_abs own ≤ 4032 = e.small c.loop-k.k (pos 0) c.loop-k-test.true in
    let within : nat_abs c.expand_each-total.result ≤ 241920 = e.within in
    let exact : passed (passed c.expand_each-total.result -ℤ passed own) ≡ c.expand_each-total.result -ℤ own = omega (arith, ints, small, within) in
    exact ∙ sum_of_values-left c.args.members.now c.expand_each-total.new.values c.expand_each-total.result c.loop-k.k (omega (arith, same_length c)) e.each e.total

here : (c : goal.After-compress) → c.compress.result ≡ mixed_for c.loop-k.k c.args.members.now
here c = c.compress.ensures ∙ ap compress (sum_is c)

pub loop-k-preserved : goal.loop-k-preserved
loop-k-preserved c =
    below_more _ _
    (λ j h. let ne : j ≢ c.loop-k.k = omega arith in rw get_or-set_other (c.loop-k.invariant j h))
    (let lt : c.loop-k.k < length c.loop-k.out = omega (arith, same_length c) in rw get_or-set_same (here c))
