use Rattle.std.proofs.Common.{rules, ◌≡◌, ◌*◌, replicate, None}
use Rattle.leg_table.specs.LegKeys.{no_key}
use Rattle.leg_table.proofs.DueBoundLemmas.{no_bounds}
use Rattle.leg_table.proofs.KeptNumberLemmas.{bare_keys}
use Rattle.leg_table.proofs.keyed_legs.KeyedLegs.new.Goals as goal

pub invariant_of-result : goal.invariant_of-result
invariant_of-result c =
    let nobody : c.in_ok-vec.field-0.items ≡ replicate (30 * c.args.external) None = search rules in
    let none : c.in_ok-vec-2.field-0.items ≡ replicate (32 * c.args.external) no_key = search rules in
    record { found = bare_keys c.args.external c.in_ok-vec.field-0.items c.in_ok-vec-2.field-0.items nobody none; due = no_bounds c.args.timers (30 * c.args.external) c.in_ok-vec.field-0.items _ nobody (search rules) }
