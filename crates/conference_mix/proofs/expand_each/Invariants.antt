use Rattle.std.proofs.Common.{◌≡◌, ◌*◌, ◌≤◌, take, map, All, nat_abs}
use Rattle.circuit_model.specs.Hears.{sum_of_values}
use Rattle.conference_mix.specs.Bridge.{present_octets, value_of}
use Rattle.conference_mix.proofs.expand_each.Given as goal

abbrev pub invariant-loop-k : goal.invariant-loop-k
invariant-loop-k l = record {
  each : take l.k l.values ≡ map value_of (take l.k l.members);
  small : All (λ value. nat_abs value ≤ 4032) (take l.k l.values);
  total : l.total ≡ sum_of_values (present_octets (take l.k l.members));
  within : nat_abs l.total ≤ 4032 * l.k;
}
