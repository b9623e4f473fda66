use Rattle.std.proofs.Common.{◌≡◌, ◌-◌, ◌++◌}
use Rattle.std.specs.List.{flat_map, range_with_len}
use Rattle.traffic_gen.specs.Lines.{text}
use Rattle.traffic_gen.specs.Traffic.{nails, nails_at}
use Rattle.traffic_gen.proofs.traffic.put_nails.Given as goal

abbrev pub invariant-loop-place : goal.invariant-loop-place
invariant-loop-place l =
    l.out.items ++ text (flat_map nails_at (range_with_len l.place (30 - l.place))) ≡ l.fn.out.items ++ text nails
