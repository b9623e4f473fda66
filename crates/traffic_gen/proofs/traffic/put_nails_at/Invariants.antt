use Rattle.std.proofs.Common.{◌≡◌, ◌-◌, ◌++◌, map}
use Rattle.std.specs.List.{range_with_len}
use Rattle.traffic_gen.specs.Lines.{text}
use Rattle.traffic_gen.specs.Traffic.{nail_line, nails_at}
use Rattle.traffic_gen.proofs.traffic.put_nails_at.Given as goal

abbrev pub invariant-loop-line : goal.invariant-loop-line
invariant-loop-line l =
    l.out.items ++ text (map (nail_line l.place) (range_with_len l.line (4 - l.line))) ≡ l.fn.out.items ++ text (nails_at l.place)
