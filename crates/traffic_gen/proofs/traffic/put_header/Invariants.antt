use Rattle.std.proofs.Common.{◌≡◌, ◌-◌, [], ◌∷◌, ◌++◌, map}
use Rattle.std.specs.List.{range_with_len}
use Rattle.traffic_gen.specs.Lines.{text}
use Rattle.traffic_gen.specs.Traffic.{header, number_line, room_line}
use Rattle.traffic_gen.proofs.traffic.put_header.Given as goal

abbrev pub invariant-loop-line : goal.invariant-loop-line
invariant-loop-line l =
    l.out.items ++ text (map number_line (range_with_len l.line (8 - l.line)) ++ room_line ∷ []) ≡ l.fn.out.items ++ text header
