use Rattle.std.proofs.Common.{◌≡◌, length}
use Rattle.report_reader.specs.Reading.{parse_number, number_from}
use Rattle.report_reader.proofs.cut.parse_number.Given as goal

abbrev pub invariant-loop-digit : goal.invariant-loop-digit
invariant-loop-digit l = number_from l.number l.rest ≡ parse_number l.fn.octets

abbrev pub decreases-loop-digit : goal.decreases-loop-digit
decreases-loop-digit l = length l.rest
