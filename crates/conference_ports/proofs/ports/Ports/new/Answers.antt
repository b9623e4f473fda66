use Rattle.std.proofs.Common.{rules}
use Rattle.conference_ports.proofs.Indexes.{all_free}
use Rattle.conference_ports.proofs.ports.Ports.new.Goals as goal

pub invariant_of-result : goal.invariant_of-result
invariant_of-result c = search (rules, all_free c.args.first_line c.args.lines c.requires)
