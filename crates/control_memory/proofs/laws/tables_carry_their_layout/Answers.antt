use Rattle.control_memory.proofs.Carrying.{crossing_is, fetched_carried}
use Rattle.control_memory.proofs.laws.tables_carry_their_layout.Goals as goal

pub returns-clause-crossing : goal.returns-clause-crossing
returns-clause-crossing c w octet highway = crossing_is w.lines w.slots w.layout w.places w.crossed w.read octet w.legal w.tables highway

pub returns-clause-carried : goal.returns-clause-carried
returns-clause-carried c w octet held = fetched_carried w.lines w.slots w.layout w.places w.crossed w.read octet w.legal w.tables held
