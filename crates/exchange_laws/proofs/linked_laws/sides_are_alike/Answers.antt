use Rattle.exchange_laws.proofs.SideLemmas.{read_alike, written_alike}
use Rattle.exchange_laws.proofs.linked_laws.sides_are_alike.Goals as goal

pub returns-clause-read : goal.returns-clause-read
returns-clause-read c = read_alike

pub returns-clause-written : goal.returns-clause-written
returns-clause-written c = written_alike
