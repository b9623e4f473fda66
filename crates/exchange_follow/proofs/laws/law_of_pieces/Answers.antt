use Rattle.exchange_follow.proofs.Pieces.{same_calls}
use Rattle.exchange_follow.proofs.laws.law_of_pieces.Goals as goal

pub returns-clause-endings : goal.returns-clause-endings
returns-clause-endings g c start first second have = (same_calls g.C.Carrier g.M.Meter start first second have).0

pub returns-clause-texts : goal.returns-clause-texts
returns-clause-texts g c start first second have = (same_calls g.C.Carrier g.M.Meter start first second have).1
