use Rattle.exchange_laws.proofs.FollowedLayouts.{joins_followed, legal_followed}
use Rattle.exchange_laws.proofs.layout_laws.law_of_followed_layouts.Goals as goal

pub returns-clause-legal : goal.returns-clause-legal
returns-clause-legal c = legal_followed

pub returns-clause-joins : goal.returns-clause-joins
returns-clause-joins c = joins_followed
