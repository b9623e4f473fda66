use Rattle.exchange_events.proofs.FileOrder.{lawful_whole, lawful_begun}
use Rattle.exchange_events.proofs.laws.file_order_is_lawful.Goals as goal

pub returns-clause-whole : goal.returns-clause-whole
returns-clause-whole c t = lawful_whole t

pub returns-clause-begun : goal.returns-clause-begun
returns-clause-begun c t count within = lawful_begun t count within
