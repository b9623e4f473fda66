use Rattle.segment_run.proofs.OrderLemmas.{IsDoneBelow_none, IsDoneBelow_one_more, cut_short, IsLawful_all_done}
use Rattle.segment_run.proofs.laws.segments_make_lawful_orders.Goals as goal

pub returns-clause-none : goal.returns-clause-none
returns-clause-none c t = IsDoneBelow_none t

pub returns-clause-more : goal.returns-clause-more
returns-clause-more c t k v w below ran whole = IsDoneBelow_one_more t k v w below ran whole

pub returns-clause-begun : goal.returns-clause-begun
returns-clause-begun c t k v w below ran = cut_short t k v w below ran

pub returns-clause-whole : goal.returns-clause-whole
returns-clause-whole c t order sound below = IsLawful_all_done t order sound below
