use Rattle.std.proofs.Common.{refl}
use Rattle.linked_exchange.specs.Runs.{start_joint}
use Rattle.exchange_laws.proofs.OtherLinkLemmas.{all_ended, other_links}
use Rattle.exchange_laws.proofs.privacy_laws.law_of_other_links.Goals as goal

pub returns-clause-others : goal.returns-clause-others
returns-clause-others c = other_links

pub returns-clause-ended : goal.returns-clause-ended
returns-clause-ended c = λ s timers linked is. all_ended s timers (start_joint s linked) is refl
