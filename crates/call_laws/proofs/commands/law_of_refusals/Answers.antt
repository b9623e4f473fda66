use Rattle.call_laws.proofs.FullPortLemmas.{full_is_taken}
use Rattle.call_profile.proofs.RefusalLemmas.{refused_next, no_port_is}
use Rattle.call_laws.proofs.commands.law_of_refusals.Goals as goal

pub returns-clause-world : goal.returns-clause-world
returns-clause-world c = refused_next

pub returns-clause-no_port : goal.returns-clause-no_port
returns-clause-no_port c = no_port_is

pub returns-clause-full : goal.returns-clause-full
returns-clause-full c s w = full_is_taken s.dimensions s.tones w
