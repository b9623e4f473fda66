use Rattle.call_profile.proofs.ReleaseRunLemmas.{each_release_sounds, told_apart}
use Rattle.call_profile.proofs.KeptMessageLemmas.{each_began, each_is_kept, none_else_is_kept}
use Rattle.call_profile.proofs.WaitingLegLemmas.{each_waits, none_else}
use Rattle.call_profile.proofs.StandingLegLemmas.{start_stands, happened_kept, run_stands}
use Rattle.call_laws.proofs.calls.law_of_legs.Goals as goal

pub returns-clause-begins : goal.returns-clause-begins
returns-clause-begins c = start_stands

pub returns-clause-kept : goal.returns-clause-kept
returns-clause-kept c = happened_kept

pub returns-clause-always : goal.returns-clause-always
returns-clause-always c s hs planned can = run_stands s _ hs planned can (start_stands s)

pub returns-clause-waiting : goal.returns-clause-waiting
returns-clause-waiting c s w stands = each_waits s w stands

pub returns-clause-pending : goal.returns-clause-pending
returns-clause-pending c s w stands = none_else s w stands

pub returns-clause-since : goal.returns-clause-since
returns-clause-since c s w stands = each_began s w stands

pub returns-clause-kept_messages : goal.returns-clause-kept_messages
returns-clause-kept_messages c s w stands = each_is_kept s w stands

pub returns-clause-none_kept : goal.returns-clause-none_kept
returns-clause-none_kept c s w stands = none_else_is_kept s w stands

pub returns-clause-releases : goal.returns-clause-releases
returns-clause-releases c s w stands = each_release_sounds s w stands

pub returns-clause-told_apart : goal.returns-clause-told_apart
returns-clause-told_apart c leg cause = told_apart leg cause
