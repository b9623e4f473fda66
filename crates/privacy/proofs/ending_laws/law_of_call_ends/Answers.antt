use Rattle.exchange_events.specs.declared.trace.Event.TheVariants.{Message}
use Rattle.call_profile.proofs.StandingLegLemmas.{happened_kept}
use Rattle.privacy.proofs.EndLemmas.{up_lasts, down_lasts, restart_ends, message_lasts}
use Rattle.privacy.proofs.ending_laws.law_of_call_ends.Goals as goal

pub returns-clause-up : goal.returns-clause-up
returns-clause-up c = λ s w line x y caller called step calling. up_lasts s w line step.planned step.stands x y caller called calling step.fits

pub returns-clause-down : goal.returns-clause-down
returns-clause-down c = λ s w line x y caller called step calling answered. down_lasts s w line step.planned step.stands x y caller called calling step.fits answered

pub returns-clause-messages : goal.returns-clause-messages
returns-clause-messages c = λ s w line octets x y caller called step calling.
    message_lasts s w line step.planned step.stands x y caller called calling octets step.fits.0 (happened_kept s w (Message line octets) step.planned step.fits step.stands)

pub returns-clause-restart : goal.returns-clause-restart
returns-clause-restart c = λ s w line x y caller called step calling. restart_ends s w line step.planned step.stands x y caller called calling step.fits
