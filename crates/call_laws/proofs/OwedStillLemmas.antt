-- For which channels exactly a RESTART is owed after an event that owes none more.
use Rattle.std.proofs.Common.{refl}
use Rattle.call_states.specs.Conditions.{is_owing}
use Rattle.circuit_model.specs.Holding.{Connect, Seat as Take_seat, Clear}
use Rattle.exchange_events.specs.declared.trace.Event.{Event}
use Rattle.exchange_events.specs.declared.trace.Event.TheVariants.{Nail, Seat, Free, Message, Frame, LinkUp, LinkDown, RestartLine}
use Rattle.exchange_events.specs.Sizes.{Setting}
use Rattle.exchange_events.specs.Sound.{Fits}
use Rattle.call_profile.specs.IdleSlots.{is_nailed}
use Rattle.call_profile.specs.LegStanding.{CallsStand}
use Rattle.call_profile.specs.Step.{next, may_nail, may_seat}
use Rattle.call_profile.specs.World.{World, obey}
use Rattle.call_laws.specs.Outages.{OutagesStand}
use Rattle.call_laws.specs.OwedRestarts.{AreStillOwed, OwesNoMore}
use Rattle.call_laws.proofs.ChannelConditionLemmas.{command_reads, message_reads}
use Rattle.call_laws.proofs.RaisedConditionLemmas.{owed_raised}

module _ (s : Setting) (w : World) (stands : CallsStand s w) (outages : OutagesStand s.dimensions.external w.legs) where
  pub still_owed : (e : Event) → Fits s.dimensions.external e → OwesNoMore e → AreStillOwed s.dimensions.external e w (next s w e)
  still_owed (Nail x y) fits other = command_reads s w (obey s.dimensions w (Connect x y)) is_owing refl refl (may_nail w x y)
  still_owed (Seat x room) fits other = command_reads s w (obey s.dimensions w (Take_seat x room)) is_owing refl refl (may_seat s.dimensions w x)
  still_owed (Free x) fits other = command_reads s w (obey s.dimensions w (Clear x)) is_owing refl refl (is_nailed w x)
  still_owed (Message line octets) fits other = (message_reads s w stands line octets fits.0).0
  still_owed (LinkUp line) fits other = owed_raised s w line (record { stands = stands; line_exists = fits }) outages.conditions
  still_owed (LinkDown line) fits other = absurd other
  still_owed (RestartLine line) fits other = absurd other
  still_owed (Frame input) fits other = absurd other
