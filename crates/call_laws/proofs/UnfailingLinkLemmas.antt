-- The frames of a trace in which no data link fails.
use Rattle.std.proofs.Common.{List, Contains}
use Rattle.circuit_model.specs.FrameInput.{Input}
use Rattle.call_states.specs.declared.leg.HeldLeg.{HeldLeg}
use Rattle.exchange_events.specs.declared.record.CallRecord.{CallRecord}
use Rattle.exchange_events.specs.declared.trace.Event.{Event}
use Rattle.exchange_events.specs.Sizes.{Setting}
use Rattle.call_profile.specs.Expiring.{outcome_of_frame}
use Rattle.call_laws.specs.ExpiryBounds.{NoneIsLost, UntimedStay, ConversationsStay, LayoutStays, PortsStay}
use Rattle.call_laws.specs.ExpiryRecords.{IsFrameRecord, IsInFrame, ComeByLine}
use Rattle.call_laws.specs.Fabrics.{world_of_run}
use Rattle.call_profile.specs.LegStanding.{CallsStand}
use Rattle.call_laws.specs.Outages.{HasNoFailure}
use Rattle.call_laws.specs.Recorded.{HasEnded}
use Rattle.call_profile.specs.World.{World, start}
use Rattle.call_laws.proofs.ExpiryChangeLemmas.{untimed_stay}
use Rattle.call_laws.proofs.ExpiryCircuitLemmas.{conversations_stay, layout_stays, ports_stay}
use Rattle.call_laws.proofs.FrameRecordLemmas.{frame_record_is, frame_ended_is_recorded, frame_comes_by_line}
use Rattle.call_profile.proofs.HistoryLemmas.{made}
use Rattle.call_laws.proofs.OutageLemmas.{never_lost}
use Rattle.call_profile.proofs.StandingLegLemmas.{start_stands, run_stands}

module _ (s : Setting) (es : List Event) (input : Input) (calm : HasNoFailure s es) where
  abbrev w : World
  w = world_of_run s es

  stands : CallsStand s w
  stands = run_stands s (start s.dimensions) es calm.planned calm.fits (start_stands s)

  lost : NoneIsLost s.timers w.holding.next w.legs
  lost = never_lost s es w.holding.next calm

  pub untimed_then : UntimedStay s w input
  untimed_then = untimed_stay s w input stands lost

  pub conversations_then : ConversationsStay s w input
  conversations_then = conversations_stay s w input stands lost

  pub layout_then : LayoutStays s w input
  layout_then = layout_stays s w input stands lost

  pub ports_then : PortsStay s w input
  ports_then = ports_stay s w input stands lost (made s es calm.planned calm.fits)

  pub told_then : (told : CallRecord) → Contains (outcome_of_frame s w input).recorded told → (h : HeldLeg) × IsFrameRecord s w input h told
  told_then = frame_record_is s w input stands lost

  pub ended_then : (h : HeldLeg) → HasEnded s.dimensions.external w (outcome_of_frame s w input).making.world h → IsInFrame s w input h
  ended_then = frame_ended_is_recorded s w input stands lost

  pub order_then : ComeByLine (outcome_of_frame s w input).recorded
  order_then = frame_comes_by_line s w input stands lost
