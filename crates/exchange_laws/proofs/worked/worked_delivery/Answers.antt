use Rattle.std.proofs.Common.{◌≡◌, refl, arith}
use Rattle.link_frames.specs.Writing.{encoding}
use Rattle.link_procedures.specs.Links.{next_number, distance, is_valid, acknowledged, emptied, renumbered, may_send, is_awaiting, is_established, is_recovering, is_multiple_frame, is_up}
use Rattle.link_procedures.specs.Sending.{acknowledges, one_more_sent, supervised, is_free, sends_next, flushes, acknowledges_pending, finished}
use Rattle.link_procedures.specs.Establishment.{established, lost, begun, queued, submitted}
use Rattle.link_procedures.specs.Receiving.{on_sabme, on_information, by_number, by_acknowledgement, supervised_by, on_control, on_valid}
use Rattle.linked_exchange.specs.Steps.{submitted_all, next_joint}
use Rattle.q931_elements.specs.Reading.{elements_of, elements_within}
use Rattle.call_profile.specs.Legs.{slots_of}
use Rattle.exchange_laws.proofs.worked.worked_delivery.Goals as goal

pub returns-clause-ended : goal.returns-clause-ended
unfolding encoding next_number distance is_valid acknowledged emptied renumbered may_send is_awaiting is_established is_recovering is_multiple_frame is_up acknowledges one_more_sent supervised is_free sends_next flushes acknowledges_pending finished established lost begun queued submitted on_sabme on_information by_number by_acknowledgement supervised_by on_control on_valid submitted_all next_joint elements_of elements_within slots_of
returns-clause-ended c = refl

pub returns-clause-off : goal.returns-clause-off
returns-clause-off c = λ (e : 0 ≡ 1). omega (arith, e)

pub returns-clause-delivered : goal.returns-clause-delivered
unfolding encoding next_number distance is_valid acknowledged emptied renumbered may_send is_awaiting is_established is_recovering is_multiple_frame is_up acknowledges one_more_sent supervised is_free sends_next flushes acknowledges_pending finished established lost begun queued submitted on_sabme on_information by_number by_acknowledgement supervised_by on_control on_valid submitted_all next_joint elements_of elements_within slots_of
returns-clause-delivered c = refl

pub returns-clause-sent : goal.returns-clause-sent
unfolding encoding next_number distance is_valid acknowledged emptied renumbered may_send is_awaiting is_established is_recovering is_multiple_frame is_up acknowledges one_more_sent supervised is_free sends_next flushes acknowledges_pending finished established lost begun queued submitted on_sabme on_information by_number by_acknowledgement supervised_by on_control on_valid submitted_all next_joint elements_of elements_within slots_of
returns-clause-sent c = refl

pub returns-clause-queued : goal.returns-clause-queued
unfolding encoding next_number distance is_valid acknowledged emptied renumbered may_send is_awaiting is_established is_recovering is_multiple_frame is_up acknowledges one_more_sent supervised is_free sends_next flushes acknowledges_pending finished established lost begun queued submitted on_sabme on_information by_number by_acknowledgement supervised_by on_control on_valid submitted_all next_joint elements_of elements_within slots_of
returns-clause-queued c = refl
