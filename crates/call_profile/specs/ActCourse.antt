-- The operations of an act for a message to a leg. Source: this project's profile of basic call control (ITU-T Q.931
-- (05/98), 5.1 to 5.3).
use Rattle.std.specs.Prelude.{ℕ, false, ◌==◌, [], ◌∷◌, ◌++◌, Some, if◌then◌else◌}
use Rattle.q931_codec.specs.declared.message.Message.{Message}
use Rattle.q931_codec.specs.CallStates.{active, incoming_call_proceeding}
use Rattle.q931_codec.specs.Causes.{message_not_compatible_with_call_state, response_to_status_enquiry}
use Rattle.call_states.specs.declared.act.Act.{Act}
use Rattle.call_states.specs.declared.act.Act.TheVariants as act
use Rattle.call_states.specs.declared.leg.HeldLeg.{HeldLeg}
use Rattle.call_states.specs.Status.{status, unexpected_cause}
use Rattle.exchange_events.specs.Sizes.{Setting}
use Rattle.call_profile.specs.Acts.{send_to, in_state, with_enquiry, peer_of, with_peer, clear_with, on_alerting, on_connect, on_disconnect, on_release, on_release_complete}
use Rattle.call_profile.specs.Course.{Course, only, nothing}
use Rattle.call_profile.specs.Digits.{on_digits}
use Rattle.call_profile.specs.Operations.{Put}
use Rattle.call_profile.specs.World.{World}

-- the reply to a STATUS ENQUIRY, at a leg in active: a user in another state does not have the call as the exchange has
-- it, and both its legs are cleared with cause 101 (5.8.11)
abbrev pub course_of_report : Setting → World → HeldLeg → ℕ → Course
course_of_report s w h reported =
    if reported == active then only (Put h.slot (with_enquiry false h.leg) ∷ [])
    else record {
      operations = clear_with s.tones message_not_compatible_with_call_state h ++ with_peer (peer_of w.legs h.leg.peer) (clear_with s.tones message_not_compatible_with_call_state);
      cause = Some message_not_compatible_with_call_state;
    }

abbrev pub course_of : Setting → World → HeldLeg → Message → Act → Course
course_of s w h m act.Nothing = nothing
course_of s w h m act.Unexpected = only (send_to h (status h.leg (unexpected_cause m.kind)) ∷ [])
course_of s w h m act.Enquiry = only (send_to h (status h.leg response_to_status_enquiry) ∷ [])
course_of s w h m act.Proceeding = only (Put h.slot (in_state incoming_call_proceeding h.leg) ∷ [])
course_of s w h m act.Alerting = only (with_peer (peer_of w.legs h.leg.peer) (on_alerting s.tones h))
course_of s w h m act.Answer = only (with_peer (peer_of w.legs h.leg.peer) (on_connect w.legs h))
course_of s w h m act.Digits = only (on_digits s w h m)
course_of s w h m (act.Disconnect cause) = record { operations = on_disconnect h ++ with_peer (peer_of w.legs h.leg.peer) (clear_with s.tones cause); cause = Some cause }
course_of s w h m (act.Release cause) = record { operations = on_release h ++ with_peer (peer_of w.legs h.leg.peer) (clear_with s.tones cause); cause = Some cause }
course_of s w h m (act.Report reported) = if h.leg.enquired then course_of_report s w h reported else nothing
course_of s w h m (act.ReleaseComplete cause) = record { operations = on_release_complete h ++ with_peer (peer_of w.legs h.leg.peer) (clear_with s.tones cause); cause = Some cause }
