-- The call table: the act of a message at a leg of a call. Source: this project's profile of basic call control (ITU-T
-- Q.931 (05/98), 5.1 to 5.3, 5.8.4, 5.8.10 and 5.8.11).
use Rattle.std.specs.Prelude.{ℕ, Bool, false, ◌==◌, ◌||◌, List, [], ◌∷◌, Option, Some, None, unwrap_or, if◌then◌else◌}
use Rattle.q931_elements.specs.InformationElement.{InformationElement}
use Rattle.q931_codec.specs.declared.kind.MessageKind.{MessageKind}
use Rattle.q931_codec.specs.declared.kind.MessageKind.TheVariants as kind
use Rattle.q931_codec.specs.declared.message.Message.{Message}
use Rattle.q931_codec.specs.Contents.{cause_in, call_state_in}
use Rattle.q931_codec.specs.CallStates.{null, overlap_sending, outgoing_call_proceeding, call_delivered, call_present, call_received, incoming_call_proceeding, active, disconnect_indication, release_request}
use Rattle.q931_codec.specs.Causes.{normal_call_clearing, temporary_failure}
use Rattle.call_states.specs.declared.act.Act.{Act}
use Rattle.call_states.specs.declared.act.Act.TheVariants as act

-- ---- sets of states

abbrev pub is_among : List ℕ → ℕ → Bool
is_among [] state = false
is_among (one ∷ others) state = state == one || is_among others state

-- the states of a leg that was not asked to release its channel
abbrev pub before_release_request : List ℕ
before_release_request = overlap_sending ∷ outgoing_call_proceeding ∷ call_delivered ∷ call_present ∷ call_received ∷ incoming_call_proceeding ∷ active ∷ disconnect_indication ∷ []

-- the states of a leg
abbrev pub every_state : List ℕ
every_state = release_request ∷ before_release_request

-- ---- the table

-- the act if the leg's state is one of these; in other states the message is not expected
abbrev pub expected_in : List ℕ → ℕ → Act → Act
expected_in states state wanted = if is_among states state then wanted else act.Unexpected

-- the act of a STATUS, from the leg's state and the one that it reports: the user has no such call, or another state than
-- the exchange (5.8.11)
abbrev pub act_of_status : ℕ → Option ℕ → Act
act_of_status state None = act.Nothing
act_of_status state (Some reported) =
    if reported == null then act.ReleaseComplete temporary_failure
    else if state == active then act.Report reported
    else act.Nothing

-- the act of a message, from the leg's state, the message's type and cause, and the state that a STATUS reports
abbrev pub act_of : ℕ → MessageKind → ℕ → Option ℕ → Act
act_of state kind.Information cause reported = if state == overlap_sending then act.Digits else expected_in (outgoing_call_proceeding ∷ call_delivered ∷ active ∷ []) state act.Nothing
act_of state kind.CallProceeding cause reported = expected_in (call_present ∷ []) state act.Proceeding
act_of state kind.Alerting cause reported = expected_in (call_present ∷ incoming_call_proceeding ∷ []) state act.Alerting
act_of state kind.Connect cause reported = expected_in (call_present ∷ call_received ∷ incoming_call_proceeding ∷ []) state act.Answer
act_of state kind.ConnectAcknowledge cause reported = expected_in (active ∷ []) state act.Nothing
act_of state kind.Progress cause reported = expected_in every_state state act.Nothing
act_of state kind.Notify cause reported = expected_in every_state state act.Nothing
act_of state kind.Facility cause reported = expected_in every_state state act.Nothing
act_of state kind.UserInformation cause reported = expected_in every_state state act.Nothing
act_of state kind.Setup cause reported = expected_in every_state state act.Nothing
act_of state kind.Disconnect cause reported = expected_in before_release_request state (act.Disconnect cause)
act_of state kind.Release cause reported = if state == release_request then act.ReleaseComplete cause else expected_in before_release_request state (act.Release cause)
act_of state kind.ReleaseComplete cause reported = expected_in every_state state (act.ReleaseComplete cause)
act_of state kind.Status cause reported = expected_in every_state state (act_of_status state reported)
act_of state kind.StatusEnquiry cause reported = expected_in every_state state act.Enquiry
act_of state kind.SetupAcknowledge cause reported = act.Unexpected
act_of state kind.Restart cause reported = act.Unexpected
act_of state kind.RestartAcknowledge cause reported = act.Unexpected
act_of state (kind.Unknown octet) cause reported = act.Unexpected

-- ---- the fields of a message that the table reads

-- the cause of a message; normal call clearing if none is readable
abbrev pub clearing_cause : List InformationElement → ℕ
clearing_cause elements = unwrap_or (cause_in elements) normal_call_clearing

-- the act of a message at a leg in this state
abbrev pub act_on : ℕ → Message → Act
act_on state m = act_of state m.kind (clearing_cause m.elements) (call_state_in m.elements)

-- ---- the cause of an act

abbrev pub cause_of_act : Act → Option ℕ
cause_of_act (act.Disconnect cause) = Some cause
cause_of_act (act.Release cause) = Some cause
cause_of_act (act.ReleaseComplete cause) = Some cause
cause_of_act _ = None
