-- Acts have the causes of messages.
use Rattle.std.proofs.Common.{ℕ, ◌<◌, Bool, true, false, cond, List, [], ◌∷◌, Option, Some, None, arith}
use Rattle.std.specs.Prelude.{IfSome, unwrap_or, option_and_then, nat_lt, ◌==◌, if◌then◌else◌}
use Rattle.q931_elements.specs.InformationElement.{InformationElement}
use Rattle.q931_codec.specs.declared.kind.MessageKind.{MessageKind}
use Rattle.q931_codec.specs.declared.kind.MessageKind.TheVariants as kind
use Rattle.call_states.specs.declared.act.Act.{Act}
use Rattle.call_states.specs.declared.act.Act.TheVariants as act
use Rattle.q931_codec.specs.Contents.{cause_value, cause_of, cause_after_recommendation}
use Rattle.q931_codec.specs.Identifiers as identifier
use Rattle.q931_elements.specs.InformationElement.{first_of}
use Rattle.call_states.specs.Acts.{act_of, act_of_status, cause_of_act, clearing_cause, expected_in, is_among, before_release_request, every_state}
use Rattle.q931_codec.specs.CallStates.{null, overlap_sending, outgoing_call_proceeding, call_delivered, call_present, call_received, incoming_call_proceeding, active, release_request}
use Rattle.q931_codec.specs.Causes.{temporary_failure}

abbrev pub Fits : Act → Type 0
Fits a = IfSome (cause_of_act a) (λ cause. cause < 128)

either : (b : Bool) (a c : Act) → Fits a → Fits c → Fits (cond b a c)
either true a c p q = p
either false a c p q = q

row : (states : List ℕ) (state : ℕ) (a : Act) → Fits a → Fits (expected_in states state a)
row states state a p = either (is_among states state) a act.Unexpected p tt

status_fits : (state : ℕ) (reported : Option ℕ) → Fits (act_of_status state reported)
status_fits state None = tt
status_fits state (Some reported) = either (reported == null) (act.ReleaseComplete temporary_failure) (if state == active then act.Report reported else act.Nothing) (omega arith) (either (state == active) (act.Report reported) act.Nothing tt tt)

pub act_fits : (state : ℕ) (k : MessageKind) (cause : ℕ) (reported : Option ℕ) → cause < 128 → Fits (act_of state k cause reported)
act_fits state kind.Information cause reported small =
    either (state == overlap_sending) act.Digits (expected_in (outgoing_call_proceeding ∷ call_delivered ∷ active ∷ []) state act.Nothing) tt (row (outgoing_call_proceeding ∷ call_delivered ∷ active ∷ []) state act.Nothing tt)
act_fits state kind.CallProceeding cause reported small = row (call_present ∷ []) state act.Proceeding tt
act_fits state kind.Alerting cause reported small = row (call_present ∷ incoming_call_proceeding ∷ []) state act.Alerting tt
act_fits state kind.Connect cause reported small = row (call_present ∷ call_received ∷ incoming_call_proceeding ∷ []) state act.Answer tt
act_fits state kind.ConnectAcknowledge cause reported small = row (active ∷ []) state act.Nothing tt
act_fits state kind.Progress cause reported small = row every_state state act.Nothing tt
act_fits state kind.Notify cause reported small = row every_state state act.Nothing tt
act_fits state kind.Facility cause reported small = row every_state state act.Nothing tt
act_fits state kind.UserInformation cause reported small = row every_state state act.Nothing tt
act_fits state kind.Setup cause reported small = row every_state state act.Nothing tt
act_fits state kind.Disconnect cause reported small = row before_release_request state (act.Disconnect cause) small
act_fits state kind.Release cause reported small = either (state == release_request) (act.ReleaseComplete cause) (expected_in before_release_request state (act.Release cause)) small (row before_release_request state (act.Release cause) small)
act_fits state kind.ReleaseComplete cause reported small = row every_state state (act.ReleaseComplete cause) small
act_fits state kind.Status cause reported small = row every_state state (act_of_status state reported) (status_fits state reported)
act_fits state kind.StatusEnquiry cause reported small = row every_state state act.Enquiry tt
act_fits state kind.SetupAcknowledge cause reported small = tt
act_fits state kind.Restart cause reported small = tt
act_fits state kind.RestartAcknowledge cause reported small = tt
act_fits state (kind.Unknown octet) cause reported small = tt

-- ---- the cause of a message

value_fits : (octets : List ℕ) → unwrap_or (cause_value octets) 16 < 128
value_fits [] = omega arith
value_fits (octet ∷ rest) = omega arith

after_fits : (octets : List ℕ) → unwrap_or (cause_after_recommendation octets) 16 < 128
after_fits [] = omega arith
after_fits (octet ∷ rest) = value_fits rest

chosen : (b : Bool) (x y : Option ℕ) → unwrap_or x 16 < 128 → unwrap_or y 16 < 128 → unwrap_or (cond b x y) 16 < 128
chosen true x y p q = p
chosen false x y p q = q

contents_fit : (octets : List ℕ) → unwrap_or (cause_of octets) 16 < 128
contents_fit [] = omega arith
contents_fit (location ∷ rest) = chosen (nat_lt location 0x80) (cause_after_recommendation rest) (cause_value rest) (after_fits rest) (value_fits rest)

found_fits : (contents : Option (List ℕ)) → unwrap_or (option_and_then cause_of contents) 16 < 128
found_fits None = omega arith
found_fits (Some contents) = contents_fit contents

pub cause_fits : (elements : List InformationElement) → clearing_cause elements < 128
cause_fits elements = found_fits (first_of identifier.cause elements)
