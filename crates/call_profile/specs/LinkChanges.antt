-- The exchange state after a change of a line's data link, and after the restart of a line by the exchange. Source:
-- ITU-T Q.931 (05/98), 5.8.8 (data link reset), 5.8.9 (data link failure), 5.8.10 (status enquiry) and 5.5 (restart); the
-- clearing of the rest of a call, and that a call that is being cleared goes on, are this project's profile.
use Rattle.std.specs.Prelude.{ℕ, ◌==◌, ◌&&◌, not, Bool, true, false, List, [], ◌∷◌, Option, Some, None, is_some, if◌then◌else◌}
use Rattle.std.specs.List.{list_any}
use Rattle.circuit_model.specs.declared.channel.Slot.{Slot}
use Rattle.q931_codec.specs.declared.kind.MessageKind.TheVariants as kind
use Rattle.q931_codec.specs.CallStates.{overlap_sending, active, disconnect_indication, release_request}
use Rattle.q931_codec.specs.Causes.{destination_out_of_order, temporary_failure}
use Rattle.q931_codec.specs.RestartClasses.{single_interface}
use Rattle.clearing_rules.specs.Restarting.{restart_of}
use Rattle.clearing_rules.specs.declared.scope.Restart.{Restart}
use Rattle.clearing_rules.specs.declared.scope.Restart.TheVariants.{Channel, Interface}
use Rattle.tone_rules.specs.declared.tones.Tones.{Tones}
use Rattle.call_states.specs.Acts.{is_among}
use Rattle.call_states.specs.Conditions.{unanswered}
use Rattle.call_states.specs.declared.condition.Condition.{Condition}
use Rattle.call_states.specs.declared.condition.Condition.TheVariants.{Owed, Unconfirmed}
use Rattle.call_states.specs.declared.leg.HeldLeg.{HeldLeg}
use Rattle.call_profile.specs.Acts.{send_to, message_to, clear_with, with_enquiry}
use Rattle.call_profile.specs.Expiring.{send_again}
use Rattle.call_profile.specs.Legs.{Legs, awaits_restart, held_at, is_down, kept_at, leg_at, slots_of, with_link}
use Rattle.call_profile.specs.Operations.{Operation, Put, Await, Remove, Send, making_after, with_legs}
use Rattle.call_profile.specs.Restarts.{MessageOutcome, SlotRule, restart_leg, outcome_below}
use Rattle.exchange_events.specs.Sizes.{Dimensions}
use Rattle.call_profile.specs.World.{World}

-- ---- the data link is down (5.8.9)

-- every slot of the line
abbrev pub whole_line : Restart
whole_line = Interface single_interface

-- T309 starts, unless it runs; what the user was asked before is asked again when the link is up
abbrev pub start_waiting : HeldLeg → List Operation
start_waiting h = if h.leg.resent then [] else Await h.slot (with_enquiry false h.leg) ∷ []

-- the states of a leg that is being cleared: T305 or T308 runs, and ends it
abbrev pub being_cleared : List ℕ
being_cleared = disconnect_indication ∷ release_request ∷ []

-- a leg in active waits for the data link, and one that is being cleared goes on; any other is removed, as if its slot was
-- restarted, and the rest of its call is cleared with cause 27: both legs of a call are in active, or neither is. The
-- user of a removed leg is owed a RESTART
abbrev pub drop_leg : Tones → Legs → Option HeldLeg → List Operation
drop_leg tones legs None = []
drop_leg tones legs (Some h) =
    if h.leg.state == active then start_waiting h
    else if is_among being_cleared h.leg.state then []
    else restart_leg tones destination_out_of_order Owed whole_line legs (Some h)

abbrev pub drop_slot : Tones → Legs → Slot → List Operation
drop_slot tones legs x = drop_leg tones legs (held_at legs x)

abbrev pub drop_rule : Tones → SlotRule
drop_rule tones = record { does = drop_slot tones; cause = destination_out_of_order }

-- ---- the data link is up (5.8.8, 5.8.9)

-- in active T309 stops, and the user is sent STATUS ENQUIRY (5.8.10)
abbrev pub enquire : HeldLeg → List Operation
enquire h = Put h.slot (with_enquiry true h.leg) ∷ send_to h (message_to h.leg kind.StatusEnquiry) ∷ []

-- a leg in overlap sending is cleared with cause 41, since digits may be lost; RELEASE is retransmitted, since it may be
-- lost too; in all other states the call goes on
abbrev pub resume_leg : Tones → Legs → HeldLeg → List Operation
resume_leg tones legs h =
    if h.leg.state == active then enquire h
    else if h.leg.state == overlap_sending then clear_with tones temporary_failure h
    else if h.leg.state == release_request then send_again h (kept_at legs h.slot)
    else []

-- a RESTART of the channel, unless one of the whole interface follows (5.5.1); its user has not acknowledged it yet
abbrev pub restart_channel : Bool → Slot → List Operation
restart_channel whole x = Remove x Unconfirmed ∷ (if whole then [] else Send x.line (restart_of (Channel x.place)) ∷ [])

abbrev pub resume_held : Tones → Bool → Legs → Slot → Option HeldLeg → List Operation
resume_held tones whole legs x (Some h) = resume_leg tones legs h
resume_held tones whole legs x None = if awaits_restart legs x then restart_channel whole x else []

abbrev pub resume_slot : Tones → Bool → Legs → Slot → List Operation
resume_slot tones whole legs x = resume_held tones whole legs x (held_at legs x)

abbrev pub resume_rule : Tones → Bool → SlotRule
resume_rule tones whole = record { does = resume_slot tones whole; cause = temporary_failure }

abbrev pub is_held : Legs → Slot → Bool
is_held legs x = is_some (leg_at legs x)

-- the whole interface is restarted: a slot awaits RESTART, and no leg is left on the line
abbrev pub restarts_interface : Legs → ℕ → Bool
restarts_interface legs line = list_any (awaits_restart legs) (slots_of line) && not (list_any (is_held legs) (slots_of line))

-- ---- a change of the link

abbrev pub with_line : World → ℕ → Bool → World
with_line w line down = with_legs w (with_link w.legs line down)

-- each slot of a line that is down or up from now on follows the rule, lowest first
abbrev pub rule_of : Tones → Bool → Bool → SlotRule
rule_of tones whole true = drop_rule tones
rule_of tones whole false = resume_rule tones whole

-- and last the RESTART of the interface, if it is restarted
abbrev pub with_interface : Dimensions → Bool → ℕ → MessageOutcome → MessageOutcome
with_interface d false line a = a
with_interface d true line a = record a { making = making_after d a.making (Send line (restart_of whole_line)) }

abbrev pub outcome_of_link : Dimensions → Tones → Bool → ℕ → World → MessageOutcome
outcome_of_link d tones down line w =
    let whole = not down && restarts_interface w.legs line in
    with_interface d whole line (outcome_below d (rule_of tones whole down) line (with_line w line down) 30)

-- ---- the exchange restarts a line (5.5.1)

-- the leg of a slot is removed, and the other leg of its call too if it is on the line, or else cleared with cause 41; the
-- channel is in this condition
abbrev pub give_up_leg : Tones → Condition → Legs → Slot → Option HeldLeg → List Operation
give_up_leg tones condition legs x None = Remove x condition ∷ []
give_up_leg tones condition legs x (Some h) = restart_leg tones temporary_failure condition whole_line legs (Some h)

abbrev pub give_up_slot : Tones → Condition → Legs → Slot → List Operation
give_up_slot tones condition legs x = give_up_leg tones condition legs x (held_at legs x)

abbrev pub give_up_rule : Tones → Condition → SlotRule
give_up_rule tones condition = record { does = give_up_slot tones condition; cause = temporary_failure }

-- each slot of the line is given up, lowest first, and last its user is sent RESTART; while the data link of the line is
-- down, the user is owed it
abbrev pub outcome_of_line_restart : Dimensions → Tones → ℕ → World → MessageOutcome
outcome_of_line_restart d tones line w =
    let down = is_down w.legs line in
    with_interface d (not down) line (outcome_below d (give_up_rule tones (unanswered down)) line w 30)
