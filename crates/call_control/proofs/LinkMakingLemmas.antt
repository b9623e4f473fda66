-- What a change of a data link makes, slot by slot, by what the map and the legs hold.
use Rattle.std.proofs.Common.{◌≡◌, ◌⊎◌, ℕ, suc, ◌+◌, ◌<◌, ◌≤◌, Bool, true, false, List, [], ◌++◌, Option, Some, None, refl, sym, ◌∙◌, ap, subst, arith, inl, inr}
use Rattle.circuit_model.specs.declared.channel.Slot.{Slot}
use Rattle.circuit_map.specs.Connections.{Connections}
use Rattle.exchange_events.specs.declared.record.CallRecord.{CallRecord}
use Rattle.exchange_events.specs.declared.signal.Signal.{Signal}
use Rattle.exchange_events.specs.Sizes.{Dimensions}
use Rattle.tone_rules.specs.declared.tones.Tones.{Tones}
use Rattle.std.specs.Prelude.{◌==◌, option_and_then}
use Rattle.std.proofs.lemmas.List.{append-nil}
use Rattle.circuit_model.proofs.Slots.{true_or_false}
use Rattle.q931_codec.specs.CallStates.{active, disconnect_indication, release_request}
use Rattle.q931_codec.specs.Causes.{destination_out_of_order}
use Rattle.call_states.specs.Acts.{is_among}
use Rattle.call_states.specs.declared.leg.HeldLeg.{HeldLeg}
use Rattle.call_states.specs.declared.leg.Leg.{Leg}
use Rattle.call_states.specs.declared.leg.Peer.{Peer}
use Rattle.call_states.specs.declared.leg.Peer.TheVariants as peer
use Rattle.call_states.specs.declared.leg.Side.{Side}
use Rattle.call_states.specs.declared.leg.Side.TheVariants.{Caller, Called}
use Rattle.call_profile.specs.Acts.{peer_of}
use Rattle.call_profile.specs.CallRecords.{is_calling, records}
use Rattle.call_profile.specs.EndedCalls.{caller_in, dropped_record, dropped_records, record_calling, record_ended}
use Rattle.call_profile.specs.LegStanding.{HasPeer}
use Rattle.call_profile.specs.Legs.{Legs, leg_at, with_link}
use Rattle.call_profile.specs.LinkChanges.{being_cleared, outcome_of_link, restarts_interface, rule_of, with_interface, with_line}
use Rattle.call_profile.specs.Operations.{making_after_all}
use Rattle.call_profile.specs.Restarts.{MessageOutcome, SlotRule, outcome_at_slot, outcome_below}
use Rattle.call_profile.specs.World.{World}
use Rattle.call_profile.proofs.ClearingLemmas.{Kept}
use Rattle.call_profile.proofs.ExpiredRecordLemmas.{no_caller}
use Rattle.call_profile.proofs.ExpiryStateLemmas.{is_alone}
use Rattle.call_profile.proofs.LinkLemmas.{cleared_alone, cleared_over, linked_kept, rule_kept}
use Rattle.call_profile.proofs.RestartedSlotLemmas.{below_none, below_more, each_below}
use Rattle.call_control.specs.Standing.{Holds, Makes}

-- the line's link is another
pub linked_holds : (d : Dimensions) (map : Connections) (legs : Legs) (w : World) (line : ℕ) (down : Bool) → Holds d map legs w → Holds d map (with_link legs line down) (with_line w line down)
linked_holds d map legs w line down holds = record {
  sizes = holds.sizes;
  circuits = record { holds = holds.circuits.holds; layout = holds.circuits.layout };
  legs_are = ap (λ (ls : Legs). with_link ls line down) holds.legs_are;
}

-- no slot yet
pub none_ruled : (d : Dimensions) (rule : SlotRule) (line : ℕ) (w : World) (map : Connections) (legs : Legs) (sends : List Signal) (moved : Option (ℕ × ℕ)) (told : List CallRecord)
    → Holds d map legs w → sends ≡ [] → moved ≡ None → told ≡ []
    → Makes d map legs sends moved (outcome_below d rule line w 0).making × (told ≡ (outcome_below d rule line w 0).recorded)
none_ruled d rule line w map legs sends moved told holds no_sends no_moves no_told =
    subst (λ (b : MessageOutcome). Makes d map legs sends moved b.making × (told ≡ b.recorded)) (sym (below_none d rule line w)) (record { holds = holds; sent = no_sends; moves = no_moves }, no_told)

-- one slot more
pub step_ruled : (d : Dimensions) (rule : SlotRule) (line : ℕ) (w : World) (place : ℕ) (map : Connections) (legs : Legs) (sends : List Signal) (moved : Option (ℕ × ℕ)) (before told more : List CallRecord)
    → before ≡ (outcome_below d rule line w place).recorded
    → Makes d map legs sends moved (making_after_all d (outcome_below d rule line w place).making (rule.does (outcome_below d rule line w place).making.world.legs (record { line = line; place = place })))
    → records (outcome_below d rule line w place).making.world
    (making_after_all d (outcome_below d rule line w place).making (rule.does (outcome_below d rule line w place).making.world.legs (record { line = line; place = place }))).world rule.cause ≡ more
    → told ≡ before ++ more
    → Makes d map legs sends moved (outcome_below d rule line w (place + 1)).making × (told ≡ (outcome_below d rule line w (place + 1)).recorded)
step_ruled d rule line w place map legs sends moved before told more first makes recorded is =
    let a = outcome_below d rule line w place in
    let x : Slot = record { line = line; place = place } in
    let all : told ≡ a.recorded ++ records a.making.world (making_after_all d a.making (rule.does a.making.world.legs x)).world rule.cause =
    is ∙ ap (λ list. list ++ more) first ∙ ap (λ list. a.recorded ++ list) (sym recorded) in
    let one : place + 1 ≡ suc place = omega arith in
    let next : outcome_below d rule line w (place + 1) ≡ outcome_at_slot d rule x a = ap (outcome_below d rule line w) one ∙ below_more d rule line w place in
    subst (λ (b : MessageOutcome). Makes d map legs sends moved b.making × (told ≡ b.recorded)) (sym next) (makes, all)

-- the legs stay consistent
pub ruled_kept : (d : Dimensions) (tones : Tones) (whole down : Bool) (line : ℕ) (w : World) → line < d.external → Kept d tones w → (place : ℕ) → place ≤ 30
    → Kept d tones (outcome_below d (rule_of tones whole down) line (with_line w line down) place).making.world
ruled_kept d tones whole down line w below kept =
    each_below d (rule_of tones whole down) line (with_line w line down) (λ a. Kept d tones a.making.world) (linked_kept d tones w line down kept)
    (λ a place small k. rule_kept d tones a.making (record { line = line; place = place }) k (below, small) whole down)

-- the establishment of the link, by whether the interface is restarted
pub established_made : (d : Dimensions) (tones : Tones) (map : Connections) (legs : Legs) (sends : List Signal) (moved : Option (ℕ × ℕ)) (line : ℕ) (w : World) (whole : Bool) → whole ≡ restarts_interface w.legs line
    → Makes d map legs sends moved (with_interface d whole line (outcome_below d (rule_of tones whole false) line (with_line w line false) 30)).making
    → Makes d map legs sends moved (outcome_of_link d tones false line w).making
established_made d tones map legs sends moved line w whole is made =
    subst (λ (b : Bool). Makes d map legs sends moved (with_interface d b line (outcome_below d (rule_of tones b false) line (with_line w line false) 30)).making) is made

-- a leg that is being cleared has no call that is recorded
none_ended : (w : World) (h : HeldLeg) (side : Side) (p : Peer) → p ≡ peer.Alone → is_calling (Some h.leg) ≡ false → option_and_then (record_calling w destination_out_of_order) (caller_in side h (peer_of w.legs p)) ≡ None
none_ended w h Caller p is never = rw never refl
none_ended w h Called p is never = rw is refl

none_dropped : (w : World) (h : HeldLeg) → record_ended w h destination_out_of_order ≡ None → dropped_record w h ≡ None
none_dropped w h none = elim (true_or_false (h.leg.state == active)) [
  | inl up ↦ rw up refl
  | inr not_up ↦ rw not_up none
]

pub cleared_adds_none : (external : ℕ) (legs : Legs) (w : World) (x : Slot) (leg : Leg) (told : List CallRecord) → HasPeer external legs x leg leg.peer → leg_at w.legs x ≡ Some leg → is_among being_cleared leg.state ≡ true
    → told ≡ told ++ dropped_records w x
cleared_adds_none external legs w x leg told has at clears =
    let h : HeldLeg = record { slot = x; leg = leg } in
    let apart : leg.peer ≡ peer.Alone = is_alone external legs x leg leg.peer (cleared_alone leg.state clears) has in
    let none = none_dropped w h (none_ended w h leg.side leg.peer apart (no_caller leg (cleared_over leg.state clears))) in
    sym (rw (at, none) (append-nil told))

-- such a leg is in disconnect indication or in release request
pub clears_in : (state : ℕ) → (state ≡ disconnect_indication) ⊎ (state ≡ release_request) → is_among being_cleared state ≡ true
clears_in state (inl is) = rw is refl
clears_in state (inr is) = rw is refl
