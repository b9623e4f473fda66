-- A frame's turn sends at most two messages for each line, and records at most one call.
use Rattle.std.proofs.Common.{◌≡◌, ℕ, zero, suc, ◌+◌, ◌*◌, ◌≤◌, List, [], ◌∷◌, ◌++◌, length, Option, Some, None, sym, subst, arith, length-append}
use Rattle.std.specs.List.{cons_option}
use Rattle.q931_codec.specs.Causes.{no_answer_from_user, no_user_responding, destination_out_of_order}
use Rattle.q931_codec.specs.Outgoing.{encoding}
use Rattle.call_timers.specs.declared.expiry.Expiry.{Expiry}
use Rattle.call_timers.specs.declared.expiry.Expiry.TheVariants as expiry
use Rattle.call_states.specs.declared.leg.HeldLeg.{HeldLeg}
use Rattle.tone_rules.specs.declared.tones.Tones.{Tones}
use Rattle.exchange_events.specs.declared.record.CallRecord.{CallRecord}
use Rattle.exchange_events.specs.declared.signal.Signal.{Signal}
use Rattle.exchange_events.specs.Sizes.{Setting, Dimensions}
use Rattle.call_profile.specs.Acts.{peer_of, with_peer, clear_with}
use Rattle.call_profile.specs.CallRecords.{records}
use Rattle.call_profile.specs.Expiring.{send_again, on_expiry, cause_at, due_of, if_due, expire_leg, expire_slot, slot_looked_at, outcome_of_lines}
use Rattle.call_profile.specs.Legs.{Legs, held_at, kept_at}
use Rattle.call_profile.specs.Operations as op
use Rattle.call_profile.specs.Operations.{Operation, Making, making_after, making_after_all}
use Rattle.call_profile.specs.Restarts.{MessageOutcome}
use Rattle.call_profile.specs.World.{World}
use Rattle.call_profile.proofs.ClearingLemmas.{Kept}
use Rattle.call_profile.proofs.ExpiredRecordLemmas.{records_slot_told}
use Rattle.call_profile.proofs.ExpiringLemmas.{lines_none, lines_more, lines_kept, place_within}

-- ---- how many messages operations send

abbrev sent_by : Operation → ℕ
sent_by (op.Clear x) = 0
sent_by (op.Pair x y) = 0
sent_by (op.Seat x room) = 0
sent_by (op.Sound x kind) = 0
sent_by (op.Put x leg) = 0
sent_by (op.Wait x leg p) = 0
sent_by (op.Expect x leg message) = 1
sent_by (op.Repeat h octets) = 1
sent_by (op.Await x leg) = 0
sent_by (op.Remove x condition) = 0
sent_by (op.Send line message) = 1

abbrev sent_by_all : List Operation → ℕ
sent_by_all [] = 0
sent_by_all (o ∷ os) = sent_by o + sent_by_all os

length-append_one : (sends : List Signal) (one : Signal) → length (sends ++ one ∷ []) ≡ length sends + 1
length-append_one sends one = length-append sends (one ∷ [])

none_more : (n : ℕ) → n ≡ n + 0
none_more n = omega arith

performed : (d : Dimensions) (m : Making) (o : Operation) → length (making_after d m o).sends ≡ length m.sends + sent_by o
performed d m (op.Clear x) = none_more _
performed d m (op.Pair x y) = none_more _
performed d m (op.Seat x room) = none_more _
performed d m (op.Sound x kind) = none_more _
performed d m (op.Put x leg) = none_more _
performed d m (op.Wait x leg p) = none_more _
performed d m (op.Expect x leg message) = length-append_one m.sends (record { line = x.line; octets = encoding message })
performed d m (op.Repeat h octets) = length-append_one m.sends (record { line = h.slot.line; octets = octets })
performed d m (op.Await x leg) = none_more _
performed d m (op.Remove x condition) = none_more _
performed d m (op.Send line message) = length-append_one m.sends (record { line = line; octets = encoding message })

performed_all : (d : Dimensions) (m : Making) (os : List Operation) → length (making_after_all d m os).sends ≡ length m.sends + sent_by_all os
performed_all d m [] = none_more _
performed_all d m (o ∷ os) =
    let one = performed d m o in
    let rest = performed_all d (making_after d m o) os in
    omega (arith, one, rest)

sent_by_both : (os ps : List Operation) → sent_by_all (os ++ ps) ≡ sent_by_all os + sent_by_all ps
sent_by_both [] ps = omega arith
sent_by_both (o ∷ os) ps = let rest = sent_by_both os ps in omega (arith, rest)

-- ---- an expiry

peer_sends : (tones : Tones) (cause : ℕ) (o : Option HeldLeg) → sent_by_all (with_peer o (clear_with tones cause)) ≤ 1
peer_sends tones cause None = omega arith
peer_sends tones cause (Some h) = omega arith

again_sends : (h : HeldLeg) (o : Option (List ℕ)) → sent_by_all (send_again h o) ≤ 2
again_sends h None = omega arith
again_sends h (Some octets) = omega arith

expiry_sends : (tones : Tones) (legs : Legs) (h : HeldLeg) (e : Expiry) → sent_by_all (on_expiry tones legs h e) ≤ 2
expiry_sends tones legs h expiry.Digits = omega arith
expiry_sends tones legs h expiry.SetupAgain = again_sends h (kept_at legs h.slot)
expiry_sends tones legs h expiry.SetupOver = let peer = peer_sends tones no_user_responding (peer_of legs h.leg.peer) in omega (arith, peer)
expiry_sends tones legs h expiry.Proceeding = let peer = peer_sends tones no_user_responding (peer_of legs h.leg.peer) in omega (arith, peer)
expiry_sends tones legs h expiry.Alerting = let peer = peer_sends tones no_answer_from_user (peer_of legs h.leg.peer) in omega (arith, peer)
expiry_sends tones legs h expiry.Outage = let peer = peer_sends tones destination_out_of_order (peer_of legs h.leg.peer) in omega (arith, peer)
expiry_sends tones legs h expiry.Disconnect = omega arith
expiry_sends tones legs h expiry.ReleaseAgain = again_sends h (kept_at legs h.slot)
expiry_sends tones legs h expiry.ReleaseOver = omega arith

due_sends : (tones : Tones) (legs : Legs) (h : HeldLeg) (o : Option Expiry) → sent_by_all (if_due tones legs h o) ≤ 2
due_sends tones legs h None = omega arith
due_sends tones legs h (Some e) = expiry_sends tones legs h e

leg_sends : (s : Setting) (frame : ℕ) (legs : Legs) (o : Option HeldLeg) → sent_by_all (expire_leg s frame legs o) ≤ 2
leg_sends s frame legs None = omega arith
leg_sends s frame legs (Some h) = due_sends s.tones legs h (due_of s.timers frame h.leg)

-- ---- a frame's turn

pub length-outcome_of_lines_sends-le : (s : Setting) (frame : ℕ) (w : World) (lines : ℕ) → length (outcome_of_lines s frame w lines).making.sends ≤ 2 * lines
length-outcome_of_lines_sends-le s frame w zero = subst (λ (a : MessageOutcome). length a.making.sends ≤ 0) (sym (lines_none s frame w)) (omega arith)
length-outcome_of_lines_sends-le s frame w (suc line) =
    let a = outcome_of_lines s frame w line in
    let so_far = length-outcome_of_lines_sends-le s frame w line in
    let few = leg_sends s frame a.making.world.legs (held_at a.making.world.legs (slot_looked_at frame line)) in
    let all = performed_all s.dimensions a.making (expire_slot s frame a.making.world.legs (slot_looked_at frame line)) in
    subst (λ (b : MessageOutcome). length b.making.sends ≤ 2 * suc line) (sym (lines_more s frame w line)) (omega (arith, so_far, few, all))

option_few : (o : Option CallRecord) → length (cons_option o []) ≤ 1
option_few None = omega arith
option_few (Some r) = omega arith

pub length-outcome_of_lines_records-le : (s : Setting) (frame : ℕ) (w : World) → Kept s.dimensions s.tones w → (lines : ℕ) → lines ≤ s.dimensions.external → length (outcome_of_lines s frame w lines).recorded ≤ lines
length-outcome_of_lines_records-le s frame w kept zero few = subst (λ (a : MessageOutcome). length a.recorded ≤ 0) (sym (lines_none s frame w)) (omega arith)
length-outcome_of_lines_records-le s frame w kept (suc line) few =
    let a = outcome_of_lines s frame w line in
    let x = slot_looked_at frame line in
    let so_far = length-outcome_of_lines_records-le s frame w kept line (omega (arith, few)) in
    let told = records_slot_told s frame a.making x (lines_kept s frame w kept line (omega (arith, few))) (place_within s.dimensions.external frame line (omega (arith, few))) in
    let one = subst (λ (list : List CallRecord). length list ≤ 1) (sym told) (option_few _) in
    let both = length-append a.recorded (records a.making.world (making_after_all s.dimensions a.making (expire_slot s frame a.making.world.legs x)).world (cause_at s frame a.making.world.legs x)) in
    subst (λ (b : MessageOutcome). length b.recorded ≤ suc line) (sym (lines_more s frame w line)) (omega (arith, so_far, one, both))
