-- What the turn of a frame makes, line by line, by what the map and the legs hold.
use Rattle.std.proofs.Common.{◌≡◌, ℕ, suc, ◌+◌, ◌%◌, ◌<◌, List, [], ◌++◌, Option, Some, None, sym, ◌∙◌, ap, subst, arith}
use Rattle.std.specs.Prelude.{IfSome}
use Rattle.circuit_model.specs.declared.channel.Slot.{Slot}
use Rattle.call_timers.specs.declared.timers.Timers.{Timers}
use Rattle.circuit_model.specs.Extent.{IsExternal}
use Rattle.call_states.specs.declared.leg.HeldLeg.{HeldLeg}
use Rattle.tone_rules.specs.declared.tones.Tones.{Tones}
use Rattle.circuit_map.specs.Connections.{Connections}
use Rattle.exchange_events.specs.declared.record.CallRecord.{CallRecord}
use Rattle.exchange_events.specs.declared.signal.Signal.{Signal}
use Rattle.exchange_events.specs.Sizes.{Setting, Dimensions}
use Rattle.call_profile.specs.CallRecords.{records}
use Rattle.call_profile.specs.EndedCalls.{expired_records}
use Rattle.call_profile.specs.Expiring.{cause_at, due_of, slot_looked_at, expire_slot, outcome_on_line, outcome_of_lines}
use Rattle.call_profile.specs.LegStanding.{LegsStand}
use Rattle.call_profile.specs.Legs.{Legs, leg_at}
use Rattle.call_profile.specs.Operations.{making_after_all}
use Rattle.call_profile.specs.Restarts.{MessageOutcome}
use Rattle.call_profile.specs.World.{World}
use Rattle.call_profile.proofs.ClearingLemmas.{Kept}
use Rattle.call_profile.proofs.ExpiringLemmas.{lines_none, lines_more, lines_kept, place_within}
use Rattle.call_profile.proofs.ExpiredRecordLemmas.{records_slot_told}
use Rattle.call_profile.proofs.NoneDueLemmas.{outcome_of_lines_none_due}
use Rattle.leg_table.specs.DueBounds.{NoneDue}
use Rattle.call_control.specs.Standing.{Holds, Makes}

-- no line yet
pub no_line_done : (s : Setting) (frame : ℕ) (w : World) (map : Connections) (legs : Legs) (sends : List Signal) (moved : Option (ℕ × ℕ)) (told : List CallRecord)
    → Holds s.dimensions map legs w → sends ≡ [] → moved ≡ None → told ≡ []
    → Makes s.dimensions map legs sends moved (outcome_of_lines s frame w 0).making × (told ≡ (outcome_of_lines s frame w 0).recorded)
no_line_done s frame w map legs sends moved told holds no_sends no_moves no_told =
    subst (λ (b : MessageOutcome). Makes s.dimensions map legs sends moved b.making × (told ≡ b.recorded)) (sym (lines_none s frame w)) (record { holds = holds; sent = no_sends; moves = no_moves }, no_told)

-- one line more
pub line_done : (s : Setting) (frame : ℕ) (w : World) (line : ℕ) (map : Connections) (legs : Legs) (sends : List Signal) (moved : Option (ℕ × ℕ)) (before told : List CallRecord)
    → Kept s.dimensions s.tones w → line < s.dimensions.external
    → before ≡ (outcome_of_lines s frame w line).recorded
    → Makes s.dimensions map legs sends moved (making_after_all s.dimensions (outcome_of_lines s frame w line).making (expire_slot s frame (outcome_of_lines s frame w line).making.world.legs (slot_looked_at frame line)))
    → told ≡ before ++ expired_records s frame (outcome_of_lines s frame w line).making.world (slot_looked_at frame line)
    → Makes s.dimensions map legs sends moved (outcome_of_lines s frame w (line + 1)).making × (told ≡ (outcome_of_lines s frame w (line + 1)).recorded)
line_done s frame w line map legs sends moved before told kept small first makes more =
    let a = outcome_of_lines s frame w line in
    let x : Slot = slot_looked_at frame line in
    let still = lines_kept s frame w kept line (omega (arith, small)) in
    let is : told ≡ a.recorded ++ records a.making.world (making_after_all s.dimensions a.making (expire_slot s frame a.making.world.legs x)).world (cause_at s frame a.making.world.legs x) =
    more ∙ ap (λ list. list ++ expired_records s frame a.making.world x) first
    ∙ ap (λ list. a.recorded ++ list) (sym (records_slot_told s frame a.making x still (place_within s.dimensions.external frame line small))) in
    let one : line + 1 ≡ suc line = omega arith in
    let next : outcome_of_lines s frame w (line + 1) ≡ outcome_on_line s frame line a = ap (outcome_of_lines s frame w) one ∙ lines_more s frame w line in
    subst (λ (b : MessageOutcome). Makes s.dimensions map legs sends moved b.making × (told ≡ b.recorded)) (sym next) (makes, is)

-- the cause of a leg can be sent
pub cause_of_leg : (d : Dimensions) (tones : Tones) (map : Connections) (legs : Legs) (w : World) → Holds d map legs w → LegsStand d.external tones w → (h : HeldLeg) → IsExternal map.external h.slot
    → leg_at legs h.slot ≡ Some h.leg → h.leg.cause < 128
cause_of_leg d tones map legs w holds stand h within at =
    let size : map.external ≡ d.external = ap (λ (e : Dimensions). e.external) holds.sizes in
    (stand.each h.slot h.leg (subst (λ n. IsExternal n h.slot) size within) (ap (λ ls. leg_at ls h.slot) (sym holds.legs_are) ∙ at)).cause

-- nothing is due
pub nothing_due : (s : Setting) (frame place : ℕ) (timers : Timers) (w : World) (map : Connections) (legs : Legs) (sends : List Signal) (moved : Option (ℕ × ℕ)) (told : List CallRecord)
    → Holds s.dimensions map legs w → sends ≡ [] → moved ≡ None → told ≡ [] → s.timers ≡ timers → place ≡ frame % 30 → NoneDue timers legs.held place frame
    → Makes s.dimensions map legs sends moved (outcome_of_lines s frame w s.dimensions.external).making × (told ≡ (outcome_of_lines s frame w s.dimensions.external).recorded)
nothing_due s frame place timers w map legs sends moved told holds no_sends no_moves no_told same_timers at none =
    let here : NoneDue s.timers legs.held (frame % 30) frame = subst (λ (p : ℕ). NoneDue s.timers legs.held p frame) at (subst (λ (t : Timers). NoneDue t legs.held place frame) (sym same_timers) none) in
    let quiet : (line : ℕ) → IfSome (leg_at w.legs (slot_looked_at frame line)) (λ leg. due_of s.timers frame leg ≡ None) = λ line.
    subst (λ (ls : Legs). IfSome (leg_at ls (slot_looked_at frame line)) (λ leg. due_of s.timers frame leg ≡ None)) holds.legs_are (here line) in
    subst (λ (b : MessageOutcome). Makes s.dimensions map legs sends moved b.making × (told ≡ b.recorded)) (sym (outcome_of_lines_none_due s frame w quiet s.dimensions.external))
    (record { holds = holds; sent = no_sends; moves = no_moves }, no_told)
