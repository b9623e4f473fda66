-- What a restart makes, slot by slot, by what the map and the legs hold.
use Rattle.std.proofs.Common.{◌≡◌, ℕ, suc, ◌+◌, ◌<◌, List, [], ◌++◌, Option, Some, None, refl, sym, ◌∙◌, ap, subst, arith}
use Rattle.std.specs.Prelude.{IfSome}
use Rattle.circuit_model.specs.declared.channel.Slot.{Slot}
use Rattle.circuit_model.specs.Extent.{IsExternal}
use Rattle.circuit_map.specs.Connections.{Connections, SameSizes}
use Rattle.q931_codec.specs.Causes.{temporary_failure}
use Rattle.clearing_rules.specs.declared.scope.Restart.{Restart}
use Rattle.tone_rules.specs.declared.tones.Tones.{Tones}
use Rattle.call_states.specs.declared.leg.HeldLeg.{HeldLeg}
use Rattle.exchange_events.specs.declared.record.CallRecord.{CallRecord}
use Rattle.exchange_events.specs.declared.signal.Signal.{Signal}
use Rattle.call_profile.specs.Acts.{peer_of}
use Rattle.call_profile.specs.CallRecords.{records}
use Rattle.call_profile.specs.EndedCalls.{slot_records}
use Rattle.call_profile.specs.LegStanding.{LegsStand}
use Rattle.call_profile.specs.Legs.{Legs, leg_at}
use Rattle.call_profile.specs.Operations.{making_after_all}
use Rattle.call_profile.specs.Peers.{IsThere, PeerIsThere}
use Rattle.call_profile.specs.Restarts.{restart_slot, outcome_at_slot, outcome_below, MessageOutcome, restart_rule}
use Rattle.call_control.specs.Standing.{Holds, Makes}
use Rattle.exchange_events.specs.Sizes.{Dimensions}
use Rattle.call_profile.specs.World.{World}
use Rattle.call_profile.proofs.PermittedActLemmas.{peer_there_too}
use Rattle.call_profile.proofs.RestartedSlotLemmas.{below_none, below_more}
use Rattle.call_profile.proofs.ClearingLemmas.{Kept}
use Rattle.call_profile.proofs.RestartLemmas.{below_kept, records_slot_told}

-- the other leg of a call is there, where there is one
there_of : (external : ℕ) (h : HeldLeg) (o : Option HeldLeg) → PeerIsThere external h o → IfSome o (λ other. IsThere external other)
there_of external h None is = tt
there_of external h (Some other) is = is.0

pub peer_is_there : (d : Dimensions) (tones : Tones) (map : Connections) (legs : Legs) (w : World) → Holds d map legs w → LegsStand d.external tones w → (h : HeldLeg) → IsExternal map.external h.slot
    → leg_at legs h.slot ≡ Some h.leg → (o : Option HeldLeg) → o ≡ peer_of legs h.leg.peer → PeerIsThere map.external h o
peer_is_there d tones map legs w holds stand h within at o is =
    let size : map.external ≡ d.external = ap (λ (e : Dimensions). e.external) holds.sizes in
    let in_world : IsExternal d.external h.slot = subst (λ n. IsExternal n h.slot) size within in
    let at_world : leg_at w.legs h.slot ≡ Some h.leg = ap (λ ls. leg_at ls h.slot) (sym holds.legs_are) ∙ at in
    let there = subst (λ n. PeerIsThere n h (peer_of w.legs h.leg.peer)) (sym size) (peer_there_too d.external tones w h stand in_world at_world) in
    subst (PeerIsThere map.external h) (sym (is ∙ ap (λ ls. peer_of ls h.leg.peer) holds.legs_are)) there

pub peer_there : (d : Dimensions) (tones : Tones) (map : Connections) (legs : Legs) (w : World) → Holds d map legs w → LegsStand d.external tones w → (h : HeldLeg) → IsExternal map.external h.slot
    → leg_at legs h.slot ≡ Some h.leg → (o : Option HeldLeg) → o ≡ peer_of legs h.leg.peer → IfSome o (λ other. IsThere map.external other)
peer_there d tones map legs w holds stand h within at o is = there_of map.external h o (peer_is_there d tones map legs w holds stand h within at o is)

pub external_of : (external : ℕ) (o : Option HeldLeg) → IfSome o (λ other. IsThere external other) → IfSome o (λ other. IsExternal external other.slot)
external_of external None is = tt
external_of external (Some other) is = is.within

pub same_sizes : (a : Connections) → SameSizes a a
same_sizes a = record { external = refl; bridges = refl; slots = refl; bound = refl }

pub sizes_then : (a b c : Connections) → SameSizes a b → SameSizes b c → SameSizes a c
sizes_then a b c first second = record {
  external = second.external ∙ first.external;
  bridges = second.bridges ∙ first.bridges;
  slots = second.slots ∙ first.slots;
  bound = second.bound ∙ first.bound;
}

-- no slot yet
pub outcome_below_none : (d : Dimensions) (tones : Tones) (r : Restart) (line : ℕ) (w : World) (map : Connections) (legs : Legs) (sends : List Signal) (moved : Option (ℕ × ℕ)) (told : List CallRecord)
    → Holds d map legs w → sends ≡ [] → moved ≡ None → told ≡ []
    → Makes d map legs sends moved (outcome_below d (restart_rule tones r) line w 0).making × (told ≡ (outcome_below d (restart_rule tones r) line w 0).recorded)
outcome_below_none d tones r line w map legs sends moved told holds no_sends no_moves no_told =
    subst (λ (b : MessageOutcome). Makes d map legs sends moved b.making × (told ≡ b.recorded)) (sym (below_none d (restart_rule tones r) line w)) (record { holds = holds; sent = no_sends; moves = no_moves }, no_told)

-- one slot more
pub outcome_below_step : (d : Dimensions) (tones : Tones) (r : Restart) (line : ℕ) (w : World) (place : ℕ) (map : Connections) (legs : Legs) (sends : List Signal) (moved : Option (ℕ × ℕ)) (before told : List CallRecord)
    → line < d.external → Kept d tones w → place < 30
    → before ≡ (outcome_below d (restart_rule tones r) line w place).recorded
    → Makes d map legs sends moved (making_after_all d (outcome_below d (restart_rule tones r) line w place).making (restart_slot tones r (outcome_below d (restart_rule tones r) line w place).making.world.legs (record { line = line; place = place })))
    → told ≡ before ++ slot_records r (outcome_below d (restart_rule tones r) line w place).making.world (record { line = line; place = place })
    → Makes d map legs sends moved (outcome_below d (restart_rule tones r) line w (place + 1)).making × (told ≡ (outcome_below d (restart_rule tones r) line w (place + 1)).recorded)
outcome_below_step d tones r line w place map legs sends moved before told below kept small first makes more =
    let a = outcome_below d (restart_rule tones r) line w place in
    let x : Slot = record { line = line; place = place } in
    let still = below_kept d tones r line w below kept place (omega (arith, small)) in
    let is : told ≡ a.recorded ++ records a.making.world (making_after_all d a.making (restart_slot tones r a.making.world.legs x)).world temporary_failure =
    more ∙ ap (λ list. list ++ slot_records r a.making.world x) first ∙ ap (λ list. a.recorded ++ list) (sym (records_slot_told d tones r a.making x still (below, small))) in
    let one : place + 1 ≡ suc place = omega arith in
    let next : outcome_below d (restart_rule tones r) line w (place + 1) ≡ outcome_at_slot d (restart_rule tones r) x a = ap (outcome_below d (restart_rule tones r) line w) one ∙ below_more d (restart_rule tones r) line w place in
    subst (λ (b : MessageOutcome). Makes d map legs sends moved b.making × (told ≡ b.recorded)) (sym next) (makes, is)
