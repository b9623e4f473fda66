use Rattle.std.proofs.Common.{◌≡◌, ◌++◌, List, [], ◌∷◌, Option, Some, false, sym, ◌∙◌, ap, subst}
use Rattle.std.specs.Prelude.{◌==◌}
use Rattle.std.proofs.lemmas.Bool.{ne_eqb}
use Rattle.q931_codec.specs.CallStates.{active}
use Rattle.q931_codec.specs.Causes.{message_not_compatible_with_call_state}
use Rattle.tone_rules.specs.declared.tones.Tones.{Tones}
use Rattle.call_states.specs.declared.leg.HeldLeg.{HeldLeg}
use Rattle.call_profile.specs.ActCourse.{course_of_report}
use Rattle.call_profile.specs.Acts.{clear_with, peer_of, with_enquiry, with_peer}
use Rattle.call_profile.specs.Course.{Course, nothing, only}
use Rattle.call_profile.specs.Legs.{Legs}
use Rattle.call_profile.specs.Operations.{Operation, Put, making_after_all}
use Rattle.call_control.specs.Standing.{Makes}
use Rattle.call_control.proofs.ActMakingLemmas.{when_false, when_true}
use Rattle.call_control.proofs.operations.CallControl.on_report.Goals as goal

pub returns-clause-makes : goal.returns-clause-makes
returns-clause-makes g c s w tones legs d m made =
    let h = c.args.held.now in
    let new = c.clear_peer.new in
    let cleared : Tones → Option HeldLeg → List Operation = λ t o. clear_with t message_not_compatible_with_call_state h ++ with_peer o (clear_with t message_not_compatible_with_call_state) in
    let all : Makes d new.self.map new.self.legs new.out.sends new.out.moved (making_after_all d m (cleared c.args.tones.now c.args.peer.now)) =
    c.clear_peer.ensures.makes d (making_after_all d m (clear_with c.args.tones.now message_not_compatible_with_call_state h)) (c.clear_leg.ensures.makes d m made) in
    let peer : c.args.peer.now ≡ peer_of w.legs h.leg.peer = c.requires.peer ∙ ap (λ (ls : Legs). peer_of ls h.leg.peer) (sym legs) in
    let named : Makes d new.self.map new.self.legs new.out.sends new.out.moved (making_after_all d m (cleared s.tones (peer_of w.legs h.leg.peer))) =
    subst (λ (o : Option HeldLeg). Makes d new.self.map new.self.legs new.out.sends new.out.moved (making_after_all d m (cleared s.tones o))) peer
    (subst (λ (t : Tones). Makes d new.self.map new.self.legs new.out.sends new.out.moved (making_after_all d m (cleared t c.args.peer.now))) (sym tones) all) in
    let ends : Course → Type 0 = λ k. Makes d new.self.map new.self.legs new.out.sends new.out.moved (making_after_all d m k.operations) in
    when_true h.leg.enquired c.if-not-held.false (course_of_report s w h c.args.reported) nothing ends
    (when_false (c.args.reported == active) (ne_eqb c.args.reported active c.if-reported-eq-ACTIVE.false) (only (Put h.slot (with_enquiry false h.leg) ∷ []))
    (record { operations = cleared s.tones (peer_of w.legs h.leg.peer); cause = Some message_not_compatible_with_call_state }) ends named)
