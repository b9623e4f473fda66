use Rattle.std.proofs.Common.{◌≡◌, ℕ, [], subst}
use Rattle.circuit_model.specs.FrameInput.{Input}
use Rattle.circuit_map.specs.Connections.{Connections}
use Rattle.call_control.specs.AtWork.{IsAtWork, IsInOrder}
use Rattle.call_control.specs.Standing.{Holds, Makes}
use Rattle.call_profile.proofs.CommandLemmas.{pass_kept}
use Rattle.call_profile.specs.Expiring.{outcome_of_lines}
use Rattle.call_profile.specs.Legs.{Legs}
use Rattle.call_profile.specs.Step.{frame_reply}
use Rattle.call_profile.specs.World.{World, pass}
use Rattle.exchange_events.specs.declared.reply.Reply.{Reply}
use Rattle.exchange_events.specs.declared.reply.Reply.TheVariants as An_answer
use Rattle.exchange_events.specs.Sizes.{Setting}
use Rattle.exchange_core.proofs.step.frame.Goals as goal

-- once the frame has passed its boundary
passed : (s : Setting) (w : World) (input : Input) (map after : Connections) (legs legs_after : Legs) → IsAtWork s map legs w → Holds s.dimensions after legs_after (pass w input) → IsInOrder s after legs_after (pass w input)
passed s w input map after legs legs_after work holds =
    let kept = pass_kept s w work.stands.circuits work.stands.legs input in
    record { holds = holds; circuits = kept.0; stand = kept.1 }

pub handle_timers-requires-clause-work : goal.handle_timers-requires-clause-work
handle_timers-requires-clause-work g c =
    let s = c.requires.work.0 in
    let w = c.requires.work.1 in
    let work = c.requires.work.4 in
    (s, pass w [], c.requires.work.2, c.requires.work.3, passed s w [] _ _ _ _ work (c.boundary-number.ensures.world s.dimensions w [] work.holds))

pub returns-clause-reply : goal.returns-clause-reply
returns-clause-reply g c s w tones timers work input =
    let order = passed s w input _ _ _ _ work (c.boundary-number.ensures.world s.dimensions w input work.holds) in
    let made = c.handle_timers.ensures.makes s (pass w input) tones timers order in
    let recorded = c.handle_timers.ensures.records s (pass w input) tones timers order in
    let number = c.boundary-number.ensures.number s.dimensions w work.holds in
    subst (λ (n : ℕ). let answer : Reply = An_answer.Frame c.boundary-number.result c.handle_timers.new.out.sends c.handle_timers.new.out.records in
    answer ≡ frame_reply n (outcome_of_lines s n (pass w input) s.dimensions.external)) number
    (λ i. An_answer.Frame c.boundary-number.result (made.sent i) (recorded i))

pub returns-clause-world : goal.returns-clause-world
returns-clause-world g c s w tones timers work input =
    let order = passed s w input _ _ _ _ work (c.boundary-number.ensures.world s.dimensions w input work.holds) in
    let made = c.handle_timers.ensures.makes s (pass w input) tones timers order in
    subst (λ (n : ℕ). Holds s.dimensions c.handle_timers.new.self.map c.handle_timers.new.self.legs (outcome_of_lines s n (pass w input) s.dimensions.external).making.world)
    (c.boundary-number.ensures.number s.dimensions w work.holds) made.holds
