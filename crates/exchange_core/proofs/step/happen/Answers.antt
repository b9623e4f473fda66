use Rattle.std.proofs.Common.{ℕ, List, [], sym, subst}
use Rattle.std.specs.Prelude.{IfSome}
use Rattle.circuit_model.specs.FrameInput.{Input}
use Rattle.exchange_core.specs.declared.tool.Tool.{Tool}
use Rattle.exchange_core.specs.declared.tool.Tool.TheVariants as tool
use Rattle.exchange_events.specs.declared.trace.Event.{Event}
use Rattle.exchange_events.specs.declared.trace.Event.TheVariants.{Frame}
use Rattle.call_control.specs.Ahead.{IsReadAhead}
use Rattle.exchange_core.specs.Ahead.{IsReadOf}
use Rattle.exchange_core.specs.Working.{IsToolFor}
use Rattle.exchange_events.specs.Sizes.{Dimensions, Setting}
use Rattle.exchange_events.specs.declared.reply.Reply.TheVariants as An_answer
use Rattle.exchange_core.proofs.step.happen.Goals as goal
use Rattle.call_control.specs.AtWork.{IsAtWork, IsInOrder}
use Rattle.circuit_map.specs.Connections.{Connections}
use Rattle.call_profile.specs.Legs.{Legs}
use Rattle.call_profile.specs.World.{World}

-- what a frame's tool must be does not depend on what arrives
frame_tool : (d : Dimensions) (input other : Input) (t : Tool) → IsToolFor d (Frame input) t → IsToolFor d (Frame other) t
frame_tool d input other (tool.Image image) is = is
frame_tool d input other tool.Nothing is = absurd is

pub returns-in-Nail-clause-reply : goal.returns-in-Nail-clause-reply
returns-in-Nail-clause-reply g c s w plan tones timers work = rw c.in-Nail.is (c.nail.ensures.reply c.args.context.now.out s w work.holds)

pub returns-in-Nail-clause-world : goal.returns-in-Nail-clause-world
returns-in-Nail-clause-world g c s w plan tones timers work = rw c.in-Nail.is (c.nail.ensures.world s w work.holds)

pub returns-in-Free-clause-reply : goal.returns-in-Free-clause-reply
returns-in-Free-clause-reply g c s w plan tones timers work = rw c.in-Free.is (c.free.ensures.reply c.args.context.now.out s w work.holds)

-- the legs are consistent, whatever the plan
in_order : (s : Setting) (w : World) (map : Connections) (legs : Legs) → IsAtWork s map legs w → IsInOrder s map legs w
in_order s w map legs work = record { holds = work.holds; circuits = work.stands.circuits; stand = work.stands.legs }

pub link_up-requires-clause-work : goal.link_up-requires-clause-work
link_up-requires-clause-work g c = (c.requires.work.0, c.requires.work.1, c.requires.work.3, in_order _ _ _ _ c.requires.work.5)

pub returns-in-LinkUp-clause-reply : goal.returns-in-LinkUp-clause-reply
returns-in-LinkUp-clause-reply g c s w plan tones timers work =
    let order = in_order s w _ _ work in
    let made = c.link_up.ensures.makes s w tones order in
    rw c.in-LinkUp.is (λ i. An_answer.Sent (made.sent i) (c.link_up.ensures.moved i) (c.link_up.ensures.records s w tones order i))

pub returns-in-LinkUp-clause-world : goal.returns-in-LinkUp-clause-world
returns-in-LinkUp-clause-world g c s w plan tones timers work = rw c.in-LinkUp.is (c.link_up.ensures.makes s w tones (in_order s w _ _ work)).holds

pub link_down-requires-clause-work : goal.link_down-requires-clause-work
link_down-requires-clause-work g c = (c.requires.work.0, c.requires.work.1, c.requires.work.3, in_order _ _ _ _ c.requires.work.5)

pub returns-in-LinkDown-clause-reply : goal.returns-in-LinkDown-clause-reply
returns-in-LinkDown-clause-reply g c s w plan tones timers work =
    let order = in_order s w _ _ work in
    let made = c.link_down.ensures.makes s w tones order in
    rw c.in-LinkDown.is (λ i. An_answer.Sent (made.sent i) (c.link_down.ensures.moved i) (c.link_down.ensures.records s w tones order i))

pub returns-in-LinkDown-clause-world : goal.returns-in-LinkDown-clause-world
returns-in-LinkDown-clause-world g c s w plan tones timers work = rw c.in-LinkDown.is (c.link_down.ensures.makes s w tones (in_order s w _ _ work)).holds

pub restart_interface-requires-clause-work : goal.restart_interface-requires-clause-work
restart_interface-requires-clause-work g c = (c.requires.work.0, c.requires.work.1, c.requires.work.3, in_order _ _ _ _ c.requires.work.5)

pub returns-in-RestartLine-clause-reply : goal.returns-in-RestartLine-clause-reply
returns-in-RestartLine-clause-reply g c s w plan tones timers work =
    let order = in_order s w _ _ work in
    let made = c.restart_interface.ensures.makes s w tones order in
    rw c.in-RestartLine.is (λ i. An_answer.Sent (made.sent i) (c.restart_interface.ensures.moved i) (c.restart_interface.ensures.records s w tones order i))

pub returns-in-RestartLine-clause-world : goal.returns-in-RestartLine-clause-world
returns-in-RestartLine-clause-world g c s w plan tones timers work = rw c.in-RestartLine.is (c.restart_interface.ensures.makes s w tones (in_order s w _ _ work)).holds

pub returns-in-Frame-clause-world : goal.returns-in-Frame-clause-world
returns-in-Frame-clause-world g c s w plan tones timers work = rw c.in-Frame.is (c.frame-number.ensures.world s w tones timers work c.in-Frame.field-0)

pub returns-in-Frame-clause-reply : goal.returns-in-Frame-clause-reply
returns-in-Frame-clause-reply g c s w plan tones timers work = rw c.in-Frame.is (c.frame-number.ensures.reply s w tones timers work c.in-Frame.field-0)

pub returns-in-Frame-clause-tool : goal.returns-in-Frame-clause-tool
returns-in-Frame-clause-tool g c d fits =
    let old : IsToolFor d (Frame c.in-Frame.field-0) c.args.context.now.tool = subst (λ (e : Event). IsToolFor d e c.args.context.now.tool) c.in-Frame.is fits in
    let new = frame_tool d [] c.in-Frame.field-0 c.frame-number.new.tool (c.frame-number.ensures.tool d (frame_tool d c.in-Frame.field-0 [] c.args.context.now.tool old)) in
    subst (λ (e : Event). IsToolFor d e c.frame-number.new.tool) (sym c.in-Frame.is) new

pub handle_message-requires-clause-ahead : goal.handle_message-requires-clause-ahead
handle_message-requires-clause-ahead g c =
    subst (λ (octets : List ℕ). IfSome c.args.context.now.ahead (IsReadAhead c.args.plan.now octets)) (sym c.as_slice-octets.ensures)
    (subst (λ (e : Event). IfSome c.args.context.now.ahead (IsReadOf c.args.plan.now e)) c.in-Message.is c.requires.ahead)
