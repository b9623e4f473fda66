use Rattle.std.proofs.Common.{◌≡◌, ℕ, ◌+◌, ◌-◌, Option, [], ◌∷◌, ◌++◌, arith, ap, ◌∙◌}
use Rattle.traffic_gen.specs.Calls.{far_line, frames_drawn}
use Rattle.traffic_gen.specs.Lines.{Sync, text}
use Rattle.traffic_gen.proofs.Texts.{frames_end, frames_state_step, frames_step, text_on_ok}
use Rattle.traffic_gen.proofs.call.Call.put_frames.Goals as goal

pub loop-preserved : goal.loop-preserved
loop-preserved c =
    let call = c.args.self.now in
    let one : call.frames - (c.loop.counter + 1) + 1 ≡ call.frames - c.loop.counter = omega (arith, c.loop-test.true) in
    let drew = c.in_ok-put_frame.ensures in
    record {
      lines = frames_step _ _ _ _ _ _ _ _ one drew.state drew.line ∙ c.loop.invariant.lines;
      state = frames_state_step _ _ _ _ _ one drew.state ∙ c.loop.invariant.state;
    }

pub returns-clause-lines : goal.returns-clause-lines
returns-clause-lines c =
    let call = c.args.self.now in
    let none : call.frames - c.loop.counter ≡ 0 = omega (arith, c.loop-test.false) in
    let frames = λ (far : Option ℕ). frames_drawn call.caller far call.frames c.args.draws.now.state in
    let drawn = frames_end call.caller c.far_line-far.result _ c.loop.draws.state c.loop.out.items none ∙ c.loop.invariant.lines in
    text_on_ok _ _ _ _ (frames (far_line call.caller call.callee)) (Sync ∷ [])
    (drawn ∙ ap (λ far. c.args.out.now.items ++ text (frames far)) c.far_line-far.ensures) c.put_sync.ensures
