use Rattle.std.proofs.Common.{rules, ◌≡◌, ◌+◌, ℕ, ◌<◌, List, [], ◌∷◌, ◌++◌, length, slice_index_or, refl, sym, ap, ◌∙◌, subst, arith, length-take-le}
use Rattle.circuit_model.specs.FrameInput.{Input}
use Rattle.exchange_events.specs.Responses.{reply_of}
use Rattle.seat_history.specs.Histories.{before}
use Rattle.control_memory.specs.Image.{IsOfSize}
use Rattle.exchange_core.proofs.StepLemmas.{nothing_read}
use Rattle.exchange_core.specs.Boards.{world_at, setting_at, turns_of}
use Rattle.exchange_events.specs.Sizes.{Dimensions}
use Rattle.exchange_events.specs.declared.trace.Trace.{Trace}
use Rattle.frame_engine.specs.Frames.{PlaysOut}
use Rattle.tone_rules.specs.Tables.{table_of}
use Rattle.call_processor.proofs.AloneLemmas.{next_alone}
use Rattle.call_processor.proofs.EventLemmas.{Next, answer_next}
use Rattle.call_processor.proofs.FrameLemmas.{frame_asks, boundary, world_at_frames_few, input_whole, made_at, next_frame, one_input, played_here, ready_after, same_frames, still_carried, written_whole}
use Rattle.call_profile.proofs.GivenToneLemmas.{sounds_given}
use Rattle.call_processor.specs.Keeping.{placed}
use Rattle.call_processor.proofs.KeepingLemmas.{on_ok}
use Rattle.call_processor.specs.declared.worked.Placed.{Placed}
use Rattle.call_processor.proofs.framing.do_frame.Goals as goal

pub handle_into-place-requires-clause-ahead : goal.handle_into-place-requires-clause-ahead
handle_into-place-requires-clause-ahead g c = nothing_read (g.B.Switchboard.board c.args.cx.now.board.now).trace c.args.event c.args.input.now c.args.machine.now.context.ahead c.requires.frame

pub frame-requires-clause-frame : goal.frame-requires-clause-frame
frame-requires-clause-frame g c =
    let K = g.B.Switchboard.known in
    let board = g.B.Switchboard.board c.args.cx.now.board.now in
    let history = before c.handle_into-place.result.0 (K c.handle_into-place.new.seat).seen in
    let same = same_frames board (K c.args.seat.now).seen history c.handle_into-place.ensures.done.begins (c.handle_into-place.ensures.done.frames c.requires.baton) in
    let a = frame_asks board history c.args.event c.args.input.now c.handle_into-place.new.context.tool c.in-Image.image c.handle_into-place.ensures.done.sound c.requires.frame c.in-Image.is c.handle_into-place.ensures.done.shows c.handle_into-place.ensures.done.tool in
    a.shows.1.frame ∙ (same.next ∙ sym c.requires.ready.number)

pub frame-requires-clause-last : goal.frame-requires-clause-last
frame-requires-clause-last g c =
    let K = g.B.Switchboard.known in
    let board = g.B.Switchboard.board c.args.cx.now.board.now in
    let place = c.handle_into-place.result.0 in
    let history = before place (K c.handle_into-place.new.seat).seen in
    let same = same_frames board (K c.args.seat.now).seen history c.handle_into-place.ensures.done.begins (c.handle_into-place.ensures.done.frames c.requires.baton) in
    let last = c.handle_into-place.ensures.done.place in
    let below = c.handle_into-place.ensures.done.below in
    let long = length-take-le place (K c.handle_into-place.new.seat).seen (omega (arith, last)) in
    let few = world_at_frames_few board history c.handle_into-place.ensures.done.sound (omega (arith, long, below)) in
    omega (arith, few, same.next, c.requires.ready.number)

pub frame-requires-clause-sizes : goal.frame-requires-clause-sizes
frame-requires-clause-sizes g c =
    let K = g.B.Switchboard.known in
    let board = g.B.Switchboard.board c.args.cx.now.board.now in
    let history = before c.handle_into-place.result.0 (K c.handle_into-place.new.seat).seen in
    let a = frame_asks board history c.args.event c.args.input.now c.handle_into-place.new.context.tool c.in-Image.image c.handle_into-place.ensures.done.sound c.requires.frame c.in-Image.is c.handle_into-place.ensures.done.shows c.handle_into-place.ensures.done.tool in
    subst (λ (d : Dimensions). IsOfSize d c.in-Image.image) (sym c.requires.ready.sized) a.size

pub frame-requires-clause-input : goal.frame-requires-clause-input
frame-requires-clause-input g c =
    ap length c.as_slice.ensures ∙ (input_whole _ c.args.event c.args.input.now c.handle_into-place.ensures.done.sound c.requires.frame ∙ sym (ap (λ (d : Dimensions). d.external) c.requires.ready.sized))

pub frame-requires-clause-tones : goal.frame-requires-clause-tones
frame-requires-clause-tones g c = λ at line place kind since sounds.
    let K = g.B.Switchboard.known in
    let board = g.B.Switchboard.board c.args.cx.now.board.now in
    let history = before c.handle_into-place.result.0 (K c.handle_into-place.new.seat).seen in
    let a = frame_asks board history c.args.event c.args.input.now c.handle_into-place.new.context.tool c.in-Image.image c.handle_into-place.ensures.done.sound c.requires.frame c.in-Image.is c.handle_into-place.ensures.done.shows c.handle_into-place.ensures.done.tool in
    rw (ap (λ (t : Trace). t.tones) c.requires.trace) (sounds_given _ c.in-Image.image _ _ _ (made_at board history c.handle_into-place.ensures.done.sound).sounding a.shows at line place kind since sounds)

pub returns-clause-ready : goal.returns-clause-ready
returns-clause-ready g c =
    let K = g.B.Switchboard.known in
    let board = g.B.Switchboard.board c.args.cx.now.board.now in
    let history = before c.handle_into-place.result.0 (K c.handle_into-place.new.seat).seen in
    let w = world_at board history in
    let n = c.args.event in
    let input = c.args.input.now in
    let same = same_frames board (K c.args.seat.now).seen history c.handle_into-place.ensures.done.begins (c.handle_into-place.ensures.done.frames c.requires.baton) in
    let a = frame_asks board history n input c.handle_into-place.new.context.tool c.in-Image.image c.handle_into-place.ensures.done.sound c.requires.frame c.in-Image.is c.handle_into-place.ensures.done.shows c.handle_into-place.ensures.done.tool in
    let carried = still_carried g.C.Carrier.carries g.C.Carrier.next g.C.Carrier.sizes board (world_at board (K c.args.seat.now).seen) w c.args.machine.now.engine same c.requires.ready.carried in
    let more = c.frame.ensures.carries (boundary w) (next_frame (g.C.Carrier.carries c.args.machine.now.engine) c.in-Image.image (setting_at board).dimensions w a carried) in
    ready_after g.C.Carrier.carries g.C.Carrier.next g.C.Carrier.sizes board history (K c.handle_into-place.new.seat).seen (K c.args.seat.now).number n input c.frame.new.self c.in-Image.image c.frame.new.image
    c.requires.frame (ap (λ k. k.seen) c.handle_into-place.ensures.done.seat) a.size c.frame.ensures.image
    (subst (λ (l : Input). g.C.Carrier.carries c.frame.new.self (w.inputs ++ l ∷ []) (w.held ++ w.holding.circuits ∷ []) (w.seated ++ w.ports ∷ [])) c.as_slice.ensures more)
    (c.frame.ensures.next ∙ ap (λ (k : ℕ). k + 1) (c.requires.ready.number ∙ sym same.next))
    (c.frame.ensures.sizes ∙ c.requires.ready.sized)

pub returns-clause-kept : goal.returns-clause-kept
returns-clause-kept g c =
    let K = g.B.Switchboard.known in
    let board = g.B.Switchboard.board c.args.cx.now.board.now in
    let place = c.handle_into-place.result.0 in
    let history = before place (K c.handle_into-place.new.seat).seen in
    let p : Placed = placed place c.args.event c.handle_into-place.result.1 c.handle_into-place.new.context.out c.as_slice-octets.result.now in
    let last = c.handle_into-place.ensures.done.place in
    let next : Next history c.args.event place (K c.args.seat.now) (K c.handle_into-place.new.seat) = record {
      seat = c.handle_into-place.ensures.done.seat;
      begins = c.handle_into-place.ensures.done.begins;
      place_is = length-take-le place (K c.handle_into-place.new.seat).seen (omega (arith, last));
      turn = c.requires.turn;
      exact = c.handle_into-place.ensures.done.own;
    } in
    let w = world_at board history in
    let n = c.args.event in
    let input = c.args.input.now in
    let same = same_frames board (K c.args.seat.now).seen history c.handle_into-place.ensures.done.begins (c.handle_into-place.ensures.done.frames c.requires.baton) in
    let a = frame_asks board history n input c.handle_into-place.new.context.tool c.in-Image.image c.handle_into-place.ensures.done.sound c.requires.frame c.in-Image.is c.handle_into-place.ensures.done.shows c.handle_into-place.ensures.done.tool in
    let carried = still_carried g.C.Carrier.carries g.C.Carrier.next g.C.Carrier.sizes board (world_at board (K c.args.seat.now).seen) w c.args.machine.now.engine same c.requires.ready.carried in
    let played = c.frame.ensures.plays (boundary w) (next_frame (g.C.Carrier.carries c.args.machine.now.engine) c.in-Image.image (setting_at board).dimensions w a carried) in
    let size : length c.frame.new.out ≡ length c.args.machine.now.octets.items = search rules in
    let room : c.args.machine.now.octets.len ≡ length c.args.machine.now.octets.items = search rules in
    let kept : c.as_slice-octets.result.now ≡ c.frame.new.out =
    c.as_slice-octets.ensures.value ∙ written_whole c.args.machine.now.octets.len c.frame.new.out c.args.machine.now.octets.items (room ∙ sym size) (sym size) in
    on_ok c.push.result (λ held. record {
      answer = p;
      place = last;
      event_is = refl;
      is = answer_next board history (K c.args.seat.now) (K c.handle_into-place.new.seat) p (reply_of c.handle_into-place.result.1 c.handle_into-place.new.context.out) next c.handle_into-place.ensures.done.reply c.handle_into-place.ensures.done.few refl;
      said = λ other number.
          let arrived : c.as_slice.result.now ≡ other = c.as_slice.ensures ∙ one_input board.trace n input other c.requires.frame number in
          played_here g.C.Carrier.plays (table_of c.args.cx.now.trace.now.tones) board.trace.external w other c.frame.new.out c.as_slice-octets.result.now c.in-Image.image.external c.in-Image.image.frame
          a.size.external a.shows.1.frame kept (size ∙ c.requires.lines)
          (subst (λ (l : Input). PlaysOut c.in-Image.image.external (g.C.Carrier.plays (table_of c.args.cx.now.trace.now.tones) (w.inputs ++ l ∷ []) (w.held ++ w.holding.circuits ∷ []) c.in-Image.image.frame) c.frame.new.out) arrived played);
      held = held;
    }) c.push.ensures.kept

pub returns-clause-next : goal.returns-clause-next
returns-clause-next g c = λ only.
    let K = g.B.Switchboard.known in
    next_alone (turns_of (g.B.Switchboard.board c.args.cx.now.board.now)) (before c.handle_into-place.result.0 (K c.handle_into-place.new.seat).seen) c.args.event (K c.args.seat.now) (K c.handle_into-place.new.seat)
    c.handle_into-place.ensures.done.seat (c.handle_into-place.ensures.done.alone only.0 only.1) (c.handle_into-place.ensures.done.settled only.0)

pub push-requires : goal.push-requires
push-requires g c =
    let size : length c.frame.new.out ≡ length c.args.machine.now.octets.items = search rules in
    let room : c.args.machine.now.octets.len ≡ length c.args.machine.now.octets.items = search rules in
    let kept : c.as_slice-octets.result.now ≡ c.frame.new.out =
    c.as_slice-octets.ensures.value ∙ written_whole c.args.machine.now.octets.len c.frame.new.out c.args.machine.now.octets.items (room ∙ sym size) (sym size) in
    record {
      idle = λ row late inside.
          let here : row < length c.frame.new.out = omega (arith, inside, ap length kept) in
          let few : row < 18446744073709551615 = search rules in
          ap (λ (rows : List (List ℕ)). slice_index_or rows row []) kept
          ∙ c.frame.ensures.idle row (let said = c.sounding.ensures (omega (arith, late, few)) in omega (arith, said, late)) here;
    }
