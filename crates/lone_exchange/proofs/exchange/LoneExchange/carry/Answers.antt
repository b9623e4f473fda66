use Rattle.std.proofs.Common.{rules, ◌≡◌, ◌++◌, ◌∷◌, [], length, ap, refl, sym, ◌∙◌, subst}
use Rattle.circuit_model.specs.Dimensions.{Dimensions}
use Rattle.circuit_model.specs.FrameInput.{Input}
use Rattle.control_memory.specs.Image.{IsOfSize}
use Rattle.tone_rules.specs.declared.tones.Tones.{Tones}
use Rattle.tone_rules.specs.Tables.{IsGiven as Is_tone_given, table_of}
use Rattle.call_profile.proofs.GivenToneLemmas.{sounds_given}
use Rattle.frame_engine.specs.Frames.{PlaysOut}
use Rattle.lone_exchange.specs.At.{ArePlayed}
use Rattle.lone_exchange.proofs.AtLemmas.{are_played, boundary, frame_at, is_shown, made_so, next_frame, no_tool, same_input, tool_at, written_whole}
use Rattle.lone_exchange.proofs.exchange.LoneExchange.carry.Goals as goal

pub unreachable-requires : goal.unreachable-requires
unreachable-requires g c =
    let (s, w, given, at) = c.requires.at in
    let d = s.dimensions in
    let fits = tool_at d c.args.event.now c.args.input.now c.args.self.now.context.tool c.requires.frame at.image in
    no_tool d c.args.event.now c.args.input.now c.happen-response.new.context.tool c.requires.frame c.in_default.is (c.happen-response.ensures.tool d fits)

pub frame-requires-clause-sizes : goal.frame-requires-clause-sizes
frame-requires-clause-sizes g c =
    let (s, w, given, at) = c.requires.at in
    let d = s.dimensions in
    let fits = tool_at d c.args.event.now c.args.input.now c.args.self.now.context.tool c.requires.frame at.image in
    let shown = is_shown d w c.args.event.now c.args.input.now c.happen-response.new.context.tool c.in-Image.image c.requires.frame c.in-Image.is
    (c.happen-response.ensures.tool d fits) (c.happen-response.ensures.shows d w at.work.holds) in
    subst (λ (e : Dimensions). IsOfSize e c.in-Image.image) (sym at.sized) shown.size

pub frame-requires-clause-tones : goal.frame-requires-clause-tones
frame-requires-clause-tones g c = λ x line place kind since sounds.
    let (s, w, given, at) = c.requires.at in
    let d = s.dimensions in
    let fits = tool_at d c.args.event.now c.args.input.now c.args.self.now.context.tool c.requires.frame at.image in
    let shown = is_shown d w c.args.event.now c.args.input.now c.happen-response.new.context.tool c.in-Image.image c.requires.frame c.in-Image.is
    (c.happen-response.ensures.tool d fits) (c.happen-response.ensures.shows d w at.work.holds) in
    subst (λ (t : Tones). Is_tone_given t kind) given.tones_are (sounds_given s.tones c.in-Image.image _ _ _ (made_so s w at.work.planned at.came).sounding shown.shows x line place kind since sounds)

pub returns-clause-world : goal.returns-clause-world
returns-clause-world g c s w given at =
    let d = s.dimensions in
    let image = c.in-Image.image in
    let fits = tool_at d c.args.event.now c.args.input.now c.args.self.now.context.tool c.requires.frame at.image in
    let shown = is_shown d w c.args.event.now c.args.input.now c.happen-response.new.context.tool image c.requires.frame c.in-Image.is
    (c.happen-response.ensures.tool d fits) (c.happen-response.ensures.shows d w at.work.holds) in
    let long : length c.frame.new.out ≡ length c.args.self.now.octets.items = search rules in
    let room : c.args.self.now.octets.len ≡ length c.args.self.now.octets.items = search rules in
    let more = c.frame.ensures.carries (boundary w) (next_frame (g.C.Carrier.carries c.args.self.now.engine) image d s.tones w (made_so s w at.work.planned at.came) shown at.carried) in
    frame_at g.C.Carrier.carries g.C.Carrier.next g.C.Carrier.sizes c.args.self.now _ s w c.args.event.now c.args.input.now image c.frame.new.image at c.requires.frame c.requires.fits
    (c.happen-response.ensures.world s w given.plan_is given.tones_are given.timers_are at.work) shown.size c.frame.ensures.image refl
    (subst (λ (l : Input). g.C.Carrier.carries c.frame.new.self (w.inputs ++ l ∷ []) (w.held ++ w.holding.circuits ∷ []) (w.seated ++ w.ports ∷ [])) c.as_slice.ensures more)
    c.frame.ensures.next c.frame.ensures.sizes (ap length (written_whole c.args.self.now.octets.len c.frame.new.out c.args.self.now.octets.items (room ∙ sym long) (sym long)) ∙ long)

pub returns-clause-played : goal.returns-clause-played
returns-clause-played g c s w given at input frame =
    let d = s.dimensions in
    let image = c.in-Image.image in
    let fits = tool_at d c.args.event.now c.args.input.now c.args.self.now.context.tool c.requires.frame at.image in
    let shown = is_shown d w c.args.event.now c.args.input.now c.happen-response.new.context.tool image c.requires.frame c.in-Image.is
    (c.happen-response.ensures.tool d fits) (c.happen-response.ensures.shows d w at.work.holds) in
    let long : length c.frame.new.out ≡ length c.args.self.now.octets.items = search rules in
    let room : c.args.self.now.octets.len ≡ length c.args.self.now.octets.items = search rules in
    let plays = g.C.Carrier.plays in
    let played = c.frame.ensures.plays (boundary w) (next_frame (g.C.Carrier.carries c.args.self.now.engine) image d s.tones w (made_so s w at.work.planned at.came) shown at.carried) in
    let given_input = subst (λ (l : Input). PlaysOut image.external (plays (table_of c.args.tones.now) (w.inputs ++ l ∷ []) (w.held ++ w.holding.circuits ∷ []) image.frame) c.frame.new.out)
    (c.as_slice.ensures ∙ same_input c.args.event.now c.args.input.now input c.requires.frame frame) played in
    subst (ArePlayed plays s w input) (sym (written_whole c.args.self.now.octets.len c.frame.new.out c.args.self.now.octets.items (room ∙ sym long) (sym long)))
    (are_played plays s w input image c.args.tones.now c.frame.new.out shown given.tones_are (long ∙ at.lines) given_input)
