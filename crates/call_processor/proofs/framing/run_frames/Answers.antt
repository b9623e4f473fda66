use Rattle.std.proofs.Common.{◌≡◌, List, sym, ◌∙◌, subst}
use Rattle.std.specs.List.{All}
use Rattle.seat_history.specs.declared.seat_knowledge.SeatKnowledge.{SeatKnowledge}
use Rattle.tone_rules.specs.Tables.{table_of}
use Rattle.call_processor.specs.declared.worked.Placed.{Placed}
use Rattle.call_processor.specs.Frames.{HasFrame}
use Rattle.call_processor.proofs.framing.run_frames.Goals as goal

pub returns-clause-octets : goal.returns-clause-octets
returns-clause-octets g c =
    let works = c.do_frames-done.ensures.works in
    let same : works.answers ≡ c.from.result.items = sym (c.from.ensures.0 ∙ works.held) in
    let said : SeatKnowledge → Placed → Type 0 = HasFrame g.C.Carrier.plays (table_of c.args.trace.now.tones) (g.B.Switchboard.board c.args.board.now) in
    subst (λ (v : SeatKnowledge). All (said v) c.from.result.items) (sym c.release.ensures.known)
    (subst (λ (l : List Placed). All (said (g.B.Switchboard.known c.do_frames-done.new.seat)) l) same works.said)
