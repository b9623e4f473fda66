use Rattle.std.proofs.Common.{rules, ◌<◌, ℕ, cond, eqb, get_or, subst, ap, ◌∙◌}
use Rattle.control_memory.specs.Tables.{IsRow, entry}
use Rattle.space_stage.proofs.Overlays.{lays_more}
use Rattle.space_stage.proofs.overlay.lay_row.Goals as goal

pub loop-k-preserved : goal.loop-k-preserved
loop-k-preserved c =
    let h = c.args.highway.now in
    let t = c.args.table.now in
    let senders = c.args.senders.now in
    let bytes = c.row-lines.result.now in
    let numbers = entry t c.args.line in
    let is : IsRow 30 h.lines numbers bytes =
    subst (λ (w : ℕ). IsRow w h.lines numbers bytes) c.requires.table.columns (subst (λ (l : ℕ). IsRow t.columns l numbers bytes) c.requires.table.limit c.row-lines.ensures) in
    let low : c.loop-k.k < c.args.count = search rules in
    let from = get_or senders c.loop-k.k 0 in
    record {
      size = search rules;
      lays = λ slot near.
          lays_more h c.args.count senders c.requires.senders c.requires.slots numbers bytes is slot near c.loop-k.k (get_or c.loop-k.row slot 0) (get_or c.lay.new.row slot 0) low (c.loop-k.invariant.lays slot near)
          (c.lay.ensures.octets slot near ∙ ap (λ (o : ℕ). cond (eqb (get_or bytes slot 0) from) o (get_or c.loop-k.row slot 0)) (c.sent_row.ensures.octets slot near));
    }
