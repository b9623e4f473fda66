use Rattle.std.proofs.Common.{◌∙◌, ap, ◌++◌, [], ◌∷◌}
use Rattle.meters.proofs.Rings.{detail_more}
use Rattle.meters.proofs.call_detail.CallDetailMeter.note.Goals as goal

pub returns-clause-text : goal.returns-clause-text
returns-clause-text c = λ calls. rw (← c.self.view_is) (detail_more c.self.inside.keep c.self.inside.calls.items c.push_back_reserved.new.self.items calls c.args.told.now (c.push_back_reserved.ensures.items ∙ ap (λ kept. kept ++ c.args.told.now ∷ []) c.make_room.ensures.last))
