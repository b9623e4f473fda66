use Rattle.std.proofs.Common.{◌∙◌, ap}
use Rattle.space_stage.specs.Turning.{woven}
use Rattle.space_stage.proofs.Turns.{turned_by_rounds}
use Rattle.space_stage.proofs.turning.turned.Goals as goal

pub returns : goal.returns
returns c = c.round-4.ensures ∙ ap woven (c.round-3.ensures ∙ ap woven (c.round-2.ensures ∙ ap woven c.round.ensures)) ∙ turned_by_rounds c.args.rows c.requires
