use Rattle.std.proofs.Common.{◌+◌, ◌*◌, get_or, sym, subst}
use Rattle.space_stage.specs.Turning.{IsSquare}
use Rattle.space_stage.proofs.Turns.{is_square_of, turned_of}
use Rattle.space_stage.proofs.slotwise.slots_from.Goals as goal

pub turned-requires : goal.turned-requires
turned-requires c = subst IsSquare (sym c.block.ensures) (is_square_of (λ row at. get_or c.args.octets.now (c.args.from + row * 30 + at) 0))

pub returns : goal.returns
returns c = turned_of (λ row at. get_or c.args.octets.now (c.args.from + row * 30 + at) 0) c.block.result c.turned.result c.block.ensures c.turned.ensures
