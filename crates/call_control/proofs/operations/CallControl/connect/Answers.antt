use Rattle.std.proofs.Common.{◌∙◌}
use Rattle.call_control.proofs.AtWorkLemmas.{unless_naming_cleared_silent}
use Rattle.call_control.proofs.ActMakingLemmas.{connected_makes}
use Rattle.call_control.proofs.operations.CallControl.connect.Goals as goal

pub pair-requires-clause-silent_x : goal.pair-requires-clause-silent_x
pair-requires-clause-silent_x g c =
    let work = c.requires.work in
    c.clear.ensures.hears c.args.caller ∙ unless_naming_cleared_silent work.0 c.args.self.now.map c.args.self.now.legs work.1 c.args.caller work.2

pub returns-clause-makes : goal.returns-clause-makes
returns-clause-makes g c d m made =
    connected_makes d c.args.self.now.map c.clear.new.self.map c.pair.new.self.map c.args.self.now.legs c.clear.new.self.legs c.pair.new.self.legs c.args.caller c.args.called c.pair.result
    (c.clear.ensures.holds d) (c.pair.ensures.holds d) (c.pair.ensures.moves d) m made
