use Rattle.call_profile.specs.World.{World}
use Rattle.std.proofs.Common.{ap}
use Rattle.call_laws.proofs.FabricLemmas.{done_alike, frame_alike}
use Rattle.call_laws.proofs.calls.law_of_paths.Goals as goal

pub returns-clause-sends : goal.returns-clause-sends
returns-clause-sends c s w layout line octets = (done_alike s s.dimensions.slots w layout line octets).making.sends

pub returns-clause-records : goal.returns-clause-records
returns-clause-records c s w layout line octets = (done_alike s s.dimensions.slots w layout line octets).recorded

pub returns-clause-circuits : goal.returns-clause-circuits
returns-clause-circuits c s w layout line octets = ap (λ (v : World). v.holding) (done_alike s s.dimensions.slots w layout line octets).making.world

pub returns-clause-legs : goal.returns-clause-legs
returns-clause-legs c s w layout line octets = ap (λ (v : World). v.legs) (done_alike s s.dimensions.slots w layout line octets).making.world

pub returns-clause-ports : goal.returns-clause-ports
returns-clause-ports c s w layout line octets = ap (λ (v : World). v.ports) (done_alike s s.dimensions.slots w layout line octets).making.world

pub returns-clause-moved : goal.returns-clause-moved
returns-clause-moved c s w layout line octets = (done_alike s s.dimensions.slots w layout line octets).making.moved

pub returns-clause-frame_sends : goal.returns-clause-frame_sends
returns-clause-frame_sends c s w layout input = (frame_alike s s.dimensions.slots w layout input).making.sends

pub returns-clause-frame_records : goal.returns-clause-frame_records
returns-clause-frame_records c s w layout input = (frame_alike s s.dimensions.slots w layout input).recorded

pub returns-clause-frame_world : goal.returns-clause-frame_world
returns-clause-frame_world c s w layout input = (frame_alike s s.dimensions.slots w layout input).making.world
