use Rattle.std.proofs.Common.{◌≡◌, ◌≤◌, get_or}
use Rattle.circuit_model.specs.FrameInput.{idle_octet}
use Rattle.time_stage.proofs.Fetches.{Each1-front, Each1-back, row_fetched}
use Rattle.time_stage.proofs.store.fetch_thirty.Goals as goal

pub fetch_sixteen-front-requires-clause-places : goal.fetch_sixteen-front-requires-clause-places
fetch_sixteen-front-requires-clause-places c = Each1-front (λ place. 30 ≤ place → place ≡ 255) c.args.table.now c.requires.table c.requires.bytes

pub fetch_sixteen-back-requires-clause-places : goal.fetch_sixteen-back-requires-clause-places
fetch_sixteen-back-requires-clause-places c = Each1-back (λ place. 30 ≤ place → place ≡ 255) c.args.table.now c.requires.table c.requires.bytes

pub returns-clause-octets : goal.returns-clause-octets
returns-clause-octets c =
    row_fetched (λ place. get_or c.args.octets.now place idle_octet) c.args.table.now c.args.row.now c.fetch_sixteen-front.result c.fetch_sixteen-back.result c.requires.table c.requires.row
    c.fetch_sixteen-front.ensures c.fetch_sixteen-back.ensures
