use Rattle.std.proofs.Common.{◌%◌, ◌∙◌, ap, sym, List, ℕ, slice_index, arith}
use Rattle.std.proofs.lemmas.List.{get_or-replicate}
use Rattle.frame_engine.proofs.EarlierFrames.{counted-more}
use Rattle.frame_engine.proofs.marker.MarkerCarrier.frame.Goals as goal

pub returns-clause-plays : goal.returns-clause-plays
returns-clause-plays g c b next at line place =
    let many = c.requires.out in
    ap (λ (row : List ℕ). slice_index row at.place) (c.fill.ensures at.line (let long = c.told-out in let lines = c.requires.sizes.external in omega (arith, line, many, long, lines)))
    ∙ get_or-replicate 30 at.place (c.args.self.now.next % 256) 0 place
    ∙ ap (λ n. n % 256) (sym c.requires.frame)

pub returns-clause-carries : goal.returns-clause-carries
returns-clause-carries g c b next = counted-more c.args.self.now.next b.inputs b.held b.ports c.args.arg5.now b.circuits b.seats next.carries
