use Rattle.std.proofs.Common.{◌+◌, subst, rules}
use Rattle.control_memory.specs.Tables.{Agree, AreBare, entry_in, nothing}
use Rattle.control_memory.proofs.frame_tables.FrameTables.new.Goals as goal

pub returns-clause-paths : goal.returns-clause-paths
returns-clause-paths c =
    let t = c.in_ok-incoming in
    let lines = c.args.external + c.args.bridges in
    let slots = c.args.slots in
    let bare : AreBare lines slots t.incoming t.space t.outgoing = search rules in
    record {
      incoming = subst (λ n. Agree lines slots (entry_in n t.incoming.entries) nothing) bare.incoming_size.columns bare.none.incoming;
      space = subst (λ n. Agree lines slots (entry_in n t.space.entries) nothing) bare.space_size.columns bare.none.space;
      outgoing = subst (λ n. Agree lines 30 (entry_in n t.outgoing.entries) nothing) bare.outgoing_size.columns bare.none.outgoing;
    }
