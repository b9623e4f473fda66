use Rattle.std.proofs.Common.{sym, ◌∙◌}
use Rattle.std.proofs.lemmas.List.{length-set}
use Rattle.traffic_gen.proofs.Octets.{octet_step, octets_done, state_done, state_step}
use Rattle.traffic_gen.proofs.draws.Draws.octets.Goals as goal

pub loop-place-preserved : goal.loop-place-preserved
loop-place-preserved c =
    let before = c.loop-place.invariant in
    let within = c.loop-place-test.true in
    record {
      wide = length-set _ _ _ ∙ before.wide;
      done = octet_step _ _ _ _ _ _ before.wide within c.draw.ensures.state c.draw.ensures.value ∙ before.done;
      rest = state_step _ _ _ _ within c.draw.ensures.state ∙ before.rest;
    }

pub returns-clause-octets : goal.returns-clause-octets
returns-clause-octets c =
    sym (octets_done _ _ _ _ c.loop-place.invariant.wide c.loop-place-test.false) ∙ c.loop-place.invariant.done

pub returns-clause-state : goal.returns-clause-state
returns-clause-state c = sym (state_done _ _ _ c.loop-place-test.false) ∙ c.loop-place.invariant.rest
