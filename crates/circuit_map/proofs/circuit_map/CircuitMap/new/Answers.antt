use Rattle.std.proofs.Common.{rules, ◌≡◌, ◌*◌, length, replicate, None, refl, ◌∙◌, ap}
use Rattle.std.proofs.lemmas.List.{length-replicate}
use Rattle.circuit_model.specs.Holding.{empty}
use Rattle.conference_ports.specs.Owners.{members}
use Rattle.circuit_map.specs.Connections.{hears_in}
use Rattle.circuit_map.proofs.OwnersRooms.{roomed_free}
use Rattle.circuit_map.proofs.Paths.{own_ports}
use Rattle.circuit_map.proofs.Starting.{holds_empty, hears_in_silent_rows, free_members}
use Rattle.circuit_map.proofs.Recent.{nothing_latest}
use Rattle.circuit_map.proofs.NextMemory.{shown_start}
use Rattle.circuit_map.proofs.circuit_map.CircuitMap.new.Goals as goal

pub returns-clause-holds : goal.returns-clause-holds
returns-clause-holds g c =
    let rows : c.in_ok-vec.field-0.items ≡ replicate (30 * c.args.external) None = search rules in
    holds_empty _ refl (λ z. ap (λ l. hears_in c.args.external l z) rows ∙ hears_in_silent_rows c.args.external (30 * c.args.external) z) (ap members c.in_ok-new.ensures.free ∙ free_members (30 * c.args.bridges)) c.requires.bare

pub invariant_of-result : goal.invariant_of-result
invariant_of-result g c =
    let rows : c.in_ok-vec.field-0.items ≡ replicate (30 * c.args.external) None = search rules in
    let sitting : c.in_ok-vec-2.field-0.items ≡ replicate (30 * c.args.bridges) None = search rules in
    record {
      few = c.requires.few;
      width = c.requires.lines;
      first = c.in_ok-new.ensures.external;
      rows = c.in_ok-new.ensures.lines;
      listeners = ap length rows ∙ length-replicate (30 * c.args.external) None;
      sockets = ap length (ap members c.in_ok-new.ensures.free ∙ free_members (30 * c.args.bridges)) ∙ length-replicate (30 * c.args.bridges) None;
      legal = c.slots-slots.ensures.legal;
      held = (empty, own_ports _ _ _ (returns-clause-holds g c));
      roomed = roomed_free _ _ (30 * c.args.bridges) c.in_ok-new.ensures.free;
      shown = shown_start c.args.external c.args.bridges (30 * c.args.external) (30 * c.args.bridges) _ _ _ _ rows (ap members c.in_ok-new.ensures.free ∙ free_members (30 * c.args.bridges)) c.in_ok-new-2.ensures sitting;
      recent = record {
        external = c.in_ok-new-3.ensures.external;
        bridges = c.in_ok-new-3.ensures.bridges;
        slots = c.in_ok-new-3.ensures.slots ∙ c.slots-slots.ensures.slots;
        latest = nothing_latest _ _ _ c.in_ok-new-3.field-0 c.in_ok-new-3.ensures.latest;
      };
    }
