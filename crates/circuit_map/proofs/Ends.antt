-- What is known of two slots that are connected both ways, or are to be: the ends of a connection, a member and its port, and an idle slot
-- and the port that it gets.
use Rattle.std.proofs.Common.{◌≡◌, ◌≢◌, ℕ, List, Option, Some, None, sym, ◌∙◌, ap, subst}
use Rattle.std.specs.Prelude.{position, is_none, option_map}
use Rattle.circuit_model.specs.declared.channel.Slot.{Slot}
use Rattle.circuit_model.specs.declared.circuit.Circuit.TheVariants.{Pair, Member}
use Rattle.circuit_model.specs.Ports.{port_of, port_numbered, ports_with}
use Rattle.conference_ports.specs.declared.occupant.Occupant.{Occupant}
use Rattle.conference_ports.specs.Owners.{members}
use Rattle.control_memory.specs.declared.heard.Heard.{Heard}
use Rattle.control_memory.specs.FrameTables.{Recent}
use Rattle.control_memory.specs.Layout.{IsSlot}
use Rattle.circuit_map.specs.Connections.{Connections, IsExternal, IsSound, AreJoined, CanBeJoined, map_lines, hears_at, parted}
use Rattle.control_memory.specs.Connecting.{without_path}
use Rattle.control_memory.specs.Shown.{without_both, partner}
use Rattle.circuit_map.proofs.Paths.{external_slot, hop_of_no_inlet, path_to_no_outlet}
use Rattle.circuit_map.proofs.Views.{idle_seen, idle_free}
use Rattle.circuit_map.proofs.Seating.{FreePort, free_port, port_beyond, port_joins_none, none_joins_port, seated_port}
use Rattle.circuit_map.proofs.Clearing.{hearing_at, hears_at_connected_to, joined_there, joined_back, hears_at_seated_in, member_ported, joined_port, port_joined, port_slot, port_apart}

-- the ends of a connection
pub record AreEnds (m : Connections) (lines : ℕ) (x y : Slot) (since : ℕ) : Type 0 where
  pub near : IsExternal m x
  pub far : IsExternal m y
  pub hears : hears_at m x ≡ Some (Pair y x since)
  pub hears_back : hears_at m y ≡ Some (Pair x y since)
  pub joined : AreJoined lines m.layout x y

-- a member and its port
pub record HasPort (m : Connections) (lines : ℕ) (x p : Slot) (room since : ℕ) : Type 0 where
  pub near : IsExternal m x
  pub hears : hears_at m x ≡ Some (Member room x since)
  pub port : port_of m.external m.ports x ≡ Some p
  pub inside : IsSlot (map_lines m) p
  pub joined : AreJoined lines m.layout x p
  pub parts : parted m x ≡ without_path (without_path m.layout x) p

-- an idle slot and the lowest free port
pub record GetsPort (m : Connections) (lines : ℕ) (x p : Slot) : Type 0 where
  pub near : IsExternal m x
  pub idle : hears_at m x ≡ None
  pub lowest : FreePort m p
  pub can : CanBeJoined lines m.layout x p
  pub port : port_of m.external (ports_with x m.ports) x ≡ Some p

-- k is made of a map's parts, and m is what the map shows
module _ (k m : Connections) (lines first rows : ℕ) (owners : List (Option Occupant)) (hearing : List Heard) (sitting : List (Option (ℕ × ℕ))) (recent : Recent) (is : k ≡ m) (sound : IsSound k lines first rows owners hearing sitting recent) where
  seen : (x : Slot) → IsExternal m x → IsExternal k x
  seen x at = subst (λ (m : Connections). IsExternal m x) (sym is) at

  wide : (y : Slot) → IsSlot (map_lines k) y → IsSlot lines y
  wide y inside = subst (λ w. IsSlot w y) (sym sound.width) inside

  -- two slots that are idle
  pub idle_both : (x y : Slot) → x ≢ y → IsExternal m x → IsExternal m y → hears_at m x ≡ None → hears_at m y ≡ None → CanBeJoined lines k.layout x y
  idle_both x y apart in_x in_y none_x none_y =
      let at_x = idle_seen k m x is in_x none_x in
      let at_y = idle_seen k m y is in_y none_y in
      record {
        slot_x = wide x (external_slot k x at_x.0.0 at_x.0.1);
        slot_y = wide y (external_slot k y at_y.0.0 at_y.0.1);
        distinct = apart;
        free_x = idle_free k lines x sound.width sound.legal.inlets sound.held at_x.0 at_x.1;
        free_y = idle_free k lines y sound.width sound.legal.inlets sound.held at_y.0 at_y.1;
      }

  pub ends_of : (x y to : Slot) (since : ℕ) → IsExternal m x → hears_at m x ≡ Some (Pair y to since) → AreEnds k lines x y since
  ends_of x y to since at hears =
      let h = sound.held.0 in
      let holds = sound.held.1 in
      let near = seen x at in
      let known = hearing_at k h k.ports holds in
      let hx = hears_at_connected_to k h k.ports x y to since holds (ap (λ (m : Connections). hears_at m x) is ∙ hears) in
      let hy = known.both_ways x y since hx in
      let far = known.inside y _ hy in
      let slot = external_slot k y far.0 far.1 in
      record {
        near = near;
        far = far;
        hears = hx;
        hears_back = hy;
        joined = record {
          slot_x = wide x (external_slot k x near.0 near.1);
          slot_y = wide y slot;
          distinct = λ e. known.apart x y since hx (sym e);
          there = joined_there k h k.ports x y since holds (external_slot k x near.0 near.1) hx;
          back = joined_back k h k.ports x y since holds slot hx;
        };
      }

  pub port_not_lacking : (x at : Slot) (room since : ℕ) → hears_at m x ≡ Some (Member room at since) → port_of first k.ports x ≡ None → ⊥
  port_not_lacking x at room since hears lacks =
      let h = sound.held.0 in
      let holds = sound.held.1 in
      let hx = hears_at_seated_in k h k.ports x at room since holds (ap (λ (m : Connections). hears_at m x) is ∙ hears) in
      member_ported k h k.ports x room since holds hx (ap (λ e. port_of e k.ports x) (sym sound.first) ∙ lacks)

  pub port_had : (x p at : Slot) (room since : ℕ) → IsExternal m x → hears_at m x ≡ Some (Member room at since) → port_of first k.ports x ≡ Some p → HasPort k lines x p room since
  port_had x p at room since in_x hears has =
      let h = sound.held.0 in
      let holds = sound.held.1 in
      let near = seen x in_x in
      let hx = hears_at_seated_in k h k.ports x at room since holds (ap (λ (m : Connections). hears_at m x) is ∙ hears) in
      let port : port_of k.external k.ports x ≡ Some p = ap (λ e. port_of e k.ports x) (sym sound.first) ∙ has in
      let inside = port_slot k.external k.bridges k.ports x p port sound.sockets in
      record {
        near = near;
        hears = hx;
        port = port;
        inside = inside;
        joined = record {
          slot_x = wide x (external_slot k x near.0 near.1);
          slot_y = wide p inside;
          distinct = λ e. port_apart k.external k.ports x p near.0 port (sym e);
          there = joined_port k h k.ports x p room since holds (external_slot k x near.0 near.1) hx port;
          back = port_joined k h k.ports x p room since holds inside hx port;
        };
        parts = ap (λ o. without_both k.layout x (partner k.external k.ports o)) hx ∙ ap (without_both k.layout x) port;
      }

  pub port_given : (x p : Slot) → IsExternal m x → hears_at m x ≡ None → members owners ≡ k.ports → option_map (port_numbered first) (position is_none owners) ≡ Some p → GetsPort k lines x p
  port_given x p at none same lowest =
      let h = sound.held.0 in
      let holds = sound.held.1 in
      let near = seen x at in
      let idle = ap (λ (m : Connections). hears_at m x) is ∙ none in
      let f = free_port first owners p k sound.first same sound.sockets lowest in
      record {
        near = near;
        idle = idle;
        lowest = f;
        can = record {
          slot_x = wide x (external_slot k x near.0 near.1);
          slot_y = wide p f.inside;
          distinct = λ e. port_beyond k.external x p near.0 f.far (sym e);
          free_x = idle_free k lines x sound.width sound.legal.inlets sound.held near idle;
          free_y = (
            hop_of_no_inlet k.layout p (λ b j. port_joins_none k h k.ports p b f.number holds f.inside f.far f.lowest f.is j),
            path_to_no_outlet lines k.layout p sound.legal.inlets (λ a inside j. none_joins_port k h k.ports a p f.number holds (subst (λ w. IsSlot w a) sound.width inside) f.far f.lowest f.is j),
          );
        };
        port = seated_port k h k.ports x p f.number holds idle f.lowest f.is;
      }
