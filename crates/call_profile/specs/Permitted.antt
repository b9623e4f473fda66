-- The conditions of the operations. They are proved once for the operations of every message, and from them follow the
-- conditions of its commands (`IsMade`) and of the code's calls. Source: this project.
use Rattle.std.specs.Prelude.{◌≡◌, ◌*◌, ◌<◌, true, count_by}
use Rattle.circuit_model.specs.declared.channel.Slot.{Slot}
use Rattle.circuit_model.specs.Circuits.{is_idle, is_member}
use Rattle.circuit_model.specs.Extent.{IsExternal}
use Rattle.exchange_events.specs.Sizes.{Dimensions}
use Rattle.call_profile.specs.World.{World}

-- a slot that no circuit uses, and a free port
pub record CanSeat (d : Dimensions) (w : World) (x : Slot) : Type 0 where
  pub within : IsExternal d.external x
  pub idle : is_idle w.holding.circuits x ≡ true
  pub free : count_by is_member w.holding.circuits < 30 * d.bridges
