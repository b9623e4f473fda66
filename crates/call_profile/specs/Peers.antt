-- The leg that a message is for, and the other leg of its call. Source: this project.
use Rattle.std.specs.Prelude.{◌≡◌, ◌≢◌, IfSome, ℕ, Option, Some, None}
use Rattle.circuit_model.specs.Extent.{IsExternal}
use Rattle.call_states.specs.Status.{FitsMessages}
use Rattle.circuit_map.specs.Connections.{Connections, hears_at}
use Rattle.call_states.specs.declared.leg.HeldLeg.{HeldLeg}

-- a leg of an external slot, to which messages can be sent
pub record IsThere (external : ℕ) (h : HeldLeg) : Type 0 where
  pub within : IsExternal external h.slot
  pub told : FitsMessages h.leg

-- its peer is such a leg too, if it has one, at another slot
abbrev pub PeerIsThere : ℕ → HeldLeg → Option HeldLeg → Type 0
PeerIsThere external h None = Unit {0}
PeerIsThere external h (Some other) = IsThere external other × (other.slot ≢ h.slot)

-- its peer's slot is silent, if it has a peer
abbrev pub IsSilent : Connections → Option HeldLeg → Type 0
IsSilent map peer = IfSome peer (λ other. hears_at map other.slot ≡ None)
