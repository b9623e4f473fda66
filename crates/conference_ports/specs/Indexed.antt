-- The ports with an index from each external slot to its port.
use Rattle.std.specs.Prelude.{◌≡◌, ℕ, ◌+◌, ◌*◌, ◌<◌, ◌≤◌, List, length, Option, Some, None, position, slice_index_or}
use Rattle.circuit_model.specs.declared.channel.Slot.{Slot}
use Rattle.circuit_model.specs.Ports.{has}
use Rattle.conference_ports.specs.Owners.{members}
use Rattle.conference_ports.specs.declared.occupant.Occupant.{Occupant}

-- the place of an external slot in the index
abbrev pub index_of : Slot → ℕ
index_of at = 30 * at.line + at.place

-- the index has each member's port and no port for any other external slot, and each owner is an external slot with
-- that port only
pub record IsIndexed (external lines : ℕ) (owners : List (Option Occupant)) (ports : List (Option ℕ)) : Type 0 where
  pub few : external + lines ≤ 34
  pub owned : length owners ≡ 30 * lines
  pub indexed : length ports ≡ 30 * external
  pub named : (x : Slot) → x.line < external → x.place < 30 → slice_index_or ports (index_of x) None ≡ position (has x) (members owners)
  pub alone : (k : ℕ) (owner : Occupant) → slice_index_or owners k None ≡ Some owner → (owner.member.line < external) × (owner.member.place < 30) × (position (has owner.member) (members owners) ≡ Some k)
