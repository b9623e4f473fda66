-- What is read out for an outlet is what was crossed for the inlet that it was joined to.
use Rattle.std.proofs.Common.{◌≡◌, ℕ, Option, Some, None, refl, ap, ◌∙◌}
use Rattle.circuit_model.specs.declared.channel.Slot.{Slot}
use Rattle.circuit_model.specs.FrameInput.{idle_octet}
use Rattle.control_memory.specs.Layout.{Path, Layout, Legal, IsSlot, Joins, path_out}
use Rattle.control_memory.specs.Tables.{HasTables}
use Rattle.control_memory.specs.Carrying.{fetched, from_inlet, HoldsCrossing}
use Rattle.control_memory.proofs.Lookups.{path_to_is, path_out_found}
use Rattle.control_memory.proofs.Carrying.{fetched_carried}

pub fetched_read_joined : (lines slots : ℕ) (layout : Layout) (places crossed read : ℕ → ℕ → Option ℕ) (octet : Slot → ℕ) (held : ℕ → ℕ → ℕ) → Legal lines slots layout → HasTables lines slots layout places crossed read → HoldsCrossing lines slots layout octet held
    → (x y : Slot) → IsSlot lines x → IsSlot lines y → Joins layout x y → fetched (read y.line y.place) (held y.line) ≡ octet x
fetched_read_joined lines slots layout places crossed read octet held legal tables holds x y from to joins =
    fetched_carried lines slots layout places crossed read octet legal tables held holds y to.0 to.1
    ∙ ap (λ (o : Option Path). from_inlet o octet) (path_to_is lines slots layout x y joins.0 legal from joins.1)

-- no path brings an octet that is not idle where all are idle
pub from_inlet-silence : (o : Option Path) → from_inlet o (λ at. idle_octet) ≡ idle_octet
from_inlet-silence None = refl
from_inlet-silence (Some p) = refl

-- the octets of the slots are all that crosses
by_path : (lines slots : ℕ) (layout : Layout) (octet other : Slot → ℕ) (line slot : ℕ) (o : Option Path) → Legal lines slots layout → ((x : Slot) → IsSlot lines x → octet x ≡ other x) → path_out layout line slot ≡ o → from_inlet o octet ≡ from_inlet o other
by_path lines slots layout octet other line slot None legal same found = refl
by_path lines slots layout octet other line slot (Some p) legal same found = same p.from (path_out_found lines layout line slot p legal.inlets found).0.inlet

pub crosses_alike : (lines slots : ℕ) (layout : Layout) (octet other : Slot → ℕ) (held : ℕ → ℕ → ℕ) → Legal lines slots layout → ((x : Slot) → IsSlot lines x → octet x ≡ other x) → HoldsCrossing lines slots layout octet held → HoldsCrossing lines slots layout other held
crosses_alike lines slots layout octet other held legal same holds line slot here near = holds line slot here near ∙ by_path lines slots layout octet other line slot (path_out layout line slot) legal same refl
