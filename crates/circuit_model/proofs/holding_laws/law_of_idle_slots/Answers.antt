use Rattle.circuit_model.proofs.Slots.{naming-idle, is_idle-naming, heard_by_idle_is_deaf}
use Rattle.circuit_model.proofs.Validity.{deaf_is_idle}
use Rattle.circuit_model.proofs.holding_laws.law_of_idle_slots.Goals as goal

pub returns-clause-unnamed : goal.returns-clause-unnamed
returns-clause-unnamed c = λ circuits x. (naming-idle circuits x, is_idle-naming circuits x)

pub returns-clause-deaf : goal.returns-clause-deaf
returns-clause-deaf c = λ bridges h x v. (heard_by_idle_is_deaf h.circuits x, deaf_is_idle h.circuits x (v.standing x))
