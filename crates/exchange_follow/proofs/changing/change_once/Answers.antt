use Rattle.std.proofs.Common.{rules}
use Rattle.exchange_follow.proofs.Changed.{changed_one}
use Rattle.exchange_follow.proofs.changing.change_once.Goals as goal

pub returns-clause-done : goal.returns-clause-done
returns-clause-done g c =
    changed_one (λ m. (goal.Meter-dyn g (m.vtable, m.value)).stands m.value) (λ m. (goal.Meter-dyn g (m.vtable, m.value)).text m.value) _ _ _ _ _ _ (search rules) (search rules) (search rules)
