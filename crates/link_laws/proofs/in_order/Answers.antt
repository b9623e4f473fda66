use Rattle.std.proofs.Common.{ℕ, ◌≤◌, arith}
use Rattle.link_laws.proofs.WindowLemmas.{holds_always}
use Rattle.link_laws.proofs.in_order.Goals as goal

pub returns-clause-prefix : goal.returns-clause-prefix
returns-clause-prefix c events = (holds_always events).prefix

pub returns-clause-arrived : goal.returns-clause-arrived
returns-clause-arrived c events = (holds_always events).delivered_acknowledged

pub returns-clause-window : goal.returns-clause-window
returns-clause-window c events = let h = holds_always events in within h.delivered_reached h.reached_acknowledged
  where
    within : {a b c : ℕ} → a ≤ b → b ≤ c → a ≤ c
    within p q = omega (arith, p, q)
