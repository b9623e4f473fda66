use Rattle.std.proofs.Common.{◌≡◌, ℕ, ◌<◌, ◌≤◌, ◌-◌, length, get_or}
use Rattle.exchange_run.proofs.changing.end_of.Given as goal

abbrev pub invariant-loop-end : goal.invariant-loop-end
invariant-loop-end l = record {
  from : l.start ≤ l.end;
  within : l.end ≤ length l.changes;
  same : (k : ℕ) → l.start ≤ k → k < l.end → get_or l.changes k 0 ≡ l.place;
}

abbrev pub decreases-loop-end : goal.decreases-loop-end
decreases-loop-end l = length l.changes - l.end
