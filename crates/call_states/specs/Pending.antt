-- The contents from which a call is made (ITU-T Q.931 (05/98), 5.1.1 and 5.1.3).
use Rattle.std.specs.Prelude.{◌≤◌, length}
use Rattle.call_states.specs.declared.pending.Pending.{Pending}

-- contents that a message can carry
pub record FitsElements (p : Pending) : Type 0 where
  pub bearer : length p.bearer ≤ 10
  pub calling : length p.calling ≤ 22
  pub called : length p.called ≤ 21
  pub low : length p.low ≤ 16
  pub high : length p.high ≤ 3
