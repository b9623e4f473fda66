-- The limits of one step. Source: this project.
use Rattle.std.specs.Prelude.{ℕ}

abbrev pub max_sends : ℕ
max_sends = 64

abbrev pub max_records : ℕ
max_records = 64

-- the maximum number of changes of meters in a trace
abbrev pub max_changes : ℕ
max_changes = 65535

-- the maximum number of events of a trace
abbrev pub max_events : ℕ
max_events = 65535
