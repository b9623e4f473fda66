-- The source and the sink in memory as their callers see them. Source: this project.
use Rattle.std.specs.Prelude.{ℕ, ◌-◌, min, List, ◌++◌, length, drop, Contains, ◌<◌, ◌≤◌, ◌⊎◌}
use Rattle.ex_io.specs.Ends.{counted}

-- a source: the bytes left to read, the maximum of one read, the reads that fail, the number of reads and the error count
pub record Supply : Type 0 where
  pub left : List ℕ
  pub piece : ℕ
  pub fails : List ℕ
  pub calls : ℕ
  pub faults : ℕ

-- a sink: the bytes written, its capacity, the maximum of one write, the writes that fail, the number of writes and the error count
pub record Store : Type 0 where
  pub written : List ℕ
  pub room : ℕ
  pub piece : ℕ
  pub fails : List ℕ
  pub calls : ℕ
  pub faults : ℕ

-- the next read fails
abbrev pub ReadFails : Supply → Type 0
ReadFails old = Contains old.fails (counted old.calls)

-- the length of the next read, if it does not fail
abbrev pub read_len : Supply → ℕ → ℕ
read_len old most = min (min old.piece most) (length old.left)

-- the state after a read of n bytes
abbrev pub after_read : Supply → ℕ → Supply
after_read old n = record old { left = drop n old.left; calls = counted old.calls }

-- the state after a failed read
abbrev pub after_failed_read : Supply → Supply
after_failed_read old = record old { calls = counted old.calls; faults = counted old.faults }

-- the next write fails: it is listed, or it has bytes and the sink is full
abbrev pub WriteFails : Store → List ℕ → Type 0
WriteFails old bytes = Contains old.fails (counted old.calls) ⊎ ((0 < length bytes) × (old.room ≤ length old.written))

-- the length of the next write, if it does not fail
abbrev pub write_len : Store → ℕ → ℕ
write_len old count = min (min old.piece count) (old.room - length old.written)

-- the state after a write of these bytes
abbrev pub after_write : Store → List ℕ → Store
after_write old bytes = record old { written = old.written ++ bytes; calls = counted old.calls }

-- the state after a failed write
abbrev pub after_failed_write : Store → Store
after_failed_write old = record old { calls = counted old.calls; faults = counted old.faults }
