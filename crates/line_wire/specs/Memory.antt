-- A wire in memory as its callers see it. Source: this project.
use Rattle.std.specs.Prelude.{◌≡◌, ℕ, List, [], ◌∷◌, ◌++◌, length, nat_lt, if◌then◌else◌}
use Rattle.ex_io.specs.Memory.{Store, Supply}

-- the input, the source of its remaining octets, the sink of the written octets, the maximum number of notes, and for each of the first reads the
-- number of octets that were written until then
pub record Tape : Type 0 where
  pub given : List ℕ
  pub source : Supply
  pub sink : Store
  pub room : ℕ
  pub notes : List ℕ

-- these octets were read, and these were written
pub record IsTaped (w : Tape) (heard said : List ℕ) : Type 0 where
  pub parts : heard ++ w.source.left ≡ w.given
  pub written : said ≡ w.sink.written

-- the notes after one more read
abbrev pub noted : Tape → List ℕ
noted w = if nat_lt (length w.notes) w.room then w.notes ++ length w.sink.written ∷ [] else w.notes
