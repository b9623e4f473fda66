-- The control tables of a time-space-time fabric: the place, line or slot from which an octet is fetched. Source: this
-- project; each stage of a digital switch has its control memory.
use Rattle.std.specs.Prelude.{◌≡◌, ◌≢◌, ℕ, ◌+◌, ◌*◌, ◌%◌, ◌<◌, ◌&&◌, ◌==◌, List, Option, Some, None, IfSome, length, slice_index, slice_index_or, if◌then◌else◌}
use Rattle.std.specs.Int.{bit_at}
use Rattle.control_memory.specs.Layout.{Layout, place_sent, line_received, slot_read}

-- a table: rows of entries, each a number below the limit or none
pub record Table : Type 0 where
  pub rows : ℕ
  pub columns : ℕ
  pub limit : ℕ
  pub entries : List (Option ℕ)

-- an entry of a table whose rows have n columns
abbrev pub entry_in : ℕ → List (Option ℕ) → ℕ → ℕ → Option ℕ
entry_in columns entries row column = slice_index_or entries (row * columns + column) None

abbrev pub entry : Table → ℕ → ℕ → Option ℕ
entry t row column = entry_in t.columns t.entries row column

pub record HasSize (t : Table) (height width below : ℕ) : Type 0 where
  pub rows : t.rows ≡ height
  pub columns : t.columns ≡ width
  pub limit : t.limit ≡ below

abbrev pub SameSize : Table → Table → Type 0
SameSize a b = HasSize b a.rows a.columns a.limit

-- two lookups agree on n rows and m columns
abbrev pub Agree : ℕ → ℕ → (ℕ → ℕ → Option ℕ) → (ℕ → ℕ → Option ℕ) → Type 0
Agree rows columns a b = (row column : ℕ) → row < rows → column < columns → a row column ≡ b row column

-- a lookup with one entry written
abbrev pub written : ℕ → ℕ → Option ℕ → (ℕ → ℕ → Option ℕ) → (ℕ → ℕ → Option ℕ)
written row column value old r c = if (r == row) && (c == column) then value else old r c

-- a lookup that finds nothing
abbrev pub nothing : ℕ → ℕ → Option ℕ
nothing row column = None

-- three tables encode a layout on n lines and m internal slots, and hold nothing else
pub record HasTables (lines slots : ℕ) (layout : Layout) (places crossed read : ℕ → ℕ → Option ℕ) : Type 0 where
  pub incoming : Agree lines slots places (place_sent layout)
  pub space : Agree lines slots crossed (line_received layout)
  pub outgoing : Agree lines 30 read (λ line place. slot_read layout (record { line = line; place = place }))

-- three tables without a path
pub record HasNoPaths (lines slots : ℕ) (places crossed read : ℕ → ℕ → Option ℕ) : Type 0 where
  pub incoming : Agree lines slots places nothing
  pub space : Agree lines slots crossed nothing
  pub outgoing : Agree lines 30 read nothing

-- three tables of the sizes for n lines and m internal slots, without a path
pub record AreBare (lines slots : ℕ) (incoming space outgoing : Table) : Type 0 where
  pub incoming_size : HasSize incoming lines slots 30
  pub space_size : HasSize space lines slots lines
  pub outgoing_size : HasSize outgoing lines 30 slots
  pub none : HasNoPaths lines slots (entry incoming) (entry space) (entry outgoing)

-- the number in a byte of a table, or none for 255
abbrev pub number_in : ℕ → Option ℕ
number_in byte = if byte == 255 then None else Some byte

-- the bytes of a table with n rows and m columns: one for each entry, and each number is below the limit; and a word of
-- marks, a bit for each row by its number modulo 64, without which the row has no number
pub record AreBytesOf (rows columns limit : ℕ) (bytes : List ℕ) (marks : ℕ) : Type 0 where
  pub size : length bytes ≡ rows * columns
  pub below : (i : ℕ) → i < length bytes → slice_index bytes i ≢ 255 → slice_index bytes i < limit
  pub bare : (row column : ℕ) → row < rows → column < columns → bit_at marks (row % 64) ≡ 0 → slice_index bytes (row * columns + column) ≡ 255

-- the bytes of one row of n columns: each is the number of the table, below the limit, or 255 if there is none
pub record IsRow (columns limit : ℕ) (numbers : ℕ → Option ℕ) (bytes : List ℕ) : Type 0 where
  pub width : length bytes ≡ columns
  pub entries : (column : ℕ) → column < columns → number_in (slice_index bytes column) ≡ numbers column
  pub within : (column : ℕ) → column < columns → IfSome (numbers column) (λ number. number < limit)
