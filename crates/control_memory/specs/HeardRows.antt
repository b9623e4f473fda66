-- Rows with the source of each slot's octets, marks of the rows that may have one, and the places that receive a tone.
-- Source: this project.
use Rattle.std.specs.Prelude.{◌≡◌, ℕ, ◌+◌, ◌*◌, ◌%◌, ◌<◌, ◌≤◌, List, length, slice_index, slice_index_or}
use Rattle.std.specs.Int.{bit_at}
use Rattle.control_memory.specs.declared.heard.Heard.{Heard}
use Rattle.control_memory.specs.declared.heard.Heard.TheVariants.{Silent, Path, Tone}

-- the source of a place of a line
abbrev pub heard_on : List Heard → ℕ → ℕ → Heard
heard_on heard line place = slice_index_or heard (30 * line + place) Silent

-- on each line whose mark is this bit, every place has the same source in both lists
abbrev pub HearAlike : ℕ → ℕ → ℕ → List Heard → List Heard → Type 0
HearAlike bit marks lines one other = (line place : ℕ) → line < lines → place < 30 → bit_at marks (line % 64) ≡ bit → heard_on one line place ≡ heard_on other line place

-- every place of the line is silent
abbrev pub IsSilent : List Heard → ℕ → Type 0
IsSilent heard line = (place : ℕ) → place < 30 → heard_on heard line place ≡ Silent

-- 1 for a tone, and 0 for every other source
abbrev pub tone_bit : Heard → ℕ
tone_bit Silent = 0
tone_bit (Path since) = 0
tone_bit (Tone kind since) = 1

-- a word that has a bit for each place of a line, which is set if and only if the place receives a tone, and no other bit
pub record HasToneBits (heard : List Heard) (line word : ℕ) : Type 0 where
  pub places : (place : ℕ) → place < 30 → bit_at word place ≡ tone_bit (heard_on heard line place)
  pub rest : (place : ℕ) → 30 ≤ place → place < 32 → bit_at word place ≡ 0

-- 30 places to each of n lines; a word of marks, a bit for each line by its number modulo 64, without which the line is
-- silent; and for each line a word of the places that receive a tone
pub record AreHeardOn (lines : ℕ) (heard : List Heard) (marks : ℕ) (tones : List ℕ) : Type 0 where
  pub size : length heard ≡ 30 * lines
  pub silent : (line : ℕ) → line < lines → bit_at marks (line % 64) ≡ 0 → IsSilent heard line
  pub words : length tones ≡ lines
  pub toned : (line : ℕ) → line < lines → HasToneBits heard line (slice_index tones line)
