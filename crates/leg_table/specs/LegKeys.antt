-- The keys by which the legs of a line are found. Source: ITU-T Q.931 (05/98), 4.3, for call references and their flag;
-- the rest is this project's.
use Rattle.std.specs.Prelude.{◌≡◌, ◌≢◌, ℕ, ◌+◌, ◌*◌, ◌^◌, ◌<◌, ◌≤◌, ◌==◌, Bool, true, false, List, length, All, IfSome, Option, Some, None, slice_index, slice_index_or, if◌then◌else◌}
use Rattle.std.specs.Int.{bit_at}
use Rattle.call_states.specs.declared.leg.Leg.{Leg}
use Rattle.call_states.specs.declared.leg.Side.{Side}
use Rattle.call_states.specs.declared.leg.Side.TheVariants.{Caller, Called}
use Rattle.call_states.specs.Status.{FitsMessages}

-- the key of a call reference: its value, and above 16 bits the flag that the user of the line sends with it
abbrev pub key_named : Bool → ℕ → ℕ
key_named false reference = reference
key_named true reference = 2 ^ 16 + reference

-- a leg has the key of the messages that are for it
abbrev pub key_by : Side → ℕ → ℕ
key_by Caller reference = key_named false reference
key_by Called reference = key_named true reference

-- the key of no leg
abbrev pub no_key : ℕ
no_key = 2 ^ 17

abbrev pub key_of : Option Leg → ℕ
key_of None = no_key
key_of (Some leg) = key_by leg.side leg.reference

-- a line has a row of 32 keys
abbrev pub key_on : List ℕ → ℕ → ℕ → ℕ
key_on keys line place = slice_index_or keys (32 * line + place) no_key

-- the leg at a place of a line
abbrev pub leg_on : List (Option Leg) → ℕ → ℕ → Option Leg
leg_on legs line place = slice_index_or legs (30 * line + place) None

-- n lines have 30 slots each, whose legs have numbers that a message can carry; and each line has the keys of its 30
-- slots, followed by two places without a leg's key
pub record AreKeysOf (lines : ℕ) (legs : List (Option Leg)) (keys : List ℕ) : Type 0 where
  pub slots : length legs ≡ 30 * lines
  pub rows : length keys ≡ 32 * lines
  pub told : All (λ leg. IfSome leg FitsMessages) legs
  pub each : (line place : ℕ) → place < 30 → key_on keys line place ≡ key_of (leg_on legs line place)
  pub behind : (line place : ℕ) → 30 ≤ place → place < 32 → key_on keys line place ≡ no_key

-- a line has this row of 32 keys
pub record IsRowOf (legs : List (Option Leg)) (line : ℕ) (row : List ℕ) : Type 0 where
  pub size : length row ≡ 32
  pub each : (place : ℕ) → place < 30 → slice_index row place ≡ key_of (leg_on legs line place)
  pub behind : (place : ℕ) → 30 ≤ place → place < 32 → slice_index row place ≡ no_key

-- the bit of a place that has this key
abbrev pub hit : ℕ → ℕ → ℕ
hit key here = if here == key then 1 else 0

-- a row has the key at some place, or at none
abbrev pub HasKey : List ℕ → ℕ → Type 0
HasKey row key = (place : ℕ) × (place < 32) × (slice_index row place ≡ key)

abbrev pub LacksKey : List ℕ → ℕ → Type 0
LacksKey row key = (place : ℕ) → place < 32 → slice_index row place ≢ key

-- a place is the first of a row that has the key
abbrev pub IsFirstKey : List ℕ → ℕ → ℕ → Type 0
IsFirstKey row key place = (place < 32) × (slice_index row place ≡ key) × ((other : ℕ) → other < place → slice_index row other ≢ key)

-- a word marks those places from the first one, and below count, that have the key; the bit of a place is shifted
pub record Hits (row : List ℕ) (key shift first count word : ℕ) : Type 0 where
  pub range : first ≤ count
  pub found : (place : ℕ) → first ≤ place → place < count → bit_at word (shift + place) ≡ hit key (slice_index row place)
  pub below : (bit : ℕ) → bit < shift + first → bit_at word bit ≡ 0
  pub above : (bit : ℕ) → shift + count ≤ bit → bit < 32 → bit_at word bit ≡ 0
