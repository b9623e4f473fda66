-- The lines, fields and decimal numbers of a trace. Source: this project.
use Rattle.std.specs.Prelude.{ℕ, ◌+◌, ◌-◌, ◌*◌, Bool, true, false, ◌&&◌, ◌||◌, not, ◌==◌, List, [], ◌∷◌, length, codes, take, drop, filter, fold, position, slice_index, Option, Some, None, option_map, if◌then◌else◌, ◌≡◌, ◌⊎◌, ◌++◌}
use Rattle.std.specs.List.{list_all, onto_first, slice_split}
use Rattle.std.specs.Char.{is_ascii_digit}
use Rattle.std.specs.Str.{bytes_eq}
use Rattle.circuit_model.specs.Channels.{between}

-- the octets before each line feed, and the octets after the last line feed if there are any
abbrev pub lines : List ℕ → List (List ℕ)
lines [] = []
lines (octet ∷ octets) = if octet == 10 then [] ∷ lines octets else onto_first octet (lines octets)

-- octets that end with a line feed, or no octets
abbrev pub AreEnded : List ℕ → Type 0
AreEnded octets = (octets ≡ []) ⊎ ((front : List ℕ) × (octets ≡ front ++ 10 ∷ []))

-- the maximum number of octets in a line that is processed when it arrives
abbrev pub max_line_len : ℕ
max_line_len = 65535

-- the octet is the given one
abbrev pub is_octet : ℕ → ℕ → Bool
is_octet mark octet = octet == mark

abbrev pub is_empty : {A : Type 0} → List A → Bool
is_empty [] = true
is_empty (first ∷ others) = false

-- the fields of a line: its longest runs of octets other than the space
abbrev pub words : List ℕ → List (List ℕ)
words line = filter (λ run. not (is_empty run)) (slice_split (is_octet 32) line)

-- exactly two fields
abbrev pub two : List (List ℕ) → Option (List ℕ × List ℕ)
two (one ∷ other ∷ []) = Some (one, other)
two others = None

-- one or two fields; the field that is missing is empty
abbrev pub one_or_two : List (List ℕ) → Option (List ℕ × List ℕ)
one_or_two (one ∷ []) = Some (one, [])
one_or_two (one ∷ other ∷ []) = Some (one, other)
one_or_two others = None

-- exactly three fields
abbrev pub three : List (List ℕ) → Option (List ℕ × List ℕ × List ℕ)
three (one ∷ other ∷ last ∷ []) = Some (one, other, last)
three others = None

-- the digits, the kind of target and its fields: one field, or at least one after `lines`
abbrev pub digits_and_target : List (List ℕ) → Option (List ℕ × List ℕ × List ℕ × List (List ℕ))
digits_and_target (digits ∷ name ∷ word ∷ []) = Some (digits, name, word, [])
digits_and_target (digits ∷ name ∷ word ∷ other ∷ others) = if bytes_eq name (codes "lines") then Some (digits, name, word, other ∷ others) else None
digits_and_target others = None

-- the octets before and after the first `mark` of a field, if it has one
abbrev pub cut_at : ℕ → List ℕ → Option (List ℕ × List ℕ)
cut_at mark word = option_map (λ at. (take at word, drop (at + 1) word)) (position (is_octet mark) word)

-- a comment: a line that starts with `#`
abbrev pub is_comment : List ℕ → Bool
is_comment [] = false
is_comment (octet ∷ octets) = octet == 35

-- a line without fields
abbrev pub is_blank : List ℕ → Bool
is_blank line = is_empty (words line)

-- an octet from the space to the tilde
abbrev pub is_printable : ℕ → Bool
is_printable octet = between 0x20 0x7E octet

-- a decimal number of 1 to 9 digits without a leading zero
abbrev pub is_numeral : List ℕ → Bool
is_numeral word = between 1 9 (length word) && list_all is_ascii_digit word && (length word == 1 || not (slice_index word 0 == 48))

-- the value of decimal digits, the most significant first
abbrev pub decimal_value : List ℕ → ℕ
decimal_value digits = fold (λ number digit. number * 10 + (digit - 48)) 0 digits

-- the value of a field that is a decimal number
abbrev pub numeral : List ℕ → Option ℕ
numeral word = if is_numeral word then Some (decimal_value word) else None
