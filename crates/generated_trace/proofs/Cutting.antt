-- The lines of a spelled text, and the words of a spelled line.
use Rattle.std.proofs.Common.{◌≡◌, ℕ, Bool, true, false, not, nat_eq, eqb, List, [], ◌∷◌, ◌++◌, map, refl, ap, ◌∙◌, append_assoc, arith}
use Rattle.std.specs.Prelude.{codes, filter}
use Rattle.std.specs.List.{AllByRecursion, list_all, slice_split}
use Rattle.std.proofs.lemmas.Bool.{and_parts}
use Rattle.std.proofs.lemmas.Bool.Decides.{nat_tests}
use Rattle.std.proofs.lemmas.List.{append-nil}
use Rattle.traffic_gen.specs.Fitting.{Fits, is_printable}
use Rattle.traffic_gen.specs.Lines.{Line, line_text, text}
use Rattle.traffic_gen.proofs.Spelling.{line_prints}
use Rattle.trace_text.specs.TraceWords.{lines, words, is_empty, is_octet}

-- ---- lines

no_line_feed : (x : ℕ) → is_printable x ≡ true → eqb x 10 ≡ false
no_line_feed x prints = grind (arith, nat_tests)

-- printable octets are a line up to the first line feed
lines_front : (xs rest : List ℕ) → list_all is_printable xs ≡ true → lines (xs ++ 10 ∷ rest) ≡ xs ∷ lines rest
lines_front [] rest prints = refl
lines_front (x ∷ xs) rest prints =
    let parts = and_parts (is_printable x) (list_all is_printable xs) prints in
    let e = no_line_feed x parts.0 in
    rw (e, lines_front xs rest parts.1) refl

-- the lines of a text are those that were spelled
pub text_lines : (ls : List Line) → AllByRecursion Fits ls → lines (text ls) ≡ map line_text ls
unfolding text
text_lines [] fit = refl
text_lines (line ∷ ls) fit =
    ap lines (append_assoc (line_text line) (codes "\n") (text ls))
    ∙ lines_front (line_text line) (text ls) (line_prints line fit.0)
    ∙ ap (λ (rest : List (List ℕ)). line_text line ∷ rest) (text_lines ls fit.1)

-- ---- words

-- the octet is no space
abbrev pub is_solid : ℕ → Bool
is_solid octet = not (nat_eq octet 32)

-- octets without a space between them, and at least one
pub record IsWord (w : List ℕ) : Type 0 where
  pub solid : list_all is_solid w ≡ true
  pub filled : is_empty w ≡ false

-- words, each behind a space
abbrev pub spaced : List (List ℕ) → List ℕ
spaced [] = []
spaced (w ∷ ws) = 32 ∷ (w ++ spaced ws)

flipped : (b : Bool) → not b ≡ true → b ≡ false
flipped true e = absurd cc
flipped false e = refl

split_word : (w rest : List ℕ) → list_all is_solid w ≡ true → slice_split (is_octet 32) (w ++ 32 ∷ rest) ≡ w ∷ slice_split (is_octet 32) rest
split_word [] rest solid = refl
split_word (x ∷ w) rest solid =
    let parts = and_parts (is_solid x) (list_all is_solid w) solid in
    let e : eqb x 32 ≡ false = flipped (nat_eq x 32) parts.0 in
    rw (e, split_word w rest parts.1) refl

split_last : (w : List ℕ) → list_all is_solid w ≡ true → slice_split (is_octet 32) w ≡ w ∷ []
split_last [] solid = refl
split_last (x ∷ w) solid =
    let parts = and_parts (is_solid x) (list_all is_solid w) solid in
    let e : eqb x 32 ≡ false = flipped (nat_eq x 32) parts.0 in
    rw (e, split_last w parts.1) refl

split_all : (first : List ℕ) (others : List (List ℕ)) → IsWord first → AllByRecursion IsWord others → slice_split (is_octet 32) (first ++ spaced others) ≡ first ∷ others
split_all first [] is are = rw (append-nil first) (split_last first is.solid)
split_all first (w ∷ ws) is are =
    split_word first (w ++ spaced ws) is.solid ∙ ap (λ (rest : List (List ℕ)). first ∷ rest) (split_all w ws are.0 are.1)

abbrev filled_ones : List (List ℕ) → List (List ℕ)
filled_ones ws = filter (λ run. not (is_empty run)) ws

all_filled : (ws : List (List ℕ)) → AllByRecursion IsWord ws → filled_ones ws ≡ ws
all_filled [] are = refl
all_filled (w ∷ ws) are = let e = are.0.filled in rw (e, all_filled ws are.1) refl

-- a spelled line has the words of which it was made
pub words_of : (first : List ℕ) (others : List (List ℕ)) → IsWord first → AllByRecursion IsWord others → words (first ++ spaced others) ≡ first ∷ others
words_of first others is are = ap filled_ones (split_all first others is are) ∙ all_filled (first ∷ others) (is, are)

-- so it has where a space ends it
pub words_before_space : (first other : List ℕ) → IsWord first → IsWord other → words (first ++ spaced (other ∷ [] ∷ [])) ≡ first ∷ other ∷ []
words_before_space first other is more =
    ap filled_ones (split_word first (other ++ 32 ∷ []) is.solid ∙ ap (λ (rest : List (List ℕ)). first ∷ rest) (split_word other [] more.solid))
    ∙ (let one = is.filled in let two = more.filled in rw (one, two) refl)
