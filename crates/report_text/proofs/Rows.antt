-- Rows of octets, and the octets of their slots.
use Rattle.std.proofs.Common.{◌≡◌, ◌==◌, ◌&&◌, ℕ, ◌+◌, ◌<◌, ◌++◌, Bool, true, false, List, [], ◌∷◌, length, map, take, drop, slice_index, get_or, arith, ap, refl, sym, ◌∙◌}
use Rattle.std.specs.List.{range_with_len, flat_map, list_all}
use Rattle.circuit_model.specs.FrameInput.{idle_octet}
use Rattle.circuit_model.specs.declared.channel.Slot.{Slot}
use Rattle.report_text.specs.Report.{line_octets, lines_sent, octet_of, part, parts}
use Rattle.std.proofs.lemmas.Bool.{and_parts, cond-true}
use Rattle.std.proofs.lemmas.List.{drop_more, take-append-drop, take-take, length-take-le}
use Rattle.std.proofs.lemmas.List.Folds.{list_all-append}
use Rattle.std.proofs.lemmas.List.FromFn.{fill_by_all, length-map-range_with_len, get_or-map-range_with_len}
use Rattle.report_text.proofs.Texts.{after_front}

-- a row of thirty octets is what its line sends
pub line_octets_row : (line : ℕ) (row : List ℕ) → length row ≡ 30 → line_octets (λ at. slice_index row at.place) line ≡ row
unfolding line_octets
line_octets_row line row thirty = sym (fill_by_all (λ place. slice_index row place) row 30 0 thirty (λ k within. refl))

-- a slot's octet is read in the row of its line
pub line_octets_row_of : (rows : List (List ℕ)) (line : ℕ) → line_octets (λ at. slice_index (get_or rows line []) at.place) line ≡ line_octets (octet_of rows) line
unfolding line_octets
line_octets_row_of rows line = refl

-- from one of the lines on, its own row comes first
pub drop_sent : (octet : Slot → ℕ) (lines line : ℕ) → line < lines → drop line (lines_sent octet lines) ≡ line_octets octet line ∷ drop (line + 1) (lines_sent octet lines)
drop_sent octet lines line within =
    let count : length (lines_sent octet lines) ≡ lines = length-map-range_with_len (line_octets octet) 0 lines in
    drop_more (lines_sent octet lines) line [] (omega (arith, count, within))
    ∙ ap (λ first. first ∷ drop (line + 1) (lines_sent octet lines)) (get_or-map-range_with_len (line_octets octet) 0 lines line line [] within (omega arith))

-- what lines send depends on the octets of their slots alone
pub line_octets_same : (f g : Slot → ℕ) (line : ℕ) → ((place : ℕ) → place < 30 → f (record { line = line; place = place }) ≡ g (record { line = line; place = place })) → line_octets f line ≡ line_octets g line
unfolding line_octets
line_octets_same f g line same = fill_by_all (λ place. g (record { line = line; place = place })) (map (λ place. f (record { line = line; place = place })) (range_with_len 0 30)) 30 0 (length-map-range_with_len (λ place. f (record { line = line; place = place })) 0 30)
    (λ k within. get_or-map-range_with_len (λ place. f (record { line = line; place = place })) 0 30 k k 0 within (omega arith) ∙ same k within)

pub sent_same : (f g : Slot → ℕ) (lines : ℕ) → ((line place : ℕ) → line < lines → place < 30 → f (record { line = line; place = place }) ≡ g (record { line = line; place = place })) → lines_sent f lines ≡ lines_sent g lines
sent_same f g lines same = fill_by_all (line_octets g) (lines_sent f lines) lines [] (length-map-range_with_len (line_octets f) 0 lines)
    (λ k within. get_or-map-range_with_len (line_octets f) 0 lines k k [] within (omega arith) ∙ line_octets_same f g k (λ place. same k place within))

-- rows of thirty octets are what their lines send
pub lines_sent_rows : (rows : List (List ℕ)) → ((line : ℕ) → line < length rows → length (get_or rows line []) ≡ 30) → lines_sent (octet_of rows) (length rows) ≡ rows
lines_sent_rows rows thirty = sym (fill_by_all (line_octets (octet_of rows)) rows (length rows) [] refl (λ k within. sym (sym (line_octets_row_of rows k) ∙ line_octets_row k (get_or rows k []) (thirty k within))))

-- idle rows have no part
pub parts_idle : (line : ℕ) (rows : List (List ℕ)) → list_all (λ octet. octet == idle_octet) (flat_map (λ row. row) rows) ≡ true → parts line rows ≡ []
parts_idle line [] idle = refl
parts_idle line (row ∷ rest) idle =
    let both = and_parts _ _ (sym (list_all-append (λ octet. octet == idle_octet) row (flat_map (λ r. r) rest)) ∙ idle) in
    let none : part line row ≡ [] = cond-true _ [] _ both.0 in
    ap (λ first. first ++ parts (line + 1) rest) none ∙ parts_idle (line + 1) rest both.1

-- a piece with another octet decides
pub idle_until : (all piece rest : List ℕ) → all ≡ piece ++ rest → list_all (λ octet. octet == idle_octet) piece ≡ false → list_all (λ octet. octet == idle_octet) all ≡ false
idle_until all piece rest parts other = ap (list_all (λ octet. octet == idle_octet)) parts ∙ list_all-append (λ octet. octet == idle_octet) piece rest ∙ rw other refl

-- after an idle piece, the rest decides
pub idle_after : (all piece rest : List ℕ) → all ≡ piece ++ rest → list_all (λ octet. octet == idle_octet) piece ≡ true
    → list_all (λ octet. octet == idle_octet) all ≡ list_all (λ octet. octet == idle_octet) rest
idle_after all piece rest parts idle = ap (list_all (λ octet. octet == idle_octet)) parts ∙ list_all-append (λ octet. octet == idle_octet) piece rest ∙ rw idle refl

idle_thrice : (first middle last : Bool) → ((first && middle) && (middle && last)) ≡ ((first && middle) && last)
idle_thrice true true last = refl
idle_thrice true false last = refl
idle_thrice false middle last = refl

-- the first sixteen octets of a row and the last sixteen decide
pub idle_row : (row front back : List ℕ) (a b : Bool) → length row ≡ 30 → front ≡ take 16 row → back ≡ drop 14 row
    → a ≡ list_all (λ octet. octet == idle_octet) front → b ≡ list_all (λ octet. octet == idle_octet) back → (a && b) ≡ list_all (λ octet. octet == idle_octet) row
idle_row row front back a b long at_front at_back one other =
    let all : List ℕ → Bool = list_all (λ octet. octet == idle_octet) in
    let x : List ℕ = take 14 row in
    let m : List ℕ = drop 14 (take 16 row) in
    let e : List ℕ = drop 16 row in
    let sixteen : take 16 row ≡ x ++ m = sym (take-append-drop 14 (take 16 row)) ∙ ap (λ l. l ++ m) (take-take 14 16 row (omega arith)) in
    let behind : drop 14 row ≡ m ++ e = after_front row x m 14 16 sixteen (length-take-le 14 row (omega (arith, long))) in
    let whole : row ≡ (x ++ m) ++ e = sym (take-append-drop 16 row) ∙ ap (λ l. l ++ e) sixteen in
    let first : a ≡ (all x && all m) = one ∙ ap all (at_front ∙ sixteen) ∙ list_all-append (λ octet. octet == idle_octet) x m in
    let second : b ≡ (all m && all e) = other ∙ ap all (at_back ∙ behind) ∙ list_all-append (λ octet. octet == idle_octet) m e in
    let total : all row ≡ ((all x && all m) && all e) =
    ap all whole ∙ list_all-append (λ octet. octet == idle_octet) (x ++ m) e ∙ ap (λ b. b && all e) (list_all-append (λ octet. octet == idle_octet) x m) in
    (λ i. first i && second i) ∙ idle_thrice (all x) (all m) (all e) ∙ sym total
