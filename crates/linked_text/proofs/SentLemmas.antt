-- Nothing is left that was sent.
use Rattle.std.proofs.Common.{◌≡◌, ℕ, List, [], ◌∷◌, ◌++◌, length, refl, sym, ap, ◌∙◌, append-nil, arith}
use Rattle.linked_text.specs.LinkReport.{on_lines, sent_on_lines}

on_lines_none : (lines : List ℕ) → on_lines lines [] ≡ []
on_lines_none [] = refl
on_lines_none (line ∷ lines) = refl

pub on_lines_end : (out lines : List ℕ) (rest : List (List ℕ)) (all : List ℕ) → length rest ≡ 0 → out ++ on_lines lines rest ≡ all → out ≡ all
on_lines_end out lines [] all none h = sym (append-nil out) ∙ (ap (λ t. out ++ t) (sym (on_lines_none lines)) ∙ h)
on_lines_end out lines (octets ∷ rest) all none h = absurd (omega (arith, none))

sent_on_lines_none : (lines : List ℕ) → sent_on_lines lines [] ≡ []
sent_on_lines_none [] = refl
sent_on_lines_none (line ∷ lines) = refl

pub sent_on_lines_end : (out lines : List ℕ) (rest : List (List ℕ)) (all : List ℕ) → length rest ≡ 0 → out ++ sent_on_lines lines rest ≡ all → out ≡ all
sent_on_lines_end out lines [] all none h = sym (append-nil out) ∙ (ap (λ t. out ++ t) (sym (sent_on_lines_none lines)) ∙ h)
sent_on_lines_end out lines (octets ∷ rest) all none h = absurd (omega (arith, none))
