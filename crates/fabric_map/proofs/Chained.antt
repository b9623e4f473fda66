-- The chain of a layout is the chain of its matrix, path by path; and what its exchange makes of the layout.
use Rattle.std.proofs.Common.{◌≡◌, ℕ, zero, suc, Option, Some, None, List, [], ◌∷◌, map, refl, sym, ◌∙◌, ap}
use Rattle.std.specs.Prelude.{option_map, ◌==◌, if◌then◌else◌}
use Rattle.control_memory.specs.Layout.{Path, Layout, Legal}
use Rattle.control_memory.specs.Connecting.{Side, Incoming, Outgoing, across, path_at, far_line, chain}
use Rattle.control_memory.proofs.Lookups.{IsPathOf, path_in_found, path_out_found}
use Rattle.paull_matrix.specs.Matrix.{Matrix}
use Rattle.paull_matrix.specs.declared.moves.Move.{Move}
use Rattle.rearrange_chain.specs.Chain.{End, Row, Column, move_of, far_end, far_line as look_far, chain as matrix_chain}
use Rattle.path_memory.proofs.MatrixOfLayout.{column_matches}
use Rattle.path_memory.proofs.CommonSlot.{Beside}

-- the other of the two slots
abbrev pub other : ℕ → ℕ → ℕ → ℕ
other a b s = if s == a then b else a

-- the move of a path of the chain
abbrev pub moved_by : ℕ → ℕ → Path → Move
moved_by a b p = record { row = p.from.line; column = p.to.line; old = p.slot; new = other a b p.slot }

abbrev end_on : Side → ℕ → End
end_on Incoming line = Row line
end_on Outgoing line = Column line

-- ---- chain beside chain
seen : (lines slots : ℕ) (m : Matrix) (layout : Layout) (side : Side) (line s : ℕ) → Beside lines slots m layout → look_far m (end_on side line) s ≡ option_map (far_line side) (path_at layout side line s)
seen lines slots m layout Incoming line s b = b.is line s
seen lines slots m layout Outgoing line s b = column_matches lines slots m layout b.legal_matrix b.legal b.is line s

pub IsPathOf_found : (lines slots : ℕ) (layout : Layout) (side : Side) (line s : ℕ) (p : Path) → Legal lines slots layout → path_at layout side line s ≡ Some p → IsPathOf lines layout p × (p.slot ≡ s)
IsPathOf_found lines slots layout Incoming line s p legal e = let f = path_in_found lines layout line s p legal.inlets e in (f.0, f.2)
IsPathOf_found lines slots layout Outgoing line s p legal e = let f = path_out_found lines layout line s p legal.inlets e in (f.0, f.2)

near_line : (lines slots : ℕ) (layout : Layout) (side : Side) (line s : ℕ) (p : Path) → Legal lines slots layout → path_at layout side line s ≡ Some p → (a b : ℕ) (y : ℕ) → y ≡ other a b s → move_of (end_on side line) (far_line side p) s y ≡ moved_by a b p
near_line lines slots layout Incoming line s p legal e a b y is =
    let f = path_in_found lines layout line s p legal.inlets e in
    let row = sym f.1 in
    let old = sym f.2 in
    let new : y ≡ other a b p.slot = is ∙ ap (other a b) (sym f.2) in
    λ i. record { row = row i; column = p.to.line; old = old i; new = new i }
near_line lines slots layout Outgoing line s p legal e a b y is =
    let f = path_out_found lines layout line s p legal.inlets e in
    let column = sym f.1 in
    let old = sym f.2 in
    let new : y ≡ other a b p.slot = is ∙ ap (other a b) (sym f.2) in
    λ i. record { row = p.from.line; column = column i; old = old i; new = new i }

far_on : (side : Side) (line : ℕ) (p : Path) → far_end (end_on side line) (far_line side p) ≡ end_on (across side) (far_line side p)
far_on Incoming line p = refl
far_on Outgoing line p = refl

one_link : (lines slots : ℕ) (m : Matrix) (layout : Layout) (a b : ℕ) → Beside lines slots m layout → (n : ℕ) (side : Side) (line x y : ℕ) → y ≡ other a b x → (o : Option Path) → path_at layout side line x ≡ o
    → ((p : Path) → matrix_chain (look_far m) n (end_on (across side) (far_line side p)) y x ≡ map (moved_by a b) (chain n layout (across side) (far_line side p) y x))
    → (elim (option_map (far_line side) o) as (λ _. List Move) [ None ↦ [] | Some l ↦ move_of (end_on side line) l x y ∷ matrix_chain (look_far m) n (far_end (end_on side line) l) y x ])
    ≡ map (moved_by a b) (elim o as (λ _. List Path) [ None ↦ [] | Some p ↦ p ∷ chain n layout (across side) (far_line side p) y x ])
one_link lines slots m layout a b beside n side line x y to None e tail = refl
one_link lines slots m layout a b beside n side line x y to (Some p) e tail =
    λ i. near_line lines slots layout side line x p beside.legal e a b y to i ∷ (ap (λ f. matrix_chain (look_far m) n f y x) (far_on side line p) ∙ tail p) i

pub chains_match : (lines slots : ℕ) (m : Matrix) (layout : Layout) (a b : ℕ) → Beside lines slots m layout → (n : ℕ) (side : Side) (line x y : ℕ) → y ≡ other a b x → x ≡ other a b y
    → matrix_chain (look_far m) n (end_on side line) x y ≡ map (moved_by a b) (chain n layout side line x y)
chains_match lines slots m layout a b beside zero side line x y to back = refl
chains_match lines slots m layout a b beside (suc n) side line x y to back =
    let tail : (p : Path) → matrix_chain (look_far m) n (end_on (across side) (far_line side p)) y x ≡ map (moved_by a b) (chain n layout (across side) (far_line side p) y x) = λ p. chains_match lines slots m layout a b beside n (across side) (far_line side p) y x back to in
    ap (λ o. elim o as (λ _. List Move) [ None ↦ [] | Some l ↦ move_of (end_on side line) l x y ∷ matrix_chain (look_far m) n (far_end (end_on side line) l) y x ]) (seen lines slots m layout side line x beside)
    ∙ one_link lines slots m layout a b beside n side line x y to (path_at layout side line x) refl tail
