-- The walk of an alternating chain, and two such walks over the same paths. Rows are left in slot b and entered in slot a, columns are left in a and entered in b.
use Rattle.std.proofs.Common.{◌≡◌, ◌≢◌, ◌⊎◌, ℕ, zero, suc, ◌+◌, ◌*◌, ◌<◌, ◌≤◌, Option, Some, None, List, [], ◌∷◌, length, arith, zero-add, add-zero, refl, sym, ap, subst, ◌∙◌}
use Rattle.std.specs.Prelude.{slice_get, option_map, option_and_then}
use Rattle.std.specs.Prelude.{unwrap_or}
use Rattle.std.proofs.lemmas.Bool.{cases_lt}
use Rattle.std.proofs.lemmas.Option.{same_Some}
use mathlib.Core.Logic.{inl, inr}
use Rattle.paull_matrix.specs.declared.moves.Move.{Move}
use Rattle.rearrange_chain.specs.Chain.{End, Row, Column, far_end, move_of, chain}

abbrev pub line_of : End → ℕ
line_of (Row i) = i
line_of (Column j) = j

abbrev pub leave : ℕ → ℕ → End → ℕ
leave a b (Row i) = b
leave a b (Column j) = a

abbrev pub enter : ℕ → ℕ → End → ℕ
enter a b (Row i) = a
enter a b (Column j) = b

-- the end that the walk comes to next
abbrev pub step : (End → ℕ → Option ℕ) → ℕ → ℕ → End → Option End
step look a b e = option_map (far_end e) (look e (leave a b e))

-- the n-th end of the walk
abbrev pub end_at : (End → ℕ → Option ℕ) → ℕ → ℕ → End → ℕ → Option End
end_at look a b start zero = Some start
end_at look a b start (suc n) = option_and_then (step look a b) (end_at look a b start n)

-- a path is found from both ends
abbrev pub IsMirrored : (End → ℕ → Option ℕ) → Type 0
IsMirrored look = (e : End) (s line : ℕ) → look e s ≡ Some line → look (far_end e line) s ≡ Some (line_of e)

pub map_cases : (e : End) (o : Option ℕ) (x : End) → option_map (far_end e) o ≡ Some x → (line : ℕ) × (o ≡ Some line) × (far_end e line ≡ x)
map_cases e None x h = absurd (cc)
map_cases e (Some line) x h = (line, refl, same_Some (far_end e line) x h)

pub then_cases : (f : End → Option End) (o : Option End) (x : End) → option_and_then f o ≡ Some x → (e : End) × (o ≡ Some e) × (f e ≡ Some x)
then_cases f None x h = absurd (cc)
then_cases f (Some e) x h = (e, refl, h)

-- the path over which the walk comes to an end is found there too, in the slot in which the end is entered
pub entered_by : (look : End → ℕ → Option ℕ) (a b : ℕ) (e x : End) → IsMirrored look → step look a b e ≡ Some x → look x (enter a b x) ≡ Some (line_of e)
entered_by look a b (Row i) x mirror h =
    let way = map_cases (Row i) (look (Row i) b) x h in
    subst (λ y. look y (enter a b y) ≡ Some i) way.2 (mirror (Row i) b way.0 way.1)
entered_by look a b (Column j) x mirror h =
    let way = map_cases (Column j) (look (Column j) a) x h in
    subst (λ y. look y (enter a b y) ≡ Some j) way.2 (mirror (Column j) a way.0 way.1)

same_end : (e f : End) (x : End) (l m : ℕ) → far_end e l ≡ x → far_end f m ≡ x → line_of e ≡ line_of f → e ≡ f
same_end (Row i) (Row k) x l m g h same = ap Row same
same_end (Row i) (Column k) x l m g h same = absurd (cc)
same_end (Column i) (Row k) x l m g h same = absurd (cc)
same_end (Column i) (Column k) x l m g h same = ap Column same

-- the walk comes to an end over one path alone
pub one_way : (look : End → ℕ → Option ℕ) (a b : ℕ) (e f x : End) → IsMirrored look → step look a b e ≡ Some x → step look a b f ≡ Some x → e ≡ f
one_way look a b e f x mirror g h =
    let from_e = entered_by look a b e x mirror g in
    let from_f = entered_by look a b f x mirror h in
    let way_e = map_cases e (look e (leave a b e)) x g in
    let way_f = map_cases f (look f (leave a b f)) x h in
    same_end e f x way_e.0 way_f.0 way_e.2 way_f.2 (same_Some (line_of e) (line_of f) (sym from_e ∙ from_f))

-- nothing comes to an end whose entering slot is free
pub not_entered : (look : End → ℕ → Option ℕ) (a b : ℕ) (e x : End) → IsMirrored look → look x (enter a b x) ≡ None → step look a b e ≡ Some x → ⊥
not_entered look a b e x mirror free h = let way = entered_by look a b e x mirror h in cc

-- An alternating walk that begins at an end whose entering slot is free comes to no end twice
pub no_return : (look : End → ℕ → Option ℕ) (a b : ℕ) (start : End) → IsMirrored look → look start (enter a b start) ≡ None
    → (k n : ℕ) (x : End) → end_at look a b start k ≡ Some x → end_at look a b start n ≡ Some x → k ≡ n
no_return look a b start mirror free zero zero x g h = refl
no_return look a b start mirror free zero (suc n) x g h =
    let last = then_cases (step look a b) (end_at look a b start n) x h in
    let begins : start ≡ x = same_Some start x g in
    absurd (not_entered look a b last.0 start mirror free (last.2 ∙ ap Some (sym begins)))
no_return look a b start mirror free (suc k) zero x g h =
    let last = then_cases (step look a b) (end_at look a b start k) x g in
    let begins : start ≡ x = same_Some start x h in
    absurd (not_entered look a b last.0 start mirror free (last.2 ∙ ap Some (sym begins)))
no_return look a b start mirror free (suc k) (suc n) x g h =
    let at_k = then_cases (step look a b) (end_at look a b start k) x g in
    let at_n = then_cases (step look a b) (end_at look a b start n) x h in
    let same = one_way look a b at_k.0 at_n.0 x mirror at_k.2 at_n.2 in
    ap suc (no_return look a b start mirror free k n at_k.0 at_k.1 (at_n.1 ∙ ap Some (sym same)))

-- It never comes to another end whose entering slot is free
pub never_comes_to : (look : End → ℕ → Option ℕ) (a b : ℕ) (start other : End) → IsMirrored look → look other (enter a b other) ≡ None → other ≢ start
    → (k : ℕ) → end_at look a b start k ≡ Some other → ⊥
never_comes_to look a b start other mirror free apart zero h = apart (sym (same_Some start other h))
never_comes_to look a b start other mirror free apart (suc k) h =
    let last = then_cases (step look a b) (end_at look a b start k) other h in
    not_entered look a b last.0 other mirror free last.2

-- Two walks over the same paths, from different ends that nothing leads to, share no end: where they meet, the steps before lead back
-- together until one walk is at its start, to which the other would have come
pub no_meeting : (look : End → ℕ → Option ℕ) (a b : ℕ) (start other : End) → IsMirrored look → look start (enter a b start) ≡ None → look other (enter a b other) ≡ None → other ≢ start
    → (k n : ℕ) (x : End) → end_at look a b start k ≡ Some x → end_at look a b other n ≡ Some x → ⊥
no_meeting look a b start other mirror free other_free apart zero n x g h =
    never_comes_to look a b other start mirror free (λ e. apart (sym e)) n (h ∙ ap Some (sym (same_Some start x g)))
no_meeting look a b start other mirror free other_free apart (suc k) zero x g h =
    never_comes_to look a b start other mirror other_free apart (suc k) (g ∙ ap Some (sym (same_Some other x h)))
no_meeting look a b start other mirror free other_free apart (suc k) (suc n) x g h =
    let at_k = then_cases (step look a b) (end_at look a b start k) x g in
    let at_n = then_cases (step look a b) (end_at look a b other n) x h in
    let same = one_way look a b at_k.0 at_n.0 x mirror at_k.2 at_n.2 in
    no_meeting look a b start other mirror free other_free apart k n at_k.0 at_k.1 (at_n.1 ∙ ap Some (sym same))

-- the walk has been at each earlier place
pub been_before : (look : End → ℕ → Option ℕ) (a b : ℕ) (start : End) (n k : ℕ) (x : End) → end_at look a b start n ≡ Some x → k ≤ n → (e : End) × (end_at look a b start k ≡ Some e)
been_before look a b start zero k x h early = let first : k ≡ zero = omega arith in (x, ap (end_at look a b start) first ∙ h)
been_before look a b start (suc n) k x h early = elim (cases_lt k (suc n)) [
  | inl less ↦
      let last = then_cases (step look a b) (end_at look a b start n) x h in
      been_before look a b start n k last.0 last.1 (omega arith)
  | inr more ↦ let last : k ≡ suc n = omega arith in (x, ap (end_at look a b start) last ∙ h)
]

-- rows and columns, numbered one after the other
abbrev pub number : ℕ → End → ℕ
number lines (Row i) = i
number lines (Column j) = lines + j

pub number_below : (lines : ℕ) (e : End) → line_of e < lines → number lines e < 2 * lines
number_below lines (Row i) inside = omega arith
number_below lines (Column j) inside = omega arith

pub number_same : (lines : ℕ) (e f : End) → line_of e < lines → line_of f < lines → number lines e ≡ number lines f → e ≡ f
number_same lines (Row i) (Row k) inside within same = ap Row same
number_same lines (Row i) (Column k) inside within same = absurd (omega arith)
number_same lines (Column i) (Row k) inside within same = absurd (omega arith)
number_same lines (Column i) (Column k) inside within same = ap Column (omega arith)

-- what is looked up lies within the lines
abbrev pub IsWithin : ℕ → (End → ℕ → Option ℕ) → Type 0
IsWithin lines look = (e : End) (s line : ℕ) → look e s ≡ Some line → line < lines

far_line_is : (e : End) (line : ℕ) → line_of (far_end e line) ≡ line
far_line_is (Row i) line = refl
far_line_is (Column j) line = refl

pub line_of_end_within : (look : End → ℕ → Option ℕ) (a b lines : ℕ) (start : End) → IsWithin lines look → line_of start < lines → (n : ℕ) (x : End) → end_at look a b start n ≡ Some x → line_of x < lines
line_of_end_within look a b lines start within inside zero x h = subst (λ e. line_of e < lines) (same_Some start x h) inside
line_of_end_within look a b lines start within inside (suc n) x h =
    let last = then_cases (step look a b) (end_at look a b start n) x h in
    let way = map_cases last.0 (look last.0 (leave a b last.0)) x last.2 in
    subst (λ e. line_of e < lines) way.2 (rw (far_line_is last.0 way.0) (within last.0 (leave a b last.0) way.0 way.1))

-- the ends of a walk, by number
pub numbered : (End → ℕ → Option ℕ) → ℕ → ℕ → ℕ → End → ℕ → ℕ
numbered look a b lines start k = unwrap_or (option_map (number lines) (end_at look a b start k)) 0

pub numbered_is : (look : End → ℕ → Option ℕ) (a b lines : ℕ) (start : End) (k : ℕ) (e : End) → end_at look a b start k ≡ Some e → numbered look a b lines start k ≡ number lines e
unfolding numbered
numbered_is look a b lines start k e h = rw h refl

-- A chain has the list of its walk: each move is of the path over which the walk goes on
pub record IsStep (look : End → ℕ → Option ℕ) (a b : ℕ) (start : End) (k : ℕ) (v : Move) : Type 0 where
  pub near : End
  pub line : ℕ
  pub is_at : end_at look a b start k ≡ Some near
  pub goes : look near (leave a b near) ≡ Some line
  pub is : v ≡ move_of near line (leave a b near) (enter a b near)

pub end_at_next : (look : End → ℕ → Option ℕ) (a b : ℕ) (start e : End) (k line : ℕ) → end_at look a b start k ≡ Some e → look e (leave a b e) ≡ Some line → end_at look a b start (suc k) ≡ Some (far_end e line)
end_at_next look a b start e k line h g = rw h (rw g refl)

pub far_end_turned : (a b : ℕ) (e : End) (line : ℕ) → (leave a b (far_end e line) ≡ enter a b e) × (enter a b (far_end e line) ≡ leave a b e)
far_end_turned a b (Row i) line = (refl, refl)
far_end_turned a b (Column j) line = (refl, refl)

abbrev pub own_chain : (End → ℕ → Option ℕ) → ℕ → ℕ → ℕ → End → List Move
own_chain look a b n e = chain look n e (leave a b e) (enter a b e)

chain_on : (look : End → ℕ → Option ℕ) (a b n : ℕ) (e : End) (line : ℕ) → look e (leave a b e) ≡ Some line
    → own_chain look a b (suc n) e ≡ move_of e line (leave a b e) (enter a b e) ∷ own_chain look a b n (far_end e line)
chain_on look a b n e line g =
    ap (λ (o : Option ℕ). elim o as (λ _. List Move) [ None ↦ [] | Some l ↦ move_of e l (leave a b e) (enter a b e) ∷ chain look n (far_end e l) (enter a b e) (leave a b e) ]) g
    ∙ ap (λ moves. move_of e line (leave a b e) (enter a b e) ∷ moves) (rw ((far_end_turned a b e line).0, (far_end_turned a b e line).1) refl)

chain_ends : (look : End → ℕ → Option ℕ) (a b n : ℕ) (e : End) → look e (leave a b e) ≡ None → own_chain look a b n e ≡ []
chain_ends look a b zero e g = refl
chain_ends look a b (suc n) e g = ap (λ (o : Option ℕ). elim o as (λ _. List Move) [ None ↦ [] | Some l ↦ move_of e l (leave a b e) (enter a b e) ∷ chain look n (far_end e l) (enter a b e) (leave a b e) ]) g

no_move : (k : ℕ) (v : Move) → slice_get [] k ≡ Some v → ⊥
no_move k v h = cc

-- each move of the chain is a step of the walk
pub chain_steps : (look : End → ℕ → Option ℕ) (a b : ℕ) (start : End) (n k : ℕ) (e : End) → end_at look a b start k ≡ Some e
    → (x : ℕ) (v : Move) → slice_get (own_chain look a b n e) x ≡ Some v → IsStep look a b start (x + k) v
chain_steps look a b start zero k e here x v h = absurd (no_move x v h)
chain_steps look a b start (suc n) k e here x v h = cases (look e (leave a b e)) refl (λ e' there x' h'. chain_steps look a b start n (suc k) e' there x' v h')
  where
    at : (line x : ℕ) → look e (leave a b e) ≡ Some line → slice_get (move_of e line (leave a b e) (enter a b e) ∷ own_chain look a b n (far_end e line)) x ≡ Some v
        → ((e' : End) → end_at look a b start (suc k) ≡ Some e' → (x' : ℕ) → slice_get (own_chain look a b n e') x' ≡ Some v → IsStep look a b start (x' + suc k) v)
        → IsStep look a b start (x + k) v
    at line zero goes first later = record {
      near = e;
      line = line;
      is_at = subst (λ m. end_at look a b start m ≡ Some e) (sym (zero-add k)) here;
      goes = goes;
      is = sym (same_Some _ v first);
    }
    at line (suc x) goes rest later = subst (λ m. IsStep look a b start m v) (omega arith) (later (far_end e line) (end_at_next look a b start e k line here goes) x rest)

    cases : (o : Option ℕ) → look e (leave a b e) ≡ o
        → ((e' : End) → end_at look a b start (suc k) ≡ Some e' → (x' : ℕ) → slice_get (own_chain look a b n e') x' ≡ Some v → IsStep look a b start (x' + suc k) v)
        → IsStep look a b start (x + k) v
    cases None goes later = absurd (no_move x v (sym (ap (λ moves. slice_get moves x) (chain_ends look a b (suc n) e goes)) ∙ h))
    cases (Some line) goes later = at line x goes (sym (ap (λ moves. slice_get moves x) (chain_on look a b n e line goes)) ∙ h) later

-- the walk goes as far as the chain is long
pub chain_length : (look : End → ℕ → Option ℕ) (a b : ℕ) (start : End) (n k : ℕ) (e : End) → end_at look a b start k ≡ Some e
    → (x : End) × (end_at look a b start (length (own_chain look a b n e) + k) ≡ Some x)
chain_length look a b start zero k e here = (e, subst (λ m. end_at look a b start m ≡ Some e) (sym (zero-add k)) here)
chain_length look a b start (suc n) k e here = cases (look e (leave a b e)) refl (λ e' there. chain_length look a b start n (suc k) e' there)
  where
    cases : (o : Option ℕ) → look e (leave a b e) ≡ o
        → ((e' : End) → end_at look a b start (suc k) ≡ Some e' → (x : End) × (end_at look a b start (length (own_chain look a b n e') + suc k) ≡ Some x))
        → (x : End) × (end_at look a b start (length (own_chain look a b (suc n) e) + k) ≡ Some x)
    cases None goes later = (e, subst (λ m. end_at look a b start m ≡ Some e) (sym (ap (λ moves. length moves + k) (chain_ends look a b (suc n) e goes) ∙ zero-add k)) here)
    cases (Some line) goes later =
        let rest = later (far_end e line) (end_at_next look a b start e k line here goes) in
        let size = ap length (chain_on look a b n e line goes) in
        let at : length (own_chain look a b n (far_end e line)) + suc k ≡ length (own_chain look a b (suc n) e) + k = omega (arith, size) in
        (rest.0, subst (λ m. end_at look a b start m ≡ Some rest.0) at rest.1)

-- where the walk goes on, so does the chain
pub slice_get-own_chain_goes_on : (look : End → ℕ → Option ℕ) (a b : ℕ) (start : End) (n k : ℕ) (e : End) → end_at look a b start k ≡ Some e
    → (x : ℕ) (f : End) (line : ℕ) → x < n → end_at look a b start (x + k) ≡ Some f → look f (leave a b f) ≡ Some line
    → slice_get (own_chain look a b n e) x ≡ Some (move_of f line (leave a b f) (enter a b f))
slice_get-own_chain_goes_on look a b start zero k e here x f line early there goes = absurd (omega arith)
slice_get-own_chain_goes_on look a b start (suc n) k e here zero f line early there goes =
    let same : e ≡ f = same_Some e f (sym here ∙ ap (end_at look a b start) (sym (zero-add k)) ∙ there) in
    let on : look e (leave a b e) ≡ Some line = subst (λ g. look g (leave a b g) ≡ Some line) (sym same) goes in
    ap (λ moves. slice_get moves zero) (chain_on look a b n e line on) ∙ ap (λ g. Some (move_of g line (leave a b g) (enter a b g))) same
slice_get-own_chain_goes_on look a b start (suc n) k e here (suc x) f line early there goes =
    let at : x + suc k ≡ suc x + k = omega arith in
    let next = been_before look a b start (suc x + k) (suc k) f there (omega arith) in
    let way = map_cases e (look e (leave a b e)) next.0 (sym (ap (option_and_then (step look a b)) here) ∙ next.1) in
    ap (λ moves. slice_get moves (suc x)) (chain_on look a b n e way.0 way.1)
    ∙ slice_get-own_chain_goes_on look a b start n (suc k) (far_end e way.0) (end_at_next look a b start e k way.0 here way.1) x f line (omega arith) (ap (end_at look a b start) at ∙ there) goes

-- the same from the start
pub is_step : (look : End → ℕ → Option ℕ) (a b : ℕ) (start : End) (n k : ℕ) (v : Move) → slice_get (own_chain look a b n start) k ≡ Some v → IsStep look a b start k v
is_step look a b start n k v h = subst (λ m. IsStep look a b start m v) (add-zero k) (chain_steps look a b start n zero start refl k v h)

pub slice_get-own_chain_has_step : (look : End → ℕ → Option ℕ) (a b : ℕ) (start : End) (n k : ℕ) (f : End) (line : ℕ) → k < n → end_at look a b start k ≡ Some f → look f (leave a b f) ≡ Some line
    → slice_get (own_chain look a b n start) k ≡ Some (move_of f line (leave a b f) (enter a b f))
slice_get-own_chain_has_step look a b start n k f line early there goes = slice_get-own_chain_goes_on look a b start n zero start refl k f line early (ap (end_at look a b start) (add-zero k) ∙ there) goes

-- the two ends of a moved path
ends_of_row : (e : End) (line old new : ℕ) → (Row (move_of e line old new).row ≡ e) ⊎ (Row (move_of e line old new).row ≡ far_end e line)
ends_of_row (Row i) line old new = inl refl
ends_of_row (Column j) line old new = inr refl

ends_of_column : (e : End) (line old new : ℕ) → (Column (move_of e line old new).column ≡ e) ⊎ (Column (move_of e line old new).column ≡ far_end e line)
ends_of_column (Row i) line old new = inr refl
ends_of_column (Column j) line old new = inl refl

pub move_of_old : (e : End) (line old new : ℕ) → (move_of e line old new).old ≡ old
move_of_old (Row i) line old new = refl
move_of_old (Column j) line old new = refl

pub move_of_new : (e : End) (line old new : ℕ) → (move_of e line old new).new ≡ new
move_of_new (Row i) line old new = refl
move_of_new (Column j) line old new = refl

-- an end of a moved path
abbrev pub IsEndOf : End → Move → Type 0
IsEndOf f v = (f ≡ Row v.row) ⊎ (f ≡ Column v.column)

pub end_cases : (e : End) (line old new : ℕ) (v : Move) (f : End) → v ≡ move_of e line old new → IsEndOf f v → (f ≡ e) ⊎ (f ≡ far_end e line)
end_cases e line old new v f is (inl row) = elim (ends_of_row e line old new) [ inl near ↦ inl (row ∙ ap (λ (u : Move). Row u.row) is ∙ near) | inr far ↦ inr (row ∙ ap (λ (u : Move). Row u.row) is ∙ far) ]
end_cases e line old new v f is (inr column) = elim (ends_of_column e line old new) [ inl near ↦ inl (column ∙ ap (λ (u : Move). Column u.column) is ∙ near) | inr far ↦ inr (column ∙ ap (λ (u : Move). Column u.column) is ∙ far) ]

-- the walk comes to both ends of each path that moves
pub comes_to_ends : (look : End → ℕ → Option ℕ) (a b : ℕ) (start : End) (n k : ℕ) (v : Move) (f : End) → slice_get (own_chain look a b n start) k ≡ Some v → IsEndOf f v
    → (x : ℕ) × (end_at look a b start x ≡ Some f)
comes_to_ends look a b start n k v f h end =
    let at = is_step look a b start n k v h in
    elim (end_cases at.near at.line (leave a b at.near) (enter a b at.near) v f at.is end) [
      | inl near ↦ (k, at.is_at ∙ ap Some (sym near))
      | inr far ↦ (suc k, end_at_next look a b start at.near k at.line at.is_at at.goes ∙ ap Some (sym far))
    ]

same_side : (a b : ℕ) (e f : End) (l m : ℕ) → a ≢ b → leave a b e ≡ leave a b f → (move_of e l (leave a b e) (enter a b e)).row ≡ (move_of f m (leave a b f) (enter a b f)).row → (e ≡ f) ⊎ (far_end e l ≡ far_end f m)
same_side a b (Row i) (Row k) l m apart same row = inl (ap Row row)
same_side a b (Row i) (Column k) l m apart same row = absurd (apart (sym same))
same_side a b (Column i) (Row k) l m apart same row = absurd (apart same)
same_side a b (Column i) (Column k) l m apart same row = inr (ap Row row)

same_column_side : (a b : ℕ) (e f : End) (l m : ℕ) → a ≢ b → enter a b e ≡ enter a b f → (move_of e l (leave a b e) (enter a b e)).column ≡ (move_of f m (leave a b f) (enter a b f)).column → (e ≡ f) ⊎ (far_end e l ≡ far_end f m)
same_column_side a b (Row i) (Row k) l m apart same column = inr (ap Column column)
same_column_side a b (Row i) (Column k) l m apart same column = absurd (apart same)
same_column_side a b (Column i) (Row k) l m apart same column = absurd (apart (sym same))
same_column_side a b (Column i) (Column k) l m apart same column = inl (ap Column column)

entered_as : (a b : ℕ) (e f : End) → a ≢ b → enter a b e ≡ enter a b f → leave a b e ≡ leave a b f
entered_as a b (Row i) (Row k) apart same = refl
entered_as a b (Row i) (Column k) apart same = absurd (apart same)
entered_as a b (Column i) (Row k) apart same = absurd (apart (sym same))
entered_as a b (Column i) (Column k) apart same = refl

same_place : (look : End → ℕ → Option ℕ) (a b : ℕ) (start : End) (k n : ℕ) (u v : Move) → IsMirrored look → look start (enter a b start) ≡ None
    → (s : IsStep look a b start k u) → (t : IsStep look a b start n v) → (s.near ≡ t.near) ⊎ (far_end s.near s.line ≡ far_end t.near t.line) → k ≡ n
same_place look a b start k n u v mirror free s t (inl near) = no_return look a b start mirror free k n t.near (s.is_at ∙ ap Some near) t.is_at
same_place look a b start k n u v mirror free s t (inr far) =
    let next = no_return look a b start mirror free (suc k) (suc n) (far_end t.near t.line)
    (end_at_next look a b start s.near k s.line s.is_at s.goes ∙ ap Some far) (end_at_next look a b start t.near n t.line t.is_at t.goes) in
    omega arith

-- The walk repeats no path: two moves of a row differ in the slots that they leave and in those that they take, two of a column too
pub rows_leave_once : (look : End → ℕ → Option ℕ) (a b : ℕ) (start : End) (size k n : ℕ) (u v : Move) → IsMirrored look → look start (enter a b start) ≡ None → a ≢ b
    → slice_get (own_chain look a b size start) k ≡ Some u → slice_get (own_chain look a b size start) n ≡ Some v → u.row ≡ v.row → u.old ≡ v.old → k ≡ n
rows_leave_once look a b start size k n u v mirror free apart g h row old =
    let s = is_step look a b start size k u g in
    let t = is_step look a b start size n v h in
    let left = sym (move_of_old s.near s.line (leave a b s.near) (enter a b s.near)) ∙ ap (λ (w : Move). w.old) (sym s.is) ∙ old ∙ ap (λ (w : Move). w.old) t.is ∙ move_of_old t.near t.line (leave a b t.near) (enter a b t.near) in
    same_place look a b start k n u v mirror free s t
    (same_side a b s.near t.near s.line t.line apart left (ap (λ (w : Move). w.row) (sym s.is) ∙ row ∙ ap (λ (w : Move). w.row) t.is))

pub rows_take_once : (look : End → ℕ → Option ℕ) (a b : ℕ) (start : End) (size k n : ℕ) (u v : Move) → IsMirrored look → look start (enter a b start) ≡ None → a ≢ b
    → slice_get (own_chain look a b size start) k ≡ Some u → slice_get (own_chain look a b size start) n ≡ Some v → u.row ≡ v.row → u.new ≡ v.new → k ≡ n
rows_take_once look a b start size k n u v mirror free apart g h row new =
    let s = is_step look a b start size k u g in
    let t = is_step look a b start size n v h in
    let taken = sym (move_of_new s.near s.line (leave a b s.near) (enter a b s.near)) ∙ ap (λ (w : Move). w.new) (sym s.is) ∙ new ∙ ap (λ (w : Move). w.new) t.is ∙ move_of_new t.near t.line (leave a b t.near) (enter a b t.near) in
    same_place look a b start k n u v mirror free s t
    (same_side a b s.near t.near s.line t.line apart (entered_as a b s.near t.near apart taken) (ap (λ (w : Move). w.row) (sym s.is) ∙ row ∙ ap (λ (w : Move). w.row) t.is))

pub columns_take_once : (look : End → ℕ → Option ℕ) (a b : ℕ) (start : End) (size k n : ℕ) (u v : Move) → IsMirrored look → look start (enter a b start) ≡ None → a ≢ b
    → slice_get (own_chain look a b size start) k ≡ Some u → slice_get (own_chain look a b size start) n ≡ Some v → u.column ≡ v.column → u.new ≡ v.new → k ≡ n
columns_take_once look a b start size k n u v mirror free apart g h column new =
    let s = is_step look a b start size k u g in
    let t = is_step look a b start size n v h in
    let taken = sym (move_of_new s.near s.line (leave a b s.near) (enter a b s.near)) ∙ ap (λ (w : Move). w.new) (sym s.is) ∙ new ∙ ap (λ (w : Move). w.new) t.is ∙ move_of_new t.near t.line (leave a b t.near) (enter a b t.near) in
    same_place look a b start k n u v mirror free s t
    (same_column_side a b s.near t.near s.line t.line apart taken (ap (λ (w : Move). w.column) (sym s.is) ∙ column ∙ ap (λ (w : Move). w.column) t.is))
