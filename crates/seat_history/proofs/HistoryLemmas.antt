-- Facts on histories and lists.
use Rattle.std.proofs.Common.{◌≡◌, ◌≢◌, ℕ, eqb, ◌≤◌, ltb, cond, Bool, true, false, List, [], ◌∷◌, ◌++◌, length, sym, refl, ap, ◌∙◌, subst, arith, append-nil, append_assoc, length-append, eq-eqb, ne_eqb}
use Rattle.std.proofs.lemmas.Bool.Decides.{nat_tests}
use Rattle.std.proofs.lemmas.List.Elements.{All-from_recursion, filter-append}
use Rattle.std.specs.List.{AllByRecursion as Every}
use Rattle.seat_history.specs.Histories.{Entry, HasNone, StartsWith, unseen, before, longer, entries_of}

module _ {X : Type 0} where
  pub every_more : (P : X → Type 0) (xs ys : List X) → Every P xs → Every P ys → Every P (xs ++ ys)
  every_more P [] ys a b = b
  every_more P (x ∷ xs) ys a b = (a.0, every_more P xs ys a.1 b)

  pub every_right : (P : X → Type 0) (xs ys : List X) → Every P (xs ++ ys) → Every P ys
  every_right P [] ys a = a
  every_right P (x ∷ xs) ys a = every_right P xs ys a.1

  pub every_left : (P : X → Type 0) (xs ys : List X) → Every P (xs ++ ys) → Every P xs
  every_left P [] ys a = tt
  every_left P (x ∷ xs) ys a = (a.0, every_left P xs ys a.1)

  pub every_map : {P Q : X → Type 0} (xs : List X) → ((x : X) → P x → Q x) → Every P xs → Every Q xs
  every_map [] f a = tt
  every_map (x ∷ xs) f a = (f x a.0, every_map xs f a.1)

  pub every_both : {P Q R : X → Type 0} (xs : List X) → ((x : X) → P x → Q x → R x) → Every P xs → Every Q xs → Every R xs
  every_both [] f a b = tt
  every_both (x ∷ xs) f a b = (f x a.0 b.0, every_both xs f a.1 b.1)

pub every_swap : {X Y : Type 0} (R : X → Y → Type 0) (xs : List X) (ys : List Y) → Every (λ x. Every (R x) ys) xs → Every (λ y. Every (λ x. R x y) xs) ys
every_swap R xs [] a = tt
every_swap R xs (y ∷ ys) a = (every_map xs (λ x r. r.0) a, every_swap R xs ys (every_map xs (λ x r. r.1) a))

pub entries_none : (n : ℕ) (log : List Entry) → Every (λ (e : Entry). e.0 ≢ n) log → entries_of n log ≡ []
entries_none n [] a = refl
entries_none n (e ∷ log) a = subst (λ (b : Bool). cond b (e ∷ entries_of n log) (entries_of n log) ≡ []) (sym (ne_eqb e.0 n a.0)) (entries_none n log a.1)

pub entries_same : (n event : ℕ) (log : List Entry) → entries_of n (log ++ (n, event) ∷ []) ≡ entries_of n log ++ (n, event) ∷ []
entries_same n event log = filter-append (λ (e : Entry). eqb e.0 n) log ((n, event) ∷ []) ∙ ap (λ (b : Bool). entries_of n log ++ cond b ((n, event) ∷ []) []) (eq-eqb n n refl)

pub entries_else : (n m event : ℕ) (log : List Entry) → m ≢ n → entries_of n (log ++ (m, event) ∷ []) ≡ entries_of n log
entries_else n m event log other = filter-append (λ (e : Entry). eqb e.0 n) log ((m, event) ∷ []) ∙ (ap (λ (b : Bool). entries_of n log ++ cond b ((m, event) ∷ []) []) (ne_eqb m n other) ∙ append-nil (entries_of n log))

pub starts_more : (log rest seen : List Entry) → StartsWith log seen → StartsWith (log ++ rest) seen
starts_more log rest seen s = (s.0 ++ rest, ap (λ (l : List Entry). l ++ rest) s.1 ∙ append_assoc seen s.0 rest)

pub starts_same : (a : List Entry) → StartsWith a a
starts_same a = ([], sym (append-nil a))

-- what is behind has no (of, the) number
pub entries_front : (n : ℕ) (seen rest : List Entry) → Every (λ (e : Entry). e.0 ≢ n) rest → entries_of n (seen ++ rest) ≡ entries_of n seen
entries_front n seen rest none = filter-append (λ (e : Entry). eqb e.0 n) seen rest ∙ (ap (λ (l : List Entry). entries_of n seen ++ l) (entries_none n rest none) ∙ append-nil (entries_of n seen))

-- the shorter of two beginnings of one list begins the longer
pub shorter : (log a b ra rb : List Entry) → length a ≤ length b → log ≡ a ++ ra → log ≡ b ++ rb → (x : List Entry) × (b ≡ a ++ x) × (ra ≡ x ++ rb)
shorter log [] b ra rb l p q = (b, refl, sym p ∙ q)
shorter log (x ∷ a) [] ra rb l p q = absurd (omega arith)
shorter [] (x ∷ a) (y ∷ b) ra rb l p q = absurd (cc p)
shorter (z ∷ log) (x ∷ a) (y ∷ b) ra rb l p q =
    let first : z ≡ x = cc p in
    let second : z ≡ y = cc q in
    let rest = shorter log a b ra rb (omega arith) (cc p) (cc q) in
    (rest.0, (λ i. (sym second ∙ first) i ∷ rest.1 i), rest.2)

-- both begin the longer one, and what is behind it is behind both
pub both_begin : (P Q : Entry → Type 0) (log a b ra rb : List Entry) → log ≡ a ++ ra → log ≡ b ++ rb → Every P ra → Every Q rb
    → (rest : List Entry) × (log ≡ longer a b ++ rest) × Every P rest × Every Q rest × StartsWith (longer a b) a × StartsWith (longer a b) b
both_begin P Q log a b ra rb p q f g = go (ltb (length a) (length b)) refl
  where
    go : (t : Bool) → ltb (length a) (length b) ≡ t → (rest : List Entry) × (log ≡ cond t b a ++ rest) × Every P rest × Every Q rest × StartsWith (cond t b a) a × StartsWith (cond t b a) b
    go true h = let s = shorter log a b ra rb (grind (arith, nat_tests)) p q in (rb, q, every_right _ s.0 rb (subst (Every P) s.2 f), g, (s.0, s.1), starts_same b)
    go false h = let s = shorter log b a rb ra (grind (arith, nat_tests)) q p in (ra, p, f, every_right _ s.0 ra (subst (Every Q) s.2 g), starts_same a, (s.0, s.1))

-- a beginning of the history that begins with all of it is all of it
pub is_all : (log seen x rest : List Entry) → log ≡ seen ++ rest → seen ≡ log ++ x → seen ≡ log
is_all log seen x [] p q = sym (p ∙ append-nil seen)
is_all log seen x (y ∷ ys) p q = let a = ap length p in let b = ap length q in absurd (omega (arith, length-append seen (y ∷ ys), length-append log x))

-- what is unseen is what comes behind
pub unseen_front : (seen rest : List Entry) → unseen seen (seen ++ rest) ≡ rest
unseen_front [] rest = refl
unseen_front (x ∷ seen) rest = unseen_front seen rest

-- the history before the (that, follows) it
pub before_front : (log more : List Entry) → before (length log) (log ++ more) ≡ log
before_front [] more = refl
before_front (x ∷ log) more = ap (λ (l : List Entry). x ∷ l) (before_front log more)

pub nothing_behind : (seen rest : List Entry) → seen ≡ seen ++ rest → rest ≡ []
nothing_behind seen [] same = refl
nothing_behind seen (x ∷ rest) same = let l = ap length same in absurd (omega (arith, length-append seen (x ∷ rest)))

-- where none of what came between has the property, none of what was unseen has
pub has_none_between : (P : ℕ → Type 0) (seen rest more : List Entry) (place : ℕ) → place ≡ length (seen ++ rest) → Every (λ (e : Entry). P e.1 → ⊥) rest → HasNone P (unseen seen (before place ((seen ++ rest) ++ more)))
has_none_between P seen rest more place there none =
    subst (HasNone P) (sym (ap (λ (l : List Entry). unseen seen l) (ap (λ (n : ℕ). before n ((seen ++ rest) ++ more)) there ∙ before_front (seen ++ rest) more) ∙ unseen_front seen rest))
    (All-from_recursion (λ (e : Entry). P e.1 → ⊥) rest none)
