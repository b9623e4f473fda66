-- The lines of octets.
use Rattle.std.proofs.Common.{◌≡◌, ◌≢◌, ℕ, Bool, true, false, if◌then◌else◌, eqb, List, [], ◌∷◌, ◌++◌, refl, sym, ap, subst, ◌∙◌, inl, inr, append_assoc, append-nil}
use Rattle.std.specs.Prelude.{All}
use Rattle.std.specs.List.{onto_first}
use Rattle.std.proofs.lemmas.Bool.{ne_eqb}
use Rattle.std.proofs.lemmas.List.Elements.{All-head, All-tail}
use Rattle.trace_text.specs.TraceWords.{AreEnded, lines}

abbrev pub NoFeed : List ℕ → Type 0
NoFeed octets = All (λ octet. octet ≢ 10) octets

abbrev pub first_step : ℕ → List (List ℕ) → Bool → List (List ℕ)
first_step x rest b = if b then [] ∷ rest else onto_first x rest

pub fed_line : (line xs : List ℕ) → NoFeed line → lines (line ++ 10 ∷ xs) ≡ line ∷ lines xs
fed_line [] xs none = refl
fed_line (x ∷ line) xs none =
    let e : eqb x 10 ≡ false = ne_eqb x 10 (All-head (λ octet. octet ≢ 10) x line none) in
    ap (first_step x (lines (line ++ 10 ∷ xs))) e
    ∙ ap (onto_first x) (fed_line line xs (All-tail (λ octet. octet ≢ 10) x line none))

pub unfed_line : (x : ℕ) (line : List ℕ) → NoFeed (x ∷ line) → lines (x ∷ line) ≡ (x ∷ line) ∷ []
unfed_line x [] none =
    let e : eqb x 10 ≡ false = ne_eqb x 10 (All-head (λ octet. octet ≢ 10) x [] none) in
    ap (first_step x []) e
unfed_line x (y ∷ line) none =
    let e : eqb x 10 ≡ false = ne_eqb x 10 (All-head (λ octet. octet ≢ 10) x (y ∷ line) none) in
    ap (first_step x (lines (y ∷ line))) e ∙ ap (onto_first x) (unfed_line y line (All-tail (λ octet. octet ≢ 10) x (y ∷ line) none))

-- octets that end with a line feed have a line, and more octets behind them have their own lines
pub record HasLines (front xs : List ℕ) : Type 0 where
  pub first : List ℕ
  pub others : List (List ℕ)
  pub alone : lines (front ++ 10 ∷ []) ≡ first ∷ others
  pub both : lines (front ++ 10 ∷ xs) ≡ first ∷ (others ++ lines xs)

pub has_lines : (front xs : List ℕ) → HasLines front xs
has_lines [] xs = record { first = []; others = []; alone = refl; both = refl }
has_lines (x ∷ front) xs = go (has_lines front xs) (eqb x 10) refl
  where
    go : (rest : HasLines front xs) (b : Bool) → eqb x 10 ≡ b → HasLines (x ∷ front) xs
    go rest true e = record {
      first = [];
      others = rest.first ∷ rest.others;
      alone = ap (first_step x (lines (front ++ 10 ∷ []))) e ∙ ap (λ (l : List (List ℕ)). [] ∷ l) rest.alone;
      both = ap (first_step x (lines (front ++ 10 ∷ xs))) e ∙ ap (λ (l : List (List ℕ)). [] ∷ l) rest.both;
    }
    go rest false e = record {
      first = x ∷ rest.first;
      others = rest.others;
      alone = ap (first_step x (lines (front ++ 10 ∷ []))) e ∙ ap (onto_first x) rest.alone;
      both = ap (first_step x (lines (front ++ 10 ∷ xs))) e ∙ ap (onto_first x) rest.both;
    }

pub lines_behind : (octets xs : List ℕ) → AreEnded octets → lines (octets ++ xs) ≡ lines octets ++ lines xs
lines_behind octets xs (inl none) = subst (λ (o : List ℕ). lines (o ++ xs) ≡ lines o ++ lines xs) (sym none) refl
lines_behind octets xs (inr (front, is)) =
    let has = has_lines front xs in
    subst (λ (o : List ℕ). lines (o ++ xs) ≡ lines o ++ lines xs) (sym is)
    (ap lines (append_assoc front (10 ∷ []) xs) ∙ has.both ∙ sym (ap (λ (l : List (List ℕ)). l ++ lines xs) has.alone))

-- octets that end with a line feed, after others that do
pub ended_both : (xs ys : List ℕ) → AreEnded xs → AreEnded ys → AreEnded (xs ++ ys)
ended_both xs ys ends (inl none) = subst AreEnded (sym (ap (λ (l : List ℕ). xs ++ l) none ∙ append-nil xs)) ends
ended_both xs ys ends (inr (front, is)) = inr (xs ++ front, ap (λ (l : List ℕ). xs ++ l) is ∙ sym (append_assoc xs front (10 ∷ [])))
