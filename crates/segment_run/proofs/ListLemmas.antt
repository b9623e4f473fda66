-- Which elements a list has.
use Rattle.std.proofs.Common.{◌≡◌, ℕ, zero, suc, ◌+◌, ◌<◌, ◌≤◌, ◌⊎◌, inl, inr, Bool, true, false, cond, ◌&&◌, List, [], ◌∷◌, ◌++◌, map, filter, length, slice_get, Some, refl, sym, ap, ◌∙◌, subst, arith, length-append}
use Rattle.std.specs.Prelude.{slice_index_or, ◌||◌, nat_eq}
use Rattle.std.specs.List.{All, list_any, range_with_len}
use Rattle.std.proofs.lemmas.Bool.Decides.{nat_tests}
use Rattle.segment_run.specs.Merging.{IsOneOf}

module _ {X : Type 0} where
  -- the list has this element
  abbrev pub In : X → List X → Type 0
  In x xs = IsOneOf x xs

  pub all_in : (P : X → Type 0) (xs : List X) → All P xs → (x : X) → In x xs → P x
  all_in P [] a x i = absurd i
  all_in P (y ∷ ys) a x (inl same) = subst P same (a 0 y (omega arith))
  all_in P (y ∷ ys) a x (inr more) = all_in P ys (λ k d h. a (suc k) d (omega (arith, h))) x more

  pub in_all : (P : X → Type 0) (xs : List X) → ((x : X) → In x xs → P x) → All P xs
  in_all P [] f k d h = absurd (omega (arith, h))
  in_all P (y ∷ ys) f zero d h = f y (inl refl)
  in_all P (y ∷ ys) f (suc k) d h = in_all P ys (λ x i. f x (inr i)) k d (omega (arith, h))

  pub all_front : (P : X → Type 0) (xs : List X) (x : X) → All P (xs ++ x ∷ []) → All P xs
  all_front P xs x a = in_all P xs (λ y i. all_in P (xs ++ x ∷ []) a y (early y xs i))
    where
      early : (y : X) (zs : List X) → In y zs → In y (zs ++ x ∷ [])
      early y [] i = absurd i
      early y (z ∷ zs) (inl same) = inl same
      early y (z ∷ zs) (inr more) = inr (early y zs more)

  pub all_last : (P : X → Type 0) (xs : List X) (x : X) → All P (xs ++ x ∷ []) → P x
  all_last P xs x a = all_in P (xs ++ x ∷ []) a x (late xs)
    where
      late : (zs : List X) → In x (zs ++ x ∷ [])
      late [] = inl refl
      late (z ∷ zs) = inr (late zs)

  pub no_length : (xs : List X) → length xs ≡ 0 → xs ≡ []
  no_length [] h = refl
  no_length (x ∷ xs) h = absurd (omega (arith, h))

  pub in_either : (xs ys : List X) (x : X) → In x (xs ++ ys) → In x xs ⊎ In x ys
  in_either [] ys x i = inr i
  in_either (z ∷ xs) ys x (inl same) = inl (inl same)
  in_either (z ∷ xs) ys x (inr more) = widen (in_either xs ys x more)
    where
      widen : In x xs ⊎ In x ys → In x (z ∷ xs) ⊎ In x ys
      widen (inl a) = inl (inr a)
      widen (inr b) = inr b

  pub in_left : (xs ys : List X) (x : X) → In x xs → In x (xs ++ ys)
  in_left [] ys x i = absurd i
  in_left (z ∷ xs) ys x (inl same) = inl same
  in_left (z ∷ xs) ys x (inr more) = inr (in_left xs ys x more)

  pub in_right : (xs ys : List X) (x : X) → In x ys → In x (xs ++ ys)
  in_right [] ys x i = i
  in_right (z ∷ xs) ys x i = inr (in_right xs ys x i)

  in_kept : (b : Bool) (y : X) (ys : List X) (x : X) → In x ys → In x (cond b (y ∷ ys) ys)
  in_kept true y ys x i = inr i
  in_kept false y ys x i = i

  pub in_filter : (p : X → Bool) (xs : List X) (x : X) → In x xs → p x ≡ true → In x (filter p xs)
  in_filter p [] x i yes_it = absurd i
  in_filter p (y ∷ ys) x (inl same) yes_it =
      subst (λ (b : Bool). In x (cond b (y ∷ filter p ys) (filter p ys))) (sym (ap p same ∙ yes_it)) (inl same)
  in_filter p (y ∷ ys) x (inr more) yes_it = in_kept (p y) y (filter p ys) x (in_filter p ys x more yes_it)

  pub filter_in : (p : X → Bool) (xs : List X) (x : X) → In x (filter p xs) → (p x ≡ true) × In x xs
  filter_in p [] x i = absurd i
  filter_in p (y ∷ ys) x i = go (filter_in p ys x) (p y) refl i
    where
      go : (In x (filter p ys) → (p x ≡ true) × In x ys) → (b : Bool) → p y ≡ b → In x (cond b (y ∷ filter p ys) (filter p ys)) → (p x ≡ true) × In x (y ∷ ys)
      go tail true e (inl same) = (ap p (sym same) ∙ e, inl same)
      go tail true e (inr more) = let r = tail more in (r.0, inr r.1)
      go tail false e j = let r = tail j in (r.0, inr r.1)

  -- two tests that agree on the elements keep the same ones
  pub filter_alike : (p q : X → Bool) (xs : List X) → ((x : X) → In x xs → p x ≡ q x) → filter p xs ≡ filter q xs
  filter_alike p q [] f = refl
  filter_alike p q (y ∷ ys) f =
      ap (λ (b : Bool). cond b (y ∷ filter p ys) (filter p ys)) (f y (inl refl))
      ∙ ap (λ (l : List X). cond (q y) (y ∷ l) l) (filter_alike p q ys (λ x i. f x (inr i)))

  pub filter_none : (p : X → Bool) (xs : List X) → ((x : X) → In x xs → p x ≡ false) → filter p xs ≡ []
  filter_none p [] f = refl
  filter_none p (y ∷ ys) f =
      ap (λ (b : Bool). cond b (y ∷ filter p ys) (filter p ys)) (f y (inl refl)) ∙ filter_none p ys (λ x i. f x (inr i))

  -- a list that is empty behind another one
  pub none_behind : (xs ys zs : List X) → xs ≡ ys → ys ≡ xs ++ zs → zs ≡ []
  none_behind xs ys [] same longer = refl
  none_behind xs ys (z ∷ zs) same longer =
      let a = ap length same in
      let b = ap length longer in
      absurd (omega (arith, a, b, length-append xs (z ∷ zs)))

  pub got_in : (xs : List X) (i : ℕ) (x : X) → slice_get xs i ≡ Some x → In x xs
  got_in [] i x e = absurd (cc e)
  got_in (y ∷ ys) zero x e = inl (cc e)
  got_in (y ∷ ys) (suc i) x e = inr (got_in ys i x e)

  pub slice_get-append_left : (xs ys : List X) (i : ℕ) (x : X) → slice_get xs i ≡ Some x → slice_get (xs ++ ys) i ≡ Some x
  slice_get-append_left [] ys i x e = absurd (cc e)
  slice_get-append_left (y ∷ xs) ys zero x e = e
  slice_get-append_left (y ∷ xs) ys (suc i) x e = slice_get-append_left xs ys i x e

  pub slice_get-append_right : (xs ys : List X) (i : ℕ) → slice_get (xs ++ ys) (length xs + i) ≡ slice_get ys i
  slice_get-append_right [] ys i = let e : zero + i ≡ i = omega arith in ap (slice_get ys) e
  slice_get-append_right (x ∷ xs) ys i = let e : suc (length xs) + i ≡ suc (length xs + i) = omega arith in ap (slice_get (x ∷ (xs ++ ys))) e ∙ slice_get-append_right xs ys i

  pub got_within : (xs : List X) (i : ℕ) (x : X) → slice_get xs i ≡ Some x → i < length xs
  got_within [] i x e = absurd (cc e)
  got_within (y ∷ ys) zero x e = omega arith
  got_within (y ∷ ys) (suc i) x e = let h = got_within ys i x e in omega (arith, h)

  pub got_read : (xs : List X) (i : ℕ) (x : X) → i < length xs → x ≡ slice_index_or xs i x → slice_get xs i ≡ Some x
  got_read [] i x h e = absurd (omega (arith, h))
  got_read (y ∷ ys) zero x h e = ap Some (sym e)
  got_read (y ∷ ys) (suc i) x h e = got_read ys i x (omega (arith, h)) e

module _ {X Y : Type 0} (f : X → Y) where
  pub in_map : (xs : List X) (x : X) → In x xs → In (f x) (map f xs)
  in_map [] x i = absurd i
  in_map (z ∷ xs) x (inl same) = inl (ap f same)
  in_map (z ∷ xs) x (inr more) = inr (in_map xs x more)

  pub map_in : (xs : List X) (y : Y) → In y (map f xs) → (x : X) × In x xs × (f x ≡ y)
  map_in [] y i = absurd i
  map_in (z ∷ xs) y (inl same) = (z, inl refl, same)
  map_in (z ∷ xs) y (inr more) = let r = map_in xs y more in (r.0, inr r.1, r.2)

  pub filter_map_of : (p : Y → Bool) (xs : List X) → filter p (map f xs) ≡ map f (filter (λ (x : X). p (f x)) xs)
  filter_map_of p [] = refl
  filter_map_of p (x ∷ xs) = go (filter_map_of p xs) (p (f x))
    where
      go : filter p (map f xs) ≡ map f (filter (λ (z : X). p (f z)) xs) → (b : Bool)
          → cond b (f x ∷ filter p (map f xs)) (filter p (map f xs)) ≡ map f (cond b (x ∷ filter (λ (z : X). p (f z)) xs) (filter (λ (z : X). p (f z)) xs))
      go tail true = ap (λ (l : List Y). f x ∷ l) tail
      go tail false = tail

  pub length_of_map : (xs : List X) → length (map f xs) ≡ length xs
  length_of_map [] = refl
  length_of_map (x ∷ xs) = ap suc (length_of_map xs)

-- the numbers from one on
pub range_in : (a n x : ℕ) → In x (range_with_len a n) → (a ≤ x) × (x < a + n)
range_in a zero x i = absurd i
range_in a (suc n) x (inl same) = (omega (arith, same), omega (arith, same))
range_in a (suc n) x (inr more) = let r = range_in (a + 1) n x more in (omega (arith, r.0), omega (arith, r.1))

pub both : (a b : Bool) → (a && b) ≡ true → (a ≡ true) × (b ≡ true)
both true b e = (refl, e)
both false b e = absurd (cc e)

pub any_in : (n : ℕ) (ms : List ℕ) → list_any (nat_eq n) ms ≡ true → In n ms
any_in n [] e = absurd (cc e)
any_in n (m ∷ ms) e = go (any_in n ms) (nat_eq n m) refl e
  where
    go : (list_any (nat_eq n) ms ≡ true → In n ms) → (b : Bool) → nat_eq n m ≡ b → (b || list_any (nat_eq n) ms) ≡ true → In n (m ∷ ms)
    go tail true h t = let same : m ≡ n = grind (arith, nat_tests, h) in inl same
    go tail false h t = inr (tail t)
