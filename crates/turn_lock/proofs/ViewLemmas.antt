-- Facts on the rows of views: a view that changes, one that comes and one that is taken in.
use Rattle.std.proofs.Common.{◌≡◌, ◌≢◌, ℕ, zero, suc, ◌+◌, ◌≤◌, List, [], ◌∷◌, ◌++◌, length, set, sym, refl, ap, ◌∙◌, subst, ◌⊎◌, inl, inr, ⊎_elim, arith, Option, Some, None, true≢false}
use mathlib.Core.Option.{some, some-injective, some-ne-none}
use lib.ListN.{get_elem?}
use Rattle.atomic_table.proofs.Lists.{at_set, set_else, at_snoc}
use Rattle.turn_lock.specs.declared.board.View.{View}
use Rattle.turn_lock.specs.Views.{IsLive, weigh, total, Sits, Pairs}
use Rattle.turn_lock.specs.Moves.{spent_view}

module _ {X : Type 0} where
  pub set_at : (xs : List X) (id : ℕ) (v w : X) → get_elem? xs id ≡ some v → get_elem? (set xs id w) id ≡ some w
  set_at [] id v w at = absurd (some-ne-none v (sym at))
  set_at (x ∷ xs) zero v w at = refl
  set_at (x ∷ xs) (suc id) v w at = set_at xs id v w at

  pub at_last_or : (xs : List X) (w v : X) (j : ℕ) → get_elem? (xs ++ w ∷ []) j ≡ some v → (get_elem? xs j ≡ some v) ⊎ ((j ≡ length xs) × (w ≡ v))
  at_last_or [] w v zero e = inr (refl, some-injective w v e)
  at_last_or [] w v (suc j) e = absurd (some-ne-none v (sym e))
  at_last_or (x ∷ xs) w v zero e = inl e
  at_last_or (x ∷ xs) w v (suc j) e = ⊎_elim (λ t. inl t) (λ t. inr (ap suc t.0, t.1)) (at_last_or xs w v j e)

weigh_live : {C : Type 0} (setting : Option C) (n : ℕ) → IsLive setting → weigh setting n ≡ n
weigh_live None n h = absurd (true≢false (sym h))
weigh_live (Some c) n h = refl

weigh_dead : {C : Type 0} (setting : Option C) (n : ℕ) → (IsLive setting → ⊥) → weigh setting n ≡ 0
weigh_dead None n h = refl
weigh_dead (Some c) n h = absurd (h refl)

module _ {C : Type 0} (f : View C → ℕ) where
  weighs : (x v : View C) → some x ≡ some v → IsLive v.setting → weigh x.setting (f x) ≡ f v
  weighs x v e live = ap (λ (z : View C). weigh z.setting (f z)) (some-injective x v e) ∙ weigh_live v.setting (f v) live

  -- a sum after a change of one view
  pub total_set : (vs : List (View C)) (id : ℕ) (v w : View C) → Sits vs id v → IsLive w.setting → total f (set vs id w) + f v ≡ total f vs + f w
  total_set [] id v w sits live = absurd (some-ne-none v (sym sits.0))
  total_set (x ∷ xs) zero v w sits live = let a = weighs x v sits.0 sits.1 in let b = weigh_live w.setting (f w) live in omega arith
  total_set (x ∷ xs) (suc id) v w sits live = omega (arith, total_set xs id v w sits live)

  pub total_spent : (vs : List (View C)) (id : ℕ) (v : View C) → Sits vs id v → total f (set vs id spent_view) + f v ≡ total f vs
  total_spent [] id v sits = absurd (some-ne-none v (sym sits.0))
  total_spent (x ∷ xs) zero v sits = let a = weighs x v sits.0 sits.1 in omega arith
  total_spent (x ∷ xs) (suc id) v sits = omega (arith, total_spent xs id v sits)

  pub total_one : (vs : List (View C)) (id : ℕ) (v : View C) → Sits vs id v → f v ≤ total f vs
  total_one [] id v sits = absurd (some-ne-none v (sym sits.0))
  total_one (x ∷ xs) zero v sits = let a = weighs x v sits.0 sits.1 in omega arith
  total_one (x ∷ xs) (suc id) v sits = omega (arith, total_one xs id v sits)

  pub total_two : (vs : List (View C)) (i j : ℕ) (v w : View C) → i ≢ j → Sits vs i v → Sits vs j w → f v + f w ≤ total f vs
  total_two [] i j v w other a b = absurd (some-ne-none v (sym a.0))
  total_two (x ∷ xs) zero zero v w other a b = absurd (other refl)
  total_two (x ∷ xs) zero (suc j) v w other a b = let l = weighs x v a.0 a.1 in omega (arith, total_one xs j w b)
  total_two (x ∷ xs) (suc i) zero v w other a b = let l = weighs x w b.0 b.1 in omega (arith, total_one xs i v a)
  total_two (x ∷ xs) (suc i) (suc j) v w other a b = omega (arith, total_two xs i j v w (λ e. other (ap suc e)) a b)

  pub total_more : (vs : List (View C)) (w : View C) → IsLive w.setting → total f (vs ++ w ∷ []) ≡ total f vs + f w
  total_more [] w live = let a = weigh_live w.setting (f w) live in omega arith
  total_more (x ∷ xs) w live = omega (arith, total_more xs w live)

  total_none : (vs : List (View C)) → ((j : ℕ) (u : View C) → Sits vs j u → ⊥) → total f vs ≡ 0
  total_none [] none = refl
  total_none (x ∷ xs) none = let a = weigh_dead x.setting (f x) (λ live. none 0 x (refl, live)) in omega (arith, total_none xs (λ j u sit. none (suc j) u sit))

  -- the sum is the one live view's
  pub total_alone : (vs : List (View C)) (id : ℕ) (v : View C) → Sits vs id v → ((j : ℕ) (u : View C) → Sits vs j u → j ≢ id → ⊥) → total f vs ≡ f v
  total_alone [] id v sits alone = absurd (some-ne-none v (sym sits.0))
  total_alone (x ∷ xs) zero v sits alone = let a = weighs x v sits.0 sits.1 in omega (arith, total_none xs (λ j u sit. alone (suc j) u sit (λ e. omega arith)))
  total_alone (x ∷ xs) (suc id) v sits alone = let a = weigh_dead x.setting (f x) (λ live. alone 0 x (refl, live) (λ e. omega arith)) in omega (arith, total_alone xs id v sits (λ j u sit other. alone (suc j) u sit (λ e. other (omega arith))))

module _ {C : Type 0} (vs : List (View C)) where
  sits_same : (i j : ℕ) (v w : View C) → i ≡ j → Sits vs i v → Sits vs j w → v ≡ w
  sits_same i j v w e a b = some-injective v w (sym a.0 ∙ (ap (get_elem? vs) e ∙ b.0))

  pub sits_set : (id : ℕ) (w : View C) (j : ℕ) (v : View C) → Sits (set vs id w) j v → ((j ≡ id) × (w ≡ v)) ⊎ ((j ≢ id) × Sits vs j v)
  sits_set id w j v s = ⊎_elim (λ t. inl t) (λ t. inr (t.0, (t.1, s.1))) (at_set vs id j w v s.0)

  -- what holds of the changed view and of the others holds of all
  pub seats_set : (K : ℕ → View C → Type 0) (id : ℕ) (w : View C) → K id w → ((j : ℕ) (v : View C) → j ≢ id → Sits vs j v → K j v) → (j : ℕ) (v : View C) → Sits (set vs id w) j v → K j v
  seats_set K id w mine others j v s = ⊎_elim (λ (t : (j ≡ id) × (w ≡ v)). subst (λ (x : ℕ × View C). K x.0 x.1) (λ i. (sym t.0 i, t.1 i)) mine)
      (λ (t : (j ≢ id) × Sits vs j v). others j v t.0 t.1) (sits_set id w j v s)

  pub seats_more : (K : ℕ → View C → Type 0) (w : View C) → ((j : ℕ) → K j w) → ((j : ℕ) (v : View C) → Sits vs j v → K j v) → (j : ℕ) (v : View C) → Sits (vs ++ w ∷ []) j v → K j v
  seats_more K w mine others j v s = ⊎_elim (λ t. others j v (t, s.1)) (λ (t : w ≡ v). subst (K j) t (mine j)) (at_snoc vs w v j s.0)

  -- the view other is spent
  pub sits_spent : (other j : ℕ) (v : View C) → Sits (set vs other spent_view) j v → (j ≢ other) × Sits vs j v
  sits_spent other j v s = ⊎_elim (λ (t : (j ≡ other) × (spent_view ≡ v)). absurd (true≢false (sym (subst (λ (u : View C). IsLive u.setting) (sym t.1) s.1)))) (λ t. t) (sits_set other spent_view j v s)

  pub seats_spent : (K : ℕ → View C → Type 0) (other : ℕ) → ((j : ℕ) (v : View C) → j ≢ other → Sits vs j v → K j v) → (j : ℕ) (v : View C) → Sits (set vs other spent_view) j v → K j v
  seats_spent K other others j v s = let t = sits_spent other j v s in others j v t.0 t.1

  pub sits_else : (id : ℕ) (w : View C) (j : ℕ) (v : View C) → j ≢ id → Sits vs j v → Sits (set vs id w) j v
  sits_else id w j v other s = (set_else vs id j w other ∙ s.0, s.1)

  -- the same for each two
  pub pairs_at : (R : ℕ → View C → ℕ → View C → Type 0) (id : ℕ) (w : View C) → ((i j : ℕ) (u v : View C) → Sits vs i u → Sits vs j v → i ≢ j → R i u j v) → ((j : ℕ) (v : View C) → j ≢ id → Sits vs j v → R j v id w × R id w j v)
      → (i j : ℕ) (u v : View C) → Sits (set vs id w) i u → Sits (set vs id w) j v → i ≢ j → R i u j v
  pairs_at R id w pairs mine i j u v a b other = ⊎_elim
      (λ (s : (i ≡ id) × (w ≡ u)). ⊎_elim
      (λ (t : (j ≡ id) × (w ≡ v)). absurd (other (s.0 ∙ sym t.0)))
      (λ (t : (j ≢ id) × Sits vs j v). subst (λ (x : ℕ × View C). R x.0 x.1 j v) (λ n. (sym s.0 n, s.1 n)) (mine j v t.0 t.1).1)
      (sits_set id w j v b))
      (λ (s : (i ≢ id) × Sits vs i u). ⊎_elim
      (λ (t : (j ≡ id) × (w ≡ v)). subst (λ (x : ℕ × View C). R i u x.0 x.1) (λ n. (sym t.0 n, t.1 n)) (mine i u s.0 s.1).0)
      (λ (t : (j ≢ id) × Sits vs j v). pairs i j u v s.1 t.1 other)
      (sits_set id w j v b))
      (sits_set id w i u a)

  pub pairs_set : (R : View C → View C → Type 0) (id : ℕ) (w : View C) → Pairs R vs → ((j : ℕ) (v : View C) → j ≢ id → Sits vs j v → R v w × R w v) → Pairs R (set vs id w)
  pairs_set R id w pairs mine = pairs_at (λ _ u _ v. R u v) id w pairs mine

  pub pairs_spent : (R : View C → View C → Type 0) (other : ℕ) → ((i j : ℕ) (u v : View C) → Sits vs i u → Sits vs j v → i ≢ j → i ≢ other → j ≢ other → R u v) → Pairs R (set vs other spent_view)
  pairs_spent R other pairs i j u v a b apart = let s = sits_spent other i u a in let t = sits_spent other j v b in pairs i j u v s.1 t.1 apart s.0 t.0

  -- a new view comes last
  pub pairs_more : (R : View C → View C → Type 0) (w : View C) → Pairs R vs → ((j : ℕ) (v : View C) → Sits vs j v → R v w × R w v) → Pairs R (vs ++ w ∷ [])
  pairs_more R w pairs mine i j u v a b other = ⊎_elim
      (λ s. ⊎_elim
      (λ t. pairs i j u v (s, a.1) (t, b.1) other)
      (λ (t : (j ≡ length vs) × (w ≡ v)). subst (R u) t.1 (mine i u (s, a.1)).0)
      (at_last_or vs w v j b.0))
      (λ (s : (i ≡ length vs) × (w ≡ u)). ⊎_elim
      (λ t. subst (λ (x : View C). R x v) s.1 (mine j v (t, b.1)).1)
      (λ (t : (j ≡ length vs) × (w ≡ v)). absurd (other (s.0 ∙ sym t.0)))
      (at_last_or vs w v j b.0))
      (at_last_or vs w u i a.0)
