-- Who can go: the tickets that are held are all from the one whose turn it is up to the next that is drawn.
use Rattle.std.proofs.Common.{◌≡◌, ◌≢◌, ℕ, zero, suc, eqb, ◌+◌, ◌-◌, ◌<◌, ◌≤◌, ◌||◌, Bool, true, false, true≢false, List, [], ◌∷◌, length, refl, sym, ap, ◌∙◌, subst, ◌⊎◌, inl, inr, ⊎_elim, arith, ne_eqb, eq-eqb, Option, Some, None}
use mathlib.Core.Logic.{dite}
use native.Mathlib.Decide.{ℕ_discrete}
use mathlib.Core.Option.{some-injective, some-ne-none}
use Rattle.std.specs.List.{list_any, IsDistinct, AllByRecursion as Every}
use Rattle.std.proofs.lemmas.Map.Steps.{length-le_from_distinct_below}
use Rattle.atomic_table.specs.Table.{State}
use Rattle.turn_lock.specs.declared.board.View.{View}
use Rattle.turn_lock.specs.declared.board.Stage.{Stage}
use Rattle.turn_lock.specs.declared.board.Stage.TheVariants.{Idle, Waits, Served}
use Rattle.turn_lock.specs.Views.{HoldsTicket, IsServed, tickets_of, IsLive, weigh, total, Sits, Each, Pairs, next_ticket, now_serving}
use Rattle.turn_lock.specs.Rule.{Tickets}
use Rattle.turn_lock.specs.Waiting.{FewComeBefore, KeepsPlace, SomebodyCanGo}

-- the ticket of a seat before the others, counted from base
abbrev with_ticket : {C : Type 0} → ℕ → Option C → Stage → List ℕ → List ℕ
with_ticket base None st l = l
with_ticket base (Some c) Idle l = l
with_ticket base (Some c) (Waits t) l = (t - base) ∷ l
with_ticket base (Some c) (Served t) l = (t - base) ∷ l

many_with : {C : Type 0} (base : ℕ) (o : Option C) (st : Stage) (l : List ℕ) → length (with_ticket base o st l) ≡ weigh o (tickets_of st) + length l
many_with base None st l = omega arith
many_with base (Some c) Idle l = omega arith
many_with base (Some c) (Waits t) l = omega arith
many_with base (Some c) (Served t) l = omega arith

of_first : (q t base : ℕ) (l : List ℕ) → list_any (eqb q) ((t - base) ∷ l) ≡ true → (t - base ≡ q) ⊎ (list_any (eqb q) l ≡ true)
of_first q t base l any = dite (ℕ_discrete q (t - base)) (λ same. inl (sym same)) (λ other. inr (ap (λ (b : Bool). b || list_any (eqb q) l) (sym (ne_eqb q (t - base) other)) ∙ any))

-- a ticket that is in front is the seat's
is_with : {C : Type 0} (q base : ℕ) (o : Option C) (st : Stage) (l : List ℕ) → list_any (eqb q) (with_ticket base o st l) ≡ true
    → (IsLive o × ((t : ℕ) × HoldsTicket st t × (t - base ≡ q))) ⊎ (list_any (eqb q) l ≡ true)
is_with q base None st l any = inr any
is_with q base (Some c) Idle l any = inr any
is_with q base (Some c) (Waits t) l any = ⊎_elim (λ e. inl (refl, (t, refl, e))) inr (of_first q t base l any)
is_with q base (Some c) (Served t) l any = ⊎_elim (λ e. inl (refl, (t, refl, e))) inr (of_first q t base l any)

every_with : {C : Type 0} (P : ℕ → Type 0) (base : ℕ) (o : Option C) (st : Stage) (l : List ℕ) → (IsLive o → (t : ℕ) → HoldsTicket st t → P (t - base)) → Every P l → Every P (with_ticket base o st l)
every_with P base None st l p ps = ps
every_with P base (Some c) Idle l p ps = ps
every_with P base (Some c) (Waits t) l p ps = (p refl t refl, ps)
every_with P base (Some c) (Served t) l p ps = (p refl t refl, ps)

distinct_with : {C : Type 0} (base : ℕ) (o : Option C) (st : Stage) (l : List ℕ) → (IsLive o → (t : ℕ) → HoldsTicket st t → Every (λ y. eqb (t - base) y ≡ false) l) → IsDistinct eqb l → IsDistinct eqb (with_ticket base o st l)
unfolding IsDistinct
distinct_with base None st l p d = d
distinct_with base (Some c) Idle l p d = d
distinct_with base (Some c) (Waits t) l p d = (p refl t refl, d)
distinct_with base (Some c) (Served t) l p d = (p refl t refl, d)

few_tickets : (st : Stage) → tickets_of st ≤ 1
few_tickets Idle = omega arith
few_tickets (Waits t) = omega arith
few_tickets (Served t) = omega arith

weigh_less : {C : Type 0} (o : Option C) (m n : ℕ) → m ≤ n → weigh o m ≤ weigh o n
weigh_less None m n l = omega arith
weigh_less (Some c) m n l = l

module _ {C : Type 0} where
  -- the tickets held
  abbrev tickets_from : ℕ → List (View C) → List ℕ
  tickets_from base [] = []
  tickets_from base (v ∷ vs) = with_ticket base v.setting v.stage (tickets_from base vs)

  many : (base : ℕ) (vs : List (View C)) → length (tickets_from base vs) ≡ total (λ (v : View C). tickets_of v.stage) vs
  many base [] = refl
  many base (v ∷ vs) = many_with base v.setting v.stage (tickets_from base vs) ∙ ap (λ (n : ℕ). weigh v.setting (tickets_of v.stage) + n) (many base vs)

  holder : (q base : ℕ) (vs : List (View C)) → list_any (eqb q) (tickets_from base vs) ≡ true → (j : ℕ) × (v : View C) × Sits vs j v × ((t : ℕ) × HoldsTicket v.stage t × (t - base ≡ q))
  holder q base [] any = absurd (true≢false (sym any))
  holder q base (v ∷ vs) any = ⊎_elim
      (λ h. (0, v, (refl, h.0), h.1))
      (λ rest. let h = holder q base vs rest in (suc h.0, h.1, h.2, h.3))
      (is_with q base v.setting v.stage (tickets_from base vs) any)

  others_differ : (t base : ℕ) (vs : List (View C)) → base ≤ t → ((j : ℕ) (w : View C) → Sits vs j w → (u : ℕ) → HoldsTicket w.stage u → (base ≤ u) × (t ≢ u)) → Every (λ y. eqb (t - base) y ≡ false) (tickets_from base vs)
  others_differ t base [] low p = tt
  others_differ t base (w ∷ vs) low p = every_with (λ y. eqb (t - base) y ≡ false) base w.setting w.stage (tickets_from base vs)
      (λ live u h. let q = p 0 w (refl, live) u h in let a = q.0 in let b = q.1 in ne_eqb (t - base) (u - base) (λ e. b (omega arith)))
      (others_differ t base vs low (λ j x sit. p (suc j) x sit))

  distinct_from : (base : ℕ) (vs : List (View C)) → Each vs (λ v. (t : ℕ) → HoldsTicket v.stage t → base ≤ t) → Pairs (λ v w. (t : ℕ) → HoldsTicket v.stage t → HoldsTicket w.stage t → ⊥) vs → IsDistinct eqb (tickets_from base vs)
  unfolding IsDistinct
  distinct_from base [] low apart = tt
  distinct_from base (v ∷ vs) low apart = distinct_with base v.setting v.stage (tickets_from base vs)
      (λ live t h. others_differ t base vs (low 0 v (refl, live) t h) (λ j w sit u k. (low (suc j) w sit u k, λ (e : t ≡ u). apart 0 (suc j) v w (refl, live) sit (λ z. omega arith) u (subst (HoldsTicket v.stage) e h) k)))
      (distinct_from base vs (λ j w sit. low (suc j) w sit) (λ i j u w a b far. apart (suc i) (suc j) u w a b (λ e. far (omega arith))))

  few_held : (vs : List (View C)) → total (λ (v : View C). tickets_of v.stage) vs ≤ total (λ (v : View C). 1) vs
  few_held [] = omega arith
  few_held (v ∷ vs) = let a = weigh_less v.setting (tickets_of v.stage) 1 (few_tickets v.stage) in omega (arith, few_held vs)

module _ {X C : Type 0} (budget : ℕ) (s : State X (View C)) (cards : Tickets budget s) where
  either : (b c : Bool) → c ≡ true → (b || c) ≡ true
  either true c any = refl
  either false c any = any

  first_is : (o : Option C) (st : Stage) (l : List ℕ) (t : ℕ) → IsLive o → HoldsTicket st t → t ≡ now_serving s → list_any (eqb 0) (with_ticket (now_serving s) o st l) ≡ true
  first_is None st l t live h same = absurd (true≢false (sym live))
  first_is (Some c) Idle l t live h same = absurd h
  first_is (Some c) (Waits u) l t live h same = ap (λ (b : Bool). b || list_any (eqb 0) l) (eq-eqb 0 (u - now_serving s) (omega arith))
  first_is (Some c) (Served u) l t live h same = ap (λ (b : Bool). b || list_any (eqb 0) l) (eq-eqb 0 (u - now_serving s) (omega arith))

  later_is : (o : Option C) (st : Stage) (l : List ℕ) → list_any (eqb 0) l ≡ true → list_any (eqb 0) (with_ticket (now_serving s) o st l) ≡ true
  later_is None st l any = any
  later_is (Some c) Idle l any = any
  later_is (Some c) (Waits u) l any = either (eqb 0 (u - now_serving s)) (list_any (eqb 0) l) any
  later_is (Some c) (Served u) l any = either (eqb 0 (u - now_serving s)) (list_any (eqb 0) l) any

  any_of : (vs : List (View C)) (j : ℕ) (v : View C) → Sits vs j v → (t : ℕ) → HoldsTicket v.stage t → t ≡ now_serving s → list_any (eqb 0) (tickets_from (now_serving s) vs) ≡ true
  any_of [] j v sit t h same = absurd (some-ne-none v (sym sit.0))
  any_of (x ∷ xs) zero v sit t h same = subst (λ (z : View C). list_any (eqb 0) (with_ticket (now_serving s) z.setting z.stage (tickets_from (now_serving s) xs)) ≡ true) (sym (some-injective x v sit.0)) (first_is v.setting v.stage (tickets_from (now_serving s) xs) t sit.1 h same)
  any_of (x ∷ xs) (suc j) v sit t h same = later_is x.setting x.stage (tickets_from (now_serving s) xs) (any_of xs j v sit t h same)

  pub can_go : SomebodyCanGo s
  can_go some_held = go (list_any (eqb 0) (tickets_from (now_serving s) s.views)) refl
    where
      go : (b : Bool) → list_any (eqb 0) (tickets_from (now_serving s) s.views) ≡ b → (j : ℕ) × (v : View C) × Sits s.views j v × HoldsTicket v.stage (now_serving s)
      go true any =
          let h = holder 0 (now_serving s) s.views any in
          let low = (cards.between h.0 h.1 h.2 h.3.0 h.3.1).0 in
          let none = h.3.2 in
          let same : h.3.0 ≡ now_serving s = omega arith in
          (h.0, h.1, h.2, subst (HoldsTicket h.1.stage) same h.3.1)
      go false none =
          let base : ℕ = now_serving s + 1 in
          let above : Each s.views (λ v. (t : ℕ) → HoldsTicket v.stage t → base ≤ t) = λ j v sit t h. let low = (cards.between j v sit t h).0 in dite (ℕ_discrete t (now_serving s))
          (λ same. absurd (true≢false (sym (any_of s.views j v sit t h same) ∙ none)))
          (λ other. omega arith) in
          let below : (q : ℕ) → list_any (eqb q) (tickets_from base s.views) ≡ true → q < next_ticket s - base = λ q any.
          let h = holder q base s.views any in let b = (cards.between h.0 h.1 h.2 h.3.0 h.3.1).1 in let low = above h.0 h.1 h.2 h.3.0 h.3.1 in let e = h.3.2 in omega arith in
          let long = length-le_from_distinct_below (tickets_from base s.views) (next_ticket s - base) (distinct_from base s.views above cards.one_each) below in
          let held = cards.held in
          absurd (omega (arith, many base s.views))

  pub few_before : FewComeBefore s
  few_before j v sit t h = let b = (cards.between j v sit t h).1 in let held = cards.held in omega (arith, few_held s.views)

  pub keeps_place : ((j : ℕ) (v : View C) → Sits s.views j v → IsServed v.stage → HoldsTicket v.stage (now_serving s)) → KeepsPlace s
  keeps_place turn j v sit t h = ((cards.between j v sit t h).1, λ i w there u k later served. let low = (cards.between j v sit t h).0 in let one = same_ticket w.stage u (now_serving s) k (turn i w there served) in absurd (omega arith))
    where
      same_ticket : (st : Stage) (a b : ℕ) → HoldsTicket st a → HoldsTicket st b → a ≡ b
      same_ticket Idle a b h k = absurd h
      same_ticket (Waits u) a b h k = sym h ∙ k
      same_ticket (Served u) a b h k = sym h ∙ k
