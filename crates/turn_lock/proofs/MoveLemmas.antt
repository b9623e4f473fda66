-- Each step keeps the rule of the lock.
use Rattle.std.proofs.Common.{◌≡◌, ◌≢◌, ℕ, zero, suc, ◌+◌, ◌-◌, ◌%◌, ◌^◌, ◌<◌, ◌≤◌, Bool, true, false, cond, ◌||◌, IsTrue, true≢false, List, [], ◌∷◌, ◌++◌, length, replicate, get_or, set, sym, refl, ap, ◌∙◌, subst, ◌⊎◌, inl, inr, ⊎_elim, arith, Option, Some, None, length-append, append_assoc, append-nil, length-set, get_or-set_other, get_or-set_same}
use mathlib.Core.Logic.{dite}
use mathlib.Core.Path.{Path}
use mathlib.Core.Option.{Option as Home, none, some, some-injective, some-ne-none}
use native.Mathlib.Decide.{ℕ_discrete}
use lib.ListN.{get_elem?}
use lib.Seq.{set-get_or}
use Rattle.atomic_table.specs.Table.{State, Me, step, keeps, takes, gives, stepped, rest, opening, Allows, Splits, Joins, Final, Seen}
use Rattle.atomic_table.proofs.Lists.{set_here, set_again, set_else, at_longer}
use Rattle.std.specs.List.{AllByRecursion as Every}
use Rattle.std.proofs.lemmas.List.Elements.{All-from_recursion}
use Rattle.seat_history.specs.declared.seat_knowledge.JoinedSeat.{JoinedSeat}
use Rattle.seat_history.specs.Histories.{Entry, entries_of}
use Rattle.seat_history.specs.Seats.{Accounts, HasJoinedAll}
use Rattle.turn_lock.specs.declared.board.View.{View}
use Rattle.turn_lock.specs.declared.board.Stage.{Stage}
use Rattle.turn_lock.specs.declared.board.Stage.TheVariants.{Idle, Waits, Served}
use Rattle.turn_lock.specs.Views.{HoldsTicket, IsServed, tickets_of, IsLive, Sits, Pairs, NoneServed}
use Rattle.turn_lock.specs.Rule.{Reserves, IsAt, TurnRule}
use Rattle.turn_lock.specs.Moves.{Foreign, first_view, spent_view, view_after_split, new_view, view_after_join, view_after_meet, view_after_pass, view_after_renew, view_after_append, IsDraw, Gets, IsLook, IsMeet, IsPass, IsRenew, IsAppend, KnowsAll, IsEnd}
use Rattle.turn_lock.proofs.RuleFacts.{IsPast, Apart, Knows, SeatOk, Facts, facts_of, rule_of, ticket_below, turn_known}
use Rattle.turn_lock.proofs.NumberLemmas.{all_kept, all_once}
use Rattle.seat_history.proofs.HistoryLemmas.{every_more, every_left, every_right, every_map, every_both, every_swap, entries_none, entries_same, entries_else, entries_front, starts_more, starts_same, both_begin, nothing_behind, is_all}
use Rattle.turn_lock.proofs.ViewLemmas.{total_set, total_spent, total_one, total_two, total_more, total_alone, set_at, seats_set, seats_more, seats_spent, sits_else, pairs_at, pairs_set, pairs_spent, pairs_more}

unless : (b c : Bool) → IsTrue (cond b false c) → IsTrue c
unless true c h = absurd (true≢false (sym h))
unless false c h = h

not_both : (b c : Bool) → IsTrue (cond b false c) → IsTrue b → ⊥
not_both true c h k = true≢false (sym h)
not_both false c h k = true≢false (sym k)

either_true : (b c : Bool) → IsTrue (b || c) → IsTrue b ⊎ IsTrue c
either_true true c h = inl refl
either_true false c h = inr h

abbrev pub state_in : {S : Type 0} → S → Option S → S
state_in d None = d
state_in d (Some x) = x

abbrev ticket_or : ℕ → Stage → ℕ
ticket_or d Idle = d
ticket_or d (Waits t) = t
ticket_or d (Served t) = t

module _ {C : Type 0} where
  abbrev left_of : View C → ℕ
  left_of v = v.known.left

  abbrev due_of : View C → ℕ
  due_of v = v.due

  abbrev held_of : View C → ℕ
  held_of v = tickets_of v.stage

  abbrev one_of : View C → ℕ
  one_of v = 1

  abbrev kept_count : View C → ℕ
  kept_count v = length v.known.kept

  -- where none is served afterwards and the changed seat was not served before, none was
  pub none_before : (vs : List (View C)) (id : ℕ) (v w : View C) → Sits vs id v → NoneServed (set vs id w) → (IsServed v.stage → ⊥) → NoneServed vs
  none_before vs id v w sits idle mine j u s served = dite (ℕ_discrete j id)
      (λ (same : j ≡ id). mine (subst (λ (z : View C). IsServed z.stage) (some-injective u v (sym s.0 ∙ (ap (get_elem? vs) same ∙ sits.0))) served))
      (λ other. idle j u (sits_else vs id w j u other s) served)

  -- where none is served afterwards and the changed seat is served where it was before, none was
  pub none_after : (vs : List (View C)) (id : ℕ) (v w : View C) → Sits vs id v → IsLive w.setting → (IsServed v.stage → IsServed w.stage) → NoneServed (set vs id w) → NoneServed vs
  none_after vs id v w sits live same idle = none_before vs id v w sits idle (λ served. idle id w (set_at vs id v w sits.0, live) (same served))

  -- some live view has seen all of the history
  abbrev Longest : List Entry → List (View C) → Type 0
  Longest log vs = (j : ℕ) × (v : View C) × Sits vs j v × (v.known.seen ≡ log)

  pub longest_set : (log : List Entry) (vs : List (View C)) (id : ℕ) (v w : View C) → Sits vs id v → IsLive w.setting → (v.known.seen ≡ log → w.known.seen ≡ log) → Longest log vs → Longest log (set vs id w)
  longest_set log vs id v w sits live same l = dite (ℕ_discrete l.0 id)
      (λ (e : l.0 ≡ id). (id, w, (set_at vs id v w sits.0, live), same (ap (λ (z : View C). z.known.seen) (some-injective v l.1 (sym sits.0 ∙ (sym (ap (get_elem? vs) e) ∙ l.2.0))) ∙ l.3)))
      (λ other. (l.0, l.1, sits_else vs id w l.0 l.1 other l.2, l.3))

  -- one more ticket is given
  knows_more : (reserved : C → ℕ → Type 0) (log : List Entry) (now now' next next' : ℕ) (v : View C) (st : Stage) → now' ≡ now → next ≤ next' → Knows reserved log now next v st → Knows reserved log now' next' v st
  knows_more reserved log now now' next next' v Idle same l k = tt
  knows_more reserved log now now' next next' v (Waits u) same l k = let a = k.0 in let b = k.1 in (omega arith, omega arith, k.2)
  knows_more reserved log now now' next next' v (Served u) same l k = let b = k.1 in (same ∙ k.0, omega arith, k.2, k.3)

  -- the others, when the served seat appends an entry to the history
  others_append : (reserved : C → ℕ → Type 0) (log log' : List Entry) (now now' next next' : ℕ) (v : View C) (st : Stage) → now' ≡ now → next' ≡ next → (HoldsTicket st now → ⊥) → Knows reserved log now next v st → Knows reserved log' now' next' v st
  others_append reserved log log' now now' next next' v Idle same same' other k = tt
  others_append reserved log log' now now' next next' v (Waits u) same same' other k = let a = k.0 in let b = k.1 in (omega arith, omega arith, k.2)
  others_append reserved log log' now now' next next' v (Served u) same same' other k = absurd (other (sym k.0))

  -- the others, when the served seat passes the turn
  others_pass : (reserved : C → ℕ → Type 0) (log : List Entry) (now now' next next' : ℕ) (v : View C) (st : Stage) → now' ≡ now + 1 → next' ≡ next → (HoldsTicket st now → ⊥) → Knows reserved log now next v st → Knows reserved log now' next' v st
  others_pass reserved log now now' next next' v Idle more same other k = tt
  others_pass reserved log now now' next next' v (Waits u) more same other k = let a = k.0 in let b = k.1 in let ne : u ≢ now = other in (omega arith, omega arith, k.2)
  others_pass reserved log now now' next next' v (Served u) more same other k = absurd (other (sym k.0))

  -- a seat that waits for the ticket that is served, and no other, holds it: no seat is served
  turn_free : (reserved : C → ℕ → Type 0) (vs : List (View C)) (id : ℕ) (me : View C) (log : List Entry) (now next t : ℕ) → Sits vs id me → me.stage ≡ Waits t → now ≡ t
      → ((j : ℕ) (v : View C) → Sits vs j v → Knows reserved log now next v v.stage) → Pairs Apart vs → NoneServed vs
  turn_free reserved vs id me log now next t sits waits turn knows apart j v sit served = dite (ℕ_discrete j id)
      (λ (same : j ≡ id). subst (λ st. IsServed st) (ap (λ (z : View C). z.stage) (some-injective v me (sym sit.0 ∙ (ap (get_elem? vs) same ∙ sits.0))) ∙ waits) served)
      (λ other. (apart j id v me sit sits other).ticket t (ticket_of v.stage (knows j v sit) served) (subst (λ st. HoldsTicket st t) (sym waits) refl))
    where
      ticket_of : (st : Stage) → Knows reserved log now next v st → IsServed st → HoldsTicket st t
      ticket_of Idle k h = absurd h
      ticket_of (Waits u) k h = absurd h
      ticket_of (Served u) k h = sym k.0 ∙ turn

module _ {S C : Type 0} (setting : S → C) (journal : S → List Entry) (room : S → ℕ) (reserved : C → ℕ → Type 0) (opening' : C) (budget : ℕ) where
  abbrev V : Type 0
  V = View C

  abbrev St : Type 0
  St = State (Option S) V

  abbrev M : Type 0
  M = Me (Option S) V

  abbrev Rule : St → Type 0
  Rule = TurnRule setting journal room reserved opening' budget

  abbrev Full : St → Type 0
  Full = Facts setting journal room reserved opening' budget

  -- the slot is not at home
  abbrev Out : List (Home (Option S)) → Type 0
  Out homes = get_elem? homes 0 ≡ some none

  in_full : (s : St) → Rule s → Full s
  in_full s r = facts_of setting journal room reserved opening' budget s r

  in_rule : (s : St) → Full s → Rule s
  in_rule s r = rule_of setting journal room reserved opening' budget s r

  abbrev Ok : List Entry → ℕ → V → Type 0
  Ok = SeatOk reserved opening' budget

  -- where all other seats were joined, there is no other
  alone : (s : St) → Full s → (id : ℕ) (v : V) → Sits s.views id v → v.known.number ≡ 0 → HasJoinedAll v.known → (j : ℕ) (u : V) → Sits s.views j u → j ≢ id → ⊥
  alone s r id v sits first all j u sit other =
      let two = total_two one_of s.views j id u v other sit sits in
      let kept = total_one kept_count s.views id v sits in
      let c = r.count in let m = (r.seats id v sits).chief first in omega arith

  seen_whole : (s : St) (r : Full s) (id : ℕ) (v : V) → Sits s.views id v → v.known.number ≡ 0 → HasJoinedAll v.known → v.known.seen ≡ r.log
  seen_whole s r id v sits first all = let l = r.longest in dite (ℕ_discrete l.0 id)
      (λ (e : l.0 ≡ id). ap (λ (z : View C). z.known.seen) (some-injective v l.1 (sym sits.0 ∙ (sym (ap (get_elem? s.views) e) ∙ l.2.0))) ∙ l.3)
      (λ other. absurd (alone s r id v sits first all l.0 l.1 l.2 other))

  -- what seat 0 knows adds up, between two calls of its own
  settles : (s : St) → Full s → (id : ℕ) (v : V) → Sits s.views id v → v.due ≡ 0 → v.known.number ≡ 0 → KnowsAll v
  settles s r id v sits none_due first =
      let ok = r.seats id v sits in
      let made_is : v.known.made ≡ r.made = ok.chief first in
      let behind = every_swap (λ (e : Entry) (k : JoinedSeat). e.0 ≢ k.number) ok.rest v.known.kept (every_map ok.rest (λ e f. f.kept_are) ok.foreign) in
      let born : Every (λ (e : Entry). e.0 ≤ v.known.made) v.known.seen = subst (λ (m : ℕ). Every (λ (e : Entry). e.0 ≤ m) v.known.seen) (sym made_is) (every_left _ v.known.seen ok.rest (subst (Every (λ (e : Entry). e.0 ≤ r.made)) ok.whole r.born)) in
      let others : Every (λ (k : JoinedSeat). (k.number ≢ v.known.number) × (k.number ≤ v.known.made)) v.known.kept = every_map v.known.kept (λ k p. let low = p.made_so in (p.other, omega arith)) ok.kept_is in
      record {
        own = ok.own_is ∙ (ap (entries_of v.known.number) ok.whole ∙ entries_front v.known.number v.known.seen ok.rest (every_map ok.rest (λ e f. f.number_is) ok.foreign));
        kept = All-from_recursion (λ (k : JoinedSeat). k.own ≡ entries_of k.number v.known.seen) v.known.kept
            (every_both v.known.kept (λ k p none. p.own_is ∙ (ap (entries_of k.number) ok.whole ∙ entries_front k.number v.known.seen ok.rest none)) ok.kept_is behind);
        others = All-from_recursion (λ (k : JoinedSeat). (k.number ≢ v.known.number) × (k.number ≤ v.known.made)) v.known.kept others;
        once = all_once v.known.kept ok.once;
        entries_made = All-from_recursion (λ (e : Entry). e.0 ≤ v.known.made) v.known.seen born;
        within = let a = total_one left_of s.views id v sits in let g = r.drawn in let b = ok.budget_is in omega arith;
        accounted = λ all. All-from_recursion (λ (e : Entry). Accounts v.known e.0) v.known.seen
            (every_map v.known.seen (λ e low. all_kept v.known.number v.known.made v.known.kept first all others ok.once e.0 low) born);
        whole = λ all. let only = alone s r id v sits first all in
            let a = total_alone left_of s.views id v sits only in let b = total_alone due_of s.views id v sits only in
            let seen_is = seen_whole s r id v sits first all in
            let l = ap length seen_is in let g = r.given in let c = ok.budget_is in omega arith;
      }

  pub draw_keeps : (slots id : ℕ) (me : M) (event : ℕ) → IsLive me.0.setting → me.0.stage ≡ Idle → me.0.due ≡ 0 → 0 < me.0.known.left → (Reserves reserved me.0.setting event → IsTrue me.0.known.baton)
      → Allows Rule slots id me 0 (λ n. (n + 1) % 2 ^ 64) (IsDraw setting journal room reserved event (step slots 0 1 0 none) me)
  draw_keeps slots id me event live idle none_due some_left allowed s ru deep at small =
      let r : Full s = in_full s ru in
      let n : ℕ = get_or s.words 0 0 in
      let w : V = record me.0 { known = record me.0.known { left = me.0.known.left - 1 }; stage = Waits n; event = event; due = 1 } in
      let sits : Sits s.views id me.0 = (at, live) in
      let one = total_one left_of s.views id me.0 sits in
      let turns = total_set left_of s.views id me.0 w sits live in
      let tickets = total_set held_of s.views id me.0 w sits live in
      let dues = total_set due_of s.views id me.0 w sits live in
      let none_held : tickets_of me.0.stage ≡ 0 = ap tickets_of idle in
      let alive = total_set one_of s.views id me.0 w sits live in
      let stays = total_set kept_count s.views id me.0 w sits live in
      let given = r.given in let drawn = r.drawn in let held = r.held in let bound = r.small in let wide = r.wide in let count = r.count in
      let next : (n + 1) % 2 ^ 64 ≡ n + 1 = omega arith in
      let now : get_or (set s.words 0 ((n + 1) % 2 ^ 64)) 0 0 ≡ n + 1 = get_or-set_same s.words 0 ((n + 1) % 2 ^ 64) 0 (omega arith) ∙ next in
      let serves : get_or (set s.words 0 ((n + 1) % 2 ^ 64)) 16 0 ≡ get_or s.words 16 0 = get_or-set_other s.words 0 16 ((n + 1) % 2 ^ 64) 0 (λ e. omega arith) in
      let ok = r.seats id me.0 sits in
      let fresh : (j : ℕ) (v : V) → Sits s.views j v → HoldsTicket v.stage n → ⊥ = λ j v sit h. let k = (ticket_below reserved r.log (get_or s.words 16 0) n v v.stage n (r.knows j v sit) h).1 in omega arith in (
        w,
        keeps,
        tt,
        in_rule _ record {
          log = r.log;
          made = r.made;
          small = r.small;
          wide = length-set s.words 0 ((n + 1) % 2 ^ 64) ∙ r.wide;
          deep = r.deep;
          placed = get_or-set_other s.words 0 32 ((n + 1) % 2 ^ 64) 0 (λ e. omega arith) ∙ r.placed;
          held = omega arith;
          given = omega arith;
          drawn = omega arith;
          seats = seats_set s.views (λ _ v. Ok r.log r.made v) id w
              record { setting_is = ok.setting_is; budget_is = ok.budget_is; rest = ok.rest; whole = ok.whole; foreign = ok.foreign; own_is = ok.own_is; kept_is = ok.kept_is; once = ok.once; made_so = ok.made_so; olds = ok.olds; chief = ok.chief; plain = ok.plain }
              (λ j v _ sit. r.seats j v sit);
          knows = seats_set s.views (λ _ v. Knows reserved r.log (get_or (set s.words 0 ((n + 1) % 2 ^ 64)) 16 0) (get_or (set s.words 0 ((n + 1) % 2 ^ 64)) 0 0) v v.stage) id w
              (omega arith, omega arith, allowed)
              (λ j v _ sit. knows_more reserved r.log (get_or s.words 16 0) _ n _ v v.stage serves (omega arith) (r.knows j v sit));
          apart = pairs_set s.views Apart id w r.apart (λ j v other sit. let a = r.apart j id v me.0 sit sits other in let b = r.apart id j me.0 v sits sit (λ e. other (sym e)) in (
            record { number = a.number; ticket = λ t h k. fresh j v sit (subst (HoldsTicket v.stage) (sym k) h); baton = a.baton; gone = a.gone },
            record { number = b.number; ticket = λ t h k. fresh j v sit (subst (HoldsTicket v.stage) (sym h) k); baton = b.baton; gone = b.gone },
          ));
          born = r.born;
          count = omega arith;
          longest = longest_set r.log s.views id me.0 w sits live (λ h. h) r.longest;
          out = seats_set s.views (λ _ v. IsServed v.stage → Out s.homes) id w (λ h. absurd h) (λ j v _ sit. r.out j v sit);
          home = λ unserved. r.home (none_before s.views id me.0 w sits unserved (λ served. subst IsServed idle served));
        },
        (refl, refl),
      )

  pub look_keeps : (slots id : ℕ) (me : M) (t : ℕ) → IsLive me.0.setting → me.0.stage ≡ Waits t → me.0.due ≡ 1 → me.1 ≡ [] → Allows Rule slots id me 16 (λ n. n) (IsLook setting journal room reserved (step slots 16 0 0 none) me)
  look_keeps slots id me t live waits one_due empty s ru deep at small =
      let r : Full s = in_full s ru in
      let n : ℕ = get_or s.words 16 0 in
      let sits : Sits s.views id me.0 = (at, live) in
      let ok = r.seats id me.0 sits in
      dite (ℕ_discrete n t)
      (λ hit.
      let free : NoneServed s.views = turn_free reserved s.views id me.0 r.log n (get_or s.words 0 0) t sits waits hit r.knows r.apart in
      let state = r.home free in
      let seen' : List Entry = me.0.known.seen ++ ok.rest in
      let w : V = record me.0 { known = record me.0.known { seen = seen' }; stage = Served t } in
      let known = subst (Knows reserved r.log (get_or s.words 16 0) (get_or s.words 0 0) me.0) waits (r.knows id me.0 sits) in
      let less : (k : ℕ) → t ≡ k → HoldsTicket me.0.stage k = λ k h. subst (λ st. HoldsTicket st k) (sym waits) h in
      let held_one : tickets_of me.0.stage ≡ 1 = ap tickets_of waits in (
        w,
        takes 0 (Some state.0),
        state.1,
        subst (λ (ws : List ℕ). Rule record { words = ws; homes = set s.homes 0 none; views = set s.views id w }) (sym (set-get_or s.words 16 0)) (in_rule record { words = s.words; homes = set s.homes 0 none; views = set s.views id w } record {
          log = r.log;
          made = r.made;
          small = r.small;
          wide = r.wide;
          deep = length-set s.homes 0 none ∙ r.deep;
          placed = r.placed;
          held = let m = total_set held_of s.views id me.0 w sits live in let g = r.held in omega arith;
          given = let m = total_set left_of s.views id me.0 w sits live in let k = total_set due_of s.views id me.0 w sits live in let g = r.given in omega arith;
          drawn = let m = total_set left_of s.views id me.0 w sits live in let g = r.drawn in omega arith;
          seats = seats_set s.views (λ _ v. Ok r.log r.made v) id w
              record { setting_is = ok.setting_is; budget_is = ok.budget_is; rest = []; whole = ok.whole ∙ sym (append-nil seen'); foreign = tt; own_is = ok.own_is; kept_is = ok.kept_is; once = ok.once; made_so = ok.made_so; olds = (starts_more me.0.known.seen ok.rest me.0.first ok.olds.0, starts_more me.0.known.seen ok.rest me.0.second ok.olds.1); chief = ok.chief; plain = ok.plain }
              (λ j v _ sit. r.seats j v sit);
          knows = seats_set s.views (λ _ v. Knows reserved r.log (get_or s.words 16 0) (get_or s.words 0 0) v v.stage) id w (hit, known.1, known.2, sym ok.whole) (λ j v _ sit. r.knows j v sit);
          apart = pairs_set s.views Apart id w r.apart (λ j v other sit. let a = r.apart j id v me.0 sit sits other in let b = r.apart id j me.0 v sits sit (λ e. other (sym e)) in (
            record { number = a.number; ticket = λ k h g. a.ticket k h (less k g); baton = a.baton; gone = a.gone },
            record { number = b.number; ticket = λ k h g. b.ticket k (less k h) g; baton = b.baton; gone = b.gone },
          ));
          born = r.born;
          count = let m = total_set one_of s.views id me.0 w sits live in let k = total_set kept_count s.views id me.0 w sits live in let c = r.count in omega arith;
          longest = (id, w, (set_at s.views id me.0 w at, live), sym ok.whole);
          out = λ j v sit h. set_here s.homes 0 none (let d = r.deep in omega arith);
          home = λ unserved. absurd (unserved id w (set_at s.views id me.0 w at, live) tt);
        }),
        λ u is. let same : t ≡ u = ap (ticket_or 0) (sym waits ∙ is) in
            subst (λ z. (n ≡ z → Gets setting journal room reserved z me (w, (0, Some state.0) ∷ me.1)) × (n ≢ z → Path M (w, (0, Some state.0) ∷ me.1) me)) same (
              (λ _. record {
                rest = ok.rest;
                view = refl;
                foreign = ok.foreign;
                own_is = ok.own_is ∙ ap (entries_of me.0.known.number) ok.whole;
                within = let l = ap length ok.whole in let k = total_one due_of s.views id me.0 sits in let g = r.given in let b = ok.budget_is in omega arith;
                alone = λ first all. nothing_behind me.0.known.seen ok.rest (seen_whole s r id me.0 sits first all ∙ ok.whole);
                state = state.0;
                slot = refl;
                at = let a = state.2 in record {
                  setting_is = ok.setting_is ∙ a.setting_is;
                  journal_is = a.journal_is ∙ ok.whole;
                  roomy = let f = a.roomy in let b = ok.budget_is in let l = ap length ok.whole in omega arith;
                };
              }),
              (λ miss. absurd (miss hit)),
            ),
      ))
      (λ miss. (
        me.0,
        keeps,
        tt,
        subst (λ (z : List ℕ × List V). Rule record { words = z.0; homes = s.homes; views = z.1 }) (λ i. (sym (set-get_or s.words 16 0) i, sym (set_again s.views id me.0 at) i)) ru,
        λ u is. ((λ same. absurd (miss (same ∙ ap (ticket_or 0) (sym is ∙ waits)))), λ _. refl),
      ))

  -- what another seat knows of the history, where this seat puts its entry behind it
  other_seat : (log : List Entry) (made event : ℕ) (me v : V) → me.setting ≡ v.setting → (Reserves reserved me.setting event → IsTrue me.known.baton) → Apart v me → Ok log made v → Ok (log ++ (me.known.number, event) ∷ []) made v
  other_seat log made event me v same allowed a o =
      let e : Entry = (me.known.number, event) in
      let strange : Foreign reserved v e = record {
        number_is = λ h. a.number (sym h);
        kept_are = every_map v.known.kept (λ k h g. h (sym g)) a.gone;
        plain = λ baton asked. a.baton baton (allowed (subst (λ (c : Option C). Reserves reserved c event) (sym same) asked));
      } in
      record {
        setting_is = o.setting_is;
        budget_is = o.budget_is;
        rest = o.rest ++ e ∷ [];
        whole = ap (λ (l : List Entry). l ++ e ∷ []) o.whole ∙ append_assoc v.known.seen o.rest (e ∷ []);
        foreign = every_more (Foreign reserved v) o.rest (e ∷ []) o.foreign (strange, tt);
        own_is = o.own_is ∙ sym (entries_else v.known.number me.known.number event log (λ h. a.number (sym h)));
        kept_is = every_both v.known.kept (λ k p g. record { own_is = p.own_is ∙ sym (entries_else k.number me.known.number event log (λ h. g (sym h))); other = p.other; made_so = p.made_so }) o.kept_is a.gone;
        once = o.once;
        made_so = o.made_so;
        olds = o.olds;
        chief = o.chief;
        plain = o.plain;
      }

  -- the same for the seat itself
  own_seat : (log : List Entry) (made : ℕ) (me : V) → me.known.seen ≡ log → Ok log made me → Ok (log ++ (me.known.number, me.event) ∷ []) made (view_after_append me)
  own_seat log made me whole o =
      let e : Entry = (me.known.number, me.event) in
      let seen_is : me.known.seen ++ e ∷ [] ≡ log ++ e ∷ [] = ap (λ (l : List Entry). l ++ e ∷ []) whole in
      record {
        setting_is = o.setting_is;
        budget_is = o.budget_is;
        rest = [];
        whole = sym (append-nil (me.known.seen ++ e ∷ []) ∙ seen_is);
        foreign = tt;
        own_is = ap (λ (l : List Entry). l ++ e ∷ []) o.own_is ∙ sym (entries_same me.known.number me.event log);
        kept_is = every_map me.known.kept (λ k p. let q = p.other in record { own_is = p.own_is ∙ sym (entries_else k.number me.known.number me.event log (λ h. q (sym h))); other = p.other; made_so = p.made_so }) o.kept_is;
        once = o.once;
        made_so = o.made_so;
        olds = (starts_more me.known.seen (e ∷ []) me.first o.olds.0, starts_more me.known.seen (e ∷ []) me.second o.olds.1);
        chief = o.chief;
        plain = o.plain;
      }

  pub renew_keeps : (slots id : ℕ) (me : M) (event t : ℕ) → IsLive me.0.setting → me.0.stage ≡ Served t → me.0.due ≡ 0 → 0 < me.0.known.left → (Reserves reserved me.0.setting event → IsTrue me.0.known.baton)
      → Allows Rule slots id me 16 (λ n. n) (IsRenew event (step slots 16 0 0 none) me)
  renew_keeps slots id me event t live served none_due some_left allowed s ru deep at small =
      let r : Full s = in_full s ru in
      let sits : Sits s.views id me.0 = (at, live) in
      let ok = r.seats id me.0 sits in
      let w : V = view_after_renew event me.0 in
      let known = subst (Knows reserved r.log (get_or s.words 16 0) (get_or s.words 0 0) me.0) served (r.knows id me.0 sits) in
      let turns = total_set left_of s.views id me.0 w sits live in
      let dues = total_set due_of s.views id me.0 w sits live in
      let one = total_one left_of s.views id me.0 sits in (
        w,
        keeps,
        tt,
        subst (λ (ws : List ℕ). Rule record { words = ws; homes = s.homes; views = set s.views id w }) (sym (set-get_or s.words 16 0)) (in_rule record { words = s.words; homes = s.homes; views = set s.views id w } record {
          log = r.log;
          made = r.made;
          small = r.small;
          wide = r.wide;
          deep = r.deep;
          placed = r.placed;
          held = let m = total_set held_of s.views id me.0 w sits live in let h = r.held in omega arith;
          given = let g = r.given in omega arith;
          drawn = let g = r.drawn in omega arith;
          seats = seats_set s.views (λ _ v. Ok r.log r.made v) id w
              record { setting_is = ok.setting_is; budget_is = ok.budget_is; rest = ok.rest; whole = ok.whole; foreign = ok.foreign; own_is = ok.own_is; kept_is = ok.kept_is; once = ok.once; made_so = ok.made_so; olds = ok.olds; chief = ok.chief; plain = ok.plain }
              (λ j v _ sit. r.seats j v sit);
          knows = seats_set s.views (λ _ v. Knows reserved r.log (get_or s.words 16 0) (get_or s.words 0 0) v v.stage) id w
              (subst (Knows reserved r.log (get_or s.words 16 0) (get_or s.words 0 0) w) (sym served) (known.0, known.1, allowed, known.3))
              (λ j v _ sit. r.knows j v sit);
          apart = pairs_set s.views Apart id w r.apart (λ j v other sit. let a = r.apart j id v me.0 sit sits other in let b = r.apart id j me.0 v sits sit (λ e. other (sym e)) in (
            record { number = a.number; ticket = a.ticket; baton = a.baton; gone = a.gone },
            record { number = b.number; ticket = b.ticket; baton = b.baton; gone = b.gone },
          ));
          born = r.born;
          count = let m = total_set one_of s.views id me.0 w sits live in let k = total_set kept_count s.views id me.0 w sits live in let c = r.count in omega arith;
          longest = longest_set r.log s.views id me.0 w sits live (λ h. h) r.longest;
          out = seats_set s.views (λ _ v. IsServed v.stage → Out s.homes) id w (r.out id me.0 sits) (λ j v _ sit. r.out j v sit);
          home = λ unserved. r.home (none_after s.views id me.0 w sits live (λ h. h) unserved);
        }),
        (refl, ok.own_is ∙ ap (entries_of me.0.known.number) (sym known.3), (let l = ap length known.3 in let g = r.given in let b = ok.budget_is in omega arith)),
      )

  pub append_keeps : (slots id : ℕ) (me : M) (t : ℕ) → IsLive me.0.setting → me.0.stage ≡ Served t → me.0.due ≡ 1
      → Allows Rule slots id me 32 (λ n. (n + 1) % 2 ^ 64) (IsAppend (step slots 32 1 0 none) me)
  append_keeps slots id me t live served one_due s ru deep at small =
      let r : Full s = in_full s ru in
      let n : ℕ = get_or s.words 32 0 in
      let sits : Sits s.views id me.0 = (at, live) in
      let ok = r.seats id me.0 sits in
      let known = subst (Knows reserved r.log (get_or s.words 16 0) (get_or s.words 0 0) me.0) served (r.knows id me.0 sits) in
      let e : Entry = (me.0.known.number, me.0.event) in
      let log' : List Entry = r.log ++ e ∷ [] in
      let w : V = view_after_append me.0 in
      let seen_is : w.known.seen ≡ log' = ap (λ (l : List Entry). l ++ e ∷ []) known.3 in
      let more : length log' ≡ length r.log + 1 = length-append r.log (e ∷ []) in
      let one = total_one due_of s.views id me.0 sits in
      let dues = total_set due_of s.views id me.0 w sits live in
      let turns = total_set left_of s.views id me.0 w sits live in
      let g = r.given in let d = r.drawn in let h = r.held in let b = r.small in let wide = r.wide in let placed : n ≡ length r.log = r.placed in
      let next : (n + 1) % 2 ^ 64 ≡ n + 1 = omega arith in
      let ws : List ℕ = set s.words 32 ((n + 1) % 2 ^ 64) in
      let same0 : get_or ws 0 0 ≡ get_or s.words 0 0 = get_or-set_other s.words 32 0 ((n + 1) % 2 ^ 64) 0 (λ e. omega arith) in
      let same16 : get_or ws 16 0 ≡ get_or s.words 16 0 = get_or-set_other s.words 32 16 ((n + 1) % 2 ^ 64) 0 (λ e. omega arith) in
      let mine : HoldsTicket me.0.stage (get_or s.words 16 0) = subst (λ st. HoldsTicket st (get_or s.words 16 0)) (sym served) (sym known.0) in
      let after : St = stepped s 32 ((n + 1) % 2 ^ 64) id me.1 w keeps in
      let full : Full after = record {
        log = log';
        made = r.made;
        small = r.small;
        wide = length-set s.words 32 ((n + 1) % 2 ^ 64) ∙ r.wide;
        deep = r.deep;
        placed = get_or-set_same s.words 32 ((n + 1) % 2 ^ 64) 0 (omega arith) ∙ (next ∙ (omega arith));
        held = let m = total_set held_of s.views id me.0 w sits live in omega arith;
        given = omega arith;
        drawn = omega arith;
        seats = seats_set s.views (λ _ v. Ok log' r.made v) id w (own_seat r.log r.made me.0 known.3 ok)
            (λ j v other sit. let o = r.seats j v sit in other_seat r.log r.made me.0.event me.0 v (ok.setting_is ∙ sym o.setting_is) known.2 (r.apart j id v me.0 sit sits other) o);
        knows = seats_set s.views (λ _ v. Knows reserved log' (get_or ws 16 0) (get_or ws 0 0) v v.stage) id w
            (subst (Knows reserved log' (get_or ws 16 0) (get_or ws 0 0) w) (sym served) (same16 ∙ known.0, (let l = known.1 in omega arith), known.2, seen_is))
            (λ j v other sit. others_append reserved r.log log' (get_or s.words 16 0) _ (get_or s.words 0 0) _ v v.stage same16 same0 (λ h. (r.apart j id v me.0 sit sits other).ticket (get_or s.words 16 0) h mine) (r.knows j v sit));
        apart = pairs_set s.views Apart id w r.apart (λ j v other sit. let a = r.apart j id v me.0 sit sits other in let b = r.apart id j me.0 v sits sit (λ e. other (sym e)) in (
          record { number = a.number; ticket = a.ticket; baton = a.baton; gone = a.gone },
          record { number = b.number; ticket = b.ticket; baton = b.baton; gone = b.gone },
        ));
        born = every_more (λ (e : Entry). e.0 ≤ r.made) r.log (e ∷ []) r.born (ok.made_so, tt);
        count = let m = total_set one_of s.views id me.0 w sits live in let k = total_set kept_count s.views id me.0 w sits live in let c = r.count in omega arith;
        longest = (id, w, (set_at s.views id me.0 w at, live), seen_is);
        out = seats_set s.views (λ _ v. IsServed v.stage → Out s.homes) id w (r.out id me.0 sits) (λ j v _ sit. r.out j v sit);
        home = λ unserved. absurd (unserved id w (set_at s.views id me.0 w at, live) (subst IsServed (sym served) tt));
      } in (
        w,
        keeps,
        tt,
        in_rule after full,
        (refl, placed ∙ ap length (sym known.3), λ first. settles after full id w (set_at s.views id me.0 w at, live) refl first),
      )

  pub pass_keeps : (slots id : ℕ) (me : M) (t : ℕ) (x : S) → IsLive me.0.setting → me.0.stage ≡ Served t → me.1 ≡ (0, Some x) ∷ []
      → IsAt setting journal room me.0.setting me.0.budget me.0.known.seen x
      → Allows Rule slots id me 16 (λ n. (n + 1) % 2 ^ 64) (IsPass (step slots 16 1 0 none) me)
  pass_keeps slots id me t x live served has fits s ru deep at small =
      let r : Full s = in_full s ru in
      let n : ℕ = get_or s.words 16 0 in
      let sits : Sits s.views id me.0 = (at, live) in
      let ok = r.seats id me.0 sits in
      let known = subst (Knows reserved r.log n (get_or s.words 0 0) me.0) served (r.knows id me.0 sits) in
      let w : V = view_after_pass me.0 in
      let below = known.1 in let turn = known.0 in
      let g = r.given in let d = r.drawn in let h = r.held in let b = r.small in let wide = r.wide in
      let turns = total_set left_of s.views id me.0 w sits live in
      let next : (n + 1) % 2 ^ 64 ≡ n + 1 = omega arith in
      let ws : List ℕ = set s.words 16 ((n + 1) % 2 ^ 64) in
      let same0 : get_or ws 0 0 ≡ get_or s.words 0 0 = get_or-set_other s.words 16 0 ((n + 1) % 2 ^ 64) 0 (λ e. omega arith) in
      let serves : get_or ws 16 0 ≡ n + 1 = get_or-set_same s.words 16 ((n + 1) % 2 ^ 64) 0 (omega arith) ∙ next in
      let mine : HoldsTicket me.0.stage n = subst (λ st. HoldsTicket st n) (sym served) (sym turn) in
      let held_one : tickets_of me.0.stage ≡ 1 = ap tickets_of served in
      let after : St = stepped s 16 ((n + 1) % 2 ^ 64) id ((0, Some x) ∷ []) w gives in
      let full : Full after = record {
        log = r.log;
        made = r.made;
        small = r.small;
        wide = length-set s.words 16 ((n + 1) % 2 ^ 64) ∙ r.wide;
        deep = length-set s.homes 0 (some (Some x)) ∙ r.deep;
        placed = get_or-set_other s.words 16 32 ((n + 1) % 2 ^ 64) 0 (λ e. omega arith) ∙ r.placed;
        held = let m = total_set held_of s.views id me.0 w sits live in omega arith;
        given = let k = total_set due_of s.views id me.0 w sits live in omega arith;
        drawn = omega arith;
        seats = seats_set s.views (λ _ v. Ok r.log r.made v) id w
            record { setting_is = ok.setting_is; budget_is = ok.budget_is; rest = ok.rest; whole = ok.whole; foreign = ok.foreign; own_is = ok.own_is; kept_is = ok.kept_is; once = ok.once; made_so = ok.made_so; olds = ok.olds; chief = ok.chief; plain = ok.plain }
            (λ j v _ sit. r.seats j v sit);
        knows = seats_set s.views (λ _ v. Knows reserved r.log (get_or ws 16 0) (get_or ws 0 0) v v.stage) id w tt
            (λ j v other sit. others_pass reserved r.log n _ (get_or s.words 0 0) _ v v.stage serves same0 (λ h. (r.apart j id v me.0 sit sits other).ticket n h mine) (r.knows j v sit));
        apart = pairs_set s.views Apart id w r.apart (λ j v other sit. let a = r.apart j id v me.0 sit sits other in let b = r.apart id j me.0 v sits sit (λ e. other (sym e)) in (
          record { number = a.number; ticket = λ k h g. g; baton = a.baton; gone = a.gone },
          record { number = b.number; ticket = λ k h g. h; baton = b.baton; gone = b.gone },
        ));
        born = r.born;
        count = let m = total_set one_of s.views id me.0 w sits live in let k = total_set kept_count s.views id me.0 w sits live in let c = r.count in omega arith;
        longest = longest_set r.log s.views id me.0 w sits live (λ h. h) r.longest;
        out = seats_set s.views (λ _ v. IsServed v.stage → Out after.homes) id w (λ h. absurd h)
            (λ j v other sit h. absurd ((r.apart j id v me.0 sit sits other).ticket n (turn_known reserved r.log n (get_or s.words 0 0) v v.stage (r.knows j v sit) h).0 mine));
        home = λ _. (
          x,
          set_here s.homes 0 (some (Some x)) (let d = r.deep in omega arith),
          record { setting_is = sym ok.setting_is ∙ fits.setting_is; journal_is = fits.journal_is ∙ known.3; roomy = let f = fits.roomy in let bb = ok.budget_is in let l = ap length known.3 in omega arith },
        );
      } in (
        w,
        gives,
        tt,
        subst (λ (c : List (ℕ × Option S)). Rule (stepped s 16 ((n + 1) % 2 ^ 64) id c w gives)) (sym has) (in_rule after full),
        (λ i. (w, rest (has i))),
      )

  pub open_keeps : (x : S) → setting x ≡ opening' → journal x ≡ [] → budget ≤ room x → budget < 2 ^ 32 → Rule (opening (replicate 33 0) (Some x ∷ []) (first_view opening' budget))
  open_keeps x is empty roomy small = in_rule (opening (replicate 33 0) (Some x ∷ []) (first_view opening' budget)) record {
    log = [];
    made = 0;
    small = small;
    wide = refl;
    deep = refl;
    placed = refl;
    held = refl;
    given = omega arith;
    drawn = omega arith;
    seats = λ j v sit. subst (Ok [] 0) (only j v sit).1 record { setting_is = refl; budget_is = refl; rest = []; whole = refl; foreign = tt; own_is = refl; kept_is = tt; once = tt; made_so = omega arith; olds = (starts_same [], starts_same []); chief = λ _. refl; plain = λ _. refl };
    knows = λ j v sit. subst (λ (v : V). Knows reserved [] 0 0 v v.stage) (only j v sit).1 tt;
    apart = λ i j v w a b other. absurd (other ((only i v a).0 ∙ sym (only j w b).0));
    born = tt;
    count = refl;
    longest = (0, first, (refl, refl), refl);
    out = λ j v sit. subst (λ (v : V). IsServed v.stage → Out (some (Some x) ∷ [])) (only j v sit).1 (λ h. absurd h);
    home = λ _. (x, refl, record { setting_is = ap Some (sym is); journal_is = empty; roomy = omega arith });
  }
    where
      first : V
      first = first_view opening' budget

      only : (j : ℕ) (v : V) → Sits (first ∷ []) j v → (j ≡ 0) × (first ≡ v)
      only zero v sit = (refl, some-injective first v sit.0)
      only (suc j) v sit = absurd (some-ne-none v (sym sit.0))

  pub split_keeps : (id : ℕ) (v : V) (n : ℕ) (b : Bool) → IsLive v.setting → v.stage ≡ Idle → v.due ≡ 0 → v.known.number ≡ 0 → n ≤ v.known.left → (IsTrue b → IsTrue v.known.baton) → Splits Rule id v (view_after_split n b v) (new_view n b v)
  split_keeps id v n b live idle none_due first within allowed s ru at =
      let r : Full s = in_full s ru in
      let sits : Sits s.views id v = (at, live) in
      let ok = r.seats id v sits in
      let given : V = view_after_split n b v in
      let new : V = new_view n b v in
      let vs : List V = set s.views id given in
      let made' : ℕ = r.made + 1 in
      let made_is : v.known.made ≡ r.made = ok.chief first in
      let none_held : tickets_of v.stage ≡ 0 = ap tickets_of idle in
      let unborn : (log : List Entry) → Every (λ (e : Entry). e.0 ≤ r.made) log → Every (λ (e : Entry). e.0 ≢ v.known.made + 1) log = λ log born. every_map log (λ e le same. omega arith) born in
      let born' : Every (λ (e : Entry). e.0 ≤ r.made) ok.rest = every_right _ v.known.seen ok.rest (subst (Every (λ (e : Entry). e.0 ≤ r.made)) ok.whole r.born) in
      let more : (number : ℕ) (kept : List JoinedSeat) → Every (IsPast r.log number r.made) kept → Every (IsPast r.log number made') kept = λ number kept k. every_map kept (λ x p. record { own_is = p.own_is; other = p.other; made_so = let q = p.made_so in omega arith }) k in
      in_rule _ record {
        log = r.log;
        made = made';
        small = r.small;
        wide = r.wide;
        deep = r.deep;
        placed = r.placed;
        held = let m = total_set held_of s.views id v given sits live in let k = total_more held_of vs new live in let h = r.held in omega arith;
        given = let m = total_set left_of s.views id v given sits live in let k = total_more left_of vs new live in let m' = total_set due_of s.views id v given sits live in let k' = total_more due_of vs new live in let g = r.given in omega arith;
        drawn = let m = total_set left_of s.views id v given sits live in let k = total_more left_of vs new live in let g = r.drawn in omega arith;
        seats = seats_more vs (λ _ u. Ok r.log made' u) new
            (λ _. record {
              setting_is = ok.setting_is;
              budget_is = ok.budget_is;
              rest = ok.rest;
              whole = ok.whole;
              foreign = every_both ok.rest (λ e f other. let g = f.plain in record { number_is = other; kept_are = tt; plain = λ on. g (allowed on) }) ok.foreign (unborn ok.rest born');
              own_is = sym (entries_none (v.known.made + 1) r.log (unborn r.log r.born));
              kept_is = tt;
              once = tt;
              made_so = omega arith;
              olds = ((v.known.seen, refl), (v.known.seen, refl));
              chief = λ z. absurd (omega arith);
              plain = λ _. refl;
            })
            (seats_set s.views (λ _ u. Ok r.log made' u) id given
            record {
              setting_is = ok.setting_is;
              budget_is = ok.budget_is;
              rest = ok.rest;
              whole = ok.whole;
              foreign = every_map ok.rest (λ e f. let g = f.plain in record { number_is = f.number_is; kept_are = f.kept_are; plain = λ on. g (unless b v.known.baton on) }) ok.foreign;
              own_is = ok.own_is;
              kept_is = more v.known.number v.known.kept ok.kept_is;
              once = ok.once;
              made_so = omega arith;
              olds = ok.olds;
              chief = λ _. ap (λ (k : ℕ). k + 1) made_is;
              plain = ok.plain;
            }
            (λ j u other sit. let o = r.seats j u sit in let a = r.apart j id u v sit sits other in let differs = a.number in record {
              setting_is = o.setting_is;
              budget_is = o.budget_is;
              rest = o.rest;
              whole = o.whole;
              foreign = o.foreign;
              own_is = o.own_is;
              kept_is = more u.known.number u.known.kept o.kept_is;
              once = o.once;
              made_so = let q = o.made_so in omega arith;
              olds = o.olds;
              chief = λ z. absurd (differs (z ∙ sym first));
              plain = o.plain;
            }));
        knows = seats_more vs (λ _ u. Knows reserved r.log (get_or s.words 16 0) (get_or s.words 0 0) u u.stage) new (λ _. tt)
            (seats_set s.views (λ _ u. Knows reserved r.log (get_or s.words 16 0) (get_or s.words 0 0) u u.stage) id given (subst (Knows reserved r.log (get_or s.words 16 0) (get_or s.words 0 0) given) (sym idle) tt) (λ j u _ sit. r.knows j u sit));
        apart = pairs_more vs Apart new
            (pairs_set s.views Apart id given r.apart (λ j u other sit. let a = r.apart j id u v sit sits other in let c = r.apart id j v u sits sit (λ e. other (sym e)) in let ab = a.baton in let cb = c.baton in (
              record { number = a.number; ticket = a.ticket; baton = λ h k. ab h (unless b v.known.baton k); gone = a.gone },
              record { number = c.number; ticket = c.ticket; baton = λ h k. cb (unless b v.known.baton h) k; gone = c.gone },
            )))
            (seats_set s.views (λ _ u. Apart u new × Apart new u) id given
            (let gone = every_map v.known.kept (λ k p same. let q = p.made_so in omega arith) ok.kept_is in (
              record { number = λ same. omega arith; ticket = λ t h k. k; baton = not_both b v.known.baton; gone = gone },
              record { number = λ same. omega arith; ticket = λ t h k. h; baton = λ h k. not_both b v.known.baton k h; gone = tt },
            ))
            (λ j u other sit. let o = r.seats j u sit in let a = r.apart j id u v sit sits other in let ab = a.baton in let low = o.made_so in (
              record { number = λ same. omega arith; ticket = λ t h k. k; baton = λ h k. ab h (allowed k); gone = every_map u.known.kept (λ k p same. let q = p.made_so in omega arith) o.kept_is },
              record { number = λ same. omega arith; ticket = λ t h k. h; baton = λ h k. ab k (allowed h); gone = tt },
            )));
        born = every_map r.log (λ e le. omega arith) r.born;
        count = let m = total_set one_of s.views id v given sits live in let k = total_more one_of vs new live in let m2 = total_set kept_count s.views id v given sits live in let k2 = total_more kept_count vs new live in let c = r.count in omega arith;
        longest = let l = longest_set r.log s.views id v given sits live (λ h. h) r.longest in (l.0, l.1, (at_longer vs (new ∷ []) l.0 l.1 l.2.0, l.2.1), l.3);
        out = seats_more vs (λ _ u. IsServed u.stage → Out s.homes) new (λ _ h. absurd h) (seats_set s.views (λ _ u. IsServed u.stage → Out s.homes) id given (λ h. absurd (subst IsServed idle h)) (λ j u _ sit. r.out j u sit));
        home = λ unserved. r.home (none_before s.views id v given sits (λ j u sit. unserved j u (at_longer vs (new ∷ []) j u sit.0, sit.1)) (λ served. subst IsServed idle served));
      }

  pub join_keeps : (id : ℕ) (v : V) (other : ℕ) (w : V) → IsLive v.setting → v.stage ≡ Idle → v.known.number ≡ 0 → IsLive w.setting → w.stage ≡ Idle → w.due ≡ 0 → Joins Rule id v other w (view_after_join v w) spent_view
  join_keeps id v other w live idle first live' idle' none_due' s ru at apart there =
      let r : Full s = in_full s ru in
      let both : V = view_after_join v w in
      let mid : List V = set s.views id both in
      let there' : get_elem? s.views other ≡ some w = sym (set_else s.views id other both apart) ∙ there in
      let sits : Sits s.views id v = (at, live) in
      let sits' : Sits s.views other w = (there', live') in
      let ok = r.seats id v sits in
      let ok' = r.seats other w sits' in
      let differ = r.apart other id w v sits' sits apart in
      let fits = both_begin (Foreign reserved v) (Foreign reserved w) r.log v.known.seen w.known.seen ok.rest ok'.rest ok.whole ok'.whole ok.foreign ok'.foreign in
      let none_held : tickets_of v.stage ≡ 0 = ap tickets_of idle in
      let none_held' : tickets_of w.stage ≡ 0 = ap tickets_of idle' in
      let number = differ.number in
      let keeps_none : length w.known.kept ≡ 0 = ok'.plain (λ h. number (h ∙ sym first)) in
      let there_still : Sits (set mid other spent_view) id both = (set_else mid other id spent_view (λ e. apart (sym e)) ∙ set_at s.views id v both at, live) in
      let idles : (x : V) → x.stage ≡ Idle → (u : V) → x ≡ u → IsServed u.stage → ⊥ = λ x is u e h. subst IsServed is (subst (λ (z : V). IsServed z.stage) (sym e) h) in
      in_rule _ record {
        log = r.log;
        made = r.made;
        small = r.small;
        wide = r.wide;
        deep = r.deep;
        placed = r.placed;
        held = let m = total_set held_of s.views id v both sits live in let k = total_spent held_of mid other w (there, live') in let h = r.held in omega arith;
        given = let m = total_set left_of s.views id v both sits live in let k = total_spent left_of mid other w (there, live') in let m' = total_set due_of s.views id v both sits live in let k' = total_spent due_of mid other w (there, live') in let g = r.given in omega arith;
        drawn = let m = total_set left_of s.views id v both sits live in let k = total_spent left_of mid other w (there, live') in let g = r.drawn in omega arith;
        seats = seats_spent mid (λ _ u. Ok r.log r.made u) other (λ j u _ sit. seats_set s.views (λ _ u. Ok r.log r.made u) id both
            record {
              setting_is = ok.setting_is;
              budget_is = ok.budget_is;
              rest = fits.0;
              whole = fits.1;
              foreign = every_both fits.0 (λ e f g. let p = f.plain in let q = g.plain in record {
                number_is = f.number_is;
                kept_are = (g.number_is, f.kept_are);
                plain = λ on asked. ⊎_elim (λ h. p h asked) (λ h. q h (subst (λ (c : Option C). Reserves reserved c e.1) (ok.setting_is ∙ sym ok'.setting_is) asked)) (either_true v.known.baton w.known.baton on);
              }) fits.2 fits.3;
              own_is = ok.own_is;
              kept_is = (record { own_is = ok'.own_is; other = number; made_so = ok'.made_so }, ok.kept_is);
              once = ((r.apart id other v w sits sits' (λ e. apart (sym e))).gone, ok.once);
              made_so = ok.made_so;
              olds = (fits.4, fits.5);
              chief = ok.chief;
              plain = λ h. absurd (h first);
            }
            (λ i x _ e. r.seats i x e) j u sit);
        knows = seats_spent mid (λ _ u. Knows reserved r.log (get_or s.words 16 0) (get_or s.words 0 0) u u.stage) other (λ j u _ sit. seats_set s.views (λ _ u. Knows reserved r.log (get_or s.words 16 0) (get_or s.words 0 0) u u.stage) id both (subst (Knows reserved r.log (get_or s.words 16 0) (get_or s.words 0 0) both) (sym idle) tt) (λ i x _ e. r.knows i x e) j u sit);
        apart = pairs_spent mid Apart other (pairs_at s.views (λ i u j x. i ≢ other → j ≢ other → Apart u x) id both (λ i j u x a b far _ _. r.apart i j u x a b far)
            (λ j u far sit. let a = r.apart j id u v sit sits far in let c = r.apart id j v u sits sit (λ e. far (sym e)) in (
              (λ away _. let a' = r.apart j other u w sit sits' away in let p = a.baton in let q = a'.baton in record { number = a.number; ticket = a.ticket; baton = λ h k. ⊎_elim (p h) (q h) (either_true v.known.baton w.known.baton k); gone = a.gone }),
              (λ _ away. let c' = r.apart other j w u sits' sit (λ e. away (sym e)) in let p = c.baton in let q = c'.baton in record { number = c.number; ticket = c.ticket; baton = λ h k. ⊎_elim (λ g. p g k) (λ g. q g k) (either_true v.known.baton w.known.baton h); gone = (c'.number, c.gone) }),
            )));
        born = r.born;
        count = let m = total_set one_of s.views id v both sits live in let k = total_spent one_of mid other w (there, live') in let m2 = total_set kept_count s.views id v both sits live in let k2 = total_spent kept_count mid other w (there, live') in let c = r.count in omega arith;
        longest = let l = r.longest in dite (ℕ_discrete l.0 id)
            (λ (e : l.0 ≡ id). (id, both, there_still, is_all r.log both.known.seen fits.4.0 fits.0 fits.1 (fits.4.1 ∙ ap (λ (h : List Entry). h ++ fits.4.0) (ap (λ (z : V). z.known.seen) (some-injective v l.1 (sym at ∙ (sym (ap (get_elem? s.views) e) ∙ l.2.0))) ∙ l.3))))
            (λ far. dite (ℕ_discrete l.0 other)
            (λ (e : l.0 ≡ other). (id, both, there_still, is_all r.log both.known.seen fits.5.0 fits.0 fits.1 (fits.5.1 ∙ ap (λ (h : List Entry). h ++ fits.5.0) (ap (λ (z : V). z.known.seen) (some-injective w l.1 (sym there' ∙ (sym (ap (get_elem? s.views) e) ∙ l.2.0))) ∙ l.3))))
            (λ away. (l.0, l.1, sits_else mid other spent_view l.0 l.1 away (sits_else s.views id both l.0 l.1 far l.2), l.3)));
        out = seats_spent mid (λ _ u. IsServed u.stage → Out s.homes) other (λ j u _ sit. seats_set s.views (λ _ u. IsServed u.stage → Out s.homes) id both (λ h. absurd (subst IsServed idle h)) (λ i x _ e. r.out i x e) j u sit);
        home = λ unserved. r.home (λ j u sit served. dite (ℕ_discrete j id)
            (λ (e : j ≡ id). idles v idle u (some-injective v u (sym at ∙ (sym (ap (get_elem? s.views) e) ∙ sit.0))) served)
            (λ far. dite (ℕ_discrete j other)
            (λ (e : j ≡ other). idles w idle' u (some-injective w u (sym there' ∙ (sym (ap (get_elem? s.views) e) ∙ sit.0))) served)
            (λ away. unserved j u (sits_else mid other spent_view j u away (sits_else s.views id both j u far sit)) served)));
      }

  pub meet_keeps : (slots id : ℕ) (me : M) → IsLive me.0.setting → me.0.stage ≡ Idle → me.0.due ≡ 0 → me.0.known.number ≡ 0 → Allows Rule slots id me 0 (λ n. n) (IsMeet (step slots 0 0 0 none) me)
  meet_keeps slots id me live idle none_due first s ru deep at small =
      let r : Full s = in_full s ru in
      let sits : Sits s.views id me.0 = (at, live) in
      let ok = r.seats id me.0 sits in
      let w : V = view_after_meet me.0 in (
        w,
        keeps,
        tt,
        subst (λ (ws : List ℕ). Rule record { words = ws; homes = s.homes; views = set s.views id w }) (sym (set-get_or s.words 0 0)) (in_rule record { words = s.words; homes = s.homes; views = set s.views id w } record {
          log = r.log;
          made = r.made;
          small = r.small;
          wide = r.wide;
          deep = r.deep;
          placed = r.placed;
          held = let m = total_set held_of s.views id me.0 w sits live in let h = r.held in omega arith;
          given = let m = total_set left_of s.views id me.0 w sits live in let k = total_set due_of s.views id me.0 w sits live in let g = r.given in omega arith;
          drawn = let m = total_set left_of s.views id me.0 w sits live in let g = r.drawn in omega arith;
          seats = seats_set s.views (λ _ v. Ok r.log r.made v) id w
              record { setting_is = ok.setting_is; budget_is = ok.budget_is; rest = ok.rest; whole = ok.whole; foreign = ok.foreign; own_is = ok.own_is; kept_is = ok.kept_is; once = ok.once; made_so = ok.made_so; olds = ((me.0.known.seen, refl), (me.0.known.seen, refl)); chief = ok.chief; plain = ok.plain }
              (λ j v _ sit. r.seats j v sit);
          knows = seats_set s.views (λ _ v. Knows reserved r.log (get_or s.words 16 0) (get_or s.words 0 0) v v.stage) id w (same_knows r.log (get_or s.words 16 0) (get_or s.words 0 0) me.0 me.0.stage (r.knows id me.0 sits)) (λ j v _ sit. r.knows j v sit);
          apart = pairs_set s.views Apart id w r.apart (λ j v other sit. let a = r.apart j id v me.0 sit sits other in let b = r.apart id j me.0 v sits sit (λ e. other (sym e)) in (
            record { number = a.number; ticket = a.ticket; baton = a.baton; gone = a.gone },
            record { number = b.number; ticket = b.ticket; baton = b.baton; gone = b.gone },
          ));
          born = r.born;
          count = let m = total_set one_of s.views id me.0 w sits live in let k = total_set kept_count s.views id me.0 w sits live in let c = r.count in omega arith;
          longest = longest_set r.log s.views id me.0 w sits live (λ h. h) r.longest;
          out = seats_set s.views (λ _ v. IsServed v.stage → Out s.homes) id w (r.out id me.0 sits) (λ j v _ sit. r.out j v sit);
          home = λ unserved. r.home (none_after s.views id me.0 w sits live (λ h. h) unserved);
        }),
        (refl, ok.olds.0, ok.olds.1, settles s r id me.0 sits none_due first),
      )
    where
      same_knows : (log : List Entry) (now next : ℕ) (v : V) (st : Stage) → Knows reserved log now next v st → Knows reserved log now next (view_after_meet v) st
      same_knows log now next v Idle k = tt
      same_knows log now next v (Waits u) k = k
      same_knows log now next v (Served u) k = k

  -- the slot of the closed table has the state
  pub close_gives : (id : ℕ) (v : V) → IsLive v.setting → v.stage ≡ Idle → v.due ≡ 0 → v.known.number ≡ 0 → HasJoinedAll v.known → (ws : List ℕ) (xs : List (Option S)) → Final (Seen Rule id v) ws xs
      → (o : Option S) → get_elem? xs 0 ≡ some o → (x : S) × (o ≡ Some x) × IsEnd setting journal v x
  close_gives id v live idle none_due first all ws xs f o at =
      let s = f.0 in let r : Full s = in_full s f.1.0 in
      let sits : Sits s.views id v = (f.1.1, live) in
      let state = r.home (λ j u sit served. dite (ℕ_discrete j id)
      (λ (e : j ≡ id). subst IsServed (ap (λ (z : V). z.stage) (some-injective u v (sym sit.0 ∙ (ap (get_elem? s.views) e ∙ sits.0))) ∙ idle) served)
      (λ other. alone s r id v sits first all j u sit other)) in (
        state.0,
        some-injective o (Some state.0) (sym at ∙ f.4 0 (Some state.0) state.1),
        record { setting_is = (r.seats id v sits).setting_is ∙ state.2.setting_is; journal_is = state.2.journal_is ∙ sym (seen_whole s r id v sits first all); settled = settles s r id v sits none_due first },
      )
