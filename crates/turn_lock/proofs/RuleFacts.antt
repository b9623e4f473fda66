-- The rule of the lock, seat by seat: the form in which the lemmas on the moves take it and give it. It says the same as the seven parts.
use Rattle.std.proofs.Common.{◌≡◌, ◌≢◌, ℕ, ◌+◌, ◌<◌, ◌≤◌, ◌^◌, IsTrue, List, [], ◌∷◌, ◌++◌, length, drop, slice_index, sym, refl, ap, ◌∙◌, subst, arith, Option, Some}
use mathlib.Core.Option.{none, some}
use lib.ListN.{get_elem?}
use Rattle.atomic_table.specs.Table.{State}
use Rattle.std.specs.List.{AllByRecursion as Every}
use Rattle.seat_history.specs.declared.seat_knowledge.JoinedSeat.{JoinedSeat}
use Rattle.seat_history.specs.Histories.{Entry, StartsWith, unseen, entries_of}
use Rattle.turn_lock.specs.declared.board.View.{View}
use Rattle.turn_lock.specs.declared.board.Stage.{Stage}
use Rattle.turn_lock.specs.declared.board.Stage.TheVariants.{Idle, Waits, Served}
use Rattle.turn_lock.specs.Entries.{Once}
use Rattle.turn_lock.specs.Views.{HoldsTicket, IsServed, tickets_of, Sits, Pairs, total, NoneServed, next_ticket, now_serving}
use Rattle.turn_lock.specs.Rule.{Reserves, IsAt, TurnRule}
use Rattle.turn_lock.specs.Moves.{Foreign}
use Rattle.seat_history.proofs.HistoryLemmas.{every_map, every_both, every_swap, unseen_front}

-- one of the made seats that were joined
pub record IsPast (log : List Entry) (number made : ℕ) (k : JoinedSeat) : Type 0 where
  pub own_is : k.own ≡ entries_of k.number log
  pub other : k.number ≢ number
  pub made_so : k.number ≤ made

module _ {C : Type 0} where
  -- two seats have two numbers, one ticket is held by one, one holds the baton, and no number is kept that a seat has
  pub record Apart (v w : View C) : Type 0 where
    pub number : v.known.number ≢ w.known.number
    pub ticket : (t : ℕ) → HoldsTicket v.stage t → HoldsTicket w.stage t → ⊥
    pub baton : IsTrue v.known.baton → IsTrue w.known.baton → ⊥
    pub gone : Every (λ (k : JoinedSeat). k.number ≢ w.known.number) v.known.kept

module _ {C : Type 0} (reserved : C → ℕ → Type 0) where
  -- what a seat knows of its ticket, where the history is log, and the ticket whose turn it is and the next one are given
  abbrev pub Knows : List Entry → ℕ → ℕ → View C → Stage → Type 0
  Knows log now next v Idle = Unit {0}
  Knows log now next v (Waits u) = (now ≤ u) × (u < next) × (Reserves reserved v.setting v.event → IsTrue v.known.baton)
  Knows log now next v (Served u) = (now ≡ u) × (u < next) × (Reserves reserved v.setting v.event → IsTrue v.known.baton) × (v.known.seen ≡ log)

  -- a live seat
  pub record SeatOk (opening : C) (budget : ℕ) (log : List Entry) (made : ℕ) (v : View C) : Type 0 where
    pub setting_is : v.setting ≡ Some opening
    pub budget_is : v.budget ≡ budget
    pub rest : List Entry
    pub whole : log ≡ v.known.seen ++ rest
    pub foreign : Every (Foreign reserved v) rest
    pub own_is : v.known.own ≡ entries_of v.known.number log
    pub kept_is : Every (IsPast log v.known.number made) v.known.kept
    pub once : Once v.known.kept
    pub made_so : v.known.number ≤ made
    pub olds : StartsWith v.known.seen v.first × StartsWith v.known.seen v.second
    pub chief : v.known.number ≡ 0 → v.known.made ≡ made
    pub plain : v.known.number ≢ 0 → length v.known.kept ≡ 0

  foreign_of : (v : View C) (rest : List Entry) → Every (λ (e : Entry). e.0 ≢ v.known.number) rest → Every (λ (k : JoinedSeat). Every (λ (e : Entry). e.0 ≢ k.number) rest) v.known.kept
      → (IsTrue v.known.baton → Every (λ (e : Entry). Reserves reserved v.setting e.1 → ⊥) rest) → Every (Foreign reserved v) rest
  foreign_of v [] a b c = tt
  foreign_of v (e ∷ rest) a b c = (
    record { number_is = a.0; kept_are = every_map v.known.kept (λ k h. h.0) b; plain = λ on. (c on).0 },
    foreign_of v rest a.1 (every_map v.known.kept (λ k h. h.1) b) (λ on. (c on).1),
  )

  -- a ticket that a seat knows was given, and its turn has not passed
  pub ticket_below : (log : List Entry) (now next : ℕ) (v : View C) (st : Stage) (t : ℕ) → Knows log now next v st → HoldsTicket st t → (now ≤ t) × (t < next)
  ticket_below log now next v Idle t k h = absurd h
  ticket_below log now next v (Waits u) t k h = let a = k.0 in let b = k.1 in (omega arith, omega arith)
  ticket_below log now next v (Served u) t k h = let a = k.0 in let b = k.1 in (omega arith, omega arith)

  pub turn_known : (log : List Entry) (now next : ℕ) (v : View C) (st : Stage) → Knows log now next v st → IsServed st → HoldsTicket st now × (v.known.seen ≡ log)
  turn_known log now next v Idle k h = absurd h
  turn_known log now next v (Waits u) k h = absurd h
  turn_known log now next v (Served u) k h = (sym k.0, k.3)

  baton_known : (log : List Entry) (now next : ℕ) (v : View C) (st : Stage) (t : ℕ) → Knows log now next v st → HoldsTicket st t → Reserves reserved v.setting v.event → IsTrue v.known.baton
  baton_known log now next v Idle t k h = absurd h
  baton_known log now next v (Waits u) t k h = k.2
  baton_known log now next v (Served u) t k h = k.2

  knows_of : (log : List Entry) (now next : ℕ) (v : View C) (st : Stage) → ((t : ℕ) → HoldsTicket st t → (now ≤ t) × (t < next))
      → (IsServed st → HoldsTicket st now × (v.known.seen ≡ log)) → ((t : ℕ) → HoldsTicket st t → Reserves reserved v.setting v.event → IsTrue v.known.baton) → Knows log now next v st
  knows_of log now next v Idle between turn asked = tt
  knows_of log now next v (Waits u) between turn asked = let b = between u refl in (b.0, b.1, asked u refl)
  knows_of log now next v (Served u) between turn asked = let b = between u refl in let t = turn tt in (sym t.0, b.1, asked u refl, t.1)

module _ {S C : Type 0} (setting : S → C) (journal : S → List Entry) (room : S → ℕ) (reserved : C → ℕ → Type 0) (opening : C) (budget : ℕ) where
  -- the history, what each live seat knows of it, what holds of each two, and where the state is
  pub record Facts (s : State (Option S) (View C)) : Type 0 where
    pub log : List Entry
    pub made : ℕ
    pub small : budget < 2 ^ 32
    pub wide : length s.words ≡ 33
    pub deep : length s.homes ≡ 1
    pub placed : slice_index s.words 32 ≡ length log
    pub held : slice_index s.words 16 + total (λ (v : View C). tickets_of v.stage) s.views ≡ slice_index s.words 0
    pub given : length log + total (λ (v : View C). v.due) s.views + total (λ (v : View C). v.known.left) s.views ≡ budget
    pub drawn : slice_index s.words 0 + total (λ (v : View C). v.known.left) s.views ≤ budget
    pub seats : (j : ℕ) (v : View C) → Sits s.views j v → SeatOk reserved opening budget log made v
    pub knows : (j : ℕ) (v : View C) → Sits s.views j v → Knows reserved log (slice_index s.words 16) (slice_index s.words 0) v v.stage
    pub apart : Pairs Apart s.views
    pub born : Every (λ (e : Entry). e.0 ≤ made) log
    pub count : total (λ (v : View C). 1) s.views + total (λ (v : View C). length v.known.kept) s.views ≡ made + 1
    pub longest : (j : ℕ) × (v : View C) × Sits s.views j v × (v.known.seen ≡ log)
    pub out : (j : ℕ) (v : View C) → Sits s.views j v → IsServed v.stage → get_elem? s.homes 0 ≡ some none
    pub home : NoneServed s.views → (x : S) × (get_elem? s.homes 0 ≡ some (some (Some x))) × IsAt setting journal room (Some opening) budget log x

  unseen_behind : (log : List Entry) (v : View C) (rest : List Entry) → log ≡ v.known.seen ++ rest → unseen v.known.seen log ≡ rest
  unseen_behind log v rest whole = ap (drop (length v.known.seen)) whole ∙ unseen_front v.known.seen rest

  seat_of : (s : State (Option S) (View C)) (r : TurnRule setting journal room reserved opening budget s) (j : ℕ) (v : View C) → Sits s.views j v → SeatOk reserved opening budget r.log r.made v
  seat_of s r j v sit =
      let begun = r.one_history.begun j v sit in
      let own = r.own_entries.own j v sit in
      let kept = r.own_entries.kept j v sit in
      let opened = r.slots_way.opened j v sit in
      let back = unseen_behind r.log v begun.0 begun.1 in
      let numbers : Every (λ (k : JoinedSeat). (k.number ≢ v.known.number) × (k.number ≤ r.made)) v.known.kept = every_both v.known.kept (λ k a b. (a, b)) (r.own_entries.not_mine j v sit) (r.own_entries.kept_made j v sit) in
      record {
        setting_is = opened.0;
        budget_is = opened.1;
        rest = begun.0;
        whole = begun.1;
        foreign = subst (Every (Foreign reserved v)) back (foreign_of reserved v (unseen v.known.seen r.log) own.none_behind (every_map v.known.kept (λ k w. w.none_behind) kept) (r.baton.seen j v sit));
        own_is = own.entries;
        kept_is = every_both v.known.kept (λ k w n. record { own_is = w.entries; other = n.0; made_so = n.1 }) kept numbers;
        once = r.own_entries.kept_once j v sit;
        made_so = r.own_entries.number_made j v sit;
        olds = r.old_histories j v sit;
        chief = r.how_many.counts j v sit;
        plain = r.how_many.keeps j v sit;
      }

  pub facts_of : (s : State (Option S) (View C)) → TurnRule setting journal room reserved opening budget s → Facts s
  facts_of s r =
      let one = r.one_history in
      let own = r.own_entries in
      let cards = r.tickets in
      let stick = r.baton in
      record {
        log = r.log;
        made = r.made;
        small = r.small;
        wide = r.words;
        deep = r.slots;
        placed = one.length_is;
        held = cards.held;
        given = let e = one.length_is in let h = cards.budget_is in omega arith;
        drawn = cards.drawn;
        seats = seat_of s r;
        knows = λ j v sit. knows_of reserved r.log (now_serving s) (next_ticket s) v v.stage (cards.between j v sit) (r.slots_way.turn j v sit) (stick.asked j v sit);
        apart = λ i j v w a b far. record { number = own.differ i j v w a b far; ticket = cards.one_each i j v w a b far; baton = stick.one i j v w a b far; gone = own.gone i j v w a b far };
        born = own.entries_made;
        count = r.how_many.count;
        longest = one.longest;
        out = r.slots_way.out;
        home = r.slots_way.home;
      }

  pub rule_of : (s : State (Option S) (View C)) → Facts s → TurnRule setting journal room reserved opening budget s
  rule_of s f =
      let back : (j : ℕ) (v : View C) (sit : Sits s.views j v) → (f.seats j v sit).rest ≡ unseen v.known.seen f.log = λ j v sit. let o = f.seats j v sit in sym (unseen_behind f.log v o.rest o.whole) in
      let between : (j : ℕ) (v : View C) → Sits s.views j v → (t : ℕ) → HoldsTicket v.stage t → (now_serving s ≤ t) × (t < next_ticket s) = λ j v sit t h. ticket_below reserved f.log (now_serving s) (next_ticket s) v v.stage t (f.knows j v sit) h in
      record {
        log = f.log;
        made = f.made;
        small = f.small;
        words = f.wide;
        slots = f.deep;
        one_history = record { length_is = f.placed; longest = f.longest; begun = λ j v sit. let o = f.seats j v sit in (o.rest, o.whole) };
        tickets = record { budget_is = (let e = f.placed in let g = f.given in omega arith); drawn = f.drawn; held = f.held; between = between; one_each = λ i j v w a b far. (f.apart i j v w a b far).ticket };
        own_entries = record {
          own = λ j v sit. let o = f.seats j v sit in record { entries = o.own_is; none_behind = subst (Every (λ (e : Entry). e.0 ≢ v.known.number)) (back j v sit) (every_map o.rest (λ e g. g.number_is) o.foreign) };
          kept = λ j v sit. let o = f.seats j v sit in every_both v.known.kept (λ k p none. record { entries = p.own_is; none_behind = subst (Every (λ (e : Entry). e.0 ≢ k.number)) (back j v sit) none }) o.kept_is
              (every_swap (λ (e : Entry) (k : JoinedSeat). e.0 ≢ k.number) o.rest v.known.kept (every_map o.rest (λ e g. g.kept_are) o.foreign));
          differ = λ i j v w a b far. (f.apart i j v w a b far).number;
          gone = λ i j v w a b far. (f.apart i j v w a b far).gone;
          not_mine = λ j v sit. let o = f.seats j v sit in every_map v.known.kept (λ k p. p.other) o.kept_is;
          kept_once = λ j v sit. (f.seats j v sit).once;
          number_made = λ j v sit. (f.seats j v sit).made_so;
          kept_made = λ j v sit. let o = f.seats j v sit in every_map v.known.kept (λ k p. p.made_so) o.kept_is;
          entries_made = f.born;
        };
        slots_way = record { turn = λ j v sit. turn_known reserved f.log (now_serving s) (next_ticket s) v v.stage (f.knows j v sit); home = f.home; out = f.out; opened = λ j v sit. let o = f.seats j v sit in (o.setting_is, o.budget_is) };
        baton = record {
          one = λ i j v w a b far. (f.apart i j v w a b far).baton;
          asked = λ j v sit t h. baton_known reserved f.log (now_serving s) (next_ticket s) v v.stage t (f.knows j v sit) h;
          seen = λ j v sit on. let o = f.seats j v sit in subst (Every (λ (e : Entry). Reserves reserved v.setting e.1 → ⊥)) (back j v sit) (every_map o.rest (λ e g. let p = g.plain in p on) o.foreign);
        };
        how_many = record { count = f.count; counts = λ j v sit. (f.seats j v sit).chief; keeps = λ j v sit. (f.seats j v sit).plain };
        old_histories = λ j v sit. (f.seats j v sit).olds;
      }
