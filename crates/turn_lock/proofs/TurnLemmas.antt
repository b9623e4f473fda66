-- A seat's turn for an event, and a step in it.
use Rattle.std.proofs.Common.{◌≡◌, ℕ, ◌-◌, ◌<◌, Bool, true, false, true≢false, List, [], ◌++◌, length, sym, ap, refl, ◌∙◌, subst, Option, append-nil}
use Rattle.atomic_table.specs.Table.{Me}
use Rattle.seat_history.specs.Histories.{Entry, entries_of}
use Rattle.turn_lock.specs.declared.board.View.{View}
use Rattle.turn_lock.specs.Rule.{IsAt}
use Rattle.turn_lock.specs.Moves.{Gets, HasKept, HasTurn, IsFree, view_after_draw, view_after_renew}

module _ {S C : Type 0} (setting : S → C) (journal : S → List Entry) (room : S → ℕ) (reserved : C → ℕ → Type 0) where
  abbrev M : Type 0
  M = Me (Option S) (View C)

  abbrev Turn : Bool → ℕ → View C → M → Type 0
  Turn = HasTurn setting journal room reserved

  -- the turn of a ticket that was drawn
  pub turn_drawn : (t event : ℕ) (old m m' : M) → IsFree old → m.0 ≡ view_after_draw t event old.0 → m.1 ≡ old.1 → Gets setting journal room reserved t m m' → Turn false event old.0 m'
  turn_drawn t event old m m' free view slots gets =
      let path : m ≡ (view_after_draw t event old.0, []) = λ i. (view i, (slots ∙ free.slots) i) in
      let g = subst (λ (z : M). Gets setting journal room reserved t z m') path gets in
      let at = g.at in
      record {
        rest = g.rest;
        ticket = t;
        view = g.view;
        live = free.live;
        foreign = g.foreign;
        own_is = g.own_is;
        within = g.within;
        alone = g.alone;
        kept = λ on. absurd (true≢false (sym on));
        state = (g.state, g.slot, subst (λ (v : View C). IsAt setting journal room v.setting v.budget (old.0.known.seen ++ g.rest) g.state) (sym g.view) at);
      }

  -- the turn that the seat kept
  pub turn_kept : (event : ℕ) (old m : M) → HasKept setting journal room old → m ≡ (view_after_renew event old.0, old.1) → old.0.known.own ≡ entries_of old.0.known.number old.0.known.seen → length old.0.known.seen < old.0.budget → Turn true event old.0 m
  turn_kept event old m kept path own within = subst (Turn true event old.0) (sym path) record {
    rest = [];
    ticket = kept.served.0;
    view = λ i. record old.0 { known = record old.0.known { left = old.0.known.left - 1; seen = sym (append-nil old.0.known.seen) i }; stage = kept.served.1 i; event = event; due = 1 };
    live = kept.live;
    foreign = tt;
    own_is = own ∙ ap (entries_of old.0.known.number) (sym (append-nil old.0.known.seen));
    within = subst (λ (l : List Entry). length l < old.0.budget) (sym (append-nil old.0.known.seen)) within;
    alone = λ first all. refl;
    kept = λ on. refl;
    state = let st = kept.state in (st.0, st.1, subst (λ (l : List Entry). IsAt setting journal room old.0.setting old.0.budget l st.0) (sym (append-nil old.0.known.seen)) st.2);
  }
