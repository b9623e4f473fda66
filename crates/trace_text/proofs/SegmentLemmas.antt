-- The segments of a trace: their ends rise, and the last is the last event's number.
use Rattle.std.proofs.Common.{◌≡◌, ℕ, ◌+◌, ◌<◌, ◌≤◌, ◌==◌, Bool, true, false, ◌||◌, List, [], ◌∷◌, ◌++◌, length, All, refl, sym, subst, ◌∙◌, inl, inr, arith, append-nil}
use Rattle.std.specs.Prelude.{AllPairs}
use Rattle.std.specs.List.{list_any}
use Rattle.std.proofs.lemmas.Bool.{cases_eq, eq-eqb, ne_eqb}
use Rattle.std.proofs.lemmas.List.Elements.{All-nil, All-cons, All-weaker}
use Rattle.std.proofs.lemmas.List.Kept.{AllPairs-cons}
use Rattle.trace_text.specs.declared.said.Said.{Said}
use Rattle.trace_text.specs.declared.said.Said.TheVariants.{Happens, Sync, Change}
use Rattle.trace_text.specs.TraceGrammar.{events_in, open_segment_end, ends_after, segment_ends, changes_after, changes_in}
use Rattle.exchange_events.specs.Sound.{last_of, AreSegments, AreChanges}

-- the ends of some segments, behind n events, of which m came before the first of these segments
pub record AreEnds (begun last : ℕ) (ends : List ℕ) : Type 0 where
  pub above : All (λ n. begun < n) ends
  pub rising : AllPairs (λ m n. m < n) ends
  pub whole : last_of (begun ∷ ends) ≡ last

no_pairs : AllPairs (λ m n. m < n) []
no_pairs i j d lt within = absurd (omega arith)

no_ends : (begun : ℕ) → AreEnds begun begun []
no_ends begun = record { above = All-nil (λ n. begun < n); rising = no_pairs; whole = refl }

-- one more end before others
one_end : (begun count last : ℕ) (later : List ℕ) → begun < count → AreEnds count last later → AreEnds begun last (count ∷ later)
one_end begun count last later lt e = record {
  above = All-cons (λ n. begun < n) count later lt (All-weaker (λ n. count < n) (λ n. begun < n) (λ n above. omega (arith, lt, above)) later e.above);
  rising = AllPairs-cons (λ m n. m < n) count later e.above e.rising;
  whole = e.whole;
}

-- the end of a segment, where it has events, before others
with_end : (begun count last : ℕ) (later : List ℕ) → begun ≤ count → AreEnds count last later → AreEnds begun last (open_segment_end begun count ++ later)
with_end begun count last later le e =
    elim (cases_eq begun count) [
      | inl same ↦ rw (eq-eqb begun count same, same) e
      | inr other ↦ rw (ne_eqb begun count other) (one_end begun count last later (omega (arith, le, other)) e)
    ]

are_ends : (begun count : ℕ) (told : List Said) → begun ≤ count → AreEnds begun (count + length (events_in told)) (ends_after begun count told)
are_ends begun count [] le =
    let e = with_end begun count count [] le (no_ends count) in
    let none : count ≡ count + 0 = omega arith in
    subst (λ n. AreEnds begun n (open_segment_end begun count)) none (rw (append-nil (open_segment_end begun count)) at e)
are_ends begun count (Happens event ∷ told) le =
    let more : count + 1 + length (events_in told) ≡ count + length (event ∷ events_in told) = omega arith in
    let e = are_ends begun (count + 1) told (omega (arith, le)) in
    rw more at e
are_ends begun count (Sync ∷ told) le = with_end begun count (count + length (events_in told)) (ends_after count count told) le (are_ends count count told (omega arith))
are_ends begun count (Change ∷ told) le = with_end begun count (count + length (events_in told)) (ends_after count count told) le (are_ends count count told (omega arith))
are_ends begun count (said ∷ told) le = are_ends begun count told le

last_behind : (ends : List ℕ) → last_of (0 ∷ ends) ≡ last_of ends
last_behind [] = refl
last_behind (n ∷ ends) = refl

pub segments_sound : (told : List Said) → AreSegments (length (events_in told)) (segment_ends told)
segments_sound told =
    let e = are_ends 0 0 told (omega arith) in
    record {
      some = All-weaker (λ n. 0 < n) (λ n. 1 ≤ n) (λ n above. omega (arith, above)) (segment_ends told) e.above;
      rising = e.rising;
      whole = let none : 0 + length (events_in told) ≡ length (events_in told) = omega arith in sym (last_behind (segment_ends told)) ∙ e.whole ∙ none;
    }

-- ---- the changes of meters

abbrev is_place : List ℕ → ℕ → Bool
is_place places count = list_any (λ place. place == count) places

-- places after that many events, each of which is the end of a segment, or the place at which the first of them begins
record ArePlaces (begun count : ℕ) (ends places : List ℕ) : Type 0 where
  from : All (λ n. count ≤ n) places
  rising : AllPairs (λ m n. m ≤ n) places
  between : All (λ n. is_place (begun ∷ ends) n ≡ true) places

or_true : (b : Bool) → (b || true) ≡ true
or_true true = refl
or_true false = refl

-- the end of a segment is a place, and so are those behind it
behind_end : (begun count : ℕ) (ends : List ℕ) (n : ℕ) → is_place (count ∷ ends) n ≡ true → is_place (begun ∷ (open_segment_end begun count ++ ends)) n ≡ true
behind_end begun count ends n is =
    elim (cases_eq begun count) [
      | inl same ↦ rw (eq-eqb begun count same, same) is
      | inr other ↦ rw (ne_eqb begun count other, is) (or_true (begun == n))
    ]

-- a segment ends before places
with_places : (begun count : ℕ) (ends places : List ℕ) → ArePlaces count count ends places → ArePlaces begun count (open_segment_end begun count ++ ends) places
with_places begun count ends places e = record {
  from = e.from;
  rising = e.rising;
  between = All-weaker (λ n. is_place (count ∷ ends) n ≡ true) (λ n. is_place (begun ∷ (open_segment_end begun count ++ ends)) n ≡ true) (behind_end begun count ends) places e.between;
}

-- one more place before others
one_place : (count : ℕ) (ends places : List ℕ) → ArePlaces count count ends places → ArePlaces count count ends (count ∷ places)
one_place count ends places e = record {
  from = All-cons (λ n. count ≤ n) count places (omega arith) e.from;
  rising = AllPairs-cons (λ m n. m ≤ n) count places e.from e.rising;
  between = All-cons (λ n. is_place (count ∷ ends) n ≡ true) count places (rw (eq-eqb count count refl) refl) e.between;
}

no_places : AllPairs (λ m n. m ≤ n) []
no_places i j d lt within = absurd (omega arith)

are_places : (begun count : ℕ) (told : List Said) → ArePlaces begun count (ends_after begun count told) (changes_after count told)
are_places begun count [] = record { from = All-nil (λ n. count ≤ n); rising = no_places; between = All-nil (λ n. is_place (begun ∷ open_segment_end begun count) n ≡ true) }
are_places begun count (Happens event ∷ told) =
    let e = are_places begun (count + 1) told in
    record {
      from = All-weaker (λ n. count + 1 ≤ n) (λ n. count ≤ n) (λ n above. omega (arith, above)) (changes_after (count + 1) told) e.from;
      rising = e.rising;
      between = e.between;
    }
are_places begun count (Sync ∷ told) = with_places begun count (ends_after count count told) (changes_after count told) (are_places count count told)
are_places begun count (Change ∷ told) =
    with_places begun count (ends_after count count told) (count ∷ changes_after count told)
    (one_place count (ends_after count count told) (changes_after count told) (are_places count count told))
are_places begun count (said ∷ told) = are_places begun count told

pub changes_sound : (told : List Said) → length (changes_in told) ≤ 65535 → AreChanges (segment_ends told) (changes_in told)
changes_sound told few =
    let e = are_places 0 0 told in
    record { few = few; rising = e.rising; between = e.between }
