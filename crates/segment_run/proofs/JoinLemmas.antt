-- Seats joined from the last on.
use Rattle.std.proofs.Common.{◌≡◌, List, [], ◌∷◌, ◌++◌, map, reverse, sym, refl, ap, ◌∙◌, append_assoc}
use Rattle.std.proofs.lemmas.List.{map-append, reverse-append}
use Rattle.seat_history.specs.declared.seat_knowledge.SeatKnowledge.{SeatKnowledge}
use Rattle.seat_history.specs.Histories.{StartsWith}
use Rattle.seat_history.specs.Seats.{after_join}
use Rattle.exchange_core.specs.Working.{Entry}
use Rattle.segment_run.specs.Workers.{after_joins}

after_joins_append : (v : SeatKnowledge) (ws : List SeatKnowledge) (w : SeatKnowledge) → after_joins v (ws ++ w ∷ []) ≡ after_joins (after_join v w) ws
after_joins_append v [] w = refl
after_joins_append v (u ∷ ws) w = ap (λ (k : SeatKnowledge). after_join k u) (after_joins_append v ws w)

pub starts_on : (a b c : List Entry) → StartsWith a b → StartsWith b c → StartsWith a c
starts_on a b c p q = (q.0 ++ p.0, p.1 ∙ (ap (λ (l : List Entry). l ++ p.0) q.1 ∙ append_assoc c q.0 p.0))

pub after_joins_more : {X : Type 0} (f : X → SeatKnowledge) (v : SeatKnowledge) (xs : List X) (x : X) → after_joins v (map f (xs ++ x ∷ [])) ≡ after_joins (after_join v (f x)) (map f xs)
after_joins_more f v xs x = ap (after_joins v) (map-append f xs (x ∷ [])) ∙ after_joins_append v (map f xs) (f x)

pub lists_more : {X Y : Type 0} (f : X → Y) (ls : List Y) (xs : List X) (x : X) → (ls ++ f x ∷ []) ++ reverse (map f xs) ≡ ls ++ reverse (map f (xs ++ x ∷ []))
lists_more f ls xs x = append_assoc ls (f x ∷ []) (reverse (map f xs)) ∙ ap (λ (l : List _). ls ++ l) (sym (ap reverse (map-append f xs (x ∷ [])) ∙ reverse-append (map f xs) (f x ∷ [])))
