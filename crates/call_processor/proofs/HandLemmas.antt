-- Answers that are moved from one list behind another.
use Rattle.std.proofs.Common.{◌≡◌, ℕ, ◌<◌, List, [], ◌∷◌, ◌++◌, length, take, drop, get_or, refl, sym, ap, subst, ◌∙◌, append_assoc, append-nil, arith}
use Rattle.std.proofs.lemmas.List.Elements.{All-nil, All-push}
use Rattle.call_processor.specs.declared.worked.Placed.{Placed}
use Rattle.call_processor.specs.Keeping.{HandsBelow}

pub none_moved : (below : ℕ) (from to : List Placed) → HandsBelow below from to from to
none_moved below from to = record {
  run = [];
  parts = refl;
  before = All-nil (λ (p : Placed). p.place < below);
  got = sym (append-nil to);
}

pub one_moved : (below : ℕ) (answers others from to later more : List Placed) (p : Placed) → HandsBelow below answers others from to → from ≡ p ∷ later → p.place < below → more ≡ to ++ p ∷ []
    → HandsBelow below answers others later more
one_moved below answers others from to later more p h is low got = record {
  run = h.run ++ p ∷ [];
  parts = h.parts ∙ (ap (λ (l : List Placed). h.run ++ l) is ∙ sym (append_assoc h.run (p ∷ []) later));
  before = All-push (λ (q : Placed). q.place < below) h.run p h.before low;
  got = got ∙ (ap (λ (l : List Placed). l ++ p ∷ []) h.got ∙ append_assoc others h.run (p ∷ []));
}

-- the first of what is left is moved
pub first_moved : (below : ℕ) (answers others from to later more : List Placed) (next : Placed) → HandsBelow below answers others from to → 0 < length from → next ≡ get_or from 0 next → next.place < below
    → later ≡ drop 1 from → more ≡ to ++ take 1 from → HandsBelow below answers others later more
first_moved below answers others [] to later more next h some is low left got = absurd (omega (arith, some))
first_moved below answers others (p ∷ from) to later more next h some is low left got =
    one_moved below answers others (p ∷ from) to later more p h (ap (λ (l : List Placed). p ∷ l) (sym left)) (subst (λ (q : Placed). q.place < below) is low) got
