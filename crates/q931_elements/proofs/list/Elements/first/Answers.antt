use Rattle.std.proofs.Common.{◌≡◌, ◌≢◌, ℕ, List, [], ◌∷◌, All, Bool, true, false, cond, eqb, Option, Some, None, refl, sym, ap, ◌∙◌, arith}
use Rattle.std.proofs.lemmas.Bool.{eqb-false}
use Rattle.std.proofs.lemmas.List.Elements.{All-cons}
use Rattle.q931_elements.specs.InformationElement.{InformationElement, first_of}
use Rattle.q931_elements.proofs.list.Elements.first.Goals as goal

not_found : (b : Bool) (found : List ℕ) (others : Option (List ℕ)) → cond b (Some found) others ≡ None → (b ≡ false) × (others ≡ None)
not_found true found others is = absurd cc
not_found false found others is = (refl, is)

-- where nothing is found, each element has another code
none_has : (code : ℕ) (es : List InformationElement) → first_of code es ≡ None → All (λ e. e.code ≢ code) es
none_has code [] is = λ k d lt. absurd (omega arith)
none_has code (e ∷ es) is =
    let parts = not_found (eqb e.code code) e.contents (first_of code es) is in
    All-cons (λ x. x.code ≢ code) e es (eqb-false e.code code parts.0) (none_has code es parts.1)

pub returns-clause-none : goal.returns-clause-none
returns-clause-none c =
    let is = sym c.loop-element.invariant.rest ∙ ap (first_of c.args.code) c.in-None.ensures.steps.0 in
    (λ _. none_has c.args.code c.args.self.now is, λ _. refl)
