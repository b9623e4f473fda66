-- Words at the beginning of octets.
use Rattle.std.proofs.Common.{◌≡◌, ◌≢◌, ℕ, eqb, List, [], ◌∷◌, ◌++◌, Option, Some, None, refl, inl, inr}
use Rattle.std.proofs.lemmas.Bool.{cases_Bool, eqb-true, eq-eqb}
use Rattle.report_reader.specs.Reading.{behind}

-- what comes after a word that is there
pub behind_word : (word rest : List ℕ) → behind word (word ++ rest) ≡ Some rest
unfolding behind
behind_word [] rest = refl
behind_word (mark ∷ word) rest = rw (eq-eqb mark mark refl) (behind_word word rest)

-- a word that something follows is there
pub behind_text : (word octets rest : List ℕ) → behind word octets ≡ Some rest → octets ≡ word ++ rest
unfolding behind
behind_text [] octets rest found = cc
behind_text (mark ∷ word) [] rest found = absurd cc
behind_text (mark ∷ word) (octet ∷ octets) rest found = elim (cases_Bool (eqb octet mark)) [
  | inl same ↦
      let more = behind_text word octets rest (rw same at found) in
      let mark_is : octet ≡ mark = eqb-true octet mark same in
      rw (mark_is, more) refl
  | inr other ↦ let none = rw other at found in absurd cc
]

-- nothing follows a word that isn't there
pub behind_none : (word octets : List ℕ) → ((rest : List ℕ) → octets ≢ word ++ rest) → behind word octets ≡ None
behind_none word octets missing = by_case (behind word octets) refl
  where
    by_case : (found : Option (List ℕ)) → behind word octets ≡ found → behind word octets ≡ None
    by_case None e = e
    by_case (Some rest) e = absurd (missing rest (behind_text word octets rest e))
