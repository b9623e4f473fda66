-- The last of a list, at most n.
use Rattle.std.proofs.Common.{◌≡◌, ℕ, zero, suc, ◌+◌, ◌-◌, ◌≤◌, List, [], ◌∷◌, ◌++◌, length, length-append, drop, subst, ap, refl, sym, ◌∙◌, arith}
use Rattle.std.proofs.lemmas.List.{append_assoc, drop-append-le, drop-drop, length-drop}
use Rattle.exchange_events.specs.declared.record.CallRecord.{CallRecord}
use Rattle.meters.specs.Details.{Ring, IsRingOf, last_of, call_lines, detail_text, detail_text_with}

module _ {A : Type 0} where
  -- what is dropped from the beginning anyhow may be dropped before
  pub last-drop : (keep j : ℕ) (xs : List A) → j + keep ≤ length xs → last_of keep (drop j xs) ≡ last_of keep xs
  last-drop keep j xs within =
      let long = length-drop j xs in
      ap (λ n. drop (n - keep) (drop j xs)) long ∙ drop-drop (length xs - j - keep) j xs ∙ ap (λ n. drop n xs) (omega (arith, within))

  -- a list that is short enough is its own last part
  pub last-short : (keep : ℕ) (xs : List A) → length xs ≤ keep → last_of keep xs ≡ xs
  last-short keep xs short = let none : length xs - keep ≡ 0 = omega (arith, short) in ap (λ n. drop n xs) none

  -- what goes from a list in front of others may go before they come
  pub last_of-drop_front : (keep j : ℕ) (xs more : List A) → j ≤ length xs → j + keep ≤ length xs + length more → last_of keep (drop j xs ++ more) ≡ last_of keep (xs ++ more)
  last_of-drop_front keep j xs more inside within =
      let long = length-append xs more in
      ap (last_of keep) (sym (drop-append-le j xs more inside)) ∙ last-drop keep j (xs ++ more) (omega (arith, long, within))

  -- the last of a list and of what comes behind it, where more than `spare` come
  pub last-append : (keep spare : ℕ) (xs more : List A) → spare ≤ length more → last_of keep (last_of (keep - spare) xs ++ more) ≡ last_of keep (xs ++ more)
  last-append keep spare xs more room = at_least (length xs - (keep - spare)) refl where
    at_least : (j : ℕ) → j ≡ length xs - (keep - spare) → last_of keep (drop j xs ++ more) ≡ last_of keep (xs ++ more)
    at_least zero is = refl
    at_least (suc j) is = last_of-drop_front keep (suc j) xs more (omega (arith, is)) (omega (arith, is, room))

  -- with room made, one more is taken in
  pub last_more : (keep : ℕ) (xs more : List A) (x : A) → last_of keep ((last_of (keep - 1) xs ++ x ∷ []) ++ more) ≡ last_of keep (xs ++ x ∷ more)
  last_more keep xs more x = ap (last_of keep) (append_assoc (last_of (keep - 1) xs) (x ∷ []) more) ∙ last-append keep 1 xs (x ∷ more) (omega arith)

-- what a ring says of more calls is what it says of all
pub detail_law : (ring : Ring) (calls more : List CallRecord) → IsRingOf calls ring → detail_text_with ring more ≡ detail_text ring.keep (calls ++ more)
detail_law ring calls more is =
    let all : ring.keep - 0 ≡ ring.keep = omega arith in
    let same : last_of ring.keep (last_of ring.keep calls ++ more) ≡ last_of ring.keep (calls ++ more) = subst (λ n. last_of ring.keep (last_of n calls ++ more) ≡ last_of ring.keep (calls ++ more)) all (last-append ring.keep 0 calls more (omega arith)) in
    ap (λ kept. detail_text ring.keep (kept ++ more)) is ∙ ap call_lines same

-- a ring that noted one more call says as much of others as before of all of them
pub detail_more : (keep : ℕ) (old now more : List CallRecord) (call : CallRecord) → now ≡ last_of (keep - 1) old ++ call ∷ [] → detail_text keep (now ++ more) ≡ detail_text keep (old ++ call ∷ more)
detail_more keep old now more call is = ap (λ kept. detail_text keep (kept ++ more)) is ∙ ap call_lines (last_more keep old more call)
