-- Lines that follow one another: their contents, and what each can say.
use Rattle.std.proofs.Common.{◌≡◌, ℕ, suc, ◌+◌, ◌<◌, ◌≤◌, nat_lt, nat_eq, List, [], ◌∷◌, ◌++◌, length, Ok, Err, refl, sym, ap, ◌∙◌, subst, arith, inl, inr, append_assoc, append-nil, length-append, All}
use Rattle.std.proofs.lemmas.Bool.{ltb-true, ltb-false, lt-ltb, le-ltb}
use Rattle.std.proofs.lemmas.List.Elements.{All-head, All-tail}
use Rattle.circuit_model.proofs.Slots.{true_or_false}
use Rattle.number_plan.specs.Plan.{is_number_taken}
use Rattle.trace_text.specs.declared.fault.Reason.TheVariants.{Limit}
use Rattle.trace_text.specs.declared.limits.Limits.{Limits}
use Rattle.trace_text.specs.declared.said.Said.{Said}
use Rattle.trace_text.specs.declared.said.Said.TheVariants.{Numbered, Happens, Change}
use Rattle.trace_text.specs.TraceGrammar.{EachSays, so_far}
use Rattle.trace_text.specs.TraceLines.{SoFar, joins, line_limits, reads, says, trace_limits}
use Rattle.trace_text.proofs.SoundLemmas.{passed_first}
use Rattle.linked_exchange.specs.Told.{EachFollows, follows}

-- ---- the last checks of a line

-- what passes them is what was read
joins_is : (limits : Limits) (s : SoFar) (said other : Said) → joins limits s said ≡ Ok other → said ≡ other
joins_is limits s (Happens e) other h =
    elim (true_or_false (nat_lt s.events limits.max_events)) [
      | inl few ↦ let ok = rw few at h in grind (arith, ok)
      | inr many ↦ let failed = rw many at h in absurd (grind (arith, failed))
    ]
joins_is limits s Change other h =
    elim (true_or_false (nat_lt s.changes limits.max_changes)) [
      | inl few ↦ let ok = rw few at h in grind (arith, ok)
      | inr many ↦ let failed = rw many at h in absurd (grind (arith, failed))
    ]
joins_is limits s (Numbered n) other h =
    elim (true_or_false (is_number_taken s.plan n.digits)) [
      | inl taken ↦ let failed = rw taken at h in absurd (grind (arith, failed))
      | inr apart ↦ elim (true_or_false (nat_eq (length s.plan) 256)) [
        | inl full ↦ let failed = rw (apart, full) at h in absurd (grind (arith, failed))
        | inr more ↦ let ok = rw (apart, more) at h in grind (arith, ok)
      ]
    ]
joins_is limits s said other h = grind (arith, h)

-- a line that passes the checks of a trace passes the checks of a line that is followed
joins_wider : (s : SoFar) (said : Said) → joins trace_limits s said ≡ Ok said → joins line_limits s said ≡ Ok said
joins_wider s (Happens e) h =
    elim (true_or_false (nat_lt s.events 65535)) [
      | inl few ↦ rw (lt-ltb s.events 4294967295 (let below = ltb-true s.events 65535 few in omega (arith, below))) refl
      | inr many ↦ let failed = rw many at h in absurd (grind (arith, failed))
    ]
joins_wider s Change h =
    elim (true_or_false (nat_lt s.changes 65535)) [
      | inl few ↦ rw (lt-ltb s.changes 4294967295 (let below = ltb-true s.changes 65535 few in omega (arith, below))) refl
      | inr many ↦ let failed = rw many at h in absurd (grind (arith, failed))
    ]
joins_wider s (Numbered n) h = h
joins_wider s said h = h

pub says_reads : (limits : Limits) (s : SoFar) (line : List ℕ) (said : Said) → says limits s line ≡ Ok said → (reads s line ≡ Ok said) × (joins limits s said ≡ Ok said)
says_reads limits s line said h =
    let first = passed_first (reads s line) (joins limits s) said h in
    let same = joins_is limits s first.0 said first.2 in
    (subst (λ v. reads s line ≡ Ok v) same first.1, subst (λ v. joins limits s v ≡ Ok said) same first.2)

reads_says : (limits : Limits) (s : SoFar) (line : List ℕ) (said : Said) → reads s line ≡ Ok said → joins limits s said ≡ Ok said → says limits s line ≡ Ok said
reads_says limits s line said read joined = rw read joined

-- ---- one line

pub record IsFollowing (told : List Said) (line : List ℕ) (said : Said) : Type 0 where
  pub short : length line ≤ 65535
  pub few : length told < 4294967294
  pub says_so : says line_limits (so_far told) line ≡ Ok said

pub follows_says : (told : List Said) (line : List ℕ) (said : Said) → follows told line ≡ Ok said → IsFollowing told line said
follows_says told line said h =
    elim (true_or_false (nat_lt 65535 (length line))) [
      | inl long ↦ let failed = rw long at h in absurd (grind (arith, failed))
      | inr short ↦ elim (true_or_false (nat_lt (length told) 4294967294)) [
        | inl few ↦ record { short = ltb-false 65535 (length line) short; few = ltb-true (length told) 4294967294 few; says_so = rw (short, few) at h }
        | inr many ↦ let failed = rw (short, many) at h in absurd (grind (arith, failed))
      ]
    ]

-- a short line that is not behind too many others follows them as its checks say
pub follows_as : (told : List Said) (line : List ℕ) → length line ≤ 65535 → length told < 4294967294 → follows told line ≡ says line_limits (so_far told) line
follows_as told line short few = rw (le-ltb 65535 (length line) short, lt-ltb (length told) 4294967294 few) refl

-- a long line is refused, and so is one behind too many others
pub follows_long : (told : List Said) (line : List ℕ) → 65535 < length line → follows told line ≡ Err Limit
follows_long told line long = rw (lt-ltb 65535 (length line) long) refl

pub follows_many : (told : List Said) (line : List ℕ) → 4294967294 ≤ length told → follows told line ≡ Err Limit
follows_many told line many =
    elim (true_or_false (nat_lt 65535 (length line))) [
      | inl long ↦ rw long refl
      | inr short ↦ rw (short, le-ltb (length told) 4294967294 many) refl
    ]

-- ---- several lines

pub each_push : (before told : List Said) (front : List (List ℕ)) (line : List ℕ) (said : Said)
    → EachFollows before front told → follows (before ++ told) line ≡ Ok said → EachFollows before (front ++ line ∷ []) (told ++ said ∷ [])
each_push before [] [] line said meets e = (rw (append-nil before) at e, tt)
each_push before (other ∷ told) [] line said meets e = absurd meets
each_push before [] (first ∷ front) line said meets e = absurd meets
each_push before (other ∷ told) (first ∷ front) line said meets e =
    (meets.0, each_push (before ++ other ∷ []) told front line said meets.1 (rw (sym (append_assoc before (other ∷ []) told)) at e))

pub each_length : (before told : List Said) (rows : List (List ℕ)) → EachFollows before rows told → length told ≡ length rows
each_length before [] [] meets = refl
each_length before (said ∷ told) [] meets = absurd meets
each_length before [] (row ∷ rows) meets = absurd meets
each_length before (said ∷ told) (row ∷ rows) meets = ap suc (each_length (before ++ said ∷ []) told rows meets.1)

-- and they are not too many
pub each_few : (before told : List Said) (rows : List (List ℕ)) → EachFollows before rows told → length before ≤ 4294967294 → length before + length rows ≤ 4294967294
each_few before [] [] meets few = omega (arith, few)
each_few before (said ∷ told) [] meets few = absurd meets
each_few before [] (row ∷ rows) meets few = absurd meets
each_few before (said ∷ told) (row ∷ rows) meets few =
    let here = (follows_says before row said meets.0).few in
    let long = length-append before (said ∷ []) in
    let rest = each_few (before ++ said ∷ []) told rows meets.1 (omega (arith, here, long)) in
    omega (arith, rest, long)

-- the lines of a trace have the contents with which they follow one another
pub each_same : (before told other : List Said) (rows : List (List ℕ)) → EachSays before rows told → EachFollows before rows other → told ≡ other
each_same before [] [] [] says_so meets = refl
each_same before (said ∷ told) other [] says_so meets = absurd says_so
each_same before [] (said ∷ other) [] says_so meets = absurd meets
each_same before [] other (row ∷ rows) says_so meets = absurd says_so
each_same before (said ∷ told) [] (row ∷ rows) says_so meets = absurd meets
each_same before (said ∷ told) (also ∷ other) (row ∷ rows) says_so meets =
    let one = says_reads trace_limits (so_far before) row said says_so.0 in
    let two = says_reads line_limits (so_far before) row also (follows_says before row also meets.0).says_so in
    let both : Ok said ≡ Ok also = sym one.0 ∙ two.0 in
    let same : said ≡ also = grind (arith, both) in
    let rest = each_same (before ++ also ∷ []) told other rows (subst (λ v. EachSays (before ++ v ∷ []) rows told) same says_so.1) meets.1 in
    (λ i. same i ∷ rest i)

-- and two rows of contents with which they do are one
pub each_one : (before told other : List Said) (rows : List (List ℕ)) → EachFollows before rows told → EachFollows before rows other → told ≡ other
each_one before [] [] [] first second = refl
each_one before (said ∷ told) other [] first second = absurd first
each_one before [] (said ∷ other) [] first second = absurd second
each_one before [] other (row ∷ rows) first second = absurd first
each_one before (said ∷ told) [] (row ∷ rows) first second = absurd second
each_one before (said ∷ told) (also ∷ other) (row ∷ rows) first second =
    let both : Ok said ≡ Ok also = sym first.0 ∙ second.0 in
    let same : said ≡ also = grind (arith, both) in
    let rest = each_one (before ++ also ∷ []) told other rows (subst (λ v. EachFollows (before ++ v ∷ []) rows told) same first.1) second.1 in
    (λ i. same i ∷ rest i)

-- the short lines of a trace follow one another
pub each_followed : (before told : List Said) (rows : List (List ℕ)) → EachSays before rows told → All (λ row. length row ≤ 65535) rows → length before + length rows ≤ 4294967294
    → EachFollows before rows told
each_followed before [] [] says_so short few = tt
each_followed before (said ∷ told) [] says_so short few = absurd says_so
each_followed before [] (row ∷ rows) says_so short few = absurd says_so
each_followed before (said ∷ told) (row ∷ rows) says_so short few =
    let one = says_reads trace_limits (so_far before) row said says_so.0 in
    let wide = reads_says line_limits (so_far before) row said one.0 (joins_wider (so_far before) said one.1) in
    let head : length row ≤ 65535 = All-head (λ r. length r ≤ 65535) row rows short in
    let room : length before < 4294967294 = omega (arith, few) in (
      follows_as before row head room ∙ wide,
      each_followed (before ++ said ∷ []) told rows says_so.1 (All-tail (λ r. length r ≤ 65535) row rows short) (omega (arith, few, length-append before (said ∷ []))),
    )
