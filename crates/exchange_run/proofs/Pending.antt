-- What was written of a report when a run ends.
use Rattle.std.proofs.Common.{◌≡◌, ℕ, ◌+◌, List, ◌++◌, length, take, Option, Some, IsSomeAnd, Result, Ok, Err, OnOk, arith, sym, subst, ◌∙◌, ap, length-append}
use Rattle.std.proofs.KnownBytes.{Appends-trans}
use Rattle.std.proofs.lemmas.List.{take-append-le}
use Rattle.std.proofs.Math.Seq.{take-append-add}
use Rattle.std.specs.Io.KnownBytes.{Appends}
use Rattle.ex_io.specs.Streams.{AppendsFront}

-- what holds of the value that there may be
pub at_some : {T : Type 0} (P : T → Type 0) (o : Option T) (x : T) → Some x ≡ o → IsSomeAnd o P → P x
at_some P o x is holds = subst (λ (known : Option _). IsSomeAnd known P) (sym is) holds

pub ok_both : {T E P Q R : Type 0} (r : Result T E) → OnOk r P → OnOk r Q → (P → Q → R) → OnOk r R
ok_both (Ok x) p q both = both p q
ok_both (Err e) p q both = tt

-- ---- a text whose first part was written

-- a prefix of the rest is written
pub front_pending : (old mid new : Option (List ℕ)) (done pending text : List ℕ) → text ≡ done ++ pending → Appends old mid done → AppendsFront mid new pending → AppendsFront old new text
front_pending old mid new done pending text is written front =
    let n = front.0 in
    let len : length text ≡ length done + length pending = ap (λ (xs : List ℕ). length xs) is ∙ length-append done pending in
    let both : take (length done + n) text ≡ done ++ take n pending = rw is (take-append-add done pending n) in
    (length done + n, omega (arith, len, front.1), rw both (Appends-trans old mid new done (take n pending) written front.2))

-- all of the rest is
pub whole_pending : (old mid new : Option (List ℕ)) (done pending text : List ℕ) → text ≡ done ++ pending → Appends old mid done → Appends mid new pending → Appends old new text
whole_pending old mid new done pending text is written more = rw is (Appends-trans old mid new done pending written more)

-- ---- one text behind another

-- a prefix of the first
pub front_longer : (old new : Option (List ℕ)) (bytes more : List ℕ) → AppendsFront old new bytes → AppendsFront old new (bytes ++ more)
front_longer old new bytes more front =
    let n = front.0 in
    (n, omega (arith, front.1, length-append bytes more), subst (λ (xs : List ℕ). Appends old new xs) (sym (take-append-le n bytes more front.1)) front.2)

-- all of the first, and a prefix of the other
pub front_behind : (old mid new : Option (List ℕ)) (bytes more : List ℕ) → Appends old mid bytes → AppendsFront mid new more → AppendsFront old new (bytes ++ more)
front_behind old mid new bytes more done front =
    let n = front.0 in (
      length bytes + n,
      omega (arith, front.1, length-append bytes more),
      subst (λ (xs : List ℕ). Appends old new xs) (sym (take-append-add bytes more n)) (Appends-trans old mid new bytes (take n more) done front.2),
    )
