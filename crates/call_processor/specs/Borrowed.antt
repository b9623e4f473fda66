-- A value that a call borrows. Source: this project; the term is Rust's.
use denote.Ref.{MutBor}
use denote.Triple.Both.{Both}

-- a value that a call borrows and may change, when the call begins and when it returns
abbrev pub Borrowed : Type 0 → Type 0
Borrowed T = Both (MutBor T) (MutBor T)
