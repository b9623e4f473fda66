-- The state of the loop between two lines. Source: this project.
use Rattle.std.specs.Prelude.{◌≡◌, ℕ, List, [], ◌∷◌, ◌++◌, length}
use Rattle.trace_text.specs.TraceWords.{AreEnded, lines}
use Rattle.line_wire.specs.Following.{Due, Dues}
use Rattle.line_wire.specs.declared.following.Following.{Following}
use Rattle.line_wire.specs.declared.following.Following.TheVariants as ended

-- these lines of the input were processed, `count` of them, and everything that is due for them was written except `text`
pub record OwesText (stands : List ℕ → List ℕ → Type 0) (answers : Due) (heard : List ℕ) (done : List (List ℕ)) (text : List ℕ) (count : ℕ) : Type 0 where
  pub said : List ℕ
  pub stood : stands heard said
  pub due : answers done (said ++ text)
  pub counted : count ≡ length done

-- all lines before the octets `rest` were processed, and everything that is due for them was written except `text`
pub record IsUnderway (stands : List ℕ → List ℕ → Type 0) (answers : Due) (heard rest text : List ℕ) (count : ℕ) : Type 0 where
  pub whole : List ℕ
  pub parts : heard ≡ whole ++ rest
  pub ended : AreEnded whole
  pub answered : OwesText stands answers heard (lines whole) text count

-- the octets that are due if the line after these lines ends a call
abbrev pub HasStopped : Following → Dues → List (List ℕ) → List ℕ → List ℕ → Type 0
HasStopped ended.Completed due done line said = ⊥
HasStopped ended.Refused due done line said = due.refuses (done ++ line ∷ []) said
HasStopped ended.ReadFailed due done line said = ⊥
HasStopped ended.WriteFailed due done line said = (unsaid : List ℕ) × due.answers (done ++ line ∷ []) (said ++ unsaid)
HasStopped ended.OutOfMemory due done line said = due.strands (done ++ line ∷ []) said
