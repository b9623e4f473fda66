-- The endings of lines that are followed, by other words for what is due.
use Rattle.std.proofs.Common.{◌⊎◌, ◌≡◌, ℕ, List, [], ◌++◌, inl, inr}
use Rattle.trace_text.specs.TraceWords.{AreEnded}
use Rattle.line_wire.specs.Following.{AreFirst, At_end, At_line, Dues, EndsLong, HasFollowed, IsDue, IsRefused, IsSettled}
use Rattle.line_wire.specs.declared.following.Following.{Following}
use Rattle.line_wire.specs.declared.following.Following.TheVariants as ended

-- what is due in the first words is due in the others
pub record IsToo (first other : Dues) : Type 0 where
  pub answers : (ls : List (List ℕ)) (said : List ℕ) → first.answers ls said → other.answers ls said
  pub refuses : (ls : List (List ℕ)) (said : List ℕ) → first.refuses ls said → other.refuses ls said
  pub strands : (ls : List (List ℕ)) (said : List ℕ) → first.strands ls said → other.strands ls said
  pub ends : (ls : List (List ℕ)) (said : List ℕ) → first.ends ls said → other.ends ls said
  pub refuses_end : (ls : List (List ℕ)) (said : List ℕ) → first.refuses_end ls said → other.refuses_end ls said

pub same_too : (due : Dues) → IsToo due due
same_too due = record {
  answers = λ ls said has. has;
  refuses = λ ls said has. has;
  strands = λ ls said has. has;
  ends = λ ls said has. has;
  refuses_end = λ ls said has. has;
}

pub settled_too : (p q : List (List ℕ) → List ℕ → Type 0) → ((ls : List (List ℕ)) (said : List ℕ) → p ls said → q ls said) → (heard said : List ℕ) → IsSettled p heard said → IsSettled q heard said
settled_too p q too heard said s = record { whole = s.whole; rest = s.rest; parts = s.parts; ended = s.ended; partial = s.partial; done = too _ said s.done }

-- the same if the input has ended since
module _ (before after : Type 0) (step : before → after) where
  first_too : (heard : List ℕ) (front : List (List ℕ)) → AreFirst before heard front → AreFirst after heard front
  first_too heard front a = record { whole = a.whole; rest = a.rest; parts = a.parts; ended = over a.ended; are = a.are; few = a.few }
    where
      cut : before ⊎ EndsLong front → after ⊎ EndsLong front
      cut (inl has) = inl (step has)
      cut (inr long) = inr long

      over : AreEnded a.whole ⊎ ((a.rest ≡ []) × (before ⊎ EndsLong front)) → AreEnded a.whole ⊎ ((a.rest ≡ []) × (after ⊎ EndsLong front))
      over (inl is) = inl is
      over (inr (none, has)) = inr (none, cut has)

  module _ (first other : Dues) (too : IsToo first other) where
    refused_too : (heard said : List ℕ) → IsRefused before first heard said → IsRefused after other heard said
    refused_too heard said (At_line front are due) = At_line front (first_too heard front are) (too.refuses front said due)
    refused_too heard said (At_end has due) = At_end (step has) (too.refuses_end _ said due)

    due_too : (ending : Following) (heard said : List ℕ) → IsDue before ending first heard said → IsDue after ending other heard said
    due_too ended.Completed heard said due = (step due.0, too.ends _ said due.1)
    due_too ended.Refused heard said due = refused_too heard said due
    due_too ended.ReadFailed heard said due = settled_too first.answers other.answers too.answers heard said due
    due_too ended.WriteFailed heard said due = (due.0, first_too heard due.0 due.1, too.answers due.0 said due.2)
    due_too ended.OutOfMemory heard said due = (due.0, first_too heard due.0 due.1, too.strands due.0 said due.2)

    pub followed_too : (ending : Following) (heard said : List ℕ) → HasFollowed before ending first heard said → HasFollowed after ending other heard said
    followed_too ended.Completed heard said due = due_too ended.Completed heard said due
    followed_too ended.Refused heard said due = due_too ended.Refused heard said due
    followed_too ended.ReadFailed heard said due = due_too ended.ReadFailed heard said due
    followed_too ended.WriteFailed heard said due = (due.0, due.1, due_too due.0 heard (said ++ due.1) due.2)
    followed_too ended.OutOfMemory heard said due = due_too ended.OutOfMemory heard said due
