-- The number plan: its numbers in the order of their digits, and the targets of digits. Source: this project.
use Rattle.std.specs.Prelude.{◌≡◌, ℕ, nat_le, Bool, true, false, IsTrue, not, ◌==◌, ◌&&◌, ◌||◌, if◌then◌else◌, List, [], ◌∷◌, length, Some}
use Rattle.std.specs.List.{list_all, list_any, slice_get}
use Rattle.std.specs.Char.{is_ascii_digit}
use Rattle.std.specs.Ordering.{is_lt, nat_cmp, ordering_then}
use Rattle.std.specs.declared.cmp.Ordering.{Ordering}
use Rattle.std.specs.declared.cmp.Ordering.TheVariants.{Equal}
use Rattle.number_plan.specs.declared.plan.Number.{Number}
use Rattle.number_plan.specs.declared.target.Target.{Target}
use Rattle.number_plan.specs.declared.target.Target.TheVariants as target
use Rattle.number_plan.specs.declared.target.Found.{Found}
use Rattle.number_plan.specs.declared.target.Found.TheVariants as answer

-- ---- digits, as IA5 characters

-- a number of a plan: 1 to 20 digits 0 to 9
abbrev pub is_number : List ℕ → Bool
is_number digits = nat_le 1 (length digits) && nat_le (length digits) 20 && list_all is_ascii_digit digits

-- the second digits begin with the first, or equal them
abbrev pub begins : List ℕ → List ℕ → Bool
begins [] digits = true
begins (d ∷ front) [] = false
begins (d ∷ front) (e ∷ digits) = d == e && begins front digits

-- the first place in which two strings of digits differ decides which is lower; they are equal if one begins the other;
-- in a plan this is an order, and one binary search finds the number that begins the digits or begins with them
abbrev pub side_by_side : List ℕ → List ℕ → Ordering
side_by_side [] others = Equal
side_by_side (d ∷ digits) [] = Equal
side_by_side (d ∷ digits) (e ∷ others) = ordering_then (nat_cmp d e) (side_by_side digits others)

-- ---- plans

abbrev pub precedes : Number → Number → Bool
precedes m n = is_lt (side_by_side m.digits n.digits)

-- each number is lower than all numbers after it
abbrev pub in_order : List Number → Bool
in_order [] = true
in_order (n ∷ ns) = list_all (precedes n) ns && in_order ns

-- the plan with an additional number, in its place
abbrev pub with_number : List Number → Number → List Number
with_number [] n = n ∷ []
with_number (m ∷ ms) n = if precedes n m then n ∷ m ∷ ms else m ∷ with_number ms n

-- no number of the plan begins another one
abbrev pub AreApart : List Number → Type 0
AreApart plan = (j k : ℕ) (m n : Number) → slice_get plan j ≡ Some m → slice_get plan k ≡ Some n → IsTrue (begins m.digits n.digits) → j ≡ k

-- some number of the plan equals, begins or continues the digits
abbrev pub is_number_taken : List Number → List ℕ → Bool
is_number_taken plan digits = list_any (λ n. begins n.digits digits || begins digits n.digits) plan

-- ---- the target of digits

-- the list has this line
abbrev pub is_listed : ℕ → List ℕ → Bool
is_listed line lines = list_any (λ other. other == line) lines

abbrev pub found_at : Target → Found
found_at (target.Line line) = answer.Line line
found_at (target.Room room) = answer.Room room
found_at (target.Lines lines) = answer.Lines lines

-- the target of the number that begins the digits, `More` if a number begins with them, and otherwise `Nothing`
abbrev pub found_for : List Number → List ℕ → Found
found_for [] digits = answer.Nothing
found_for (n ∷ ns) digits = if begins n.digits digits then found_at n.target else if begins digits n.digits then answer.More else found_for ns digits

-- a number of the plan begins the digits, and is routed to this target
pub record LeadsTo (plan : List Number) (digits : List ℕ) (goal : Target) : Type 0 where
  pub place : ℕ
  pub number : Number
  pub is_held : slice_get plan place ≡ Some number
  pub is_begun : IsTrue (begins number.digits digits)
  pub target_is : number.target ≡ goal

-- the digits are a proper prefix of a number of the plan
pub record IsUnfinishedNumber (plan : List Number) (digits : List ℕ) : Type 0 where
  pub place : ℕ
  pub number : Number
  pub is_held : slice_get plan place ≡ Some number
  pub is_begun : IsTrue (begins digits number.digits)
  pub is_longer : IsTrue (not (begins number.digits digits))

-- no number of the plan begins the digits, and none begins with them
abbrev pub IsUnknown : List Number → List ℕ → Type 0
IsUnknown plan digits = is_number_taken plan digits ≡ false

-- the target of each number of the plan passes this test
abbrev pub all_targets : (Target → Bool) → List Number → Bool
all_targets test plan = list_all (λ n. test n.target) plan

-- the target of the digits passes this test, if they have one
abbrev pub PassesTest : (Target → Bool) → Found → Type 0
PassesTest test (answer.Line line) = test (target.Line line) ≡ true
PassesTest test (answer.Room room) = test (target.Room room) ≡ true
PassesTest test (answer.Lines lines) = test (target.Lines lines) ≡ true
PassesTest test answer.More = Unit {0}
PassesTest test answer.Nothing = Unit {0}

-- the target of each number of the plan passes this test
abbrev pub AllPass : (Target → Bool) → List Number → Type 0
AllPass test plan = all_targets test plan ≡ true

-- the plan has this number
abbrev pub IsHeld : List Number → Number → Type 0
IsHeld plan n = (k : ℕ) × (slice_get plan k ≡ Some n)
