-- What a turn of a loop over moves needs of its move, and leaves of the rest.
use Rattle.std.proofs.Common.{◌≡◌, ℕ, zero, suc, ◌<◌, Some, List, [], ◌∷◌, length, get_or, drop, arith, refl, sym, ap, subst}
use Rattle.paull_matrix.specs.Matrix.{Matrix, row_slot, with_path, without_path}
use Rattle.paull_matrix.specs.declared.moves.Move.{Move}
use Rattle.paull_matrix.specs.InTurn.{lifted, placed, HasRoom, CanLift, CanPlace}

drop_none : (moves : List Move) → drop zero moves ≡ moves
drop_none [] = refl
drop_none (v ∷ moves) = refl

-- the path of a move is there, and the moves from number n on can follow it
pub record Lifting (m : Matrix) (moves : List Move) (k n : ℕ) (v : Move) : Type 0 where
  pub stands : row_slot m v.row v.old ≡ Some v.column
  pub can : CanLift (without_path m v.row v.old) (drop n moves)
  pub rest : lifted (without_path m v.row v.old) (drop n moves) ≡ lifted m (drop k moves)

lifting : (m : Matrix) (moves : List Move) (k : ℕ) (d : Move) → k < length moves → CanLift m (drop k moves) → Lifting m moves k (suc k) (get_or moves k d)
lifting m [] k d l can = absurd (omega (arith, l))
lifting m (v ∷ moves) zero d l can = record {
  stands = can.0;
  can = subst (CanLift (without_path m v.row v.old)) (sym (drop_none moves)) can.1;
  rest = ap (lifted (without_path m v.row v.old)) (drop_none moves);
}
lifting m (v ∷ moves) (suc k) d l can = let later = lifting m moves k d (omega (arith, l)) can in record { stands = later.stands; can = later.can; rest = later.rest }

pub lift_turn : (m : Matrix) (moves : List Move) (k n : ℕ) (d : Move) → k < length moves → n ≡ suc k → CanLift m (drop k moves) → Lifting m moves k n (get_or moves k d)
lift_turn m moves k n d l next can = subst (λ x. Lifting m moves k x (get_or moves k d)) (sym next) (lifting m moves k d l can)

-- the new slot of a move is free, and the moves from number n on can follow it
pub record Placing (m : Matrix) (moves : List Move) (k n : ℕ) (v : Move) : Type 0 where
  pub room : HasRoom m v
  pub can : CanPlace (with_path m v.row v.column v.new) (drop n moves)
  pub rest : placed (with_path m v.row v.column v.new) (drop n moves) ≡ placed m (drop k moves)

placing : (m : Matrix) (moves : List Move) (k : ℕ) (d : Move) → k < length moves → CanPlace m (drop k moves) → Placing m moves k (suc k) (get_or moves k d)
placing m [] k d l can = absurd (omega (arith, l))
placing m (v ∷ moves) zero d l can = record {
  room = can.0;
  can = subst (CanPlace (with_path m v.row v.column v.new)) (sym (drop_none moves)) can.1;
  rest = ap (placed (with_path m v.row v.column v.new)) (drop_none moves);
}
placing m (v ∷ moves) (suc k) d l can = let later = placing m moves k d (omega (arith, l)) can in record { room = later.room; can = later.can; rest = later.rest }

pub place_turn : (m : Matrix) (moves : List Move) (k n : ℕ) (d : Move) → k < length moves → n ≡ suc k → CanPlace m (drop k moves) → Placing m moves k n (get_or moves k d)
place_turn m moves k n d l next can = subst (λ x. Placing m moves k x (get_or moves k d)) (sym next) (placing m moves k d l can)
