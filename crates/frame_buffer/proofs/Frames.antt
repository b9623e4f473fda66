-- Rows of idle octets, and the frame right before a list's last one.
use Rattle.std.proofs.Common.{◌≡◌, ℕ, zero, suc, ◌<◌, List, [], ◌∷◌, ◌++◌, length, length-append, get_or, replicate, All, None, Some, slice_get, refl, arith}
use Rattle.circuit_model.specs.declared.channel.Slot.{Slot}
use Rattle.circuit_model.specs.FrameInput.{Input, idle_octet, octet_in, line_of}
use Rattle.frame_buffer.specs.Delay.{octet_back, octet_of_row}

pub get_or-replicate_idle : (n place : ℕ) → get_or (replicate n idle_octet) place idle_octet ≡ idle_octet
get_or-replicate_idle zero place = refl
get_or-replicate_idle (suc n) zero = refl
get_or-replicate_idle (suc n) (suc place) = get_or-replicate_idle n place

pub line_of-slice_get : (input : Input) (line : ℕ) → line_of (slice_get input line) ≡ get_or input line None
line_of-slice_get [] line = refl
line_of-slice_get (x ∷ xs) zero = grind arith
line_of-slice_get (x ∷ xs) (suc line) = line_of-slice_get xs line

slice_get-last : (inputs : List Input) (x : Input) → slice_get (inputs ++ x ∷ []) (length inputs) ≡ Some x
slice_get-last [] x = refl
slice_get-last (y ∷ ys) x = slice_get-last ys x

slice_get-append : (inputs : List Input) (x : Input) (f : ℕ) → f < length inputs → slice_get (inputs ++ x ∷ []) f ≡ slice_get inputs f
slice_get-append [] x f l = absurd (omega arith)
slice_get-append (y ∷ ys) x zero l = refl
slice_get-append (y ∷ ys) x (suc f) l = slice_get-append ys x f (omega arith)

-- once a frame is pushed, it is the last one
pub octet_back-one : (inputs : List Input) (x : Input) (at : Slot) → octet_back 1 (inputs ++ x ∷ []) at ≡ octet_in x at
octet_back-one inputs x at = grind (arith, length-append inputs (x ∷ []), slice_get-last inputs x)

-- and the one that was the last is the one before it
pub octet_back-two : (inputs : List Input) (x : Input) (at : Slot) → octet_back 2 (inputs ++ x ∷ []) at ≡ octet_back 1 inputs at
octet_back-two [] x at = refl
octet_back-two (y ∷ ys) x at = grind (arith, length-append ys (x ∷ []), slice_get-append (y ∷ ys) x (length ys))

pub idle_rows_are_idle : (rows : List (List ℕ)) (line place : ℕ) → line < length rows → All (λ (row : List ℕ). row ≡ replicate 30 idle_octet) rows → octet_of_row rows line place ≡ idle_octet
idle_rows_are_idle rows line place within idle = rw (idle line [] within) (get_or-replicate_idle 30 place)
