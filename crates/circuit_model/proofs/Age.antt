-- A circuit that exists in a frame since an earlier one existed in the frame before.
use Rattle.std.proofs.Common.{◌≡◌, ℕ, zero, suc, ◌+◌, ◌-◌, ◌<◌, ◌⊎◌, Bool, true, false, cond, not, List, [], ◌∷◌, ◌++◌, refl, ap, inl, inr, ⊎_elim, arith, sub-one}
use Rattle.std.specs.List.{Contains, filter}
use Rattle.std.proofs.lemmas.List.Elements.{Contains-append_cases}
use Rattle.circuit_model.specs.declared.circuit.Circuit.{Circuit}
use Rattle.circuit_model.specs.declared.circuit.Circuit.TheVariants.{Pair, Member, Tone}
use Rattle.circuit_model.specs.Circuits.{first_frame_of, names}
use Rattle.circuit_model.specs.Holding.{Holding, empty, Command, Connect, Seat, Give_tone, Clear, Frame, after, frames, circuits_of}

-- ---- elements of lists
pub cons_cases : {X : Type 0} (x : X) (xs : List X) (y : X) → Contains (x ∷ xs) y → (x ≡ y) ⊎ Contains xs y
cons_cases x xs y (zero, l, e) = inl e
cons_cases x xs y (suc k, l, e) = inr (k, omega arith, e)

pub at_head : {X : Type 0} (x : X) (xs : List X) (y : X) → x ≡ y → Contains (x ∷ xs) y
at_head x xs y e = (zero, omega arith, e)

pub in_tail : {X : Type 0} (x : X) (xs : List X) (y : X) → Contains xs y → Contains (x ∷ xs) y
in_tail x xs y (k, l, e) = (suc k, omega arith, e)

pub none_in_nil : {X : Type 0} (y : X) → Contains (let nil : List X = [] in nil) y → ⊥
none_in_nil y (k, l, e) = omega arith

pub within_filtered : {X : Type 0} (p : X → Bool) (xs : List X) (y : X) → Contains (filter p xs) y → Contains xs y
within_filtered p [] y h = h
within_filtered p (x ∷ xs) y h =
    elim (p x) as (λ b. Contains (cond b (x ∷ filter p xs) (filter p xs)) y → Contains (x ∷ xs) y) [
      | true ↦ λ (kept : Contains (x ∷ filter p xs) y). ⊎_elim (λ (e : x ≡ y). at_head x xs y e) (λ (t : Contains (filter p xs) y). in_tail x xs y (within_filtered p xs y t)) (cons_cases x (filter p xs) y kept)
      | false ↦ λ (kept : Contains (filter p xs) y). in_tail x xs y (within_filtered p xs y kept)
    ] h

-- ---- one command
same_age : (new c : Circuit) (n : ℕ) → first_frame_of new ≡ n → new ≡ c → first_frame_of c < n → ⊥
same_age new c n made e older = let age : first_frame_of new ≡ first_frame_of c = ap first_frame_of e in omega (arith, made, age, older)

older_than_one : (h : Holding) (new c : Circuit) → first_frame_of new ≡ h.next → Contains (h.circuits ++ new ∷ []) c → first_frame_of c < h.next → Contains h.circuits c
older_than_one h new c made inside older =
    ⊎_elim (λ (old : Contains h.circuits c). old)
    (λ (last : Contains (new ∷ []) c). ⊎_elim (λ (e : new ≡ c). absurd (same_age new c h.next made e older)) (λ (no : Contains [] c). absurd (none_in_nil c no)) (cons_cases new [] c last))
    (Contains-append_cases h.circuits (new ∷ []) c inside)

-- what exists after a command and is older than it existed before
pub older_stood : (h : Holding) (command : Command) (c : Circuit) → Contains (after h command).circuits c → first_frame_of c < h.next → Contains h.circuits c
older_stood h (Connect x y) c inside older =
    ⊎_elim (λ (old : Contains h.circuits c). old)
    (λ (new : Contains (Pair x y h.next ∷ Pair y x h.next ∷ []) c).
    ⊎_elim (λ (e : Pair x y h.next ≡ c). absurd (same_age (Pair x y h.next) c h.next refl e older))
    (λ (rest : Contains (Pair y x h.next ∷ []) c). ⊎_elim (λ (e : Pair y x h.next ≡ c). absurd (same_age (Pair y x h.next) c h.next refl e older)) (λ (no : Contains [] c). absurd (none_in_nil c no)) (cons_cases (Pair y x h.next) [] c rest))
    (cons_cases (Pair x y h.next) (Pair y x h.next ∷ []) c new))
    (Contains-append_cases h.circuits (Pair x y h.next ∷ Pair y x h.next ∷ []) c inside)
older_stood h (Seat x room) c inside older = older_than_one h (Member room x h.next) c refl inside older
older_stood h (Give_tone x kind) c inside older = older_than_one h (Tone kind x h.next) c refl inside older
older_stood h (Clear x) c inside older = within_filtered (λ c. not (names x c)) h.circuits c inside
older_stood h Frame c inside older = inside

-- ---- whole lists of commands
-- the first frame's circuits that are older than the next frame existed at the beginning
pub first_frame : (h : Holding) (cs : List Command) (c : Circuit) → Contains (circuits_of (frames h cs) 0) c → first_frame_of c < h.next → Contains h.circuits c
first_frame h [] c inside older = absurd (none_in_nil c inside)
first_frame h (Connect x y ∷ cs) c inside older = older_stood h (Connect x y) c (first_frame (after h (Connect x y)) cs c inside older) older
first_frame h (Seat x room ∷ cs) c inside older = older_stood h (Seat x room) c (first_frame (after h (Seat x room)) cs c inside older) older
first_frame h (Give_tone x kind ∷ cs) c inside older = older_stood h (Give_tone x kind) c (first_frame (after h (Give_tone x kind)) cs c inside older) older
first_frame h (Clear x ∷ cs) c inside older = older_stood h (Clear x) c (first_frame (after h (Clear x)) cs c inside older) older
first_frame h (Frame ∷ cs) c inside older = inside

-- each later frame's circuits that are older than it existed in the frame before it
pub later_frame : (h : Holding) (cs : List Command) (k : ℕ) (c : Circuit) → Contains (circuits_of (frames h cs) (suc k)) c → first_frame_of c < h.next + suc k → Contains (circuits_of (frames h cs) k) c
later_frame h [] k c inside older = absurd (none_in_nil c inside)
later_frame h (Connect x y ∷ cs) k c inside older = later_frame (after h (Connect x y)) cs k c inside older
later_frame h (Seat x room ∷ cs) k c inside older = later_frame (after h (Seat x room)) cs k c inside older
later_frame h (Give_tone x kind ∷ cs) k c inside older = later_frame (after h (Give_tone x kind)) cs k c inside older
later_frame h (Clear x ∷ cs) k c inside older = later_frame (after h (Clear x)) cs k c inside older
later_frame h (Frame ∷ cs) zero c inside older = first_frame (after h Frame) cs c inside (omega (arith, older))
later_frame h (Frame ∷ cs) (suc k) c inside older = later_frame (after h Frame) cs k c inside (omega (arith, older))

-- the law of age
pub age : (cs : List Command) (f : ℕ) (c : Circuit) → Contains (circuits_of (frames empty cs) f) c → first_frame_of c < f → Contains (circuits_of (frames empty cs) (f - 1)) c
age cs zero c inside older = absurd (omega arith)
age cs (suc k) c inside older = rw sub-one (later_frame empty cs k c inside (omega (arith, older)))
