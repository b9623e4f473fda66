-- Whether a slot of a line awaits RESTART or is held, place by place.
use Rattle.std.proofs.Common.{◌≡◌, ℕ, ◌+◌, ◌<◌, Bool, true, false, refl, sym, ap, ◌∙◌}
use Rattle.std.specs.Prelude.{◌||◌}
use Rattle.std.specs.List.{list_any}
use Rattle.circuit_model.specs.declared.channel.Slot.{Slot}
use Rattle.call_profile.specs.Legs.{slots_of}
use Rattle.call_profile.proofs.LineLemmas.{slots_from, slots_all, slots_end, slots_more}

abbrev pub slot_at : ℕ → ℕ → Slot
slot_at line place = record { line = line; place = place }

or_assoc : (a b c : Bool) → (a || (b || c)) ≡ ((a || b) || c)
or_assoc true b c = refl
or_assoc false b c = refl

or_false : (a : Bool) → (a || false) ≡ a
or_false true = refl
or_false false = refl

-- so far one of the slots below a place has the property, and the rest is the rest of the line
abbrev pub SoFar : (Slot → Bool) → ℕ → ℕ → Bool → Type 0
SoFar f line place found = list_any f (slots_of line) ≡ (found || list_any f (slots_from line place))

pub so_far_none : (f : Slot → Bool) (line : ℕ) → SoFar f line 0 false
so_far_none f line = rw (slots_all line) refl

pub so_far_more : (f : Slot → Bool) (line place : ℕ) (found : Bool) → place < 30 → SoFar f line place found → (here : Bool) → here ≡ f (slot_at line place) → SoFar f line (place + 1) (found || here)
so_far_more f line place found within before here is =
    before
    ∙ ap (λ slots. found || list_any f slots) (slots_more line place within)
    ∙ ap (λ b. found || (b || list_any f (slots_from line (place + 1)))) (sym is)
    ∙ or_assoc found here (list_any f (slots_from line (place + 1)))

pub so_far_all : (f : Slot → Bool) (line place : ℕ) (found : Bool) → place ≡ 30 → SoFar f line place found → list_any f (slots_of line) ≡ found
so_far_all f line place found is so_far =
    so_far
    ∙ ap (λ n. found || list_any f (slots_from line n)) is
    ∙ ap (λ slots. found || list_any f slots) (slots_end line)
    ∙ or_false found
