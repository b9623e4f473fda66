-- The first slot of a line that passes a test, place by place.
use Rattle.std.proofs.Common.{◌≡◌, ℕ, ◌+◌, ◌<◌, Bool, true, false, List, length, drop, get_or, Option, Some, None, is_some, refl, sym, ◌∙◌, ap}
use Rattle.std.specs.Prelude.{find}
use Rattle.std.specs.Option.{option_or}
use Rattle.std.proofs.lemmas.List.{drop_more}
use Rattle.circuit_model.specs.declared.channel.Slot.{Slot}
use Rattle.call_profile.specs.IdleSlots.{lowest_called, hunted}
use Rattle.call_profile.specs.Legs.{slots_of}
use Rattle.call_profile.specs.World.{World}
use Rattle.call_profile.proofs.LineLemmas.{slots_from, slots_all, slots_end, slots_more}

-- the first one from a place on
pub first_from : (Slot → Bool) → ℕ → ℕ → Option Slot
first_from p line place = find p (slots_from line place)

pub first_all : (p : Slot → Bool) (line : ℕ) → find p (slots_of line) ≡ first_from p line 0
unfolding first_from
first_all p line = rw (slots_all line) refl

pub first_end : (p : Slot → Bool) (line : ℕ) → first_from p line 30 ≡ None
unfolding first_from
first_end p line = rw (slots_end line) refl

module _ (p : Slot → Bool) (line place : ℕ) (within : place < 30) where
  pub first_here : p (record { line = line; place = place }) ≡ true → first_from p line place ≡ Some (record { line = line; place = place })
  unfolding first_from
  first_here here = rw (slots_more line place within, here) refl

  pub first_other : p (record { line = line; place = place }) ≡ false → first_from p line place ≡ first_from p line (place + 1)
  unfolding first_from
  first_other other = rw (slots_more line place within, other) refl

-- ---- the first line of a list that has an idle slot, line by line

module _ (w : World) (x : Slot) (lines : List ℕ) (i : ℕ) (within : i < length lines) where
  hunted_more : hunted w x (drop i lines) ≡ option_or (lowest_called w x (get_or lines i 0)) (hunted w x (drop (i + 1) lines))
  hunted_more = ap (λ (ls : List ℕ). hunted w x ls) (drop_more lines i 0 within)

  pub hunted_here : (o : Option Slot) → o ≡ lowest_called w x (get_or lines i 0) → is_some o ≡ true → o ≡ hunted w x (drop i lines)
  hunted_here None is some = absurd cc
  hunted_here (Some y) is some = sym (hunted_more ∙ ap (λ o. option_or o (hunted w x (drop (i + 1) lines))) (sym is))

  pub hunted_later : (o : Option Slot) → o ≡ lowest_called w x (get_or lines i 0) → is_some o ≡ false → hunted w x (drop i lines) ≡ hunted w x (drop (i + 1) lines)
  hunted_later None is none = hunted_more ∙ ap (λ o. option_or o (hunted w x (drop (i + 1) lines))) (sym is)
  hunted_later (Some y) is none = absurd cc
