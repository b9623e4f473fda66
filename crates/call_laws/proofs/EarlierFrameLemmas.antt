-- What is heard in a frame doesn't change with later frames.
use Rattle.std.proofs.Common.{◌≡◌, ℕ, zero, suc, ◌-◌, ◌<◌, List, [], ◌∷◌, ◌++◌, length, Option, Some, None, slice_get, refl, arith, ap}
use Rattle.std.proofs.lemmas.List.{get_or_append_left}
use Rattle.circuit_model.specs.declared.channel.Slot.{Slot}
use Rattle.circuit_model.specs.declared.circuit.Kind.{Kind}
use Rattle.circuit_model.specs.declared.circuit.Circuit.{Circuit}
use Rattle.circuit_model.specs.declared.circuit.Circuit.TheVariants.{Pair, Member, Tone}
use Rattle.circuit_model.specs.FrameInput.{Input, frame_of, arrives}
use Rattle.circuit_model.specs.Circuits.{listener, heard_by}
use Rattle.circuit_model.specs.Holding.{circuits_of}
use Rattle.circuit_model.specs.Hears.{octets_of, mix, heard_through, hears}

slice_get_kept : {X : Type 0} (xs more : List X) (k : ℕ) → k < length xs → slice_get (xs ++ more) k ≡ slice_get xs k
slice_get_kept [] more k within = absurd (omega arith)
slice_get_kept (x ∷ xs) more zero within = refl
slice_get_kept (x ∷ xs) more (suc k) within = slice_get_kept xs more k (omega arith)

arrives_kept : (inputs more : List Input) (f : ℕ) (at : Slot) → f < length inputs → arrives (inputs ++ more) f at ≡ arrives inputs f at
arrives_kept inputs more f at within = ap (λ found. frame_of found at) (slice_get_kept inputs more f within)

octets_of_kept : (inputs more : List Input) (f : ℕ) (circuits : List Circuit) → f < length inputs → octets_of (inputs ++ more) f circuits ≡ octets_of inputs f circuits
octets_of_kept inputs more f [] within = refl
octets_of_kept inputs more f (c ∷ cs) within = rw (arrives_kept inputs more f (listener c) within, octets_of_kept inputs more f cs within) refl

circuits_of_kept : (held later : List (List Circuit)) (f : ℕ) → f < length held → circuits_of (held ++ later) f ≡ circuits_of held f
circuits_of_kept held later f within = get_or_append_left held later [] f within

mix_kept : (inputs more : List Input) (circuits : List Circuit) (room : ℕ) (y : Slot) (g : ℕ) → g - 2 < length inputs → mix (inputs ++ more) circuits room y g ≡ mix inputs circuits room y g
mix_kept inputs more circuits room y g within = rw (octets_of_kept inputs more (g - 2) _ within) refl

heard_through_kept : (tones : Kind → List ℕ) (inputs more : List Input) (held later : List (List Circuit)) (f : ℕ) (by : Option Circuit) → f < length inputs → f < length held
    → heard_through tones (inputs ++ more) (held ++ later) f by ≡ heard_through tones inputs held f by
heard_through_kept tones inputs more held later f None arrived recorded = refl
heard_through_kept tones inputs more held later f (Some (Pair x y since)) arrived recorded =
    let early : f - 2 < length inputs = omega arith in
    rw (arrives_kept inputs more (f - 2) x early) refl
heard_through_kept tones inputs more held later f (Some (Member room y since)) arrived recorded =
    let early : f - 2 < length held = omega arith in
    let earlier : f - 2 - 2 < length inputs = omega arith in
    rw (circuits_of_kept held later (f - 2) early, mix_kept inputs more (circuits_of held (f - 2)) room y (f - 2) earlier) refl
heard_through_kept tones inputs more held later f (Some (Tone kind y since)) arrived recorded = refl

-- what is heard in a frame stays, whatever comes later
pub hears_kept : (tones : Kind → List ℕ) (inputs more : List Input) (held later : List (List Circuit)) (f : ℕ) (y : Slot) → f < length inputs → f < length held
    → hears tones (inputs ++ more) (held ++ later) f y ≡ hears tones inputs held f y
hears_kept tones inputs more held later f y arrived recorded =
    rw (circuits_of_kept held later f recorded) (heard_through_kept tones inputs more held later f (heard_by (circuits_of held f) y) arrived recorded)
