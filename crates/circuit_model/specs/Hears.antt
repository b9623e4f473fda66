-- The octet that a slot receives in a frame. Source: this project; the conference sum is a linear bridge's, coded once.
use Rattle.std.specs.Prelude.{ℕ, ℤ, pos, ◌+ℤ◌, ◌+◌, ◌-◌, ◌%◌, ◌&&◌, not, nat_le, Bool, false, ◌==◌, List, [], ◌∷◌, length, Option, Some, None, filter, slice_index_or, if◌then◌else◌}
use Rattle.circuit_model.specs.declared.channel.Slot.{Slot}
use Rattle.circuit_model.specs.declared.circuit.Kind.{Kind}
use Rattle.circuit_model.specs.declared.circuit.Circuit.{Circuit}
use Rattle.circuit_model.specs.declared.circuit.Circuit.TheVariants.{Pair, Member, Tone}
use Rattle.circuit_model.specs.FrameInput.{Input, idle_octet, arrives}
use Rattle.circuit_model.specs.ALaw.{expand, compress}
use Rattle.circuit_model.specs.Circuits.{same_slot, listener, heard_by}
use Rattle.circuit_model.specs.Holding.{circuits_of}

-- a circuit that has existed since `since` is two frames old in frame f
abbrev pub is_through : ℕ → ℕ → Bool
is_through since f = nat_le (since + 2) f

-- the circuit makes another slot than y a member of the room, and is two frames old in frame g
abbrev pub is_other : ℕ → Slot → ℕ → Circuit → Bool
is_other room y g (Pair from to since) = false
is_other room y g (Member r at since) = (r == room) && not (same_slot at y) && is_through since g
is_other room y g (Tone kind to since) = false

abbrev pub sum_of_values : List ℕ → ℤ
sum_of_values [] = pos 0
sum_of_values (octet ∷ octets) = expand octet +ℤ sum_of_values octets

abbrev pub octets_of : List Input → ℕ → List Circuit → List ℕ
octets_of inputs f [] = []
octets_of inputs f (c ∷ cs) = arrives inputs f (listener c) ∷ octets_of inputs f cs

-- the mix for y in frame g: the sum of the octets that the others of the room sent two frames before, coded once
abbrev pub mix : List Input → List Circuit → ℕ → Slot → ℕ → ℕ
mix inputs circuits room y g = compress (sum_of_values (octets_of inputs (g - 2) (filter (is_other room y g) circuits)))

-- the octet of a tone that has sounded for n frames
abbrev pub tone_octet : List ℕ → ℕ → ℕ
tone_octet table frames = slice_index_or table (frames % length table) idle_octet

-- the octet that a circuit gives in frame f: a tone's octet, the octet that the other slot sent two frames before, or
-- the room's mix of two frames before
abbrev pub heard_through : (Kind → List ℕ) → List Input → List (List Circuit) → ℕ → Option Circuit → ℕ
heard_through tones inputs held f None = idle_octet
heard_through tones inputs held f (Some (Pair x y since)) = if is_through since f then arrives inputs (f - 2) x else idle_octet
heard_through tones inputs held f (Some (Member room y since)) = if is_through since f then mix inputs (circuits_of held (f - 2)) room y (f - 2) else idle_octet
heard_through tones inputs held f (Some (Tone kind y since)) = tone_octet (tones kind) (f - since)

-- the octet that slot y receives in frame f, given each frame's input and circuits
abbrev pub hears : (Kind → List ℕ) → List Input → List (List Circuit) → ℕ → Slot → ℕ
hears tones inputs held f y = heard_through tones inputs held f (heard_by (circuits_of held f) y)

-- the octet that an engine outputs on a slot in a frame, given the tones and each frame's input and circuits
abbrev pub Plays : Type 0
Plays = (Kind → List ℕ) → List Input → List (List Circuit) → ℕ → Slot → ℕ
