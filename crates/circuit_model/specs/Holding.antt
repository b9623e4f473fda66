-- The circuits that exist, and their change by commands. Source: this project; the terms connection, room member and
-- tone come from circuit switching (ITU-T Q.9).
use Rattle.std.specs.Prelude.{◌≡◌, ℕ, ◌+◌, ◌*◌, ◌≤◌, ◌<◌, ◌⊎◌, IsTrue, not, List, [], ◌∷◌, ◌++◌, filter, All, count_by, slice_index_or, Option, Some}
use Rattle.circuit_model.specs.declared.channel.Slot.{Slot}
use Rattle.circuit_model.specs.declared.circuit.Kind.{Kind}
use Rattle.circuit_model.specs.declared.circuit.Circuit.{Circuit}
use Rattle.circuit_model.specs.declared.circuit.Circuit.TheVariants.{Pair, Member, Tone}
use Rattle.circuit_model.specs.Circuits.{names, is_idle, is_member, first_frame_of, heard_by}

-- the circuits that exist, and the number of the next frame; the circuits are a list that is read as a set, since lists
-- compute and no definition depends on the order of a valid holding (`law_of_one_circuit`)
pub record Holding : Type 0 where
  pub circuits : List Circuit
  pub next : ℕ

-- nothing exists before the first frame
abbrev pub empty : Holding
empty = record { circuits = []; next = 0 }

pub data Command : Type 0 where
  Connect : (x y : Slot) → Command
  Seat : (x : Slot) (room : ℕ) → Command
  Give_tone : (x : Slot) (kind : Kind) → Command
  Clear : (x : Slot) → Command
  Frame : Command

-- the holding after a command: a circuit exists from the next frame on, and a frame's boundary changes the number only
abbrev pub after : Holding → Command → Holding
after h (Connect x y) = record h { circuits = h.circuits ++ Pair x y h.next ∷ Pair y x h.next ∷ [] }
after h (Seat x room) = record h { circuits = h.circuits ++ Member room x h.next ∷ [] }
after h (Give_tone x kind) = record h { circuits = h.circuits ++ Tone kind x h.next ∷ [] }
after h (Clear x) = record h { circuits = filter (λ c. not (names x c)) h.circuits }
after h Frame = record h { next = h.next + 1 }

abbrev pub after_all : Holding → List Command → Holding
after_all h [] = h
after_all h (c ∷ cs) = after_all (after h c) cs

-- the circuits of each frame: those that existed at its boundary
abbrev pub frames : Holding → List Command → List (List Circuit)
frames h [] = []
frames h (Connect x y ∷ cs) = frames (after h (Connect x y)) cs
frames h (Seat x room ∷ cs) = frames (after h (Seat x room)) cs
frames h (Give_tone x kind ∷ cs) = frames (after h (Give_tone x kind)) cs
frames h (Clear x ∷ cs) = frames (after h (Clear x)) cs
frames h (Frame ∷ cs) = h.circuits ∷ frames (after h Frame) cs

-- the circuits of frame f of those listed; none if there is no such frame
abbrev pub circuits_of : List (List Circuit) → ℕ → List Circuit
circuits_of held f = slice_index_or held f []

-- the circuits of frame f of these commands, and the holding at its boundary
abbrev pub circuits_in_frame : List Command → ℕ → List Circuit
circuits_in_frame cs f = circuits_of (frames empty cs) f

abbrev pub held_in : List Command → ℕ → Holding
held_in cs f = record { circuits = circuits_in_frame cs f; next = f }

-- the circuit by which a slot receives in a holding
abbrev pub hears_by : Holding → Slot → Option Circuit
hears_by h x = heard_by h.circuits x

-- the circuit by which each slot receives after a command, from its circuit before
abbrev pub HearsAfter : Holding → Command → (Option Circuit → Slot → Option Circuit) → Type 0
HearsAfter h c now = (z : Slot) → hears_by (after h c) z ≡ now (hears_by h z) z

-- slot x receives from y, since some frame
abbrev pub HearsSlot : Holding → Slot → Slot → ℕ → Type 0
HearsSlot h x y since = hears_by h x ≡ Some (Pair y x since)

-- the number of members
abbrev pub members_of : Holding → ℕ
members_of h = count_by is_member h.circuits

-- a slot is idle; it receives as a member of a room since some frame; it receives by no circuit
abbrev pub IsIdle : Holding → Slot → Type 0
IsIdle h x = IsTrue (is_idle h.circuits x)

abbrev pub IsMember : Holding → Slot → Type 0
IsMember h x = (room since : ℕ) × (hears_by h x ≡ Some (Member room x since))

abbrev pub IsNoMember : Holding → Slot → Type 0
IsNoMember h x = (room since : ℕ) → ¬ (hears_by h x ≡ Some (Member room x since))

-- all circuits that use a slot
abbrev pub circuits_naming : List Circuit → Slot → List Circuit
circuits_naming circuits x = filter (names x) circuits

-- a slot is in one state: idle, with one tone, as one room's member, or in a connection with one other slot, both ways
pub data Stands (circuits : List Circuit) (x : Slot) : Type 0 where
  Has_no_circuit : circuits_naming circuits x ≡ [] → Stands circuits x
  Has_tone : (kind : Kind) (since : ℕ) → circuits_naming circuits x ≡ Tone kind x since ∷ [] → Stands circuits x
  Is_seated : (room since : ℕ) → circuits_naming circuits x ≡ Member room x since ∷ [] → Stands circuits x
  Is_connected : (y : Slot) (since : ℕ) → ¬ (y ≡ x) → (circuits_naming circuits x ≡ Pair x y since ∷ Pair y x since ∷ []) ⊎ (circuits_naming circuits x ≡ Pair y x since ∷ Pair x y since ∷ []) → Stands circuits x

-- a holding of an exchange with n bridge lines: no circuit is younger than the next frame, each member finds a port,
-- and each slot, external or not, is in one state, so that the theorems need no number of external lines
pub record Valid (bridges : ℕ) (h : Holding) : Type 0 where
  pub young : All (λ c. first_frame_of c ≤ h.next) h.circuits
  pub seated : count_by is_member h.circuits ≤ 30 * bridges
  pub standing : (x : Slot) → Stands h.circuits x

-- the requirements of a command on its holding: idle slots, two different ones for a connection, and a free port for a
-- member
abbrev pub IsAllowed : ℕ → Holding → Command → Type 0
IsAllowed bridges h (Connect x y) = ¬ (x ≡ y) × IsTrue (is_idle h.circuits x) × IsTrue (is_idle h.circuits y)
IsAllowed bridges h (Seat x room) = IsTrue (is_idle h.circuits x) × (count_by is_member h.circuits < 30 * bridges)
IsAllowed bridges h (Give_tone x kind) = IsTrue (is_idle h.circuits x)
IsAllowed bridges h (Clear x) = Unit {0}
IsAllowed bridges h Frame = Unit {0}

-- each of the commands is allowed after the commands before it
abbrev pub AreAllowed : ℕ → Holding → List Command → Type 0
AreAllowed bridges h [] = Unit {0}
AreAllowed bridges h (c ∷ cs) = IsAllowed bridges h c × AreAllowed bridges (after h c) cs
