-- What commands make of a holding and of the frames that they record, one list of commands after another.
use Rattle.std.proofs.Common.{◌≡◌, ℕ, zero, suc, ◌+◌, ◌<◌, List, [], ◌∷◌, ◌++◌, length, refl, ◌∙◌, ap, subst, arith, append-nil}
use Rattle.circuit_model.specs.Holding.{Holding, Command, Connect, Seat, Give_tone, Clear, Frame, after, after_all, frames, circuits_of, Valid, AreAllowed}
use Rattle.circuit_model.proofs.Validity.{valid-after}

pub after_all-append : (h : Holding) (cs ds : List Command) → after_all h (cs ++ ds) ≡ after_all (after_all h cs) ds
after_all-append h [] ds = refl
after_all-append h (c ∷ cs) ds = after_all-append (after h c) cs ds

pub frames-append : (h : Holding) (cs ds : List Command) → frames h (cs ++ ds) ≡ frames h cs ++ frames (after_all h cs) ds
frames-append h [] ds = refl
frames-append h (Connect x y ∷ cs) ds = frames-append (after h (Connect x y)) cs ds
frames-append h (Seat x room ∷ cs) ds = frames-append (after h (Seat x room)) cs ds
frames-append h (Give_tone x kind ∷ cs) ds = frames-append (after h (Give_tone x kind)) cs ds
frames-append h (Clear x ∷ cs) ds = frames-append (after h (Clear x)) cs ds
frames-append h (Frame ∷ cs) ds = ap (λ held. h.circuits ∷ held) (frames-append (after h Frame) cs ds)

-- a boundary records the circuits that exist
pub frames-boundary : (h : Holding) (cs : List Command) → frames h (cs ++ Frame ∷ []) ≡ frames h cs ++ (after_all h cs).circuits ∷ []
frames-boundary h cs = frames-append h cs (Frame ∷ [])

-- any other command records nothing
pub frames-command : (h : Holding) (cs : List Command) (c : Command) → ¬ (c ≡ Frame) → frames h (cs ++ c ∷ []) ≡ frames h cs
frames-command h cs (Connect x y) other = frames-append h cs (Connect x y ∷ []) ∙ append-nil (frames h cs)
frames-command h cs (Seat x room) other = frames-append h cs (Seat x room ∷ []) ∙ append-nil (frames h cs)
frames-command h cs (Give_tone x kind) other = frames-append h cs (Give_tone x kind ∷ []) ∙ append-nil (frames h cs)
frames-command h cs (Clear x) other = frames-append h cs (Clear x ∷ []) ∙ append-nil (frames h cs)
frames-command h cs Frame other = absurd (other refl)

-- as many frames are recorded as boundaries passed
pub length-frames : (h : Holding) (cs : List Command) → h.next + length (frames h cs) ≡ (after_all h cs).next
length-frames h [] = omega arith
length-frames h (Connect x y ∷ cs) = length-frames (after h (Connect x y)) cs
length-frames h (Seat x room ∷ cs) = length-frames (after h (Seat x room)) cs
length-frames h (Give_tone x kind ∷ cs) = length-frames (after h (Give_tone x kind)) cs
length-frames h (Clear x ∷ cs) = length-frames (after h (Clear x)) cs
length-frames h (Frame ∷ cs) = omega (arith, length-frames (after h Frame) cs)

-- ---- validity over lists of commands
pub valid-after_all : (bridges : ℕ) (h : Holding) (cs : List Command) → Valid bridges h → AreAllowed bridges h cs → Valid bridges (after_all h cs)
valid-after_all bridges h [] v allowed = v
valid-after_all bridges h (c ∷ cs) v allowed = valid-after_all bridges (after h c) cs (valid-after bridges h c v allowed.0) allowed.1

-- the circuits of each frame belong to a valid holding
pub valid-frames : (bridges : ℕ) (h : Holding) (cs : List Command) (k : ℕ) → Valid bridges h → AreAllowed bridges h cs → k < length (frames h cs) → Valid bridges (record { circuits = circuits_of (frames h cs) k; next = h.next + k })
valid-frames bridges h [] k v allowed within = absurd (omega arith)
valid-frames bridges h (Connect x y ∷ cs) k v allowed within = valid-frames bridges (after h (Connect x y)) cs k (valid-after bridges h (Connect x y) v allowed.0) allowed.1 within
valid-frames bridges h (Seat x room ∷ cs) k v allowed within = valid-frames bridges (after h (Seat x room)) cs k (valid-after bridges h (Seat x room) v allowed.0) allowed.1 within
valid-frames bridges h (Give_tone x kind ∷ cs) k v allowed within = valid-frames bridges (after h (Give_tone x kind)) cs k (valid-after bridges h (Give_tone x kind) v allowed.0) allowed.1 within
valid-frames bridges h (Clear x ∷ cs) k v allowed within = valid-frames bridges (after h (Clear x)) cs k (valid-after bridges h (Clear x) v tt) allowed.1 within
valid-frames bridges h (Frame ∷ cs) zero v allowed within = record { young = λ k d inside. omega (arith, v.young k d inside); seated = v.seated; standing = v.standing }
valid-frames bridges h (Frame ∷ cs) (suc k) v allowed within =
    let later : (h.next + 1) + k ≡ h.next + suc k = omega arith in
    subst (λ n. Valid bridges (record { circuits = circuits_of (frames h (Frame ∷ cs)) (suc k); next = n })) later (valid-frames bridges (after h Frame) cs k (valid-after bridges h Frame v tt) allowed.1 (omega (arith, within)))
