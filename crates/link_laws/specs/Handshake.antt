-- The establishment and re-establishment of a data link, over wires that lose frames and preserve their order (ITU-T Q.921 (09/97), 5.5.1 and 5.7).
-- Each time a side sets its variables to 0, a new numbering of its I frames begins.
use Rattle.std.specs.Prelude.{◌≡◌, ℕ, suc, ◌+◌, ◌==◌, Bool, List, [], ◌∷◌, ◌++◌, if◌then◌else◌}

-- a frame: SABME, with the numbering that starts with it; UA, with the numbering of the frames after it; an I or S frame, with the numberings of its
-- N(S) and of its N(R)
pub data Signal : Type 0 where
  Sabme : ℕ → Signal
  Ua : ℕ → Signal
  Numbered : ℕ → ℕ → Signal

-- a side: no link; SABME sent without a UA; or a link, with the numberings of the frames that it sends and that it accepts
pub data Side : Type 0 where
  Off : ℕ → Side
  Calling : ℕ → Side
  On : ℕ → ℕ → Side

pub record Pair : Type 0 where
  pub first : Side
  pub second : Side
  pub there : List Signal
  pub back : List Signal

abbrev pub start : Pair
start = record { first = Off 0; second = Off 0; there = []; back = [] }

abbrev pub mirror : Pair → Pair
mirror w = record { first = w.second; second = w.first; there = w.back; back = w.there }

-- an act of the first side, or the arrival or loss of the oldest frame on the wire to the other side
pub data Happening : Type 0 where
  Call : Happening
  Expire : Happening
  GiveUp : Happening
  Send : Happening
  Arrive : Happening
  Lose : Happening

pub data Event : Type 0 where
  First : Happening → Event
  Second : Happening → Event

abbrev pub sabmes : List Signal → ℕ
sabmes [] = 0
sabmes (Sabme n ∷ ts) = suc (sabmes ts)
sabmes (Ua n ∷ ts) = sabmes ts
sabmes (Numbered n k ∷ ts) = sabmes ts

abbrev pub uas : List Signal → ℕ
uas [] = 0
uas (Sabme n ∷ ts) = uas ts
uas (Ua n ∷ ts) = suc (uas ts)
uas (Numbered n k ∷ ts) = uas ts

-- neither a SABME nor its UA is on the wire, because T200 is longer than the round trip
abbrev pub is_over : Pair → Bool
is_over w = sabmes w.there + uas w.back == 0

abbrev pub calls : Pair → Side → Pair
calls w (Off g) = record { first = Calling g; second = w.second; there = w.there ++ Sabme (g + 1) ∷ []; back = w.back }
calls w (On g t) = record { first = Calling g; second = w.second; there = w.there ++ Sabme (g + 1) ∷ []; back = w.back }
calls w (Calling g) = w

abbrev pub calls_again : Pair → Side → Pair
calls_again w (Calling g) = record { first = Calling g; second = w.second; there = w.there ++ Sabme (g + 1) ∷ []; back = w.back }
calls_again w other = w

abbrev pub gives_up : Pair → Side → Pair
gives_up w (Calling g) = record { first = Off g; second = w.second; there = w.there; back = w.back }
gives_up w other = w

abbrev pub sends : Pair → Side → Pair
sends w (On g t) = record { first = On g t; second = w.second; there = w.there ++ Numbered g t ∷ []; back = w.back }
sends w other = w

-- a SABME is acknowledged by UA; a side that is not calling starts a new numbering
abbrev pub sabme_comes : Pair → ℕ → List Signal → Side → Pair
sabme_comes w n rest (Off g) = record { first = w.first; second = On (g + 1) n; there = rest; back = w.back ++ Ua (g + 1) ∷ [] }
sabme_comes w n rest (On g t) = record { first = w.first; second = On (g + 1) n; there = rest; back = w.back ++ Ua (g + 1) ∷ [] }
sabme_comes w n rest (Calling g) = record { first = w.first; second = Calling g; there = rest; back = w.back ++ Ua (g + 1) ∷ [] }

abbrev pub ua_comes : Pair → ℕ → List Signal → Side → Pair
ua_comes w u rest (Calling g) = record { first = w.first; second = On (g + 1) u; there = rest; back = w.back }
ua_comes w u rest other = record { first = w.first; second = other; there = rest; back = w.back }

abbrev pub arrives : Pair → List Signal → Pair
arrives w [] = w
arrives w (Sabme n ∷ rest) = sabme_comes w n rest w.second
arrives w (Ua u ∷ rest) = ua_comes w u rest w.second
arrives w (Numbered h k ∷ rest) = record { first = w.first; second = w.second; there = rest; back = w.back }

abbrev pub loses : Pair → List Signal → Pair
loses w [] = w
loses w (t ∷ rest) = record { first = w.first; second = w.second; there = rest; back = w.back }

abbrev pub happens : Pair → Happening → Pair
happens w Call = calls w w.first
happens w Expire = if is_over w then calls_again w w.first else w
happens w GiveUp = if is_over w then gives_up w w.first else w
happens w Send = sends w w.first
happens w Arrive = arrives w w.there
happens w Lose = loses w w.there

abbrev pub next : Pair → Event → Pair
next w (First h) = happens w h
next w (Second h) = mirror (happens (mirror w) h)

abbrev pub run : List Event → Pair → Pair
run [] w = w
run (e ∷ es) w = run es (next w e)

-- the oldest frame on the wire to the second side, if it is an I or S frame and that side has a link, has the numberings of that side
abbrev pub IsAgreed : Pair → Type 0
IsAgreed p =
    (mine theirs number acknowledged : ℕ) (rest : List Signal) → p.second ≡ On mine theirs → p.there ≡ Numbered number acknowledged ∷ rest
    → (number ≡ theirs) × (acknowledged ≡ mine)
