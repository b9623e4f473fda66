-- The window of a data link: one direction between two establishments, over a wire that loses and delays frames and preserves their order (ITU-T
-- Q.921 (09/97), 5.6).
use Rattle.std.specs.Prelude.{◌≡◌, ℕ, ◌+◌, ◌-◌, ◌%◌, ◌==◌, ◌&&◌, nat_lt, nat_le, Bool, List, [], ◌∷◌, ◌++◌, length, take, slice_index_or, if◌then◌else◌, max}

-- one direction: the submitted messages of layer 3; the number of acknowledged messages, V(A) without modulo; the number of sent messages after them;
-- the greatest number of messages ever sent; the messages that arrived; the I frames on the wire, oldest first, each as the number of messages before
-- it; and the acknowledgements on the wire, each as the number of messages that it acknowledges
pub record Direction : Type 0 where
  pub submitted : List (List ℕ)
  pub acknowledged : ℕ
  pub sent : ℕ
  pub reached : ℕ
  pub delivered : List (List ℕ)
  pub underway : List ℕ
  pub replies : List ℕ

abbrev pub start : Direction
start = record { submitted = []; acknowledged = 0; sent = 0; reached = 0; delivered = []; underway = []; replies = [] }

-- a message is submitted; the next I frame is sent; V(S) becomes V(A); the oldest I frame arrives, or is lost; an
-- acknowledgement is sent; the oldest one arrives, or is lost
pub data Event : Type 0 where
  Submit : List ℕ → Event
  Send : Event
  GoBack : Event
  Arrive : Event
  Lose : Event
  Answer : Event
  Acknowledge : Event
  Miss : Event

-- the window is open, and a message is waiting
abbrev pub may_send : Direction → Bool
may_send w = nat_lt w.sent 7 && nat_lt (w.acknowledged + w.sent) (length w.submitted)

abbrev pub with_next : Direction → Direction
with_next w = record {
  submitted = w.submitted;
  acknowledged = w.acknowledged;
  sent = w.sent + 1;
  reached = max w.reached (w.acknowledged + w.sent + 1);
  delivered = w.delivered;
  underway = w.underway ++ (w.acknowledged + w.sent) ∷ [];
  replies = w.replies;
}

-- an I frame arrives: N(S) is its number modulo 128, and its message is accepted if N(S) is V(R)
abbrev pub takes : Direction → ℕ → List ℕ → Direction
takes w c rest = record { submitted = w.submitted; acknowledged = w.acknowledged; sent = w.sent; reached = w.reached; delivered = w.delivered ++ slice_index_or w.submitted c [] ∷ []; underway = rest; replies = w.replies }

abbrev pub drops : Direction → List ℕ → Direction
drops w rest = record { submitted = w.submitted; acknowledged = w.acknowledged; sent = w.sent; reached = w.reached; delivered = w.delivered; underway = rest; replies = w.replies }

abbrev pub arrives : Direction → List ℕ → Direction
arrives w [] = w
arrives w (c ∷ rest) = if c % 128 == length w.delivered % 128 then takes w c rest else drops w rest

abbrev pub loses : Direction → List ℕ → Direction
loses w [] = w
loses w (c ∷ rest) = drops w rest

-- the distance of N(R) from V(A), modulo 128
abbrev pub beyond : ℕ → ℕ → ℕ
beyond acknowledged told = (told % 128 + 128 - acknowledged % 128) % 128

abbrev pub moved : Direction → ℕ → List ℕ → Direction
moved w d rest = record { submitted = w.submitted; acknowledged = w.acknowledged + d; sent = w.sent - d; reached = w.reached; delivered = w.delivered; underway = w.underway; replies = rest }

-- N(R) is accepted if it is valid (5.6.3.2)
abbrev pub takes_acknowledgement : Direction → List ℕ → Direction
takes_acknowledgement w [] = w
takes_acknowledgement w (a ∷ rest) = if nat_le (beyond w.acknowledged a) w.sent then moved w (beyond w.acknowledged a) rest else moved w 0 rest

abbrev pub loses_acknowledgement : Direction → List ℕ → Direction
loses_acknowledgement w [] = w
loses_acknowledgement w (a ∷ rest) = moved w 0 rest

abbrev pub happens : Direction → Event → Direction
happens w (Submit x) = record { submitted = w.submitted ++ x ∷ []; acknowledged = w.acknowledged; sent = w.sent; reached = w.reached; delivered = w.delivered; underway = w.underway; replies = w.replies }
happens w Send = if may_send w then with_next w else w
happens w GoBack = record { submitted = w.submitted; acknowledged = w.acknowledged; sent = 0; reached = w.reached; delivered = w.delivered; underway = w.underway; replies = w.replies }
happens w Arrive = arrives w w.underway
happens w Lose = loses w w.underway
happens w Answer = record { submitted = w.submitted; acknowledged = w.acknowledged; sent = w.sent; reached = w.reached; delivered = w.delivered; underway = w.underway; replies = w.replies ++ length w.delivered ∷ [] }
happens w Acknowledge = takes_acknowledgement w w.replies
happens w Miss = loses_acknowledgement w w.replies

abbrev pub run : List Event → Direction → Direction
run [] w = w
run (e ∷ es) w = run es (happens w e)

-- the direction after these events
abbrev pub after : List Event → Direction
after events = run events start

-- the messages that arrived are a prefix of the submitted ones
abbrev pub IsInOrder : Direction → Type 0
IsInOrder d = d.delivered ≡ take (length d.delivered) d.submitted
