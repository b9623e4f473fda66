-- What a step of a link can lose, send and deliver, for any peer (ITU-T Q.921 (09/97), 5.5 to 5.8).
use Rattle.std.specs.Prelude.{◌≡◌, ◌≢◌, ◌⊎◌, ℕ, ◌+◌, ◌%◌, ◌<◌, ◌≤◌, true, false, List, [], ◌∷◌, ◌++◌, length, drop, slice_index_or, Option, Some, None, All, if◌then◌else◌}
use Rattle.link_frames.specs.declared.frame.Sender.TheVariants.{Network}
use Rattle.link_frames.specs.declared.frame.Control.{Control}
use Rattle.link_frames.specs.declared.frame.Control.TheVariants as control
use Rattle.link_frames.specs.declared.frame.Frame.{Frame}
use Rattle.link_frames.specs.Reading.{reading}
use Rattle.link_procedures.specs.declared.state.Indication.{Indication}
use Rattle.link_procedures.specs.declared.state.Indication.TheVariants as indication
use Rattle.link_procedures.specs.Links.{SendQueue, DataLink, Step, distance, is_valid, is_multiple_frame, is_awaiting, is_up, max_queue_len}
use Rattle.link_procedures.specs.Establishment.{Outcome}

-- the octets of a message of layer 3 that a link can carry
abbrev pub IsShort : List ℕ → Type 0
IsShort message = length message ≤ 112

-- at most seven messages are sent and not acknowledged (5.9.5), at most 64 wait, and V(A) is a number modulo 128
pub record IsQueue (q : SendQueue) : Type 0 where
  pub window : q.sent ≤ 7
  pub sent : q.sent ≤ length q.waiting
  pub few : length q.waiting ≤ 64
  pub short : All IsShort q.waiting
  pub number : q.acknowledged < 128

-- the variables of a link are in their ranges (3.5.2)
pub record IsLink (l : DataLink) : Type 0 where
  pub queue : IsQueue l.queue
  pub next : l.received < 128
  pub counter : l.retries ≤ 3

-- ---- what is lost

-- the number of messages that N(R) acknowledges; none if it is not valid (5.6.3.2, 5.8.2)
abbrev pub accepted : SendQueue → ℕ → ℕ
accepted q nr = if is_valid q nr then distance q nr else 0

abbrev pub acknowledged_in : Control → SendQueue → ℕ
acknowledged_in (control.Information poll ns nr information) q = accepted q nr
acknowledged_in (control.Supervisory kind pf nr) q = accepted q nr
acknowledged_in _ q = 0

-- the number of messages that the frame acknowledges: only in states 7 and 8
abbrev pub acknowledged_by : Control → DataLink → ℕ
acknowledged_by c l = if is_multiple_frame l.state then acknowledged_in c l.queue else 0

-- the messages after the first n go on waiting, and no loss is forgotten
abbrev pub Keeps : ℕ → DataLink → DataLink → Type 0
Keeps n before after = (after.queue.waiting ≡ drop n before.queue.waiting) × (after.owed ≡ before.owed)

-- layer 3 is informed that its messages may be lost: DL-ESTABLISH or DL-RELEASE
abbrev pub IsLossIndication : Option Indication → Type 0
IsLossIndication (Some indication.Established) = Unit {0}
IsLossIndication (Some indication.Released) = Unit {0}
IsLossIndication _ = ⊥

-- layer 3 is informed at once; all messages are discarded, and every loss is known to it
abbrev pub IsLossTold : Outcome → Type 0
IsLossTold o = (o.link.queue.waiting ≡ []) × (o.link.owed ≡ false) × IsLossIndication o.indication

-- layer 3 is informed of an earlier loss by a release
abbrev pub IsDebtSettled : DataLink → Outcome → Type 0
IsDebtSettled before o = (o.link.queue.waiting ≡ before.queue.waiting) × (o.link.owed ≡ false) × (o.indication ≡ Some indication.Released)

-- layer 3 is informed of an earlier loss by a release, or of nothing yet
abbrev pub IsReleasedOrOwed : Outcome → Type 0
IsReleasedOrOwed o = (o.indication ≡ Some indication.Released) ⊎ ((o.indication ≡ None) × (o.link.owed ≡ true))

-- a link in state 5 that has lost messages is released for layer 3 before it is established
abbrev pub IsReleasedFirst : DataLink → Outcome → Type 0
IsReleasedFirst before o = before.owed ≡ true → is_awaiting before.state ≡ true → IsReleasedOrOwed o

-- the message waits after the others
abbrev pub IsAdded : List ℕ → DataLink → DataLink → Type 0
IsAdded message before after = (after.queue.waiting ≡ before.queue.waiting ++ message ∷ []) × (after.owed ≡ before.owed)

-- all messages are discarded, and layer 3 is informed in the link's next turn
abbrev pub IsLossOwed : DataLink → Type 0
IsLossOwed l = (l.queue.waiting ≡ []) × (l.owed ≡ true)

-- only what the frame acknowledges leaves the queue, or all messages do and layer 3 is informed
abbrev pub KeepsOrTells : Control → DataLink → Outcome → Type 0
KeepsOrTells c before o = Keeps (acknowledged_by c before) before o.link ⊎ IsLossTold o

-- if the link is up, the message waits after the others, or, if the queue is full, all are lost; otherwise the queue is unchanged
pub record AddsOrOwes (message : List ℕ) (before after : DataLink) : Type 0 where
  pub room : is_up before ≡ true → length before.queue.waiting < max_queue_len → IsAdded message before after
  pub full : is_up before ≡ true → max_queue_len ≤ length before.queue.waiting → IsLossOwed after
  pub down : is_up before ≡ false → Keeps 0 before after

-- layer 3 is informed of an earlier loss; if it is informed of all, nothing leaves the queue, or all messages do and it is informed
pub record KeepsOrSettles (before : DataLink) (o : Outcome) : Type 0 where
  pub owing : before.owed ≡ true → IsDebtSettled before o
  pub informed : before.owed ≡ false → Keeps 0 before o.link ⊎ IsLossTold o

-- ---- what is sent

-- an I frame carries the message of its number: N(S) is one of the seven numbers from V(A) (5.5.1, 5.9.5)
abbrev pub CarriesItsMessage : SendQueue → ℕ → List ℕ → Type 0
CarriesItsMessage q ns information = (distance q ns < 7) × (distance q ns < length q.waiting) × (information ≡ slice_index_or q.waiting (distance q ns) [])

abbrev pub IsInWindow : SendQueue → Control → Type 0
IsInWindow q (control.Information poll ns nr information) = CarriesItsMessage q ns information
IsInWindow q _ = Unit {0}

-- N(R) of an I frame or an S frame is this number, which is V(R): all I frames before it are acknowledged (3.5.2.6)
abbrev pub Acknowledges : ℕ → Control → Type 0
Acknowledges received (control.Information poll ns nr information) = nr ≡ received
Acknowledges received (control.Supervisory kind pf nr) = nr ≡ received
Acknowledges received _ = Unit {0}

-- the peer reads the octets as one frame; an I frame carries the message of its number, and N(R) is this V(R)
pub record IsFormed (q : SendQueue) (received : ℕ) (octets : List ℕ) : Type 0 where
  pub frame : Frame
  pub read : reading Network octets ≡ Some frame
  pub inside : IsInWindow q frame.control
  pub acknowledges : Acknowledges received frame.control

-- the frames sent are appended, and each is well formed
pub record HasSent (q : SendQueue) (received : ℕ) (before after : List (List ℕ)) : Type 0 where
  pub sent : List (List ℕ)
  pub appended : after ≡ before ++ sent
  pub formed : All (IsFormed q received) sent

abbrev pub SendsFrames : Step → DataLink → List (List ℕ) → Type 0
SendsFrames s after out = IsLink s.link → HasSent after.queue after.received s.out out

-- ---- what is delivered

abbrev pub send_number : Control → Option ℕ
send_number (control.Information poll ns nr information) = Some ns
send_number _ = None

-- V(S), V(A) and V(R) are 0: an establishment
abbrev pub IsRenumbered : DataLink → Type 0
IsRenumbered l = (l.queue.sent ≡ 0) × (l.queue.acknowledged ≡ 0) × (l.received ≡ 0)

abbrev pub IsSequenced : Control → DataLink → DataLink → Option Indication → Type 0
IsSequenced c before after (Some indication.Data) = (send_number c ≡ Some before.received) × (after.received ≡ (before.received + 1) % 128)
IsSequenced c before after _ = (after.received ≡ before.received) ⊎ IsRenumbered after

-- the message of the frame is delivered only if N(S) is V(R), which then becomes the next number; otherwise V(R) changes only by an establishment
abbrev pub IsInSequence : Control → DataLink → Outcome → Type 0
IsInSequence c before o = IsSequenced c before o.link o.indication

abbrev pub DeliversNothing : DataLink → Outcome → Type 0
DeliversNothing before o = (o.indication ≢ Some indication.Data) × (o.link.received ≡ before.received)
