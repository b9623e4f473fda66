-- Establishment, re-establishment and release of multiple frame operation (ITU-T Q.921 (09/97), 5.5 and 5.7, figure B.9).
use Rattle.std.specs.Prelude.{ℕ, not, nat_lt, nat_le, Bool, true, false, List, [], ◌∷◌, ◌++◌, length, Option, Some, None, if◌then◌else◌}
use Rattle.link_frames.specs.declared.frame.Control.TheVariants as control
use Rattle.link_procedures.specs.declared.state.State.TheVariants as state
use Rattle.link_procedures.specs.declared.state.Indication.{Indication}
use Rattle.link_procedures.specs.declared.state.Indication.TheVariants as indication
use Rattle.link_procedures.specs.Links.{SendQueue, DataLink, Step, step, emptied, renumbered, max_queue_len, is_up, is_awaiting, t200, t203}
use Rattle.link_procedures.specs.Sending.{command, sends, flushes}

-- the result of a received frame or an expiry: the link, the frames sent, and the indication to layer 3
pub record Outcome : Type 0 where
  pub link : DataLink
  pub out : List (List ℕ)
  pub indication : Option Indication

abbrev pub quietly : Step → Outcome
quietly s = record { link = s.link; out = s.out; indication = None }

abbrev pub indicating : Indication → Step → Outcome
indicating i s = record { link = s.link; out = s.out; indication = Some i }

-- the exception conditions end
abbrev pub cleared : DataLink → DataLink
cleared l = record l { busy = false; rejecting = false; pending = false }

-- SABME with P 1 is sent, and T200 starts (5.5.1.2; 5.7.2)
abbrev pub awaiting : Bool → ℕ → DataLink → DataLink
awaiting asked at l = record (cleared l) { state = state.AwaitingEstablishment; asked = asked; retries = 0; timer = t200 at }

unfoldable pub establishes : Bool → ℕ → Step → Step
establishes asked at s = step (awaiting asked at s.link) (sends (command (control.Sabme true)) s).out

-- multiple frame operation starts: all variables are 0, and T203 starts
unfoldable pub established : ℕ → DataLink → DataLink
established at l = record (cleared l) { state = state.MultipleFrameEstablished; asked = false; queue = renumbered l.queue; received = 0; timer = t203 at }

-- the messages are discarded, and layer 3 is informed
unfoldable pub lost : DataLink → DataLink
lost l = record l { queue = emptied l.queue; owed = false }

-- established for layer 3: on its request, or after a loss; otherwise the messages go on waiting (5.7)
unfoldable pub begun : Bool → ℕ → DataLink → DataLink
begun is_new at l = if is_new then established at (lost l) else established at l

abbrev pub begun_indication : Bool → Option Indication
begun_indication is_new = if is_new then Some indication.Established else None

abbrev pub begins : Bool → ℕ → Step → Outcome
begins is_new at s = record { link = begun is_new at s.link; out = s.out; indication = begun_indication is_new }

-- some sent messages are not acknowledged
abbrev pub is_uncertain : SendQueue → Bool
is_uncertain q = nat_lt 0 q.sent

-- the link is released, and starts again after T200
unfoldable pub released : ℕ → DataLink → DataLink
released at l = record (lost l) { state = state.TeiAssigned; asked = true; timer = t200 at }

abbrev pub releases : ℕ → Step → Outcome
releases at s = indicating indication.Released (step (released at s.link) s.out)

-- layer 3 is informed of an earlier loss before an establishment: the link is released for it, and another SABME is sent
abbrev pub releases_first : ℕ → Step → Outcome
releases_first at s = indicating indication.Released (establishes true at (step (lost s.link) s.out))

-- ---- a message of layer 3

-- all messages are discarded; layer 3 will be informed
abbrev pub overflowed : DataLink → DataLink
overflowed l = record l { queue = emptied l.queue; owed = true }

unfoldable pub overflows : ℕ → Step → Step
overflows at s =
    if is_awaiting s.link.state then step (record (overflowed s.link) { asked = true }) s.out
    else establishes true at (step (overflowed s.link) s.out)

unfoldable pub queued : List ℕ → SendQueue → SendQueue
queued message q = record { waiting = q.waiting ++ message ∷ []; sent = q.sent; acknowledged = q.acknowledged }

-- a message is queued, and sent if the window is open; it is lost if the link is not up
unfoldable pub submitted : List ℕ → ℕ → Step → Step
submitted message at s =
    if not (is_up s.link) then s
    else if nat_le max_queue_len (length s.link.queue.waiting) then overflows at s
    else flushes at (step (record s.link { queue = queued message s.link.queue }) s.out)
