-- The state of a data link (ITU-T Q.921 (09/97), 3.5.2 and annex B).
use Rattle.std.specs.Prelude.{ℕ, ◌+◌, ◌-◌, ◌%◌, ◌&&◌, ◌||◌, not, nat_lt, nat_le, Bool, true, false, List, [], length, drop}
use Rattle.link_procedures.specs.declared.state.State.{State}
use Rattle.link_procedures.specs.declared.state.State.TheVariants as state
use Rattle.link_procedures.specs.declared.state.Timer.{Timer}
use Rattle.link_procedures.specs.declared.state.Running.TheVariants.{T200, T203}

-- the I queue: the messages that are not acknowledged, in order; the number of sent messages among them; and V(A)
pub record SendQueue : Type 0 where
  pub waiting : List (List ℕ)
  pub sent : ℕ
  pub acknowledged : ℕ

pub record DataLink : Type 0 where
  pub state : State
  -- layer 3 initiated
  pub asked : Bool
  pub queue : SendQueue
  -- V(R)
  pub received : ℕ
  -- peer receiver busy
  pub busy : Bool
  -- reject exception
  pub rejecting : Bool
  -- acknowledge pending
  pub pending : Bool
  -- messages are lost, and layer 3 has not been informed
  pub owed : Bool
  -- the retransmission counter, RC
  pub retries : ℕ
  pub timer : Timer

-- ---- numbers modulo 128 (3.5.2)

-- k: the maximum number of sent I frames that are not acknowledged (5.9.5)
abbrev pub window : ℕ
window = 7

-- the maximum number of messages that are not acknowledged
abbrev pub max_queue_len : ℕ
max_queue_len = 64

-- V(S)
unfoldable pub next_number : SendQueue → ℕ
next_number q = (q.acknowledged + q.sent) % 128

-- the number of messages that N(R) acknowledges
unfoldable pub distance : SendQueue → ℕ → ℕ
distance q nr = (nr + 128 - q.acknowledged) % 128

-- V(A) ≤ N(R) ≤ V(S)
unfoldable pub is_valid : SendQueue → ℕ → Bool
is_valid q nr = nat_le (distance q nr) q.sent

-- ---- the I queue

-- V(A) becomes N(R) (5.6.3.2)
unfoldable pub acknowledged : SendQueue → ℕ → SendQueue
acknowledged q nr = record { waiting = drop (distance q nr) q.waiting; sent = q.sent - distance q nr; acknowledged = nr }

-- V(S) becomes V(A)
unfoldable pub returned : SendQueue → SendQueue
returned q = record { waiting = q.waiting; sent = 0; acknowledged = q.acknowledged }

-- the I queue is discarded
unfoldable pub emptied : SendQueue → SendQueue
emptied q = record { waiting = []; sent = 0; acknowledged = q.acknowledged }

-- V(S) and V(A) become 0
unfoldable pub renumbered : SendQueue → SendQueue
renumbered q = record { waiting = q.waiting; sent = 0; acknowledged = 0 }

unfoldable pub may_send : SendQueue → Bool
may_send q = nat_lt q.sent window && nat_lt q.sent (length q.waiting)

-- ---- states

unfoldable pub is_awaiting : State → Bool
is_awaiting state.AwaitingEstablishment = true
is_awaiting _ = false

unfoldable pub is_established : State → Bool
is_established state.MultipleFrameEstablished = true
is_established _ = false

unfoldable pub is_recovering : State → Bool
is_recovering state.TimerRecovery = true
is_recovering _ = false

-- multiple frame operation: states 7 and 8
unfoldable pub is_multiple_frame : State → Bool
is_multiple_frame s = is_established s || is_recovering s

-- the link accepts messages of layer 3: in states 7 and 8, and in 5 while the link re-establishes itself
unfoldable pub is_up : DataLink → Bool
is_up l = is_multiple_frame l.state || (is_awaiting l.state && not l.asked)

-- ---- timers: one always runs

abbrev pub t200 : ℕ → Timer
t200 at = record { running = T200; since = at }

abbrev pub t203 : ℕ → Timer
t203 at = record { running = T203; since = at }

-- a link at its start
abbrev pub initial : ℕ → DataLink
initial at = record {
  state = state.TeiAssigned;
  asked = true;
  queue = record { waiting = []; sent = 0; acknowledged = 0 };
  received = 0;
  busy = false;
  rejecting = false;
  pending = false;
  owed = false;
  retries = 0;
  timer = t200 at;
}

-- ---- steps

-- a link, and the frames that were sent
pub record Step : Type 0 where
  pub link : DataLink
  pub out : List (List ℕ)

abbrev pub step : DataLink → List (List ℕ) → Step
step l out = record { link = l; out = out }
