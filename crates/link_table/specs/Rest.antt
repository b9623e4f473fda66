-- The frames that a link still owes its peer in a step, and the bounds of a step. Source: this project.
use Rattle.std.specs.Prelude.{◌≡◌, ◌≢◌, ◌⊎◌, ℕ, ◌+◌, ◌-◌, ◌≤◌, ◌&&◌, not, min, false, List, length, Option, Some, None, if◌then◌else◌}
use Rattle.link_procedures.specs.Links.{DataLink, SendQueue, is_established}
use Rattle.link_procedures.specs.AnyPeer.{IsLink}
use Rattle.link_table.specs.Tables.{Table, IsLinkOf, link_of}

-- the I frames that the window permits
abbrev pub in_window : SendQueue → ℕ
in_window q = min (7 - q.sent) (length q.waiting - q.sent)

-- the I frames that the link may send
unfoldable pub sendable : DataLink → ℕ
sendable l = if is_established l.state && not l.busy then in_window l.queue else 0

-- the link has sent all that it may, and no acknowledgement is pending
pub record IsAtRest (l : DataLink) : Type 0 where
  pub quiet : sendable l ≡ 0
  pub acknowledged : l.pending ≡ false

-- the line that receives has a link. At most two frames are sent, and one for each message submitted. Or at most eight are, and one for each message,
-- and the link has sent all that it may
abbrev pub IsWithin : Option DataLink → Table → Type 0
IsWithin None t = ⊥
IsWithin (Some l) t = (length t.frames ≤ 2 + t.messages) ⊎ ((sendable l ≡ 0) × (length t.frames ≤ 8 + t.messages))

-- at most ten frames, and one for each message submitted
abbrev pub IsBounded : Option ℕ → Table → Type 0
IsBounded None t = length t.frames ≤ 10 + t.messages
IsBounded (Some line) t = IsWithin (link_of line t) t

-- the variables of each link are in their ranges (3.5.2), and each link but the receiving one is at rest
pub record AreLinks (links : List (Option DataLink)) (receiving : Option ℕ) : Type 0 where
  pub ranges : (line : ℕ) (l : DataLink) → IsLinkOf links line l → IsLink l
  pub rest : (line : ℕ) (l : DataLink) → IsLinkOf links line l → receiving ≢ Some line → IsAtRest l

pub record IsTable (t : Table) : Type 0 where
  pub links : AreLinks t.links t.receiving
  pub bounded : IsBounded t.receiving t
  pub marked : length t.lines ≡ length t.frames
  pub messages : t.messages ≤ 64
