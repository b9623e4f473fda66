-- A new numbering that layer 3 does not notice (ITU-T Q.921 (09/97), 5.7).
use Rattle.std.specs.Prelude.{◌≡◌, ◌⊎◌, Option, Some, None}
use Rattle.link_procedures.specs.declared.state.Indication.{Indication}
use Rattle.link_procedures.specs.Links.{DataLink}
use Rattle.link_procedures.specs.Establishment.{Outcome}

-- V(R) stays, or nothing was unacknowledged, and the messages go on waiting
abbrev pub GoesOn : DataLink → DataLink → Type 0
GoesOn before after = (after.received ≡ before.received) ⊎ ((before.queue.sent ≡ 0) × (after.queue.waiting ≡ before.queue.waiting))

abbrev pub GoesOnSilently : DataLink → DataLink → Option Indication → Type 0
GoesOnSilently before after None = GoesOn before after
GoesOnSilently before after (Some i) = Unit {0}

-- without an indication
abbrev pub IsSilent : DataLink → Outcome → Type 0
IsSilent before o = GoesOnSilently before o.link o.indication
