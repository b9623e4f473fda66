-- The one reading of each string of octets. Flags and the frame check sequence are removed (ITU-T Q.921 (09/97), 2).
use Rattle.std.specs.Prelude.{ℕ, ◌<◌, ◌/◌, ◌%◌, ◌==◌, ◌&&◌, not, nat_le, Bool, true, false, List, [], ◌∷◌, length, Option, Some, None, if◌then◌else◌}
use Rattle.link_frames.specs.declared.frame.Sender.{Sender}
use Rattle.link_frames.specs.declared.frame.Supervisory.{Supervisory}
use Rattle.link_frames.specs.declared.frame.Supervisory.TheVariants.{Rr, Rnr, Rej}
use Rattle.link_frames.specs.declared.frame.Control.{Control}
use Rattle.link_frames.specs.declared.frame.Control.TheVariants as control
use Rattle.link_frames.specs.declared.frame.Frame.{Frame}
use Rattle.link_frames.specs.Fields.{address_octet, tei_octet, supervisory_octet, sabme, disc, ua, dm, frmr, ui, xid, modifier, poll_final, receive_number, last_bit, max_information_len}

-- N(R) is a number modulo 128, if the frame has one
abbrev pub IsNumbered : Control → Type 0
IsNumbered (control.Information poll ns nr information) = nr < 128
IsNumbered (control.Supervisory kind pf nr) = nr < 128
IsNumbered _ = Unit {0}

-- an address octet of the sender belongs to a command; none for another SAPI or a wrong EA bit
abbrev pub command_of : Sender → ℕ → Option Bool
command_of sender octet =
    if octet == address_octet sender true then Some true
    else if octet == address_octet sender false then Some false
    else None

-- an I frame (3.4.1): a command with an information field of at most N201 octets
abbrev pub information_with : Bool → ℕ → ℕ → List ℕ → Control
information_with command first last information =
    if command && nat_le (length information) max_information_len
    then control.Information (last_bit last) (first / 2) (receive_number last) information
    else control.Invalid

-- none if the control field has one octet: a frame with sequence numbers has two (2.9)
abbrev pub numbered_information : Bool → ℕ → List ℕ → Option Control
numbered_information command first [] = None
numbered_information command first (last ∷ information) = Some (information_with command first last information)

-- the S frame with this control octet
abbrev pub kind_of : ℕ → Option Supervisory
kind_of octet =
    if octet == supervisory_octet Rr then Some Rr
    else if octet == supervisory_octet Rnr then Some Rnr
    else if octet == supervisory_octet Rej then Some Rej
    else None

abbrev pub supervisory_with : Option Supervisory → ℕ → Control
supervisory_with None last = control.Invalid
supervisory_with (Some kind) last = control.Supervisory kind (last_bit last) (receive_number last)

-- an S frame (3.4.2): two octets of control field and no information field; none if the control field has one octet (2.9)
abbrev pub supervisory : ℕ → List ℕ → Option Control
supervisory first [] = None
supervisory first (last ∷ []) = Some (supervisory_with (kind_of first) last)
supervisory first _ = Some control.Invalid

-- a U frame without an information field (3.4.3, table 5)
abbrev pub unnumbered : Bool → ℕ → Bool → Control
unnumbered true code pf =
    if code == sabme then control.Sabme pf
    else if code == disc then control.Disc pf
    else control.Invalid
unnumbered false code pf =
    if code == ua then control.Ua pf
    else if code == dm then control.Dm pf
    else control.Invalid

abbrev pub without_information : Bool → ℕ → List ℕ → Control
without_information command first [] = unnumbered command (modifier first) (poll_final first)
without_information command first _ = control.Invalid

-- a U frame: UI, XID and FRMR have information fields, which are not read
abbrev pub any_unnumbered : Bool → ℕ → List ℕ → Control
any_unnumbered command first rest =
    if modifier first == ui then control.Ui
    else if modifier first == xid then control.Xid
    else if modifier first == frmr && not command then control.Frmr
    else without_information command first rest

-- the control field and the octets after it: the last two bits of its first octet determine the format (table 4)
abbrev pub control_of : Bool → ℕ → List ℕ → Option Control
control_of command first rest =
    if first % 2 == 0 then numbered_information command first rest
    else if first % 4 == 1 then supervisory first rest
    else Some (any_unnumbered command first rest)

abbrev pub framed : Bool → Option Control → Option Frame
framed command None = None
framed command (Some c) = Some record { command = command; control = c }

abbrev pub frame_with : Option Bool → ℕ → List ℕ → Option Frame
frame_with None first rest = None
frame_with (Some command) first rest = framed command (control_of command first rest)

abbrev pub frame_of : Sender → ℕ → ℕ → ℕ → List ℕ → Option Frame
frame_of sender address tei first rest = if tei == tei_octet then frame_with (command_of sender address) first rest else None

-- the frame of these octets of the sender; none if they are discarded (2.9): fewer than three octets, fewer than four in a frame with sequence
-- numbers, or another address
abbrev pub reading : Sender → List ℕ → Option Frame
reading sender (address ∷ tei ∷ first ∷ rest) = frame_of sender address tei first rest
reading sender _ = None
