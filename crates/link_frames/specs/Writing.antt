-- The octets of a frame (ITU-T Q.921 (09/97), 3.2 to 3.6).
use Rattle.std.specs.Prelude.{ℕ, ◌+◌, ◌*◌, ◌<◌, ◌≤◌, Bool, true, false, List, [], ◌∷◌, length}
use Rattle.link_frames.specs.declared.frame.Sender.{Sender}
use Rattle.link_frames.specs.declared.frame.Control.{Control}
use Rattle.link_frames.specs.declared.frame.Control.TheVariants as control
use Rattle.link_frames.specs.declared.frame.Frame.{Frame}
use Rattle.link_frames.specs.Fields.{address_octet, tei_octet, supervisory_octet, sabme, disc, ua, dm, bit, max_information_len}

-- a control field that can be written, in a command or in a response (table 5)
abbrev pub IsWritable : Bool → Control → Type 0
IsWritable true (control.Information poll ns nr information) = (ns < 128) × (nr < 128) × (length information ≤ max_information_len)
IsWritable command (control.Supervisory kind pf nr) = nr < 128
IsWritable true (control.Sabme pf) = Unit {0}
IsWritable true (control.Disc pf) = Unit {0}
IsWritable false (control.Ua pf) = Unit {0}
IsWritable false (control.Dm pf) = Unit {0}
IsWritable command _ = ⊥

abbrev pub information_in : Control → List ℕ
information_in (control.Information poll ns nr information) = information
information_in _ = []

-- the control field and the information field of the frames that this exchange sends
abbrev pub fields_of : Control → List ℕ
fields_of (control.Information poll ns nr information) = (2 * ns) ∷ (2 * nr + bit poll) ∷ information
fields_of (control.Supervisory kind pf nr) = supervisory_octet kind ∷ (2 * nr + bit pf) ∷ []
fields_of (control.Sabme pf) = (sabme + 16 * bit pf) ∷ []
fields_of (control.Disc pf) = (disc + 16 * bit pf) ∷ []
fields_of (control.Ua pf) = (ua + 16 * bit pf) ∷ []
fields_of (control.Dm pf) = (dm + 16 * bit pf) ∷ []
fields_of _ = []

-- the octets of a frame from this sender
unfoldable pub encoding : Sender → Frame → List ℕ
encoding sender f = address_octet sender f.command ∷ tei_octet ∷ fields_of f.control
