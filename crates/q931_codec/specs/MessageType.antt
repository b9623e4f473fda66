-- The message type, octet 5 of a message (ITU-T Q.931 (05/98), 4.4 and table 4-2).
use Rattle.std.specs.Prelude.{◌≡◌, ℕ, List, [], ◌∷◌, ◌==◌, if◌then◌else◌}
use Rattle.q931_codec.specs.declared.kind.MessageKind.{MessageKind}
use Rattle.q931_codec.specs.declared.kind.MessageKind.TheVariants as kind

-- the octet of a message type
abbrev pub type_of : MessageKind → ℕ
type_of kind.Alerting = 0x01
type_of kind.CallProceeding = 0x02
type_of kind.Progress = 0x03
type_of kind.Setup = 0x05
type_of kind.Connect = 0x07
type_of kind.SetupAcknowledge = 0x0D
type_of kind.ConnectAcknowledge = 0x0F
type_of kind.UserInformation = 0x20
type_of kind.Disconnect = 0x45
type_of kind.Restart = 0x46
type_of kind.Release = 0x4D
type_of kind.RestartAcknowledge = 0x4E
type_of kind.ReleaseComplete = 0x5A
type_of kind.Facility = 0x62
type_of kind.Notify = 0x6E
type_of kind.StatusEnquiry = 0x75
type_of kind.Information = 0x7B
type_of kind.Status = 0x7D
type_of (kind.Unknown octet) = octet

-- the message types with a name
abbrev pub named_kinds : List MessageKind
named_kinds =
    kind.Alerting ∷ kind.CallProceeding ∷ kind.Progress ∷ kind.Setup ∷ kind.Connect ∷ kind.SetupAcknowledge ∷ kind.ConnectAcknowledge
    ∷ kind.UserInformation ∷ kind.Disconnect ∷ kind.Restart ∷ kind.Release ∷ kind.RestartAcknowledge ∷ kind.ReleaseComplete
    ∷ kind.Facility ∷ kind.Notify ∷ kind.StatusEnquiry ∷ kind.Information ∷ kind.Status ∷ []

-- the kind in the list with this octet
abbrev pub kind_among : List MessageKind → ℕ → MessageKind
kind_among [] octet = kind.Unknown octet
kind_among (k ∷ ks) octet = if octet == type_of k then k else kind_among ks octet

abbrev pub kind_of : ℕ → MessageKind
kind_of octet = kind_among named_kinds octet

-- an unknown type is not the octet of a type with a name
abbrev pub IsKind : MessageKind → Type 0
IsKind k = kind_of (type_of k) ≡ k

abbrev pub IsNamed : MessageKind → Type 0
IsNamed kind.Alerting = Unit {0}
IsNamed kind.CallProceeding = Unit {0}
IsNamed kind.Progress = Unit {0}
IsNamed kind.Setup = Unit {0}
IsNamed kind.Connect = Unit {0}
IsNamed kind.SetupAcknowledge = Unit {0}
IsNamed kind.ConnectAcknowledge = Unit {0}
IsNamed kind.UserInformation = Unit {0}
IsNamed kind.Disconnect = Unit {0}
IsNamed kind.Restart = Unit {0}
IsNamed kind.Release = Unit {0}
IsNamed kind.RestartAcknowledge = Unit {0}
IsNamed kind.ReleaseComplete = Unit {0}
IsNamed kind.Facility = Unit {0}
IsNamed kind.Notify = Unit {0}
IsNamed kind.StatusEnquiry = Unit {0}
IsNamed kind.Information = Unit {0}
IsNamed kind.Status = Unit {0}
IsNamed (kind.Unknown octet) = ⊥
