-- The messages of a generated call: ITU-T Q.931 (05/98), one call reference for all of them.
use Rattle.std.specs.Prelude.{ℕ, List, [], ◌∷◌, ◌++◌, length}

-- the octet of the call reference that holds its flag: set by the side that did not choose the reference
abbrev pub from_originator : ℕ
from_originator = 0x00

abbrev pub from_destination : ℕ
from_destination = 0x80

-- protocol discriminator, length of the call reference, call reference 1, message type, elements
abbrev pub message : ℕ → ℕ → List ℕ → List ℕ
message flag kind elements = 0x08 ∷ 0x02 ∷ flag ∷ 0x01 ∷ kind ∷ elements

-- an information element: its identifier, the length of its contents, and these
abbrev pub element : ℕ → List ℕ → List ℕ
element identifier contents = identifier ∷ length contents ∷ contents

-- speech in circuit mode at 64 kbit/s, A-law
abbrev pub speech : List ℕ
speech = element 0x04 (0x80 ∷ 0x90 ∷ 0xA3 ∷ [])

-- the number, of unknown type and plan, in ASCII digits
abbrev pub called_party : List ℕ → List ℕ
called_party number = element 0x70 (0x80 ∷ number)

-- cause 16, normal call clearing, of the user
abbrev pub normal_clearing : List ℕ
normal_clearing = element 0x08 (0x80 ∷ 0x90 ∷ [])

abbrev pub setup : List ℕ → List ℕ
setup number = message from_originator 0x05 (speech ++ called_party number)

abbrev pub connect : List ℕ
connect = message from_destination 0x07 []

abbrev pub disconnect : List ℕ
disconnect = message from_originator 0x45 normal_clearing

abbrev pub release : List ℕ
release = message from_destination 0x4D []

abbrev pub release_complete : List ℕ
release_complete = message from_originator 0x5A []
