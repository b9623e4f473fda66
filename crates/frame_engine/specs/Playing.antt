-- The octet that an engine outputs on a slot. Source: this project.
use Rattle.std.specs.Prelude.{◌≡◌, ℕ, ◌<◌, ◌-◌, Bool, false, List, slice_index, slice_index_or, if◌then◌else◌}
use Rattle.circuit_model.specs.declared.channel.Slot.{Slot}
use Rattle.circuit_model.specs.declared.circuit.Kind.{Kind}
use Rattle.circuit_model.specs.FrameInput.{idle_octet}
use Rattle.circuit_model.specs.Hears.{is_through, tone_octet}
use Rattle.control_memory.specs.declared.heard.Heard.{Heard}
use Rattle.control_memory.specs.declared.heard.Heard.TheVariants.{Silent, Path, Tone}
use Rattle.control_memory.specs.HeardRows.{heard_on}
use Rattle.control_memory.specs.Layout.{number_of}
use Rattle.control_memory.specs.Image.{Control}
use Rattle.tone_rules.specs.declared.tones.Tones.{Tones}
use Rattle.tone_rules.specs.Tables.{IsGiven}

-- the octet that is output on a slot in frame f, by the source of the slot: the idle octet, the octet that was read out
-- for the slot once its path is two frames old, or the octet of a tone
abbrev pub played_as : (Kind → List ℕ) → ℕ → ℕ → Heard → ℕ
played_as tones f octet Silent = idle_octet
played_as tones f octet (Path since) = if is_through since f then octet else idle_octet
played_as tones f octet (Tone kind since) = tone_octet (tones kind) (f - since)

-- whether a path is received in frame f, because it is two frames old
abbrev pub hears_path : ℕ → Heard → Bool
hears_path f Silent = false
hears_path f (Path since) = is_through since f
hears_path f (Tone kind since) = false

-- the octet of a path that is received, or the idle octet
abbrev pub by_path : ℕ → ℕ → Heard → ℕ
by_path f octet heard = if hears_path f heard then octet else idle_octet

-- the octet after the paths gave one: that octet, or the octet of a tone
abbrev pub with_tone : (Kind → List ℕ) → ℕ → ℕ → Heard → ℕ
with_tone tones f octet Silent = octet
with_tone tones f octet (Path since) = octet
with_tone tones f octet (Tone kind since) = tone_octet (tones kind) (f - since)

-- the output on each slot in frame f, given the tones, the source of each slot and the octets that were read out
abbrev pub played_on : (Kind → List ℕ) → ℕ → List Heard → (Slot → ℕ) → Slot → ℕ
played_on tones f heard octet at = played_as tones f (octet at) (slice_index_or heard (number_of at) Silent)

-- the same by the control memory of the frame
abbrev pub played_at : (Kind → List ℕ) → Control → (Slot → ℕ) → Slot → ℕ
played_at tones m = played_on tones m.frame m.heard

-- a line has these 30 octets, by place
abbrev pub HasLine : ℕ → (Slot → ℕ) → List ℕ → Type 0
HasLine line octet octets = (place : ℕ) → place < 30 → slice_index octets place ≡ octet (record { line = line; place = place })

-- the octet of each place of a line follows from the source of the place
abbrev pub EachPlace : (ℕ → Heard → ℕ) → List Heard → List ℕ → Type 0
EachPlace octet heard octets = (place : ℕ) → place < 30 → slice_index octets place ≡ octet place (slice_index_or heard place Silent)

-- each tone that a place of a line receives is given
abbrev pub AreGiven : Tones → List Heard → Type 0
AreGiven tones heard = (place : ℕ) (kind : Kind) (since : ℕ) → place < 30 → slice_index_or heard place Silent ≡ Tone kind since → IsGiven tones kind

-- each tone that a place of a line receives is given, where a list has the source of each slot
abbrev pub AreGivenOn : Tones → List Heard → ℕ → Type 0
AreGivenOn tones heard line = (place : ℕ) (kind : Kind) (since : ℕ) → place < 30 → heard_on heard line place ≡ Tone kind since → IsGiven tones kind
