-- The octets of the tones. Source: this project; ITU-T Q.35 names the tones.
use Rattle.std.specs.Prelude.{ℕ, ◌<◌, [], List, length}
use Rattle.circuit_model.specs.declared.circuit.Kind.{Kind}
use Rattle.circuit_model.specs.declared.circuit.Kind.TheVariants.{Ringback, Busy}
use Rattle.tone_rules.specs.declared.tones.Tones.{Tones}

-- the octets of a kind of tone; none if the tone is not given
abbrev pub table_of : Tones → Kind → List ℕ
table_of tones Ringback = tones.ringback
table_of tones Busy = tones.busy

-- the tone is given
abbrev pub IsGiven : Tones → Kind → Type 0
IsGiven tones kind = 0 < length (table_of tones kind)

-- the tones of which none is given
abbrev pub no_tones : Tones
no_tones = record { ringback = []; busy = [] }

-- the tones once one has these octets
abbrev pub with_octets : Tones → Kind → List ℕ → Tones
with_octets tones Ringback octets = record tones { ringback = octets }
with_octets tones Busy octets = record tones { busy = octets }
