-- The slots of the external lines, which circuits connect. Source: this project; the exchange allocates ports of bridge
-- lines, and no command refers to one.
use Rattle.std.specs.Prelude.{ℕ, ◌<◌, List, [], ◌∷◌}
use Rattle.circuit_model.specs.declared.channel.Slot.{Slot}
use Rattle.circuit_model.specs.declared.circuit.Circuit.{Circuit}
use Rattle.circuit_model.specs.declared.circuit.Circuit.TheVariants.{Pair, Member, Tone}
use Rattle.circuit_model.specs.Holding.{Command, Connect, Seat, Give_tone, Clear, Frame}

-- a slot of n external lines
abbrev pub IsExternal : ℕ → Slot → Type 0
IsExternal lines x = (x.line < lines) × (x.place < 30)

-- a command, or a circuit, that uses such slots only
abbrev pub CommandWithin : ℕ → Command → Type 0
CommandWithin lines (Connect x y) = IsExternal lines x × IsExternal lines y
CommandWithin lines (Seat x room) = IsExternal lines x
CommandWithin lines (Give_tone x kind) = IsExternal lines x
CommandWithin lines (Clear x) = Unit {0}
CommandWithin lines Frame = Unit {0}

abbrev pub NamesWithin : ℕ → Circuit → Type 0
NamesWithin lines (Pair x y since) = IsExternal lines x × IsExternal lines y
NamesWithin lines (Member room x since) = IsExternal lines x
NamesWithin lines (Tone kind x since) = IsExternal lines x

-- each of the commands uses such slots only
abbrev pub AreWithin : ℕ → List Command → Type 0
AreWithin lines [] = Unit {0}
AreWithin lines (c ∷ cs) = CommandWithin lines c × AreWithin lines cs
