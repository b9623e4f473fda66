-- The source of a slot's octets, as a number. Source: this project.
use Rattle.std.specs.Prelude.{ℕ, ◌-◌, nat_lt, Bool, false, if◌then◌else◌}
use Rattle.circuit_model.specs.declared.circuit.Kind.TheVariants.{Ringback, Busy}
use Rattle.control_memory.specs.declared.heard.Heard.{Heard}
use Rattle.control_memory.specs.declared.heard.Heard.TheVariants.{Silent, Path, Tone}

-- a path is the number of its first frame, below 2^32; a ringing tone, a busy tone and silence come after it, 2^32
-- numbers for each tone
abbrev pub heard_in : ℕ → Heard
heard_in number =
    if nat_lt number 4294967296 then Path number
    else if nat_lt number 8589934592 then Tone Ringback (number - 4294967296)
    else if nat_lt number 12884901888 then Tone Busy (number - 8589934592)
    else Silent

-- a path that has existed since before a frame
abbrev pub is_path_before : ℕ → Heard → Bool
is_path_before frame Silent = false
is_path_before frame (Path since) = nat_lt since frame
is_path_before frame (Tone kind since) = false
