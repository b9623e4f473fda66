-- The bound on the messages that the exchange writes. Source: this project.
use Rattle.std.specs.Prelude.{ℕ}

-- the greatest number of octets of a message
abbrev pub max_message_len : ℕ
max_message_len = 112
