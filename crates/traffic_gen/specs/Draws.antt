-- Pseudo-random draws. Source: the linear congruential generator on 64 bits with the constants of
-- Knuth's MMIX (D. E. Knuth, The Art of Computer Programming, volume 2, section 3.3.4).
use Rattle.std.specs.Prelude.{ℕ, zero, suc, ◌+◌, ◌*◌, ◌/◌, ◌%◌, ◌^◌, List, [], ◌∷◌}

abbrev pub multiplier : ℕ
multiplier = 6364136223846793005

abbrev pub increment : ℕ
increment = 1442695040888963407

-- the state after one draw
unfoldable pub next_state : ℕ → ℕ
next_state state = (state * multiplier + increment) % 2 ^ 64

-- the value of a draw below a bound, from the state after it: the low bits of such a generator have short periods, so
-- the upper 31 are used
unfoldable pub drawn : ℕ → ℕ → ℕ
drawn bound state = state / 2 ^ 33 % bound

-- the state after n draws
unfoldable pub state_after : ℕ → ℕ → ℕ
state_after zero state = state
state_after (suc draws) state = state_after draws (next_state state)

-- n octets, a draw below 256 each
unfoldable pub octets_drawn : ℕ → ℕ → List ℕ
octets_drawn zero state = []
octets_drawn (suc count) state = drawn 256 (next_state state) ∷ octets_drawn count (next_state state)
