use Rattle.std.proofs.Common.{◌≡◌, ℕ, ◌≤◌, refl, arith, inl, inr}
use Rattle.std.specs.Prelude.{is_some}
use Rattle.std.proofs.lemmas.Bool.{cases_lt, agree_below_at, lt-leb, le-ltb}
use Rattle.circuit_model.specs.Channels.{place_of}
use Rattle.q931_codec.specs.Contents.{is_bearer_channel}
use Rattle.call_states.proofs.laws.law_of_channels.Goals as goal

beyond : (n : ℕ) → 32 ≤ n → is_bearer_channel n ≡ is_some (place_of n)
beyond n le = grind (arith, lt-leb n 15 (omega arith), lt-leb n 31 (omega arith), le-ltb n 32 le)

pub returns : goal.returns
returns c channel =
    elim (cases_lt channel 32) [
      | inl lt ↦ agree_below_at is_bearer_channel (λ n. is_some (place_of n)) 32 channel refl lt
      | inr le ↦ beyond channel le
    ]
