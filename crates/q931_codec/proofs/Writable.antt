-- Which outgoing messages can be encoded, by the values that they have.
use Rattle.std.proofs.Common.{ℕ, ◌^◌, ◌<◌, Bool, Option, IsTrue, arith}
use Rattle.std.specs.Prelude.{IfSome}
use Rattle.q931_codec.specs.declared.kind.MessageKind.{MessageKind}
use Rattle.q931_codec.specs.Contents.{is_bearer_channel}
use Rattle.q931_codec.specs.MessageType.{IsNamed}
use Rattle.q931_codec.specs.Outgoing.{IsWritable, bare}

-- a message that passes nothing on
pub short_writable : (flag : Bool) (reference : ℕ) (kind : MessageKind) (cause state channel restart : Option ℕ) → reference < 2 ^ 15 → IsNamed kind
    → IfSome cause (λ value. value < 128) → IfSome state (λ state. state < 64) → IfSome channel (λ channel. IsTrue (is_bearer_channel channel))
    → IsWritable (record (bare flag reference kind) { cause = cause; state = state; channel = channel; restart = restart })
short_writable flag reference kind cause state channel restart small named few known bears = record {
  reference = small;
  kind = named;
  bearer = omega arith;
  cause = few;
  state = known;
  channel = bears;
  calling = omega arith;
  called = omega arith;
  low = omega arith;
  high = omega arith;
}
