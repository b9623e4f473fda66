-- The octets of a frame.
use Rattle.std.proofs.Common.{◌≡◌, ℕ, List}
use Rattle.circuit_model.specs.declared.channel.Slot.{Slot}
use Rattle.report_text.specs.Report.{lines_sent, octet_of}
use Rattle.report_text.proofs.Rows.{sent_same}
use Rattle.frame_engine.specs.Frames.{PlaysOut}

-- what an engine has written out is what it plays
pub sent_played : (lines : ℕ) (octet : Slot → ℕ) (out : List (List ℕ)) → PlaysOut lines octet out → lines_sent (octet_of out) lines ≡ lines_sent octet lines
sent_played lines octet out plays = sent_same (octet_of out) octet lines (λ line place below inside. plays (record { line = line; place = place }) below inside)
