-- A stored reply, until it is reported. Source: this project.
use Rattle.exchange_events.specs.declared.answer.Kept.{Kept}
use Rattle.exchange_events.specs.declared.answer.Kept.TheVariants as k
use Rattle.exchange_events.specs.declared.reply.Reply.{Reply}
use Rattle.exchange_events.specs.declared.reply.Reply.TheVariants as r

-- the reply with its lists stored
abbrev pub kept_of : Reply → Kept
kept_of (r.Granted a b) = k.Granted a b
kept_of r.Busy = k.Busy
kept_of (r.Seated a b) = k.Seated a b
kept_of r.NoPort = k.NoPort
kept_of r.Freed = k.Freed
kept_of r.NotNailed = k.NotNailed
kept_of (r.Sent sends moved records) = k.Sent sends moved records
kept_of (r.Frame number sends records) = k.Frame number sends records
