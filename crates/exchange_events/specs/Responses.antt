-- The reply of a step, by a short response and the outbox that the step got. Source: this project.
use Rattle.exchange_events.specs.declared.outbox.Outbox.{Outbox}
use Rattle.exchange_events.specs.declared.outbox.Response.{Response}
use Rattle.exchange_events.specs.declared.outbox.Response.TheVariants as response
use Rattle.exchange_events.specs.declared.reply.Reply.{Reply}
use Rattle.exchange_events.specs.declared.reply.Reply.TheVariants.{Granted, Busy, Seated, NoPort, Freed, NotNailed, Sent, Frame}

-- the reply: the response, with the outbox's lists if it has lists
abbrev pub reply_of : Response → Outbox → Reply
reply_of (response.Granted a b) out = Granted a b
reply_of response.Busy out = Busy
reply_of (response.Seated a b) out = Seated a b
reply_of response.NoPort out = NoPort
reply_of response.Freed out = Freed
reply_of response.NotNailed out = NotNailed
reply_of response.Sent out = Sent out.sends out.moved out.records
reply_of (response.Frame n) out = Frame n out.sends out.records
