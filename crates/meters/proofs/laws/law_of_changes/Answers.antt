use Rattle.meters.proofs.Changes.{after-append, text-append, law_of_lines, law_of_noting, law_of_times}
use Rattle.meters.proofs.laws.law_of_changes.Goals as goal

pub returns-clause-texts : goal.returns-clause-texts
returns-clause-texts g c xs ys s = text-append g.M.Meter.text xs ys s

pub returns-clause-meters : goal.returns-clause-meters
returns-clause-meters g c xs ys s = after-append xs ys s

pub returns-clause-lines : goal.returns-clause-lines
returns-clause-lines g c steps s are = law_of_lines g.M.Meter.text steps s are

pub returns-clause-times : goal.returns-clause-times
returns-clause-times g c steps old spare new now are a = law_of_times g.M.Meter.stands g.M.Meter.text steps old spare new now are a

pub returns-clause-noted : goal.returns-clause-noted
returns-clause-noted g c steps old spare new are told = law_of_noting g.M.Meter.stands g.M.Meter.text steps old spare new are told
