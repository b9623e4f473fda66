use Rattle.meters.specs.Changing.{handed_in}
use Rattle.exchange_run.proofs.Stories.{unchanged_meters, unchanged_text}
use Rattle.exchange_run.proofs.laws.law_of_unchanged_meters.Goals as goal

pub returns-clause-text : goal.returns-clause-text
returns-clause-text g c plays l slots trace order old spare none = unchanged_text plays l slots trace order none g.M.Meter.text (handed_in old spare)

pub returns-clause-meters : goal.returns-clause-meters
returns-clause-meters g c plays l slots trace order none known old spare new new_spare left =
    unchanged_meters plays l slots trace order none g.M.Meter.stands g.M.Meter.text old spare new new_spare known left
