use Rattle.call_laws.proofs.RecordOrderLemmas.{restart_comes_by_place, length-answer_to_others-le}
use Rattle.call_laws.proofs.RecordedMessageLemmas.{record_is, ended_is_recorded}
use Rattle.call_laws.proofs.legs.law_of_records.Goals as goal

pub returns-clause-told : goal.returns-clause-told
returns-clause-told c = record_is

pub returns-clause-ended : goal.returns-clause-ended
returns-clause-ended c = ended_is_recorded

pub returns-clause-order : goal.returns-clause-order
returns-clause-order c = restart_comes_by_place

pub returns-clause-one : goal.returns-clause-one
returns-clause-one c = length-answer_to_others-le
