use Rattle.call_laws.proofs.FrameRecordLemmas.{end_record_is, frame_end_is_recorded, frame_comes_by_expiry, frame_record_is, frame_ended_is_recorded, frame_comes_by_line}
use Rattle.call_laws.proofs.legs.law_of_frame_records.Goals as goal

pub returns-clause-told : goal.returns-clause-told
returns-clause-told c = end_record_is

pub returns-clause-ended : goal.returns-clause-ended
returns-clause-ended c = frame_end_is_recorded

pub returns-clause-order : goal.returns-clause-order
returns-clause-order c = frame_comes_by_expiry

pub returns-clause-calm_told : goal.returns-clause-calm_told
returns-clause-calm_told c = frame_record_is

pub returns-clause-calm_ended : goal.returns-clause-calm_ended
returns-clause-calm_ended c = frame_ended_is_recorded

pub returns-clause-calm_order : goal.returns-clause-calm_order
returns-clause-calm_order c = frame_comes_by_line
