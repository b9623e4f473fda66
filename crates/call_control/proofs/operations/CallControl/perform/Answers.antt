use Rattle.call_control.proofs.operations.CallControl.perform.Goals as goal

pub on_report-requires-clause-state : goal.on_report-requires-clause-state
on_report-requires-clause-state g c = c.requires.talking c.in-Report.reported c.in-Report.is
