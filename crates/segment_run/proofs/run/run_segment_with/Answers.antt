use Rattle.segment_run.proofs.run.run_segment_with.Goals as goal

pub returns-clause-whole : goal.returns-clause-whole
returns-clause-whole g c = record {
  whole = c.in_ok-run_by_caller.ensures.whole;
  long = c.in_ok-run_by_caller.ensures.long;
  ready = c.run_by_caller.ensures.ready;
}
