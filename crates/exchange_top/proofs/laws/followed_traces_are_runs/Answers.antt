use Rattle.std.proofs.Common.{List, ◌∙◌, ap, length}
use Rattle.circuit_model.specs.Hears.{hears}
use Rattle.exchange_events.specs.Orders.{file_order}
use Rattle.exchange_events.proofs.FileOrder.{lawful_whole}
use Rattle.report_lines.specs.declared.listing.Listing.TheVariants.{Report}
use Rattle.meters.specs.Changing.{Step, handed_in, steps_text}
use Rattle.linked_exchange.proofs.FollowedStories.{followed_story}
use Rattle.exchange_run.proofs.Stories.{unchanged_text}
use Rattle.exchange_top.proofs.laws.followed_traces_are_runs.Goals as goal

pub returns-clause-story : goal.returns-clause-story
returns-clause-story g c = followed_story

pub returns-clause-lawful : goal.returns-clause-lawful
returns-clause-lawful g c = lawful_whole

pub returns-clause-valid : goal.returns-clause-valid
returns-clause-valid g c slots bytes t told old spare is meets none =
    let order = file_order (length t.events) in
    let first = handed_in old spare in
    record {
      order = order;
      lawful = lawful_whole t;
      text = ap (λ (steps : List Step). steps_text g.M.Meter.text steps first) (followed_story hears slots bytes t told is meets) ∙ unchanged_text hears Report slots t order none g.M.Meter.text first;
    }
