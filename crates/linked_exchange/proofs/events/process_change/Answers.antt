use Rattle.std.proofs.Common.{[], All, refl, ap, subst}
use Rattle.std.specs.Prelude.{Option}
use Rattle.std.proofs.lemmas.List.Elements.{All-head}
use Rattle.exchange_events.specs.Sound.{Fits}
use Rattle.link_table.specs.declared.notice.Change.{Change}
use Rattle.link_table.specs.declared.notice.Notice.TheVariants.{Link}
use Rattle.linked_exchange.specs.Steps.{changed_events, event_of}
use Rattle.linked_exchange.proofs.AtLemmas.{below_of, cleared_change, empty_reply}
use Rattle.linked_exchange.proofs.events.process_change.Goals as goal

pub change_link-requires-clause-line : goal.change_link-requires-clause-line
change_link-requires-clause-line g c lifetimes outlive =
    let external = c.args.exchange.now.control.map.external in
    below_of external c.args.line c.in-Some.change
    (All-head (Fits external) (event_of c.args.line (Link c.in-Some.change)) []
    (subst (λ (o : Option Change). All (Fits external) (changed_events c.args.line o)) c.in-Some.is c.requires.fits))

pub returns-in-None-clause-world : goal.returns-in-None-clause-world
returns-in-None-clause-world g c s w given at =
    cleared_change g.C.Carrier.carries g.C.Carrier.next g.C.Carrier.sizes c.args.exchange.now _ s w c.args.line at refl refl refl refl c.args.change c.in-None.is

pub returns-in-None-clause-reply : goal.returns-in-None-clause-reply
returns-in-None-clause-reply g c s w given at =
    empty_reply s w (changed_events c.args.line c.args.change) _ (ap (changed_events c.args.line) c.in-None.is) c.clear.ensures.sends c.clear.ensures.moved c.clear.ensures.records
