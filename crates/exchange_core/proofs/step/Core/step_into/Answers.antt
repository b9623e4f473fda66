use Rattle.std.proofs.Common.{arith, ◌≡◌, ℕ, ◌<◌, ◌++◌, ◌∷◌, [], List, length, refl, sym, ◌∙◌, ap, subst}
use Rattle.exchange_events.specs.declared.trace.Event.{Event}
use Rattle.exchange_events.specs.Responses.{reply_of}
use Rattle.exchange_events.specs.Sizes.{Dimensions}
use Rattle.exchange_events.specs.Sound.{Fits}
use Rattle.call_profile.specs.Step.{reply, next}
use Rattle.exchange_core.specs.Working.{Entry, Working, IsWorking, IsNumbered, IsToolFor, ShowsWorld, order_of, setting, world_of, world_after}
use Rattle.call_profile.specs.World.{World}
use Rattle.exchange_core.proofs.StepLemmas.{next_few, IsWorking_stepped, facts, is_laid, joins_its, of_each, IsReadOf_ahead, world_more}
use Rattle.exchange_core.proofs.step.Core.step_into.Goals as goal

pub happen-response-requires-clause-work : goal.happen-response-requires-clause-work
happen-response-requires-clause-work g c =
    let e = c.event-event_done.result.now in
    let f = facts _ c.args.self.now _ _ _ c.args.event e c.self.view_is c.self.invariant c.requires.known c.event-event_done.ensures in
    let tools = subst (λ (x : Working). (e : Event) → IsNumbered x.trace c.args.event e → IsToolFor (setting x).dimensions e c.args.context.now.tool) (sym c.self.view_is) c.requires.tool in
    (_, _, refl, refl, refl, f.at, tools e f.number)

pub happen-response-requires-clause-fits : goal.happen-response-requires-clause-fits
happen-response-requires-clause-fits g c =
    let e = c.event-event_done.result.now in
    let f = facts _ c.args.self.now _ _ _ c.args.event e c.self.view_is c.self.invariant c.requires.known c.event-event_done.ensures in
    subst (λ (n : ℕ). Fits n e) (sym (ap (λ (d : Dimensions). d.external) f.at.holds.sizes)) f.fits

pub happen-response-requires-clause-ahead : goal.happen-response-requires-clause-ahead
happen-response-requires-clause-ahead g c =
    let e = c.event-event_done.result.now in
    let f = facts _ c.args.self.now _ _ _ c.args.event e c.self.view_is c.self.invariant c.requires.known c.event-event_done.ensures in
    IsReadOf_ahead _ c.args.self.now c.args.event e c.args.context.now.ahead c.self.view_is f.number c.requires.ahead

pub happen-response-requires-clause-room : goal.happen-response-requires-clause-room
happen-response-requires-clause-room g c =
    let few = next_few _ _ _ _ c.self.invariant (subst (λ (x : Working). length x.journal < length x.trace.events) (sym c.self.view_is) c.requires.room) in
    omega (arith, few)

pub invariant_of-self : goal.invariant_of-self
invariant_of-self g c =
    let e = c.event-event_done.result.now in
    let f = facts _ c.args.self.now _ _ _ c.args.event e c.self.view_is c.self.invariant c.requires.known c.event-event_done.ensures in
    let own : Working = record { trace = c.self.inside.trace.now; slots = c.self.inside.control.map.slots; bound = c.self.inside.control.map.bound; journal = c.self.inside.journal.items } in
    let grown : Working = record {
      trace = c.self.inside.trace.now;
      slots = c.happen-response.new.control.map.slots;
      bound = c.happen-response.new.control.map.bound;
      journal = c.push_reserved.new.self.items;
    } in
    let done = c.happen-response.ensures in
    subst (λ room. IsWorking grown c.happen-response.new.control.map c.happen-response.new.control.legs room) (sym c.push_reserved.ensures.capacity)
    (IsWorking_stepped own _ _ _ c.args.by c.args.event e c.happen-response.new.control.map c.happen-response.new.control.legs c.push_reserved.new.self.items
    c.self.invariant f.known f.number c.push_reserved.ensures.items (done.world (setting own) (world_of own) refl refl refl f.at) done.sizes.bound done.sizes.slots refl)

pub returns-clause-reply : goal.returns-clause-reply
returns-clause-reply g c =
    let e = c.event-event_done.result.now in
    let f = facts _ c.args.self.now _ _ _ c.args.event e c.self.view_is c.self.invariant c.requires.known c.event-event_done.ensures in
    of_each _ c.args.self.now c.args.event e (λ (x : Working) (e : Event). reply_of c.happen-response.result c.happen-response.new.context.out ≡ reply (setting x) (world_of x) e) c.self.view_is f.number
    (c.happen-response.ensures.reply _ _ refl refl refl f.at)

pub returns-clause-world : goal.returns-clause-world
returns-clause-world g c =
    let own : Working = record { trace = c.self.inside.trace.now; slots = c.self.inside.control.map.slots; bound = c.self.inside.control.map.bound; journal = c.self.inside.journal.items } in
    let e = c.event-event_done.result.now in
    let f = facts _ c.args.self.now _ _ _ c.args.event e c.self.view_is c.self.invariant c.requires.known c.event-event_done.ensures in
    let slots = c.happen-response.ensures.sizes.slots in
    let grown : World = world_after c.happen-response.new.control.map.slots own.trace (order_of c.push_reserved.new.self.items) in
    let same : grown ≡ world_after own.slots own.trace (order_of (own.journal ++ (c.args.by, c.args.event) ∷ [])) =
    ap (λ n. world_after n own.trace (order_of c.push_reserved.new.self.items)) slots
    ∙ ap (λ (j : List Entry). world_after own.slots own.trace (order_of j)) c.push_reserved.ensures.items in
    of_each own c.args.self.now c.args.event e (λ (x : Working) (e : Event). grown ≡ next (setting x) (world_of x) e) c.self.view_is f.number
    (same ∙ world_more own c.args.by c.args.event e f.number)

pub returns-clause-shows : goal.returns-clause-shows
returns-clause-shows g c =
    let e = c.event-event_done.result.now in
    let f = facts _ c.args.self.now _ _ _ c.args.event e c.self.view_is c.self.invariant c.requires.known c.event-event_done.ensures in
    of_each _ c.args.self.now c.args.event e (λ (x : Working) (e : Event). ShowsWorld (world_of x) e c.happen-response.new.context.tool) c.self.view_is f.number
    (c.happen-response.ensures.shows _ _ f.at.holds)

pub returns-clause-tool : goal.returns-clause-tool
returns-clause-tool g c =
    let e = c.event-event_done.result.now in
    let f = facts _ c.args.self.now _ _ _ c.args.event e c.self.view_is c.self.invariant c.requires.known c.event-event_done.ensures in
    let tools = subst (λ (x : Working). (e : Event) → IsNumbered x.trace c.args.event e → IsToolFor (setting x).dimensions e c.args.context.now.tool) (sym c.self.view_is) c.requires.tool in
    of_each _ c.args.self.now c.args.event e (λ (x : Working) (e : Event). IsToolFor (setting x).dimensions e c.happen-response.new.context.tool) c.self.view_is f.number
    (c.happen-response.ensures.tool _ (tools e f.number))

pub returns-clause-laid : goal.returns-clause-laid
returns-clause-laid g c = is_laid _ _ _ _ (invariant_of-self g c) c.show_laid.ensures

pub returns-clause-joins : goal.returns-clause-joins
returns-clause-joins g c = joins_its _ _ _ _ (invariant_of-self g c)

pub happen-response-requires-clause-lines : goal.happen-response-requires-clause-lines
happen-response-requires-clause-lines g c =
    let e = c.event-event_done.result.now in
    let f = facts _ c.args.self.now _ _ _ c.args.event e c.self.view_is c.self.invariant c.requires.known c.event-event_done.ensures in
    (sym (ap (λ (d : Dimensions). d.external) f.at.holds.sizes), c.self.invariant.sound.few)
