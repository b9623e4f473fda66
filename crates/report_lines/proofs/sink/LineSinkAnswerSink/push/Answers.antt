use Rattle.std.proofs.Common.{◌≡◌, ◌++◌, ◌∷◌, List, [], ℕ, map, ap, sym, ◌∙◌, rules}
use Rattle.std.proofs.lemmas.List.{map-append}
use Rattle.exchange_events.specs.Kept.{kept_of}
use Rattle.exchange_events.specs.Responses.{reply_of}
use Rattle.report_text.proofs.Sounding.{line_sounding}
use Rattle.call_profile.specs.CallsTold.{calls_kept}
use Rattle.call_processor.specs.Keeping.{placed}
use Rattle.call_processor.specs.declared.worked.Placed.{Placed}
use Rattle.report_lines.specs.Lines.{Line, line_of, listed}
use Rattle.report_lines.specs.declared.listing.Listing.{Listing}
use Rattle.report_lines.proofs.LineLemmas.{on_ok}
use Rattle.report_lines.proofs.sink.LineSinkAnswerSink.push.Goals as goal

pub returns-clause-kept : goal.returns-clause-kept
returns-clause-kept g c =
    let l : Listing = g.L.ListingKind.listing in
    let kept = kept_of (reply_of c.args.response c.args.outbox.now) in
    let rows : List (List ℕ) = c.args.octets.now in
    let few : List (List ℕ) = c.first_rows-rows.result.now in
    let p : Placed = placed c.args.place c.args.event c.args.response c.args.outbox.now rows in
    let same = line_sounding rows few c.args.sounding c.args.event kept (λ line inside. search rules) c.first_rows-rows.ensures c.requires.idle in
    let one : line_of c.listing.result (placed c.args.place c.args.event c.args.response c.args.outbox.now few) ≡ line_of l p =
    ap (λ (x : Listing). line_of x (placed c.args.place c.args.event c.args.response c.args.outbox.now few)) c.listing.ensures
    ∙ ap (λ (text : List ℕ). record { place = c.args.place; text = listed l text; records = calls_kept kept }) same in
    on_ok c.push.result (λ line answers held.
    line
    ∙ (λ i. (c.self.view_is ∙ held) i ++ one i ∷ [])
    ∙ sym (map-append (line_of l) answers (p ∷ []))) c.push.ensures.line
