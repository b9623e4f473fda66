use Rattle.std.proofs.Common.{◌≡◌, ap, inl, inr, map, [], subst}
use Rattle.std.specs.List.{concat}
use Rattle.exchange_run.specs.Summary.{summary_text}
use Rattle.run_verifier.specs.declared.ending.Ending.TheVariants as ended
use Rattle.generated_trace.specs.Generated.{IsTrafficOf}
use Rattle.generated_trace.proofs.Told.{changes_none}
use Rattle.report_lines.specs.declared.listing.Listing.TheVariants as listing
use Rattle.meters.specs.Changing.{handed_in}
use Rattle.exchange_run.proofs.Endings.{ends_at_once, ends_generated, ends_summed}
use Rattle.exchange_run.proofs.Stories.{unchanged_text}
use Rattle.exchange_run.proofs.Sums.{keeps}
use Rattle.linked_exchange.proofs.Tellings.{none_left}
use Rattle.trace_text.proofs.SoundLemmas.{sound_trace}
use Rattle.exchange_run.proofs.call.run_generated.Goals as goal

pub returns-in_default-clause-ends : goal.returns-in_default-clause-ends
returns-in_default-clause-ends g c arguments input asked =
    let e = c.idle.ensures in
    ends_at_once arguments input _ _ e.ending (keeps _) (record { order = e.none; meters = none_left _ _ _ _; engine = e.engine })

pub run_trace-ended-requires-clause-sound : goal.run_trace-ended-requires-clause-sound
run_trace-ended-requires-clause-sound g c lifetimes outlive = sound_trace _ c.in-Ok.trace c.in-Ok.ensures

pub returns-in-Completed-clause-ends : goal.returns-in-Completed-clause-ends
returns-in-Completed-clause-ends g c arguments input asked =
    let is = subst (λ n. IsTrafficOf n c.args.calls c.in-Ok.trace) c.from.ensures c.in-Ok.ensures in
    let run = rw c.in-Completed.is at c.run_trace-ended.ensures.runs in
    let steady : g.K.Sink.faults c.run_trace-ended.new.sink ≡ g.K.Sink.faults c.args.sink.now =
    elim c.run_trace-ended.ensures.writes [ inl failed ↦ let never : ended.Completed ≡ ended.WriteFailed = rw c.in-Completed.is at failed in absurd (cc) | inr kept ↦ kept ] in
    let silent = unchanged_text g.C.Carrier.plays listing.Nothing 30 c.in-Ok.trace c.run_trace-ended.result.order.items (changes_none c.args.seed c.args.calls c.in-Ok.trace c.requires.most is)
    (λ m. (goal.Meter-dyn g (m.vtable, m.value)).text m.value) (handed_in c.args.metering.now.on.items c.args.metering.now.spare.items) in
    let said = ap (λ ms. summary_text c.in-Ok.trace (concat (map (λ m. (goal.Meter-dyn g (m.vtable, m.value)).text m.value []) ms))) c.as_slice.ensures.value in
    ends_summed g.C.Carrier.plays g.C.Carrier.sizes g.C.Carrier.carries _ _ _ _ _ _ _ _ _ c.run_trace-ended.result.engine c.sum_up.result.engine c.in-Ok.trace run silent
    (ap (λ o. o.items) c.sum_up.ensures.order) steady _ said c.sum_up.result.ending c.sum_up.ensures.sums arguments input
    (record { seed = c.args.seed; calls = c.args.calls; asked = asked; generated = is })

pub returns : goal.returns
returns g c = record {
  ends = λ arguments input asked.
      let is = subst (λ n. IsTrafficOf n c.args.calls c.in-Ok.trace) c.from.ensures c.in-Ok.ensures in
      ends_generated arguments input _ c.in-Ok.trace c.run_trace-ended.result.ending (record { seed = c.args.seed; calls = c.args.calls; asked = asked; generated = is }) c.in_default-ending.not-Completed
      c.run_trace-ended.ensures.runs;
  writes = c.run_trace-ended.ensures.writes;
}
