use Rattle.std.proofs.Common.{rules, ◌≡◌, sym, ap, ◌∙◌}
use Rattle.trace_text.specs.TraceDraft.{IsEnded}
use Rattle.trace_text.specs.TraceGrammar.{so_far}
use Rattle.trace_text.specs.TraceLines.{SoFar}
use Rattle.trace_text.specs.TraceTimers.{timers_by}
use Rattle.trace_text.proofs.TraceHolds.{segments_all}
use Rattle.trace_text.proofs.draft.Draft.finish.Goals as goal

pub returns-clause-read : goal.returns-clause-read
returns-clause-read c = λ told h.
    let d = c.args.self in
    let n : IsEnded d c.end_segment.new.self = search rules in
    let known : c.end_segment.new.self.heading ≡ so_far told = n.heading ∙ h.heading in
    record {
      sizes = ap (λ (s : SoFar). s.sizes) (sym h.heading) ∙ sym c.sizes.ensures ∙ c.in-Some.is;
      plan = ap (λ r. r.0) c.into_parts-plan.ensures ∙ ap (λ (s : SoFar). s.plan) known;
      tones = ap (λ r. r.1) c.into_parts-plan.ensures ∙ ap (λ (s : SoFar). s.tones) known;
      timers = ap (λ r. r.2) c.into_parts-plan.ensures ∙ ap (λ (s : SoFar). timers_by s.timers) known;
      events = c.of.ensures ∙ n.events ∙ h.events;
      segments = c.of-2.ensures ∙ n.ends ∙ sym (segments_all d told h);
      changes = c.of-3.ensures ∙ n.changes ∙ h.changes;
    }
