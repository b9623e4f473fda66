-- The loop that sends I frames.
use Rattle.std.proofs.Common.{◌≡◌, ℕ, zero, suc, ◌+◌, List, refl, sym, ap, ◌∙◌, arith}
use Rattle.link_procedures.specs.Links.{DataLink, Step, step}
use Rattle.link_procedures.specs.Sending.{sends_next, sends_waiting, flushes}

more_waiting : (n m now : ℕ) (s : Step) → n ≡ m + 1 → sends_waiting n now s ≡ sends_waiting m now (sends_next now s)
more_waiting zero m now s e = absurd (omega (arith, e))
more_waiting (suc n) m now s e = let same : n ≡ m = omega (arith, e) in ap (λ k. sends_waiting k now (sends_next now s)) same

pub same_step : (s : Step) (l : DataLink) (o : List (List ℕ)) → l ≡ s.link → o ≡ s.out → step l o ≡ s
same_step s l o link out = rw (link, out) refl

pub sends_waiting_one_sent : (n m now : ℕ) (s : Step) (l : DataLink) (o : List (List ℕ)) → n ≡ m + 1 → l ≡ (sends_next now s).link → o ≡ (sends_next now s).out → sends_waiting m now (step l o) ≡ sends_waiting n now s
sends_waiting_one_sent n m now s l o e link out = ap (λ (t : Step). sends_waiting m now t) (same_step (sends_next now s) l o link out) ∙ sym (more_waiting n m now s e)

pub all_sent : (n now : ℕ) (s : Step) (l : DataLink) (o : List (List ℕ)) → n ≡ 0 → sends_waiting n now (step l o) ≡ sends_waiting 7 now s → (l ≡ (flushes now s).link) × (o ≡ (flushes now s).out)
unfolding flushes
all_sent zero now s l o e flow = (ap (λ (t : Step). t.link) flow, ap (λ (t : Step). t.out) flow)
all_sent (suc n) now s l o e flow = absurd (omega (arith, e))
