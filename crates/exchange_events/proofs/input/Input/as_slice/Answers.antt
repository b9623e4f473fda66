use Rattle.std.proofs.Common.{◌≤◌, ℕ, replicate, None, sym, ap, ◌∙◌, arith}
use Rattle.std.proofs.lemmas.List.{take-replicate}
use Rattle.exchange_events.specs.InputStorage.{rows_in}
use Rattle.exchange_events.proofs.input.Input.as_slice.Goals as goal

pub returns-in-Idle : goal.returns-in-Idle
returns-in-Idle c =
    let within : c.from.result ≤ 255 = grind arith in
    take-replicate c.from.result 255 None within ∙ ap (λ (n : ℕ). replicate n None) c.from.ensures ∙ ap rows_in (sym c.in-Idle.is) ∙ c.self.view_is
