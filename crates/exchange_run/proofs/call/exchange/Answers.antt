use Rattle.std.proofs.Common.{ap, subst, sym}
use Rattle.exchange_run.specs.Endings.{EndsAs}
use Rattle.exchange_run.proofs.Endings.{ends_due, ends_taken}
use Rattle.exchange_run.proofs.call.exchange.Goals as goal

pub returns-clause-ends : goal.returns-clause-ends
returns-clause-ends g c =
    let on = ap (λ v. v.items) c.replace.ensures.value in
    let spares = ap (λ v. v.items) c.replace-2.ensures.value in
    let ended = c.answer_words-ended in (
      ended.result.ending,
      c.status.ensures,
      ends_taken (λ m. (goal.Meter-dyn g (m.vtable, m.value)).stands m.value) (λ m. (goal.Meter-dyn g (m.vtable, m.value)).text m.value)
          g.C.Carrier ended.result.engine ended.result.order.items _ _ _ ended.result.ending _ _ _ _ _ _ on spares ended.ensures.ends,
    )

pub returns-clause-due : goal.returns-clause-due
returns-clause-due g c due is = subst (EndsAs due) (sym c.status.ensures) (ends_due _ _ _ c.answer_words-ended.result.ending due c.answer_words-ended.ensures.ends is)
