use Rattle.std.proofs.Common.{◌≡◌, ◌≢◌, ◌⊎◌, ◌-◌, length, sym, ap, ◌∙◌, subst, inl, inr}
use Rattle.std.specs.Prelude.{vec_len}
use Rattle.exchange_run.proofs.Making.{says_leaving, some_length, zero_length}
use Rattle.exchange_run.proofs.changing.say_at.Goals as goal
use Rattle.exchange_run.proofs.changing.say_at.Goals.{then-is_empty, else-is_empty}

pub returns-clause-says : goal.returns-clause-says
returns-clause-says g c =
    let same : c.as_slice.result.now ≡ c.args.meters.now.items = c.as_slice.ensures.value ∙ c.reserve.ensures.items in
    let long : length c.args.meters.now.items ≡ vec_len c.reserve.new.self = ap length (sym same) ∙ c.as_slice.ensures.len in
    let which : ((length c.args.meters.now.items ≡ 0) × (c.if-is_empty.out ≡ c.args.count - 1)) ⊎ ((length c.args.meters.now.items ≢ 0) × (c.if-is_empty.out ≡ c.args.count)) =
    elim c.if-is_empty.branch [
      | then-is_empty w ↦ inl (long ∙ zero_length (vec_len c.reserve.new.self) (sym c.is_empty.ensures ∙ w.if-is_empty.true), w.out-is)
      | else-is_empty w ↦ inr (subst (λ n. n ≢ 0) (sym long) (some_length (vec_len c.reserve.new.self) (sym c.is_empty.ensures ∙ w.if-is_empty.false)), w.out-is)
    ] in
    says_leaving (λ m. (goal.Meter-dyn g (m.vtable, m.value)).text m.value) _ _ _ _ _ _ _ _ _ _ _ _ _ same which c.as_slices.ensures.items c.in_ok-left.ensures.texts c.in_ok-left.ensures.left c.in_ok-left-2.ensures.texts
    c.in_ok-left-2.ensures.left c.in_ok-append_first_summaries.ensures.texts
