use Rattle.std.proofs.Common.{◌≡◌, ℕ, ◌≤◌, nat_abs, ℤ, pos, get_or, ap, sym, subst, ◌∙◌, arith}
use Rattle.std.specs.Int.{w32}
use mir.Val.{to_z, of_z}
use Rattle.circuit_model.specs.ALaw.{expand}
use Rattle.alaw_codec.proofs.Tables.{widened, widened_value_at, expand_within}
use Rattle.alaw_codec.specs.declared.TheConstants.{VALUES}
use Rattle.alaw_codec.proofs.expand.Goals as goal

known : (c : goal.After-from-2) → to_z w32 (of_z w32 c.from-2.result) ≡ expand c.args.octet
known c =
    ap (λ (z : ℤ). to_z w32 (of_z w32 z)) c.from-2.ensures
    ∙ ap (λ (i : ℕ). widened (get_or VALUES i (pos 0))) c.from.ensures
    ∙ widened_value_at c.args.octet (omega arith)

pub returns : goal.returns
returns c = record {
  value = known c;
  within = subst (λ (z : ℤ). nat_abs z ≤ 4032) (sym (known c)) (expand_within c.args.octet (omega arith));
}
