-- The octet that is found where the row of a line begins.
use Rattle.std.proofs.Common.{◌≡◌, ◌≢◌, ℕ, ◌+◌, ◌*◌, ◌<◌, eqb, List, length, get_or, Option, Some, None, IfSome, subst, sym, ap, ◌∙◌, inl, inr, arith}
use Rattle.std.proofs.lemmas.Bool.{cases_eq, eq-eqb, ne_eqb, cond-true, cond-false}
use Rattle.std.proofs.lemmas.Nat.{mul-add-lt}
use Rattle.circuit_model.specs.FrameInput.{idle_octet}
use Rattle.control_memory.specs.Tables.{IsRow}
use Rattle.control_memory.specs.Carrying.{fetched}
use Rattle.space_stage.specs.Crossing.{AreStarts}

module _ (slots lines_in : ℕ) (numbers : ℕ → Option ℕ) (bytes starts rows : List ℕ) (octet : ℕ → ℕ → ℕ) (is : IsRow slots lines_in numbers bytes) (begins : AreStarts lines_in slots starts)
    (size : length rows ≡ (lines_in + 1) * slots) (idle : (slot : ℕ) → slot < slots → get_or rows slot 0 ≡ idle_octet) (lines : (line slot : ℕ) → slot < slots → get_or rows ((line + 1) * slots + slot) 0 ≡ octet line slot)
    (slot : ℕ) (near : slot < slots) where
  abbrev byte : ℕ
  byte = get_or bytes slot 0

  abbrev start : ℕ
  start = get_or starts byte 0

  none_is : byte ≡ 255 → numbers slot ≡ None
  none_is e = sym (is.entries slot near) ∙ cond-true (eqb byte 255) None (Some byte) (eq-eqb byte 255 e)

  some_is : byte ≢ 255 → numbers slot ≡ Some byte
  some_is e = sym (is.entries slot near) ∙ cond-false (eqb byte 255) None (Some byte) (ne_eqb byte 255 e)

  line_is : byte ≢ 255 → byte < lines_in
  line_is e = subst (λ (o : Option ℕ). IfSome o (λ number. number < lines_in)) (some_is e) (is.within slot near)

  idle_start : byte ≡ 255 → start ≡ 0
  idle_start e = ap (λ b. get_or starts b 0) e ∙ begins.idle

  idle_at : byte ≡ 255 → start + slot ≡ slot
  idle_at e = omega (arith, idle_start e)

  pub start_within : start + slot < length rows
  start_within = elim (cases_eq byte 255) [
    | inl none ↦ let at = mul-add-lt 0 slots slot (lines_in + 1) (omega arith) near in omega (arith, at, size, idle_start none)
    | inr line ↦ let at = mul-add-lt (byte + 1) slots slot (lines_in + 1) (omega (arith, line_is line)) near in omega (arith, at, size, begins.lines byte (line_is line))
  ]

  pub get_or_gathered : get_or rows (start + slot) 0 ≡ fetched (numbers slot) (λ l. octet l slot)
  get_or_gathered = elim (cases_eq byte 255) [
    | inl none ↦ ap (λ at. get_or rows at 0) (idle_at none) ∙ idle slot near ∙ sym (ap (λ (o : Option ℕ). fetched o (λ l. octet l slot)) (none_is none))
    | inr line ↦ ap (λ s. get_or rows (s + slot) 0) (begins.lines byte (line_is line)) ∙ lines byte slot near ∙ sym (ap (λ (o : Option ℕ). fetched o (λ l. octet l slot)) (some_is line))
  ]
