use Rattle.std.proofs.Common.{◌≡◌, ℕ, ◌*◌, ◌%◌, ◌^◌, ◌-◌, ◌<◌, get_or, get_or-set_same, get_or-set_other, length, set, ◌∙◌, sym, ap, inl, inr, w32, arith, rules}
use Rattle.std.specs.Prelude.{bit_and}
use Rattle.std.specs.Int.{bit_at, bit_not, trailing_zeros}
use Rattle.std.proofs.lemmas.Bool.{cases_eq}
use Rattle.std.proofs.lemmas.List.{get_or_default}
use Rattle.std.proofs.lemmas.Nat.Bits.{bit_at_clear_same, bit_at_clear_other}
use Rattle.circuit_model.specs.Hears.{tone_octet}
use Rattle.control_memory.specs.declared.heard.Heard.TheVariants.{Silent}
use Rattle.control_memory.specs.HeardRows.{tone_bit}
use Rattle.tone_rules.specs.Tables.{table_of}
use Rattle.frame_engine.specs.Playing.{with_tone}
use Rattle.frame_engine.proofs.ToneBits.{lowest_cleared, lowest_tone, tone_only}
use Rattle.frame_engine.proofs.play.play_tones.Goals as goal

pub bounds-heard-place : goal.bounds-heard-place
bounds-heard-place c =
    let first = lowest_tone c.args.heard.now c.args.places c.loop-left.left c.requires.places c.loop-left.invariant.within c.loop-left-test.true (search rules) in
    omega (arith, first.0, c.requires.heard)

pub unreachable-requires : goal.unreachable-requires
unreachable-requires c =
    let first = lowest_tone c.args.heard.now c.args.places c.loop-left.left c.requires.places c.loop-left.invariant.within c.loop-left-test.true (search rules) in
    let word = c.index-heard-place in
    let source = get_or_default c.args.heard.now (trailing_zeros w32 c.loop-left.left) Silent word.result (omega (arith, first.0, c.requires.heard)) ∙ sym word.is ∙ sym c.to_heard.ensures in
    tone_only c.to_heard.result (ap tone_bit (sym source) ∙ first.2) c.in_default.not-Tone

pub tone_octet-requires : goal.tone_octet-requires
tone_octet-requires c =
    let first = lowest_tone c.args.heard.now c.args.places c.loop-left.left c.requires.places c.loop-left.invariant.within c.loop-left-test.true (search rules) in
    let word = c.index-heard-place in
    let source = get_or_default c.args.heard.now (trailing_zeros w32 c.loop-left.left) Silent word.result (omega (arith, first.0, c.requires.heard)) ∙ sym word.is ∙ sym c.to_heard.ensures in
    c.requires.tones (trailing_zeros w32 c.loop-left.left) c.in-Tone.kind c.in-Tone.since first.0 (source ∙ c.in-Tone.is)

pub bounds-octets-place : goal.bounds-octets-place
bounds-octets-place c =
    (lowest_tone c.args.heard.now c.args.places c.loop-left.left c.requires.places c.loop-left.invariant.within c.loop-left-test.true (search rules)).0

pub loop-left-smaller : goal.loop-left-smaller
loop-left-smaller c =
    let first = lowest_tone c.args.heard.now c.args.places c.loop-left.left c.requires.places c.loop-left.invariant.within c.loop-left-test.true (search rules) in
    lowest_cleared c.loop-left.left (trailing_zeros w32 c.loop-left.left) (omega (arith, first.0)) first.1

pub loop-left-preserved : goal.loop-left-preserved
loop-left-preserved c =
    let left : ℕ = c.loop-left.left in
    let t : ℕ = trailing_zeros w32 left in
    let i = c.loop-left.invariant in
    let first = lowest_tone c.args.heard.now c.args.places left c.requires.places i.within c.loop-left-test.true (search rules) in
    let small : t < 32 = omega (arith, first.0) in
    let rest : ℕ = bit_and left (bit_not w32 (1 * 2 ^ t % 2 ^ 32)) in
    let gone : bit_at rest t ≡ 0 = bit_at_clear_same w32 left t small in
    let kept : (k : ℕ) → k < 32 → (k ≡ t → ⊥) → bit_at rest k ≡ bit_at left k = bit_at_clear_other w32 left t small in
    let word = c.index-heard-place in
    let source = get_or_default c.args.heard.now t Silent word.result (omega (arith, first.0, c.requires.heard)) ∙ sym word.is ∙ sym c.to_heard.ensures ∙ c.in-Tone.is in
    let sounded : c.tone_octet.result ≡ tone_octet (table_of c.args.tones.now c.in-Tone.kind) (c.args.frame - c.in-Tone.since) = search rules in
    let inside : t < length c.loop-left.octets = omega (arith, first.0, c.loop-left.auto) in
    record {
      within = λ k near is. elim (cases_eq k t) [
        | inl same ↦ absurd (let none : bit_at rest k ≡ 0 = ap (bit_at rest) same ∙ gone in omega (arith, is, none))
        | inr other ↦ i.within k near (sym (kept k near other) ∙ is)
      ];
      done = λ k near bare. elim (cases_eq k t) [
        | inl same ↦
            ap (λ j. get_or (set c.loop-left.octets t c.tone_octet.result) j 0) same
            ∙ get_or-set_same c.loop-left.octets t c.tone_octet.result 0 inside ∙ sounded
            ∙ sym (ap (with_tone (table_of c.args.tones.now) c.args.frame (get_or c.args.octets.now k 0)) (ap (λ j. get_or c.args.heard.now j Silent) same ∙ source))
        | inr other ↦ get_or-set_other c.loop-left.octets t k c.tone_octet.result 0 other ∙ i.done k near (sym (kept k (omega (arith, near)) other) ∙ bare)
      ];
      waiting = λ k near is. elim (cases_eq k t) [
        | inl same ↦ absurd (let none : bit_at rest k ≡ 0 = ap (bit_at rest) same ∙ gone in omega (arith, is, none))
        | inr other ↦ get_or-set_other c.loop-left.octets t k c.tone_octet.result 0 other ∙ i.waiting k near (sym (kept k (omega (arith, near)) other) ∙ is)
      ];
    }
