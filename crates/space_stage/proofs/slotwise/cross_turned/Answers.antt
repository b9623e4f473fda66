use Rattle.std.proofs.Common.{◌≡◌, ℕ, ◌+◌, ◌*◌, ◌++◌, ◌<◌, ◌≤◌, length, get_or, sym, ap, subst, ◌∙◌, arith, rules}
use Rattle.std.proofs.lemmas.List.{get_or-replicate}
use Rattle.frame_buffer.specs.Highways.{octet_on, IsPart}
use Rattle.control_memory.specs.Tables.{entry, number_in}
use Rattle.space_stage.specs.Crossing.{gets_by}
use Rattle.space_stage.specs.Turning.{AreNumbers, IsSquare, joined, octet_at, row_of, square}
use Rattle.space_stage.proofs.Turns.{is_square_of}
use Rattle.space_stage.proofs.SlotRows.{first_part, second_part, both_hold_rows, joined_is, got_all}
use Rattle.space_stage.proofs.slotwise.cross_turned.Goals as goal

pub copy_numbers-requires-clause-empty : goal.copy_numbers-requires-clause-empty
copy_numbers-requires-clause-empty c k inside = get_or-replicate 960 k 255 0 inside

pub put_lines-requires : goal.put_lines-requires
put_lines-requires c =
    let lines = c.args.highway.now.lines in
    let cut = c.first_octets.result in
    let few = subst (λ n. n ≤ 16 → cut ≡ n * 30) c.lines.ensures c.first_octets.ensures.few in
    let many = subst (λ n. 16 ≤ n → cut ≡ 480) c.lines.ensures c.first_octets.ensures.many in
    let is : cut ≡ length c.split_at_mut-first.result.0.now = search rules in
    subst (IsPart 16 30 0) is (first_part lines cut c.requires.lines few many)

pub put_lines-requires-2 : goal.put_lines-requires-2
put_lines-requires-2 c =
    let lines = c.args.highway.now.lines in
    let cut = c.first_octets.result in
    let few = subst (λ n. n ≤ 16 → cut ≡ n * 30) c.lines.ensures c.first_octets.ensures.few in
    let many = subst (λ n. 16 ≤ n → cut ≡ 480) c.lines.ensures c.first_octets.ensures.many in
    let all : cut + length c.split_at_mut-first.result.1.now ≡ lines * 30 = search rules in
    second_part lines cut c.requires.lines few many (length c.split_at_mut-first.result.1.now) all

pub returns-clause-octets : goal.returns-clause-octets
returns-clause-octets c =
    let h = c.args.highway.now in
    let t = c.args.table.now in
    let octets = c.copy_octets.new.octets in
    let numbers = c.copy_numbers.new.numbers in
    let octet : ℕ → ℕ → ℕ = gets_by t h in
    let are : (line slot : ℕ) → line < h.lines → slot < 30 → number_in (get_or numbers (line * 30 + slot) 0) ≡ entry t line slot =
    subst (λ n. (line slot : ℕ) → line < n → slot < 30 → number_in (get_or numbers (line * 30 + slot) 0) ≡ entry t line slot) c.requires.table.rows c.copy_numbers.ensures.entries in
    let within : AreNumbers h.lines numbers = subst (λ n. AreNumbers n numbers) c.requires.table.limit c.copy_numbers.ensures.numbers in
    let front =
    got_all octets numbers (octet_on h) (entry t) h.lines c.requires.lines c.copy_octets.ensures are within 0 480 (omega arith) (omega arith) c.slots_from-front_low.result c.slots_from-front_high.result c.slots_from-front_low.ensures c.slots_from-front_high.ensures in
    let back =
    got_all octets numbers (octet_on h) (entry t) h.lines c.requires.lines c.copy_octets.ensures are within 14 494 (omega arith) (omega arith) c.slots_from-back_low.result c.slots_from-back_high.result c.slots_from-back_low.ensures c.slots_from-back_high.ensures in
    let one = c.lines_from-first_front.result in
    let other = c.lines_from-second_front.result in
    let one_is : IsSquare one = subst IsSquare (sym c.lines_from-first_front.ensures) (is_square_of _) in
    let other_is : IsSquare other = subst IsSquare (sym c.lines_from-second_front.ensures) (is_square_of _) in
    let one_back = c.lines_from-first_back.result in
    let other_back = c.lines_from-second_back.result in
    let cut = c.first_octets.result in
    let few = subst (λ n. n ≤ 16 → cut ≡ n * 30) c.lines.ensures c.first_octets.ensures.few in
    let many = subst (λ n. 16 ≤ n → cut ≡ 480) c.lines.ensures c.first_octets.ensures.many in
    let first = c.put_lines.new.part in
    let second = c.put_lines-2.new.part in
    let first_long : length first ≡ cut = search rules in
    let whole : cut + length second ≡ h.lines * 30 = search rules in
    both_hold_rows h.lines cut c.requires.lines few many (joined one one_back) (joined other other_back) octet first second first_long whole
    c.put_lines.ensures.octets c.put_lines-2.ensures.octets
    (λ line at row inside near.
    let this : 0 + line ≡ line = omega arith in
    let there : 0 + line < h.lines = omega (arith, inside) in
    joined_is one one_back (octet (0 + line)) line (one_is.octets line row)
    (λ slot low. front one 0 0 (omega arith) c.lines_from-first_front.ensures line slot row there low)
    (λ slot low. back one_back 0 14 (omega arith) c.lines_from-first_back.ensures line slot row there low) at near
    ∙ ap (λ l. octet l at) this)
    (λ line at row inside near.
    joined_is other other_back (octet (16 + line)) line (other_is.octets line row)
    (λ slot low. front other 16 480 (omega arith) c.lines_from-second_front.ensures line slot row inside low)
    (λ slot low. back other_back 16 494 (omega arith) c.lines_from-second_back.ensures line slot row inside low) at near)
