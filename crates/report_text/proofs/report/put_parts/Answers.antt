use Rattle.std.proofs.Common.{◌≡◌, ◌∙◌, ℕ, ◌+◌, ◌≤◌, ◌++◌, List, [], rules, arith, ap, sym, length, drop, get_or, slice_index}
use Rattle.std.proofs.lemmas.List.{append_assoc, append-nil, drop_all}
use Rattle.std.proofs.lemmas.List.FromFn.{length-map-range_with_len}
use Rattle.std.proofs.Transfers.{starts_with_trans}
use Rattle.report_text.specs.Report.{line_octets, lines_sent, octet_of, part, parts}
use Rattle.report_text.proofs.Rows.{drop_sent, line_octets_row_of, lines_sent_rows, parts_idle}
use Rattle.report_text.proofs.report.put_parts.Goals as goal

pub loop-line-preserved : goal.loop-line-preserved
loop-line-preserved c =
    let rows : List (List ℕ) = c.args.octets.now in
    let line : ℕ = c.loop-line.line in
    let before : List ℕ = c.loop-line.out.items in
    let rest : List (List ℕ) = drop (line + 1) (lines_sent (octet_of rows) (length rows)) in
    let written : c.put_row.new.out.items ≡ before ++ part line (line_octets (λ at. slice_index (get_or rows line []) at.place) line) = c.in_ok-put_row.ensures.part in
    record {
      front = starts_with_trans _ _ _ c.put_row.ensures.front c.loop-line.invariant.front;
      done = ap (λ out. out ++ parts (line + 1) rest) (written ∙ ap (λ row. before ++ part line row) (line_octets_row_of rows line))
          ∙ append_assoc before (part line (line_octets (octet_of rows) line)) (parts (line + 1) rest)
          ∙ ap (λ lines. before ++ parts line lines) (sym (drop_sent (octet_of rows) (length rows) line (omega (arith, c.loop-line-test.true))))
          ∙ c.loop-line.invariant.done;
    }

pub returns-clause-parts : goal.returns-clause-parts
returns-clause-parts c =
    let rows : List (List ℕ) = c.args.octets.now in
    let all : List (List ℕ) = lines_sent (octet_of rows) (length rows) in
    let count : length all ≡ length rows = length-map-range_with_len (line_octets (octet_of rows)) 0 (length rows) in
    let over : length all ≤ c.loop-line.line = omega (arith, c.loop-line-test.false, count) in
    sym (append-nil c.loop-line.out.items)
    ∙ sym (ap (λ lines. c.loop-line.out.items ++ parts c.loop-line.line lines) (drop_all c.loop-line.line all over))
    ∙ c.loop-line.invariant.done

pub returns-then-are_known_idle-clause-parts : goal.returns-then-are_known_idle-clause-parts
returns-then-are_known_idle-clause-parts c =
    let rows : List (List ℕ) = c.args.octets.now in
    let out : List ℕ = c.args.out.now.items in
    let none : parts 0 (lines_sent (octet_of rows) (length rows)) ≡ [] = ap (parts 0) (lines_sent_rows rows (λ line inside. search rules)) ∙ parts_idle 0 rows (search rules) in
    sym (append-nil out) ∙ sym (ap (λ more. out ++ more) none)
