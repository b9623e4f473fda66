use Rattle.std.proofs.Common.{sym, arith}
use Rattle.std.proofs.lemmas.Bool.Decides.{nat_tests}
use Rattle.report_reader.proofs.OctetLemmas.{HasRead_begun, read_more, octets_at_too_many, octets_at_none_read, octets_at_all_read}
use Rattle.report_reader.proofs.signals.octets_at.Goals as goal

pub loop-octet-init : goal.loop-octet-init
loop-octet-init c = HasRead_begun c.args.octets.now c.new-read.result.items c.new-read.ensures

pub returns-then-is_full : goal.returns-then-is_full
returns-then-is_full c =
    sym (octets_at_too_many _ _ _ _ _ c.loop-octet.invariant (sym c.in-Some.ensures) (grind (arith, nat_tests, c.is_full.ensures.value, c.if-is_full.true)))

pub loop-octet-preserved : goal.loop-octet-preserved
loop-octet-preserved c =
    read_more _ _ _ _ _ _ c.loop-octet.invariant (sym c.in-Some.ensures) (grind (arith, nat_tests, c.is_full.ensures.value, c.is_full.ensures.fits, c.if-is_full.false)) c.push.ensures.items

pub returns-then-is_empty : goal.returns-then-is_empty
returns-then-is_empty c =
    sym (octets_at_none_read _ _ _ c.loop-octet.invariant (sym c.in_default.ensures) (grind (arith, nat_tests, c.is_empty.ensures, c.if-is_empty.true)))

pub returns : goal.returns
returns c =
    rw c.of.ensures (sym (octets_at_all_read _ _ _ c.loop-octet.invariant (sym c.in_default.ensures) (grind (arith, nat_tests, c.is_empty.ensures, c.if-is_empty.false))))
