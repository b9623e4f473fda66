-- A line of words, and the parts of a frame, one after the other.
use Rattle.std.proofs.Common.{◌≡◌, ℕ, true, false, List, [], ◌∷◌, replicate, get_or, set, Some, None, is_some, Ok, codes, refl}
use Rattle.circuit_model.specs.FrameInput.{Input}
use Rattle.std.specs.List.{list_all}
use Rattle.trace_text.specs.declared.limits.Limits.{Limits}
use Rattle.trace_text.specs.declared.said.Sizes.{Sizes}
use Rattle.trace_text.specs.declared.said.Said.{Said}
use Rattle.trace_text.specs.declared.said.Said.TheVariants.{Sync, Happens}
use Rattle.exchange_events.specs.declared.trace.Event.TheVariants.{Frame}
use Rattle.trace_text.specs.declared.fault.LineError.{LineError}
use Rattle.trace_text.specs.declared.fault.LineError.TheVariants.{Memory, Refused}
use Rattle.trace_text.specs.TraceWords.{words, cut_at, is_comment, is_printable}
use Rattle.trace_text.specs.TraceFields.{external_line, octets_written, thirty}
use Rattle.trace_text.specs.TraceLines.{colon, with_part, kind_of, SoFar, by_kind, reads, joins, says, Fails}

-- a part whose checks all pass
pub part_given : (external : ℕ) (given : Input) (word : List ℕ) (halves : List ℕ × List ℕ) (line : ℕ) (octets : List ℕ)
    → cut_at colon word ≡ Some halves → external_line external halves.0 ≡ Some line → is_some (get_or given line None) ≡ false → thirty (octets_written halves.1) ≡ Ok octets
    → with_part external given word ≡ Ok (set given line (Some octets))
part_given external given word halves line octets a b c d = rw (a, b, c, d) refl

-- a line behind the header that is no comment, has words and is printable
pub reads_by_kind : (s : SoFar) (sizes : Sizes) (line first : List ℕ) (others : List (List ℕ)) → s.sizes ≡ Some sizes → is_comment line ≡ false → words line ≡ first ∷ others
    → list_all is_printable line ≡ true → reads s line ≡ by_kind s sizes.external (kind_of first) others
reads_by_kind s sizes line first others known a b c = rw (a, known, b, c) refl

-- a line that is `sync`
pub reads_sync : (s : SoFar) (sizes : Sizes) (line : List ℕ) → s.sizes ≡ Some sizes → line ≡ codes "sync" → reads s line ≡ Ok Sync
reads_sync s sizes line known is = rw (is, known) refl

-- a frame without fields
pub reads_idle : (s : SoFar) (sizes : Sizes) (line : List ℕ) → s.sizes ≡ Some sizes → line ≡ 70 ∷ [] → reads s line ≡ Ok (Happens (Frame (replicate sizes.external None)))
reads_idle s sizes line known is = rw (is, known) refl

-- both steps of a line
pub says_both : (limits : Limits) (s : SoFar) (line : List ℕ) (said : Said) → reads s line ≡ Ok said → joins limits s said ≡ Ok said → says limits s line ≡ Ok said
says_both limits s line said a b = rw (a, b) refl

pub says_fault : (limits : Limits) (s : SoFar) (line : List ℕ) (e : LineError) → Fails e (reads s line) → Fails e (says limits s line)
says_fault limits s line Memory fails = tt
says_fault limits s line (Refused why) fails = rw fails refl

pub joins_fault : (limits : Limits) (s : SoFar) (line : List ℕ) (said : Said) (e : LineError) → reads s line ≡ Ok said → Fails e (joins limits s said) → Fails e (says limits s line)
joins_fault limits s line said e a fails = rw a fails
