-- A line `sync` after the header, which only counts.
use Rattle.std.proofs.Common.{◌≡◌, ◌<◌, ℕ, List, [], ◌∷◌, Option, Some, None, Ok, is_some, true, refl, arith}
use Rattle.std.specs.Prelude.{codes}
use Rattle.trace_text.specs.declared.heading.Happening.TheVariants.{SegmentEnd}
use Rattle.trace_text.specs.declared.limits.Limits.{Limits}
use Rattle.trace_text.specs.declared.said.Said.TheVariants.{Sync}
use Rattle.trace_text.specs.declared.said.Sizes.{Sizes}
use Rattle.trace_text.specs.TraceHeading.{IsLineRead}
use Rattle.trace_text.specs.TraceLines.{SoFar, line_limits, says}
use Rattle.trace_text.proofs.TraceHolds.{known_behind}
use Rattle.linked_text.specs.declared.said.LinkHappening.TheVariants as effect
use Rattle.linked_text.specs.LinkEffects.{IsInTurnRead}
use Rattle.linked_text.specs.LinkLines.{LinkSoFar}
use Rattle.linked_text.proofs.InTurnLemmas.{plain_read}
use Rattle.linked_text.proofs.LinkLineLemmas.{plain_line}
use Rattle.exchange_follow.specs.Handling.{OnlyCounts}

-- the octets of the line
abbrev sync : List ℕ
sync = 115 ∷ 121 ∷ 110 ∷ 99 ∷ []

says_sync : (limits : Limits) (k : SoFar) (z : Sizes) → k.sizes ≡ Some z → says limits k sync ≡ Ok Sync
says_sync limits k z sized = rw sized refl

reads_sync : (limits : Limits) (k : SoFar) (z : Sizes) → k.sizes ≡ Some z → IsLineRead limits k sync SegmentEnd k
reads_sync limits k z sized = record {
  said = Sync;
  meets = says_sync limits k z sized;
  happens = refl;
  known = refl;
  behind = known_behind k k Sync tt refl;
}

-- it ends a segment, and the heading is the same
pub passes_sync : (limits : Limits) (k : LinkSoFar) (z : Sizes) → k.plain.sizes ≡ Some z → IsInTurnRead limits k sync (effect.Plain SegmentEnd) k
passes_sync limits k z sized = plain_read limits k k sync SegmentEnd (plain_line k 115 (121 ∷ 110 ∷ 99 ∷ []) refl) refl refl (reads_sync limits k.plain z sized)

counts_here : (k : LinkSoFar) (count : ℕ) (sizes : Option Sizes) → k.plain.sizes ≡ sizes → is_some sizes ≡ true → count < 4294967294 → OnlyCounts k count sync
counts_here k count (Some z) sized some few = record { short = omega arith; few = few; read = passes_sync line_limits k z sized }
counts_here k count None sized some few = absurd (grind (arith, some))

pub counts_sync : (k : LinkSoFar) (count : ℕ) (line : List ℕ) → line ≡ codes "sync" → count < 4294967294 → is_some k.plain.sizes ≡ true → OnlyCounts k count line
counts_sync k count line is few some = rw is (counts_here k count k.plain.sizes refl some few)
