use Rattle.std.proofs.Common.{◌≡◌, ℕ, ◌*◌, ◌<◌, length, get_or}
use Rattle.control_memory.specs.declared.heard.Heard.TheVariants.{Silent}
use Rattle.control_memory.proofs.heard_table.copy_words.Given as goal

abbrev pub invariant-loop-pair : goal.invariant-loop-pair
invariant-loop-pair l = record {
  size : length l.to ≡ 30;
  copied : (k : ℕ) → k < 2 * l.pair → get_or l.to k Silent ≡ get_or l.from k Silent;
}
