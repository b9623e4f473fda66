use Rattle.std.proofs.Common.{◌≡◌, List, ℕ, Some, subst, sym}
use Rattle.link_frames.specs.Reading.{reading}
use Rattle.link_frames.proofs.Readings.{reading_of_encoding}
use Rattle.link_frames.proofs.writing.write_frame.Goals as goal

pub returns-clause-read_back : goal.returns-clause-read_back
returns-clause-read_back c = subst (λ (octets : List ℕ). reading c.args.sender octets ≡ Some c.args.frame.now) (sym c.octets_of.ensures.encoded) (reading_of_encoding c.args.sender c.args.frame.now c.requires.writable)
