-- The digits of the messages, octet by octet, and the text of the lines that are always the same.
use Rattle.std.proofs.Common.{◌≡◌, ℕ, zero, suc, ◌+◌, ◌<◌, [], ◌∷◌, ◌++◌, refl, arith}
use Rattle.std.specs.Prelude.{codes}
use Rattle.std.proofs.lemmas.Fmt.{decimal_digit}
use Rattle.hex.specs.Hex.{encode_upper, encode_with}
use Rattle.traffic_gen.specs.Calls.{number_of}
use Rattle.traffic_gen.specs.Lines.{Header, text}
use Rattle.traffic_gen.specs.Traffic.{room_line}
use Rattle.traffic_gen.specs.Messages.{setup, connect, disconnect, release, release_complete}
use Rattle.traffic_gen.specs.declared.callee.Callee.TheVariants as callee

setup_with : (line : ℕ) → line < 8 → codes "080200010504038090A3700380323" ++ (48 + line) ∷ [] ≡ encode_upper (setup (50 ∷ (48 + line) ∷ []))
unfolding encode_with
setup_with zero h = refl
setup_with (suc zero) h = refl
setup_with (suc (suc zero)) h = refl
setup_with (suc (suc (suc zero))) h = refl
setup_with (suc (suc (suc (suc zero)))) h = refl
setup_with (suc (suc (suc (suc (suc zero))))) h = refl
setup_with (suc (suc (suc (suc (suc (suc zero)))))) h = refl
setup_with (suc (suc (suc (suc (suc (suc (suc zero))))))) h = refl
setup_with (suc (suc (suc (suc (suc (suc (suc (suc line)))))))) h = absurd (omega arith)

pub setup_of_line : (line : ℕ) → line < 8 → codes "080200010504038090A3700380323" ++ (48 + line) ∷ [] ≡ encode_upper (setup (number_of (callee.Line line)))
setup_of_line line h = rw (decimal_digit line (omega arith)) (setup_with line h)

pub setup_of_room : codes "080200010504038090A37003803330" ≡ encode_upper (setup (number_of callee.Room))
unfolding encode_with
setup_of_room = refl

pub connect_digits : codes "0802800107" ≡ encode_upper connect
unfolding encode_with
connect_digits = refl

pub disconnect_digits : codes "080200014508028090" ≡ encode_upper disconnect
unfolding encode_with
disconnect_digits = refl

pub release_digits : codes "080280014D" ≡ encode_upper release
unfolding encode_with
release_digits = refl

pub release_complete_digits : codes "080200015A" ≡ encode_upper release_complete
unfolding encode_with
release_complete_digits = refl

pub sizes_text : codes "exchange 1 8 1 4\n" ≡ text (Header 8 1 4 ∷ [])
unfolding text
sizes_text =
    let eight : 8 < 10 = omega arith in
    let one : 1 < 10 = omega arith in
    let four : 4 < 10 = omega arith in
    rw (decimal_digit 8, decimal_digit 1, decimal_digit 4) refl

pub room_text : codes "number 30 room 0\n" ≡ text (room_line ∷ [])
unfolding text
room_text =
    let none : 0 < 10 = omega arith in
    rw (decimal_digit 0) refl
