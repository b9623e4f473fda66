use Rattle.std.proofs.Common.{◌≡◌, ◌*◌, length, ap, ◌∙◌, sym, arith, rules}
use Rattle.std.proofs.Math.ListN.{get_or-append}
use Rattle.std.proofs.lemmas.List.{length-take-le}
use Rattle.conference_mix.specs.Rooms.{given_at}
use Rattle.frame_buffer.specs.Speech.{octet_in_half}
use Rattle.frame_engine.proofs.PortRows.{members-length}
use Rattle.frame_engine.proofs.ports.mix_all.Goals as goal

pub mix-requires : goal.mix-requires
mix-requires c = record {
  same =
      let few = c.requires.few in
      let is : c.from-ports.result ≡ 30 * c.args.image.now.bridges = let b = c.bridges.ensures in let f = c.from-ports.ensures in omega (arith, b, f, few) in
      let told : length c.args.octets.now ≡ 60 = search rules in
      length-take-le c.from-ports.result c.args.octets.now (omega (arith, is, told, few))
      ∙ is
      ∙ sym (ap length c.seat_members.ensures ∙ members-length c.args.image.now (octet_in_half c.args.read.now.readable));
}

pub returns : goal.returns
returns c k low =
    let m = c.args.image.now in
    let octet = octet_in_half c.args.read.now.readable in
    let few = c.requires.few in
    let is : c.from-ports.result ≡ 30 * m.bridges = let b = c.bridges.ensures in let f = c.from-ports.ensures in omega (arith, b, f, few) in
    let seated = c.seat_members.ensures in
    let size : length c.seat_members.new.mixer ≡ 30 * m.bridges = ap length seated ∙ members-length m octet in
    let wide : length c.mix.new.out ≡ c.from-ports.result = search rules in
    get_or-append c.mix.new.out _ 0 k (omega (arith, wide, is, low))
    ∙ c.mix.ensures k (omega (arith, size, low))
    ∙ ap (given_at k) seated
