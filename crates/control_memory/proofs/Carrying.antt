-- Tables of a legal layout carry its octets.
use Rattle.std.proofs.Common.{◌≡◌, ℕ, ◌<◌, Option, Some, None, refl, sym, ap, ◌∙◌}
use Rattle.std.specs.Prelude.{option_map}
use Rattle.circuit_model.specs.declared.channel.Slot.{Slot}
use Rattle.control_memory.specs.Layout.{Path, Layout, Legal, path_out, path_to, place_sent}
use Rattle.control_memory.specs.Tables.{HasTables}
use Rattle.control_memory.specs.Carrying.{fetched, from_inlet, carried, SendsBy, HoldsCrossing}
use Rattle.control_memory.proofs.Lookups.{path_in_is, path_out_is, path_out_found, path_to_found}

module _ (lines slots : ℕ) (layout : Layout) (places crossed read : ℕ → ℕ → Option ℕ) (octet : Slot → ℕ) (legal : Legal lines slots layout) (tables : HasTables lines slots layout places crossed read) where
  module _ (highway : ℕ → ℕ → ℕ) (sends : SendsBy lines slots places octet highway) where
    -- what comes by a table entry that names the line of a path, or none
    fetched_by_line : (o : Option Path) (entry : Option ℕ) (line slot : ℕ) → slot < slots → path_out layout line slot ≡ o → entry ≡ option_map (λ p. p.from.line) o
        → fetched entry (λ from. highway from slot) ≡ from_inlet o octet
    fetched_by_line None entry line slot near found is = rw is refl
    fetched_by_line (Some p) entry line slot near found is =
        let p_is = path_out_found lines layout line slot p legal.inlets found in
        let has = p_is.0 in
        let sent = path_in_is lines slots layout p.from p.to p.slot legal has.inlet has.path in
        let place : places p.from.line slot ≡ Some p.from.place =
        tables.incoming p.from.line slot has.inlet.0 near ∙ ap (λ s. place_sent layout p.from.line s) (sym p_is.2) ∙ ap (option_map (λ (q : Path). q.from.place)) sent in
        rw is (sends p.from.line slot has.inlet.0 near ∙ rw place refl)

    pub crossing_is : HoldsCrossing lines slots layout octet (λ line slot. fetched (crossed line slot) (λ from. highway from slot))
    crossing_is line slot inside near = fetched_by_line (path_out layout line slot) (crossed line slot) line slot near refl (tables.space line slot inside near)

  module _ (held : ℕ → ℕ → ℕ) (holds : HoldsCrossing lines slots layout octet held) where
    fetched_by_slot : (o : Option Path) (entry : Option ℕ) (at : Slot) → at.line < lines → path_to layout at ≡ o → entry ≡ option_map (λ p. p.slot) o → fetched entry (held at.line) ≡ from_inlet o octet
    fetched_by_slot None entry at inside found is = rw is refl
    fetched_by_slot (Some p) entry at inside found is =
        let p_is = path_to_found lines layout at p legal.inlets found in
        let has = p_is.0 in
        let gets = path_out_is lines slots layout p.from p.to p.slot legal has.inlet has.path in
        let there : path_out layout at.line p.slot ≡ Some p = ap (λ (t : Slot). path_out layout t.line p.slot) (sym p_is.1) ∙ gets in
        rw is (holds at.line p.slot inside (legal.within p.from p.to p.slot has.inlet has.path).1 ∙ ap (λ (q : Option Path). from_inlet q octet) there)

    pub fetched_carried : (at : Slot) → at.line < lines → at.place < 30 → fetched (read at.line at.place) (held at.line) ≡ carried layout octet at
    fetched_carried at inside near = fetched_by_slot (path_to layout at) (read at.line at.place) at inside refl (tables.outgoing at.line at.place inside near)
