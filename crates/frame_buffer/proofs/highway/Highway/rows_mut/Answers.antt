use Rattle.std.proofs.Common.{◌≡◌, ◌+◌, ◌*◌, ◌≤◌, drop, length, refl, ap, ◌∙◌, arith, rules}
use Rattle.std.specs.Vec.{with_items_from}
use Rattle.frame_buffer.specs.Highways.{Highways, highways_with}
use Rattle.frame_buffer.proofs.Rows.{drop_refilled, slice_range_rest}
use Rattle.frame_buffer.proofs.highway.Highway.rows_mut.Goals as goal

pub returns : goal.returns
returns c =
    let h = c.self.inside in
    let xs = h.octets.items in
    let at = c.from-slots.ensures in
    let size : length xs ≡ (h.lines + 1) * h.slots = c.self.invariant.0 in
    let room : h.slots ≤ length xs = grind (arith, size) in (
      (
        refl,
        λ w.
            let written = ap (λ s. drop h.slots (with_items_from h.octets s w).items) at ∙ drop_refilled xs w h.slots h.octets.len h.octets.ok.0 room in
            (λ i. record { lines = h.lines; slots = h.slots; octets = written i }) ∙ ap (λ v. highways_with v w) c.self.view_is,
      ),
      record {
        writes_back = tt;
        octets = c.slice_mut.ensures.value ∙ slice_range_rest xs _ _ h.slots at h.octets.ok.0 ∙ ap (λ (v : Highways). v.octets) c.self.view_is;
        size = search rules;
      },
    )
