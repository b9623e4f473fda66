-- What a control memory shows of the connections at a frame's boundary.
use Rattle.std.proofs.Common.{◌≡◌, ◌+◌, ◌<◌, None, sym, ◌∙◌, subst, if◌then◌else◌}
use Rattle.std.specs.Prelude.{◌↔◌, option_and_then, nat_lt}
use Rattle.circuit_model.specs.Holding.{Holding}
use Rattle.circuit_model.specs.Ports.{Ports}
use Rattle.control_memory.specs.Layout.{Legal, IsSlot, Joins}
use Rattle.control_memory.specs.Image.{Control, HasLayout, lines_of as image_lines, EachSlot, heard_at, room_at}
use Rattle.control_memory.specs.Shown.{ShowsBy, IsNeeded, heard_as, seated_as, served_by}
use Rattle.circuit_map.specs.Connections.{Connections, map_lines, Represents, served_in, room_in}

pub record Showing (m : Connections) (image : Control) : Type 0 where
  pub frame : image.frame ≡ m.next
  pub external : image.external ≡ m.external
  pub bridges : image.bridges ≡ m.bridges
  pub slots : image.slots ≡ m.slots
  pub legal : Legal (map_lines m) m.slots m.layout
  pub tables : HasLayout image m.layout
  pub heard : EachSlot (map_lines m) (λ at. heard_at image at ≡ heard_as (served_in m.external m.heard m.ports at))
  pub rooms : EachSlot (map_lines m) (λ at. room_at image at ≡ room_in m.external m.heard m.ports at)

pub shows : (m : Connections) (image : Control) (h : Holding) (ports : Ports) → Showing m image → Represents m h ports → ShowsBy m.layout image h.circuits ports h.next
shows m image h ports s holds =
    let lines : image_lines image ≡ map_lines m = λ i. s.external i + s.bridges i in
    record {
      frame = s.frame ∙ holds.next;
      legal = subst (λ w. Legal w image.slots m.layout) (sym lines) (subst (λ d. Legal (map_lines m) d m.layout) (sym s.slots) s.legal);
      tables = s.tables;
      paths = λ x y inside. subst (λ e. Joins m.layout x y ↔ IsNeeded e h.circuits ports x y) (sym s.external) (holds.joined x y (subst (λ w. IsSlot w x) lines inside));
      heard = λ at line place. s.heard at (subst (λ w. at.line < w) lines line) place ∙ (λ i. heard_as (option_and_then (λ z. holds.heard z i) (served_by (sym s.external i) (holds.members i) at)));
      rooms = λ at line place. s.rooms at (subst (λ w. at.line < w) lines line) place
          ∙ (λ i. if nat_lt at.line (sym s.external i) then None else seated_as (option_and_then (λ z. holds.heard z i) (served_by (sym s.external i) (holds.members i) at)));
    }
