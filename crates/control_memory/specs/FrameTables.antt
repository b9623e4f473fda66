-- The tables of one frame, which several control memories can share. Source: this project.
use Rattle.std.specs.Prelude.{◌≡◌, ℕ, Option, length}
use Rattle.control_memory.specs.declared.frame_tables.FrameTables.{FrameTables}
use Rattle.control_memory.specs.Tables.{SameSize}
use Rattle.control_memory.specs.Image.{Control, IsSized}

-- the control memory of a frame with these tables
abbrev pub control_of : ℕ → ℕ → ℕ → ℕ → FrameTables → Control
control_of frame external bridges slots t = record {
  frame = frame;
  external = external;
  bridges = bridges;
  slots = slots;
  incoming = t.incoming.entries;
  space = t.space.entries;
  outgoing = t.outgoing.entries;
  heard = t.heard;
  rooms = t.rooms.items;
}

-- the tables have the sizes for the given numbers of external lines, bridge lines and internal slots
abbrev pub AreSized : ℕ → ℕ → ℕ → FrameTables → Type 0
AreSized external bridges slots t = IsSized external bridges slots t.incoming t.space t.outgoing (length t.heard) (length t.rooms.items)

-- a control memory that shows these tables, and tables of its sizes
abbrev pub with_tables : Control → FrameTables → Control
with_tables m = control_of m.frame m.external m.bridges m.slots

abbrev pub AreSizedFor : Control → FrameTables → Type 0
AreSizedFor m = AreSized m.external m.bridges m.slots

-- b has the sizes of a
pub record HaveSameSizes (a b : FrameTables) : Type 0 where
  pub incoming : SameSize a.incoming b.incoming
  pub space : SameSize a.space b.space
  pub outgoing : SameSize a.outgoing b.outgoing
  pub heard : length a.heard ≡ length b.heard
  pub rooms : length a.rooms.items ≡ length b.rooms.items

-- b has the entries of a
pub record HaveSameEntries (a b : FrameTables) : Type 0 where
  pub incoming : b.incoming ≡ a.incoming
  pub space : b.space ≡ a.space
  pub outgoing : b.outgoing ≡ a.outgoing
  pub heard : b.heard ≡ a.heard
  pub rooms : b.rooms.items ≡ a.rooms.items

-- the tables that a control memory shows: those that it shares, or its own; each of the sizes
pub record AreShown (external bridges slots : ℕ) (own shown : FrameTables) : Type 0 where
  pub own_sized : AreSized external bridges slots own
  pub shown_sized : AreSized external bridges slots shown

-- the control memory of another frame with the same tables
abbrev pub at_frame : ℕ → Control → Control
at_frame frame m = record {
  frame = frame;
  external = m.external;
  bridges = m.bridges;
  slots = m.slots;
  incoming = m.incoming;
  space = m.space;
  outgoing = m.outgoing;
  heard = m.heard;
  rooms = m.rooms;
}

-- the sizes of an exchange, and its latest control memory, if its tables still apply
pub record Recent : Type 0 where
  pub external : ℕ
  pub bridges : ℕ
  pub slots : ℕ
  pub latest : Option Control

-- a control memory of the sizes
pub record Fits (r : Recent) (image : Control) : Type 0 where
  pub external : image.external ≡ r.external
  pub bridges : image.bridges ≡ r.bridges
  pub slots : image.slots ≡ r.slots
