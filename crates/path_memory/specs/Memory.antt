-- The paths of a fabric with Paull's matrix of them. Source: the path memory and the map of busy links of a
-- stored-program exchange; A. Feiner and W. S. Hayward, "No. 1 ESS switching network plan", Bell System Technical
-- Journal 43 (1964).
use Rattle.std.specs.Prelude.{◌≡◌, None}
use Rattle.circuit_model.specs.declared.channel.Slot.{Slot}
use Rattle.control_memory.specs.Layout.{Legal, IsSlot, hop_of, path_to}
use Rattle.control_memory.specs.Paths.{Fabric}
use Rattle.paull_matrix.specs.Matrix.{Matrix, IsLegal}
use Rattle.path_memory.specs.Matching.{IsMatrixOf}

-- the matrix is the layout's, and both are legal
pub record IsPathMemory (m : Matrix) (f : Fabric) : Type 0 where
  pub lines : m.lines ≡ f.lines
  pub slots : m.slots ≡ f.slots
  pub legal_matrix : IsLegal m
  pub legal : Legal f.lines f.slots f.layout
  pub is : IsMatrixOf m f.layout

-- two ends that can be connected: free slots of the fabric
pub record CanConnect (f : Fabric) (from to : Slot) : Type 0 where
  pub from_inside : IsSlot f.lines from
  pub to_inside : IsSlot f.lines to
  pub inlet : hop_of f.layout from ≡ None
  pub outlet : path_to f.layout to ≡ None
