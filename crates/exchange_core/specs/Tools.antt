-- The output of a step in addition to its reply. Source: this project.
use Rattle.std.specs.Prelude.{Option, Some, None}
use Rattle.control_memory.specs.Image.{Control}
use Rattle.exchange_core.specs.declared.tool.Tool.{Tool}
use Rattle.exchange_core.specs.declared.tool.Tool.TheVariants.{Nothing, Image}

-- the control memory of a tool, if it has one
abbrev pub image_in : Tool → Option Control
image_in Nothing = None
image_in (Image memory) = Some memory
