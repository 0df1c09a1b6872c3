-- step: parts of what `gen` tells.
use Rattle.std.specs.Prelude.{◌≡◌, ℕ, ◌+◌, ◌^◌, ◌≤◌, Bool, List, drop, length}
use Rattle.sl_bind.specs.Binding.{constructors_of}
use Rattle.sl_decode_meaning.specs.Actions.{address_bytes}
use Rattle.sl_list_instructions.specs.Listing.{Image, IsListing}
use Rattle.sl_step_run.specs.Running.{HasRoom}
use Rattle.sl_spec.specs.declared.tables.Tables.{Tables}
use Rattle.sl_tool.specs.Generated.{AreFigures, shown_from, shown_lines}
use Rattle.sl_tool.specs.Growth.{Grew}
use Rattle.sl_tool.specs.Endings.{shown}
use Rattle.sl_tool.specs.declared.status.Ending.TheVariants.{Done}
use Rattle.sl_tool_stages.specs.Values.{Compiled}

-- The image fits the default space of the tables from its base on.
pub record ImageFits (t : Tables) (image : Image) : Type 0 where
  pub room : HasRoom (256 ^ address_bytes t) image.base (length image.bytes)
  pub ends : image.base + length image.bytes ≤ 2 ^ 64

-- So many lines of the image's listing show an instruction.
abbrev pub IsListed : Compiled → Image → (count : ℕ) → Type 0
IsListed c image count = (listing : List ℕ)
    × IsListing c.tables (constructors_of c.tree.items) image listing
    × (count ≡ shown_lines listing)

-- The line tells what is due, and a count grew by the operations that ran.
abbrev pub IsFigured : Compiled → (size old new : ℕ) → (line : List ℕ) → Type 0
IsFigured c size old new line = (ran : ℕ) × AreFigures c size (shown Done line ran) × Grew old new ran

-- So many lines were counted by a place of the text, and whether the open one has a mark; what is left counts the others.
pub record CountsSo (text : List ℕ) (place count : ℕ) (is_marked : Bool) : Type 0 where
  pub few : count ≤ place
  pub rest : shown_from count is_marked (drop place text) ≡ shown_lines text
