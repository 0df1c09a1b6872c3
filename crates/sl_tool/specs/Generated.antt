-- meaning: what `gen` tells of the specification that it generates.
use Rattle.std.specs.Prelude.{◌≡◌, ℕ, ◌+◌, ◌%◌, ◌==◌, ◌||◌, Bool, false, if◌then◌else◌, List, [], ◌∷◌, Option, None, Some, Ok, slice_get}
use Rattle.sl_bind.specs.Binding.{Binds, constructors_of}
use Rattle.sl_tool_generator.specs.Image.{image}
use Rattle.sl_tool_generator.specs.Line.{figures_line}
use Rattle.sl_tool_generator.specs.declared.line.Figures.{Figures}
use Rattle.sl_list_instructions.specs.Listing.{Image, IsListing, image_from}
use Rattle.sl_step_run.specs.RunLines.{held}
use Rattle.sl_step_run.specs.Running.{RunOutcome, RunsCountedTo}
use Rattle.sl_spec.specs.Tables.{Register}
use Rattle.sl_spec.specs.declared.tables.Tables.{Tables}
use Rattle.sl_tool.specs.Endings.{Shown}
use Rattle.sl_tool.specs.declared.status.Ending.TheVariants.{Done}
use Rattle.sl_tool_stages.specs.Values.{Compiled}
use Rattle.sl_word.specs.Memories.{Memory}
use Rattle.sl_word.specs.declared.word.Size.{Size}

-- the image, from address 0 on, where no context is set
abbrev pub generated_image : (size : ℕ) → Image
generated_image size = image_from (image size) 0 0

-- the lines so far that show an instruction, and whether there is a mark in the one that is open, behind one byte more
abbrev pub lines_behind : (byte count : ℕ) → (is_marked : Bool) → ℕ × Bool
lines_behind byte count is_marked = if byte == 10 then (if is_marked then count else count + 1, false)
    else (count, is_marked || byte == 63)

-- how many lines show an instruction: those without a question mark, with which each mark begins
abbrev pub shown_from : (count : ℕ) → (is_marked : Bool) → List ℕ → ℕ
shown_from count is_marked [] = count
shown_from count is_marked (b ∷ bs) =
    let next = lines_behind b count is_marked in shown_from next.0 next.1 bs

abbrev pub shown_lines : List ℕ → ℕ
shown_lines text = shown_from 0 false text

-- the low byte of what a register holds, by its number
abbrev pub held_by : Tables → Memory → Option Register → ℕ
held_by t m None = 0
held_by t m (Some r) = held t m r % 256

abbrev pub register_at : Tables → Memory → (number : ℕ) → ℕ
register_at t m number = held_by t m (slice_get t.registers number)

-- the figures of a run behind which the memory is this
abbrev pub figures_told : Tables → (size listed ran : ℕ) → Memory → Figures
figures_told t size listed ran m = record {
  instructions = size;
  listed = listed;
  steps = ran;
  r0 = register_at t m 0;
  r1 = register_at t m 1;
  r2 = register_at t m 2;
  r3 = register_at t m 3;
}

-- The image that is generated is listed, and run for as many steps as it has instructions; this is told of it.
pub record AreFigures (c : Compiled) (size : ℕ) (s : Shown) : Type 0 where
  pub sizes : List (List Size)
  pub listing : List ℕ
  pub outcome : RunOutcome
  pub bound : Binds c.tree.items (Ok (c.tables, sizes))
  pub lists : IsListing c.tables (constructors_of c.tree.items) (generated_image size) listing
  pub runs : RunsCountedTo c.tree.items c.tables sizes (generated_image size) size s.ran outcome
  pub ending : s.ending ≡ Done
  pub text : s.text ≡ figures_line (figures_told c.tables size (shown_lines listing) outcome.ran outcome.machine.memory)
