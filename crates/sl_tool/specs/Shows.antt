-- meaning: what is shown of an image besides its listing.
use Rattle.std.specs.Prelude.{◌≡◌, ℕ, Bool, List, Ok}
use Rattle.sl_bind.specs.Binding.{Binds}
use Rattle.sl_list_pcode.specs.Listing.{IsPcodeListing}
use Rattle.sl_step_run.specs.Running.{IsCountedRunText}
use Rattle.sl_tool.specs.Endings.{Shown, ending_of}
use Rattle.sl_tool_stages.specs.Values.{Loaded}
use Rattle.sl_word.specs.declared.word.Size.{Size}

-- The text lists the image with the operations of its instructions, by the sizes of the specification's sections.
pub record IsOperations (l : Loaded) (text : List ℕ) : Type 0 where
  pub sizes : List (List Size)
  pub bound : Binds l.compiled.tree.items (Ok (l.compiled.tables, sizes))
  pub lists : IsPcodeListing l.compiled.tree.items l.compiled.tables sizes l.image text

-- It tells the run of the image for at most so many steps, in which so many operations ran. Where a step has a fault, the
-- request ends as stopped.
pub record ShowsRun (l : Loaded) (steps : ℕ) (s : Shown) : Type 0 where
  pub sizes : List (List Size)
  pub bound : Binds l.compiled.tree.items (Ok (l.compiled.tables, sizes))
  pub stopped : Bool
  pub ending : s.ending ≡ ending_of stopped
  pub runs : IsCountedRunText l.compiled.tree.items l.compiled.tables sizes l.image steps s.ran stopped s.text
