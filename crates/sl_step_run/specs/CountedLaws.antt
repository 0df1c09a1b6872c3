-- law: that an image runs by an accepted specification, with all operations counted.
use Rattle.std.specs.Prelude.{ℕ, Bool, List, Ok}
use Rattle.sl_ast.specs.Trees.{Item}
use Rattle.sl_bind.specs.Binding.{Binds}
use Rattle.sl_faithful_accepted.specs.Laws.{IsShort}
use Rattle.sl_bind_compile.specs.Outcomes.{Compiles}
use Rattle.sl_list_instructions.specs.Listing.{Image}
use Rattle.sl_step_run.specs.Running.{IsCountedRunText, RunOutcome, RunsCountedTo}
use Rattle.sl_spec.specs.declared.tables.Tables.{Tables}
use Rattle.sl_word.specs.declared.word.Size.{Size}

-- It can't be that an image has no outcome in which operations are counted, where the specification
-- is accepted.
abbrev pub SomeCountedRun : Type 0
SomeCountedRun = (items : List Item) (t : Tables) (sizes : List (List Size)) (i : Image)
    (steps : ℕ) → IsShort items → Binds items (Ok (t, sizes)) → Compiles items (Ok t)
    → ((count : ℕ) × (outcome : RunOutcome) × RunsCountedTo items t sizes i steps count outcome → ⊥)
    → ⊥

-- It can't be that no text tells its run.
abbrev pub SomeCountedRunText : Type 0
SomeCountedRunText = (items : List Item) (t : Tables) (sizes : List (List Size)) (i : Image)
    (steps : ℕ) → IsShort items → Binds items (Ok (t, sizes)) → Compiles items (Ok t)
    → ((count : ℕ) × (has_stopped : Bool) × (text : List ℕ)
    × IsCountedRunText items t sizes i steps count has_stopped text → ⊥) → ⊥
