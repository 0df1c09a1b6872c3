-- law: that the run of an image has one text, and some by a sound specification.
use Rattle.std.specs.Prelude.{◌≡◌, ℕ, Bool, List, Ok}
use Rattle.sl_ast.specs.Trees.{Item}
use Rattle.sl_bind_compile.specs.Outcomes.{Compiles}
use Rattle.sl_list_instructions.specs.Listing.{Image}
use Rattle.sl_step_run.specs.Running.{IsCountedRunText, IsRunText}
use Rattle.sl_spec.specs.declared.tables.Tables.{Tables}
use Rattle.sl_word.specs.declared.word.Size.{Size}

-- The run of an image has one text at most, and has stopped or not.
abbrev pub RunTextIsOne : Type 0
RunTextIsOne = (items : List Item) (t : Tables) (sizes : List (List Size)) (i : Image) (steps : ℕ)
    (has_stopped other_stopped : Bool) (text other : List ℕ)
    → IsRunText items t sizes i steps has_stopped text
    → IsRunText items t sizes i steps other_stopped other
    → (has_stopped ≡ other_stopped) × (text ≡ other)

-- It can't be that it has none, where the specification is sound.
abbrev pub SomeRunText : Type 0
SomeRunText = (items : List Item) (t : Tables) (sizes : List (List Size)) (i : Image) (steps : ℕ)
    → Compiles items (Ok t)
    → ((has_stopped : Bool) × (text : List ℕ)
    × IsRunText items t sizes i steps has_stopped text → ⊥) → ⊥

-- A text that tells a run in which operations are counted tells the run.
abbrev pub CountedIsText : Type 0
CountedIsText = (items : List Item) (t : Tables) (sizes : List (List Size)) (i : Image)
    (steps count : ℕ) (has_stopped : Bool) (text : List ℕ)
    → IsCountedRunText items t sizes i steps count has_stopped text
    → IsRunText items t sizes i steps has_stopped text
