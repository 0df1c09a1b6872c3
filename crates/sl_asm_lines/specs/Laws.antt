-- law: what comes of an edited listing, by a specification that is accepted.
use Rattle.std.specs.Prelude.{ℕ, List, Ok}
use Rattle.sl_asm_lines.specs.Patched.{Fails, Gives, IsUnedited, ListsAlike, Outcome}
use Rattle.sl_asm_lines.specs.declared.faults.LineFault.{LineFault}
use Rattle.sl_ast.specs.Trees.{Constructor, Item}
use Rattle.sl_ast.specs.Unfolding.{Placed}
use Rattle.sl_base_surely.specs.Surely.{Surely}
use Rattle.sl_bind_compile.specs.Outcomes.{Compiles, all_constructors}
use Rattle.sl_spec.specs.declared.tables.Tables.{Tables}

-- The listing of the image that a text is given says what the text says, but for bytes.
abbrev pub GivenListsAlike : Type 0
GivenListsAlike = (t : Tables) (cs : List (Placed Constructor)) (start : ℕ) (text image : List ℕ)
    → Gives t cs start text image → ListsAlike t cs start text image

-- It can't be that nothing comes of a text.
abbrev pub SomeOutcome : Type 0
SomeOutcome = (items : List Item) (t : Tables) (start : ℕ) (text : List ℕ) → Compiles items (Ok t)
    → Surely (Outcome t (all_constructors items) start text)

-- A text that wasn't edited has no line at fault.
abbrev pub UneditedNeverFails : Type 0
UneditedNeverFails = (items : List Item) (t : Tables) (start : ℕ) (text : List ℕ) → Compiles items (Ok t)
    → IsUnedited t (all_constructors items) start text
    → (number : ℕ) (fault : LineFault) → Fails t (all_constructors items) start text number fault → ⊥
