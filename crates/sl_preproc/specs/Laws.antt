-- law: laws of the definitions.
use Rattle.std.specs.Prelude.{◌≡◌, ℕ, List, ◌∷◌, Contains, Ok}
use Rattle.sl_outside.specs.Folder.{Folder}
use Rattle.sl_preproc.specs.Trees.{Line, flattened, tree_of}
use Rattle.sl_preproc.specs.Expanded.{Text, expanded, asked_by}

-- The tree of lines has just these lines, in their order.
abbrev pub KeepsLines : Type 0
KeepsLines = (ls : List Line) → flattened (tree_of ls) ≡ ls

-- The main file is asked for first.
abbrev pub AsksForMainFirst : Type 0
AsksForMainFirst = (folder : Folder) (main : List ℕ)
    → (others : List (List ℕ)) × (asked_by folder main ≡ main ∷ others)

-- Each file that gives a line to the text was asked for.
abbrev pub AsksForFilesOfText : Type 0
AsksForFilesOfText = (folder : Folder) (main : List ℕ) (text : Text)
    → expanded folder main ≡ Ok text
    → (file : List ℕ) → Contains text.files file → Contains (asked_by folder main) file
