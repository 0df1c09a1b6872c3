-- meaning: the files that an expansion asks for.
use Rattle.std.specs.Prelude.{◌≡◌, ℕ, List, ◌∷◌, Option}
use Rattle.sl_outside.specs.Folder.{Folder}
use Rattle.sl_preproc.specs.Expanded.{asked_by}
use Rattle.sl_preproc.specs.Folders.{WhereTold}

-- The names that an expansion asks for: the main file's is the first, and where the folder is
-- told, they are those of the definition.
pub record AsksFor (told : Option Folder) (main : List ℕ) (names : List (List ℕ)) : Type 0 where
  pub others : List (List ℕ)
  pub first : names ≡ main ∷ others
  pub defined : WhereTold told (λ folder. names ≡ asked_by folder main)
