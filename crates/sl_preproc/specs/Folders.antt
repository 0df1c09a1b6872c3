-- meaning: facts of a folder that is told.
use Rattle.std.specs.Prelude.{◌≡◌, Option, Some}
use Rattle.sl_outside.specs.Folder.{Folder}

-- the fact holds of the folder, where it is told
abbrev pub WhereTold : Option Folder → (Folder → Type 0) → Type 0
WhereTold told P = (folder : Folder) → told ≡ Some folder → P folder
