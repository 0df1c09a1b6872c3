-- meaning: what holds of each expanded text, whatever the files say.
use Rattle.std.specs.Prelude.{◌≡◌, ◌<◌, ◌≤◌, length}
use Rattle.std.specs.List.{AllByRecursion}
use Rattle.sl_outside.specs.Folder.{size_limit}
use Rattle.sl_preproc_directives.specs.Lines.{lines}
use Rattle.sl_preproc.specs.Expanded.{Text}

-- The text isn't too long, there is a main file, each line of the text has a place, and each place is in one of the files.
pub record IsSound (t : Text) : Type 0 where
  pub small : length t.bytes ≤ size_limit
  pub some : 0 < length t.files
  pub placed : length t.places ≡ length (lines t.bytes)
  pub known : AllByRecursion (λ place. place.file < length t.files) t.places

-- ---- and of each work
