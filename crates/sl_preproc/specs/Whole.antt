-- step: an expanded text by its lines, each with its place.
use Rattle.std.specs.Prelude.{◌≡◌, ℕ, ◌==◌, ◌<◌, ◌≤◌, false, List, [], ◌∷◌, ◌++◌, length, count_by, Some, ◌⊎◌}
use Rattle.std.specs.List.{AllByRecursion}
use Rattle.sl_outside.specs.Folder.{size_limit}
use Rattle.sl_preproc_directives.specs.Definitions.{Values}
use Rattle.sl_preproc.specs.Expansion.{Work}
use Rattle.sl_preproc.specs.Sound.{IsSound}

abbrev pub NoFeed : List ℕ → Type 0
NoFeed s = AllByRecursion (λ b. (b == 10) ≡ false) s

abbrev pub feeds : List ℕ → ℕ
feeds s = count_by (λ b. b == 10) s

-- the last line is ended
abbrev pub IsEnded : List ℕ → Type 0
IsEnded text = (text ≡ []) ⊎ ((front : List ℕ) × (text ≡ front ++ 10 ∷ []))

-- no value goes over the end of its line
abbrev pub AreOnLines : Values → Type 0
AreOnLines defs = (name value : List ℕ) → defs name ≡ Some value → NoFeed value

pub record IsWhole (work : Work) : Type 0 where
  pub small : length work.page.text ≤ size_limit
  pub some : 0 < length work.files
  pub counted : length work.places ≡ feeds work.page.text
  pub ended : IsEnded work.page.text
  pub known : AllByRecursion (λ place. place.file < length work.files) work.places
  pub values : AreOnLines work.defs
