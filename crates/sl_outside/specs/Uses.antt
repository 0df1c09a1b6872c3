-- meaning: what a call does to the files and to the sink that it is passed.
use Rattle.std.specs.Prelude.{◌≡◌, ℕ, ◌≤◌, List, ◌++◌, take, Option, Some, None, ⊤}
use Rattle.sl_outside.specs.Causes.{Rose}
use Rattle.sl_outside.specs.Folder.{Folder}

-- the names that were asked for, in their order, where they are told
abbrev pub Names : Type 0
Names = Option (List (List ℕ))

-- Where the names are told, these were asked for after the earlier ones, and no others.
abbrev pub Asks : Names → Names → List (List ℕ) → Type 0
Asks None new names = ⊤
Asks (Some xs) None names = ⊥
Asks (Some xs) (Some ys) names = ys ≡ xs ++ names

-- The first of these names were asked for, in their order.
abbrev pub AsksFront : Names → Names → List (List ℕ) → Type 0
AsksFront old new names = (count : ℕ) × Asks old new (take count names)

-- A call asks for these names: for all of them, or, where it stops early, for the first of them. It fails only where the
-- count of faults rose. The folder stays as it is.
pub record UsesFiles {F : Type 0} (told : F → Option Folder) (faults : F → ℕ) (asked : F → Names) (old new : F)
    (names : List (List ℕ)) (early fails : Type 0) : Type 0 where
  pub same_folder : told new ≡ told old
  pub never_falls : faults old ≤ faults new
  pub failed : fails → Rose (faults old) (faults new)
  pub asks_front : AsksFront (asked old) (asked new) names
  pub asks_all : (early → ⊥) → Asks (asked old) (asked new) names

-- A call uses the sink. It fails only where the count of faults rose.
pub record UsesSink {K : Type 0} (faults calls : K → ℕ) (old new : K) (fails : Type 0) : Type 0 where
  pub never_falls : faults old ≤ faults new
  pub failed : fails → Rose (faults old) (faults new)
  pub goes_on : calls old ≤ calls new
