-- law: the sizes of all sections of a text, constructor by constructor.
use Rattle.std.specs.Prelude.{◌≡◌, ℕ, List, Option, Some, slice_get}
use Rattle.sl_ast.specs.Trees.{Constructor}
use Rattle.sl_ast.specs.Unfolding.{Placed}
use Rattle.sl_spec_constructors.specs.Listed.{AreListed}
use Rattle.sl_section_equations.specs.SizesIn.{size_in}
use Rattle.sl_section_equations.specs.Uses.{exported_variable}
use Rattle.sl_section_all.specs.FlatSections.{Flat}
use Rattle.sl_section_sizes.specs.Ordering.{address_of, with_section}
use Rattle.sl_section_sizes.specs.SectionSizes.{AreSizes}
use Rattle.sl_section_sizes.specs.WholeLaws.{FitsAll}
use Rattle.sl_spec.specs.Tables.{Ctor}
use Rattle.sl_spec.specs.declared.tables.Tables.{Tables}
use Rattle.sl_word.specs.declared.word.Size.{Size}

module _ (t : Tables) (last : List (Option ℕ)) (sizes : List (List Size)) where
  -- The section of the constructor of this number has its only sizes, by those that tables export,
  -- keeps rule 40, and exports the size that its table does.
  pub record FitsAt (number : ℕ) (c : Ctor) (f : Flat) : Type 0 where
    pub own : List Size
    pub there : slice_get sizes number ≡ Some own
    pub fits : FitsAll (address_of t) last (with_section c f) own

-- The section of a constructor of the table exports.
pub record IsExported (t : Tables) (sections : List Flat) (table : ℕ) : Type 0 where
  pub number : ℕ
  pub c : Ctor
  pub f : Flat
  pub there : slice_get t.constructors number ≡ Some c
  pub section : slice_get sections number ≡ Some f
  pub owner : c.table ≡ table
  pub variable : ℕ
  pub exports : exported_variable f.steps ≡ Some variable

-- So do the sections of all constructors, by the same sizes that tables export, each of which a
-- constructor of its table exports.
pub record FitTheWhole (t : Tables) (sections : List Flat)
    (sizes : List (List Size)) : Type 0 where
  pub last : List (Option ℕ)
  pub exported : (table size : ℕ) → size_in last table ≡ Some size → IsExported t sections table
  pub each : (number : ℕ) (c : Ctor) (f : Flat) → slice_get t.constructors number ≡ Some c
      → slice_get sections number ≡ Some f → FitsAt t last sizes number c f

-- So it is where each table has its constructors, and sections have sizes in the order in which
-- constructors are shaped.
abbrev pub SectionsFitTheWhole : Type 0
SectionsFitTheWhole = (t : Tables) (cs : List (Placed Constructor)) (sections : List Flat)
    (sizes : List (List Size)) → AreListed t cs → AreSizes t sections sizes
    → FitTheWhole t sections sizes
