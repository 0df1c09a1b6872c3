-- meaning: that a text's sections have sizes or a first fault, and not both.
use Rattle.std.specs.Prelude.{◌≡◌, ℕ, List, Result, Ok, Err}
use Rattle.sl_section_all.specs.FlatSections.{Flat}
use Rattle.sl_section_sizes.specs.SectionSizes.{AreSizes, IsFirstFault}
use Rattle.sl_section_sizes.specs.declared.faults.SizeFault.{SizeFault}
use Rattle.sl_spec.specs.declared.tables.Tables.{Tables}
use Rattle.sl_word.specs.declared.word.Size.{Size}

-- the sizes of all sections, or the item of the first constructor that is refused, and why
abbrev pub SizingOutcome : Type 0
SizingOutcome = Result (List (List Size)) (ℕ × SizeFault)

-- What becomes of the flat sections of all constructors.
abbrev pub ComesTo : Tables → List Flat → SizingOutcome → Type 0
ComesTo t sections (Ok sizes) = AreSizes t sections sizes
ComesTo t sections (Err e) = IsFirstFault t sections e.0 e.1

-- There is one outcome at most.
abbrev pub HasOneOutcome : Type 0
HasOneOutcome = (t : Tables) (sections : List Flat) (r q : SizingOutcome)
    → ComesTo t sections r → ComesTo t sections q → r ≡ q
