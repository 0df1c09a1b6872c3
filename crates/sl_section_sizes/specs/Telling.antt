-- step: what is told of an error of sizes.
use Rattle.std.specs.Prelude.{◌≡◌, ℕ, List, Some, option_map, slice_get, ⊤}
use Rattle.sl_section_sizes.specs.declared.faults.SizeFault.{SizeFault}
use Rattle.sl_section_sizes.specs.declared.faults.SizeFault.TheVariants as fault
use Rattle.sl_section_sizes.specs.declared.faults.SizesError.{SizesError}
use Rattle.sl_section_sizes.specs.declared.faults.SizesError.TheVariants as told
use Rattle.sl_sizes.specs.declared.SizeError.TheVariants as error
use Rattle.sl_section_sizes.specs.declared.stop.SizingError.{SizingError}
use Rattle.sl_section_sizes.specs.declared.stop.SizingError.TheVariants as sizing
use Rattle.sl_spec.specs.declared.tables.Tables.{Tables}

-- It is told of the constructor at this index among these numbers, unless memory ran out.
pub record IsAt (t : Tables) (numbers : List ℕ) (index item : ℕ) : Type 0 where
  pub number : ℕ
  pub is_number : slice_get numbers index ≡ Some number
  pub is_item : option_map (λ c. c.item) (slice_get t.constructors number) ≡ Some item

abbrev pub TellsOf : Tables → List ℕ → ℕ → SizeFault → SizesError → Type 0
TellsOf t numbers index f (told.Fault item g) = (g ≡ f) × IsAt t numbers index item
TellsOf t numbers index f told.NoMemory = ⊤

abbrev pub Tells : Tables → List ℕ → SizingError → SizesError → Type 0
Tells t numbers (sizing.Sizes index (error.Clash i)) e = TellsOf t numbers index fault.Clash e
Tells t numbers (sizing.Sizes index (error.Unfixed x)) e = TellsOf t numbers index fault.Unfixed e
Tells t numbers (sizing.Sizes index error.NoMemory) e = e ≡ told.NoMemory
Tells t numbers (sizing.Rule index) e = TellsOf t numbers index fault.Rule e
Tells t numbers sizing.NoMemory e = e ≡ told.NoMemory
