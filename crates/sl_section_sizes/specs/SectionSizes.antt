-- meaning: the sizes of all sections of a text, or the first constructor, in the order in which
-- constructors are shaped, whose section has none or breaks rule 40.
use Rattle.std.specs.Prelude.{◌≡◌, ℕ, List, Option, Some, None, length, option_map, replicate}
use Rattle.std.specs.Prelude.{slice_get, ⊤}
use Rattle.sl_section_all.specs.FlatSections.{Flat}
use Rattle.sl_spec_order.specs.Orders.{IsShapingOrder}
use Rattle.sl_section_sizes.specs.Found.{Is}
use Rattle.sl_section_sizes.specs.Ordering.{address_of, constructors, in_order, in_text_order}
use Rattle.sl_section_sizes.specs.Ordering.{numbers}
use Rattle.sl_section_sizes.specs.declared.faults.SizeFault.{SizeFault}
use Rattle.sl_section_sizes.specs.declared.faults.SizesError.{SizesError}
use Rattle.sl_section_sizes.specs.declared.faults.SizesError.TheVariants as error
use Rattle.sl_section_sizes.specs.Constructors.{Constructor}
use Rattle.sl_section_sizes.specs.Sizings.{AreSized, FirstStop}
use Rattle.sl_section_sizes.specs.declared.stop.Stop.{Stop}
use Rattle.sl_spec.specs.declared.tables.Tables.{Tables}
use Rattle.sl_word.specs.declared.word.Size.{Size}

-- nothing is known of what tables export
abbrev pub unknown : Tables → List (Option ℕ)
unknown t = replicate (length t.tables) None

module _ (t : Tables) (cs : List Constructor) where
  -- the numbers of the constructors of tables, and these constructors, table by table
  abbrev pub numbers_by : (tables : List ℕ) → List ℕ
  numbers_by tables = numbers t (length cs) tables

  abbrev pub shaped : (tables : List ℕ) → List Constructor
  shaped tables = in_order cs (numbers_by tables)

  -- The sections of all constructors have these sizes, in the order of the text.
  pub record AreSizesOf (sizes : List (List Size)) : Type 0 where
    pub tables : List ℕ
    pub is_order : IsShapingOrder (length t.tables) t.constructors tables
    pub found : List (List Size)
    pub exports : List (Option ℕ)
    pub are_sized : AreSized (address_of t) (unknown t) (shaped tables) found exports
    pub in_text : sizes ≡ in_text_order (length cs) found (numbers_by tables)

  -- The section of the constructor of this item is the first, in the order in which constructors
  -- are shaped, that has no sizes or breaks rule 40.
  pub record IsFirstFaultOf (item : ℕ) (fault : SizeFault) : Type 0 where
    pub tables : List ℕ
    pub is_order : IsShapingOrder (length t.tables) t.constructors tables
    pub index : ℕ
    pub stop : Stop
    pub stops : FirstStop (address_of t) (unknown t) (shaped tables) index stop
    pub is_fault : Is stop fault
    pub number : ℕ
    pub is_number : slice_get (numbers_by tables) index ≡ Some number
    pub is_item : option_map (λ c. c.item) (slice_get t.constructors number) ≡ Some item

  -- Why there are no sizes; memory may run out at any point.
  abbrev pub IsSizesErrorOf : SizesError → Type 0
  IsSizesErrorOf (error.Fault item fault) = IsFirstFaultOf item fault
  IsSizesErrorOf error.NoMemory = ⊤

-- by the flat sections of all constructors
abbrev pub AreSizes : Tables → List Flat → List (List Size) → Type 0
AreSizes t sections sizes = AreSizesOf t (constructors t sections) sizes

abbrev pub IsFirstFault : Tables → List Flat → (item : ℕ) → SizeFault → Type 0
IsFirstFault t sections item fault = IsFirstFaultOf t (constructors t sections) item fault

abbrev pub IsSizesError : Tables → List Flat → SizesError → Type 0
IsSizesError t sections e = IsSizesErrorOf t (constructors t sections) e
