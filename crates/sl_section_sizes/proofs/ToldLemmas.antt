-- What is told of an error of sizes is the first fault.
use Rattle.std.proofs.Common.{◌≡◌, ℕ, List, length, refl, sym, subst}
use Rattle.sl_spec_order.specs.Orders.{IsShapingOrder}
use Rattle.sl_section_sizes.specs.Found.{Is}
use Rattle.sl_section_sizes.specs.Ordering.{address_of}
use Rattle.sl_section_sizes.specs.SectionSizes.{IsSizesErrorOf, numbers_by, shaped, unknown}
use Rattle.sl_section_sizes.specs.Telling.{Tells, TellsOf}
use Rattle.sl_section_sizes.specs.declared.faults.SizeFault.{SizeFault}
use Rattle.sl_section_sizes.specs.declared.faults.SizeFault.TheVariants as fault
use Rattle.sl_section_sizes.specs.declared.faults.SizesError.{SizesError}
use Rattle.sl_section_sizes.specs.declared.faults.SizesError.TheVariants as told
use Rattle.sl_sizes.specs.declared.SizeError.TheVariants as error
use Rattle.sl_section_sizes.specs.Constructors.{Constructor}
use Rattle.sl_section_sizes.specs.Sizings.{FirstStop, IsError}
use Rattle.sl_section_sizes.specs.declared.stop.SizingError.{SizingError}
use Rattle.sl_section_sizes.specs.declared.stop.SizingError.TheVariants as sizing
use Rattle.sl_section_sizes.specs.declared.stop.Stop.{Stop}
use Rattle.sl_section_sizes.specs.declared.stop.Stop.TheVariants as stop
use Rattle.sl_spec.specs.declared.tables.Tables.{Tables}

module _ (t : Tables) (cs : List Constructor) (tables : List ℕ) (is_order : IsShapingOrder (length t.tables) t.constructors tables) where
  told_fault : (index : ℕ) (s : Stop) (f : SizeFault) (r : SizesError) → FirstStop (address_of t) (unknown t) (shaped t cs tables) index s → Is s f
      → TellsOf t (numbers_by t cs tables) index f r → IsSizesErrorOf t cs r
  told_fault index s f (told.Fault item g) stops is h = record {
    tables = tables;
    is_order = is_order;
    index = index;
    stop = s;
    stops = stops;
    is_fault = subst (λ (x : SizeFault). Is s x) (sym h.0) is;
    number = h.1.number;
    is_number = h.1.is_number;
    is_item = h.1.is_item;
  }
  told_fault index s f told.NoMemory stops is h = tt

  no_memory : (r : SizesError) → r ≡ told.NoMemory → IsSizesErrorOf t cs r
  no_memory r is = subst (λ (x : SizesError). IsSizesErrorOf t cs x) (sym is) tt

  pub told_error : (e : SizingError) (r : SizesError) → IsError (address_of t) (unknown t) (shaped t cs tables) e → Tells t (numbers_by t cs tables) e r
      → IsSizesErrorOf t cs r
  told_error (sizing.Sizes index (error.Clash i)) r is h = told_fault index (stop.Sizes (error.Clash i)) fault.Clash r is refl h
  told_error (sizing.Sizes index (error.Unfixed x)) r is h = told_fault index (stop.Sizes (error.Unfixed x)) fault.Unfixed r is refl h
  told_error (sizing.Sizes index error.NoMemory) r is h = no_memory r h
  told_error (sizing.Rule index) r is h = told_fault index stop.Rule fault.Rule r is refl h
  told_error sizing.NoMemory r is h = no_memory r h
