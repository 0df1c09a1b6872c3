-- meaning: why a section has no sizes.
use Rattle.std.specs.Prelude.{◌≡◌}
use Rattle.sl_sizes.specs.declared.SizeError.TheVariants as error
use Rattle.sl_section_sizes.specs.declared.stop.Stop.{Stop}
use Rattle.sl_section_sizes.specs.declared.stop.Stop.TheVariants as stop
use Rattle.sl_section_sizes.specs.declared.faults.SizeFault.{SizeFault}
use Rattle.sl_section_sizes.specs.declared.faults.SizeFault.TheVariants as fault

-- A stop of a section is this fault.
abbrev pub Is : Stop → SizeFault → Type 0
Is (stop.Sizes (error.Clash index)) f = f ≡ fault.Clash
Is (stop.Sizes (error.Unfixed x)) f = f ≡ fault.Unfixed
Is (stop.Sizes error.NoMemory) f = ⊥
Is stop.Rule f = f ≡ fault.Rule
Is stop.NoMemory f = ⊥
