-- view: the work of an expansion as the program keeps it.
use Rattle.std.specs.Prelude.{◌≡◌, ℕ, List, map, Result, Ok, Err}
use Rattle.std.specs.Global.{Global}
use Rattle.std.specs.List.{position_or_len}
use Rattle.std.specs.String.{string_bytes}
use Rattle.std.specs.Str.{bytes_eq}
use Rattle.std.specs.declared.string.String.{String}
use Rattle.sl_preproc_directives.specs.Held.{values_of}
use Rattle.sl_preproc_directives.specs.Pages.{page_of}
use Rattle.sl_preproc.specs.Expansion as spec
use Rattle.sl_preproc.specs.Expansion.{entered}
use Rattle.sl_preproc_directives.specs.declared.fault.Fault.{Fault}
use Rattle.sl_preproc_directives.specs.declared.fault.Fault.TheVariants.{NoMemory}
use Rattle.sl_preproc.specs.declared.work.Work.{Work}

abbrev pub names_of : List (String Global) → List (List ℕ)
names_of files = map string_bytes files

abbrev pub work_of : Work → spec.Work
work_of w = record { defs = values_of w.replacer.defs; page = page_of w.page; files = names_of w.files.keys; places = w.places.items }

-- a name's number among the files, where it is entered if it is new; nothing but memory is wanting
abbrev pub EntersAt : List ℕ → List (List ℕ) → List (List ℕ) → Result ℕ Fault → Type 0
EntersAt name old new (Ok number) = (number ≡ position_or_len (bytes_eq name) old) × (new ≡ entered name old)
EntersAt name old new (Err e) = e ≡ NoMemory
