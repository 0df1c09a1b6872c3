-- view: lines that a file can number.
use Rattle.std.specs.Prelude.{◌≤◌}
use Rattle.sl_preproc.specs.declared.places.Place.{Place}
use Rattle.sl_store_format.specs.Items.{greatest_line}

-- The line has 32 bits.
abbrev pub HasLine : Place → Type 0
HasLine p = p.line ≤ greatest_line
