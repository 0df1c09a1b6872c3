-- view: look-ups of bare fields.
use Rattle.std.specs.Prelude.{◌+◌, Result, Ok}
use Rattle.sl_decode_meaning.specs.Actions.{Own}
use Rattle.sl_decode_meaning.specs.Lookups.{shown}
use Rattle.sl_decode_meaning.specs.Outcomes.{◌>>=◌}
use Rattle.sl_decode_meaning.specs.Values.{Site}
use Rattle.sl_decode_meaning.specs.declared.faults.Fault.{Fault}
use Rattle.sl_decode_leaves.specs.Extents.{extent}
use Rattle.sl_decode_leaves.specs.declared.looks.Look.{Look}
use Rattle.sl_spec.specs.declared.tables.Tables.{Tables}

abbrev pub look_step : Tables → Site → Look → Own → Result Own Fault
look_step t s x c =
    shown t x.field s.bytes (s.at + extent x.place s.lengths) s.context >>= λ found. Ok c
