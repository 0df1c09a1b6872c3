-- step: how many bits a register has.
use Rattle.std.specs.Prelude.{ℕ, ◌*◌, Option, Some, None}
use Rattle.sl_spec.specs.Tables.{Register}

abbrev pub bits_in : Option Register → ℕ
bits_in None = 0
bits_in (Some r) = 8 * r.size
