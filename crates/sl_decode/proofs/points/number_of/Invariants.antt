use Rattle.std.proofs.Common.{◌≡◌, ◌^◌, ◌<◌, take}
use Rattle.std.specs.Prelude.{reverse}
use Rattle.sl_spec.specs.FieldValues.{number_from_least}
use Rattle.sl_decode.proofs.points.number_of.Given as goal

abbrev pub invariant-bytes : goal.invariant-bytes
invariant-bytes l = (l.number ≡ number_from_least (reverse (take l.index l.bytes))) × (l.number < 256 ^ l.index)
