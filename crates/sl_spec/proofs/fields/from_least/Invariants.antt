use Rattle.std.proofs.Common.{◌≡◌, ◌-◌, ◌^◌, ◌<◌, drop, length}
use Rattle.sl_spec.specs.FieldValues.{number_from_least}
use Rattle.sl_spec.proofs.fields.from_least.Given as goal

abbrev pub invariant-bytes : goal.invariant-bytes
invariant-bytes l = (l.number ≡ number_from_least (drop (length l.bytes - l.index) l.bytes)) × (l.number < 256 ^ l.index)
