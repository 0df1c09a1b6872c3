use Rattle.std.proofs.Common.{◌≡◌, ◌*◌, ◌^◌, ◌<◌, get_or}
use Rattle.sl_base_names.specs.Found.{digits}
use Rattle.sl_base_names.proofs.by_name.number_of.Given as goal

abbrev pub invariant-bytes : goal.invariant-bytes
invariant-bytes l = (l.number ≡ digits (λ i. get_or l.name i 0) l.index) × (l.number < 2 * 256 ^ l.index)
