use Rattle.std.proofs.Common.{◌+◌}
use Rattle.sl_shape_constraints.specs.Homes.{place_of}
use Rattle.sl_shape_constraints.specs.FixedBits.{FixesBits}
use Rattle.sl_shape_constraints.proofs.places.fixed_bits.Given as goal

abbrev pub invariant-bits : goal.invariant-bits
invariant-bits l = FixesBits (λ r. place_of l.home (l.low + r)) l.value l.r l.mask l.fixed
