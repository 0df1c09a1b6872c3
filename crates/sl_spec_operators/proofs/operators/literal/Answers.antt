use Rattle.std.proofs.Common.{◌∙◌}
use Rattle.std.specs.Int.{w64}
use Rattle.std.proofs.lemmas.Int.{to_z-of_z}
use Rattle.sl_spec_operators.proofs.ValueLemmas.{literal_is}
use Rattle.sl_spec_operators.proofs.operators.literal.Goals as goal

pub returns : goal.returns
returns c = to_z-of_z w64 c.cast_signed.result (record { sfits = c.cast_signed.type_inv }) ∙ c.cast_signed.ensures ∙ literal_is c.args.n c.ranges.n.fits
