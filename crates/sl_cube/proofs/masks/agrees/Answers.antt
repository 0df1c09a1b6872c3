use Rattle.std.proofs.Common.{eq-eqb}
use borrow.Author.Tests.{eqb-true}
use Rattle.sl_cube.proofs.BitLemmas.{agrees_from_and, and_from_agrees}
use Rattle.sl_cube.proofs.masks.agrees.Goals as goal

pub returns : goal.returns
returns c = (
  λ t. agrees_from_and c.args.mask c.args.value c.args.number (eqb-true _ _ t),
  λ agrees. eq-eqb _ _ (and_from_agrees c.args.mask c.args.value c.args.number c.requires agrees),
)
