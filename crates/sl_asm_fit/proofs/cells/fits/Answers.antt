use Rattle.std.proofs.Common.{eq-eqb}
use borrow.Author.Tests.{eqb-true}
use Rattle.sl_cube.proofs.BitLemmas.{agrees_from_and, and_from_agrees}
use Rattle.sl_asm_fit.proofs.cells.fits.Goals as goal

pub returns : goal.returns
returns c =
    let cell = c.args.cell.now in (
      λ t. agrees_from_and cell.mask cell.value c.args.byte (eqb-true _ _ t),
      λ agrees. eq-eqb _ _ (and_from_agrees cell.mask cell.value c.args.byte cell.within agrees),
    )
