use Rattle.std.proofs.Common.{refl}
use Rattle.sl_cube.proofs.BitLemmas.{least_agrees}
use Rattle.sl_cube.proofs.CubeLemmas.{not_after}
use Rattle.sl_cube.proofs.Cube.least.Goals as goal

pub returns : goal.returns
returns c =
    let cube = c.args.self.now in (
      (λ i on. refl, λ i on. refl),
      λ q range inside. not_after _ _
          (least_agrees cube.mask cube.value q.bytes cube.within inside.0)
          (least_agrees cube.ctx_mask cube.ctx_value q.context cube.ctx_within inside.1),
    )
