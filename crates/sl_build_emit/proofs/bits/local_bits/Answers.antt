use Rattle.std.proofs.Common.{◌++◌, ap, ◌∙◌}
use Rattle.sl_build_emit.proofs.Operands.{mapped}
use Rattle.sl_build_emit.proofs.bits.local_bits.Goals as goal
use Rattle.sl_build_emit.specs.Views.{inserted}
use Rattle.sl_pcode.specs.declared.varnode.Varnode.{Varnode}

pub returns : goal.returns
returns c =
    mapped c.insert.result _ _
    (λ h. h ∙ ap (λ (to : Varnode). c.args.out.now ++ inserted c.args.site.now.top 2 c.args.bits to) c.local-to.ensures)
    c.insert.ensures
