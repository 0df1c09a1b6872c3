use Rattle.std.proofs.Common.{sym, ◌∙◌}
use Rattle.std.proofs.lemmas.Bool.{false≢true}
use Rattle.sl_choose.proofs.sides.is_forced.Goals as goal

pub returns-else-may_differ : goal.returns-else-may_differ
returns-else-may_differ c =
    let bits = c.args.bits.now in
    let shared = c.requires.shared in (
      λ t. absurd (false≢true (sym c.if-may_differ.false ∙ t)),
      λ forced. c.may_differ.ensures.1 (record {
        fixed = shared.fixed bits c.requires.range forced.all;
        some = shared.some bits forced.set;
        all = shared.all bits forced.clear;
      }),
    )
