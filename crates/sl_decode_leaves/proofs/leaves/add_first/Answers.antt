use Rattle.std.proofs.Common.{sym, ◌∙◌}
use Rattle.sl_decode_leaves.specs.Extents.{extent}
use Rattle.sl_decode_leaves.proofs.FirstLemmas.{has_first}
use Rattle.sl_decode_leaves.proofs.leaves.add_first.Goals as goal

pub returns-then-has : goal.returns-then-has
returns-then-has c = λ lengths name rest.
    let x = c.args.leaf.now in
    has_first lengths x.name.now name x.alone (extent x.place lengths) c.args.all.now rest (sym c.has.ensures ∙ c.if-has.true)
