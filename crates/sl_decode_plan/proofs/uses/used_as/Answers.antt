use Rattle.std.proofs.Common.{ap, sym, ◌∙◌}
use Rattle.sl_decode_leaves.specs.Extents.{extent}
use Rattle.sl_decode_plan.specs.Uses.{read_at}
use Rattle.sl_decode_plan.proofs.uses.used_as.Goals as goal

pub returns-clause-reads : goal.returns-clause-reads
returns-clause-reads c = (
  sym c.in_ok-kind.ensures,
  λ s. c.in_ok-place.ensures s ∙ ap (λ m. read_at c.args.t.now s m (extent c.in_ok-place.place s.lengths)) (sym c.in_ok-kind.ensures),
)
