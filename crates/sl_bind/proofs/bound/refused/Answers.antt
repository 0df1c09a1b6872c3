use Rattle.std.proofs.Common.{subst}
use Rattle.sl_ast.specs.Views.{items_of}
use Rattle.sl_bind.proofs.IndexLemmas.{refuses}
use Rattle.sl_bind.specs.Sections.{IsRefusal}
use Rattle.sl_bind.proofs.bound.refused.Goals as goal

pub returns-in-At : goal.returns-in-At
returns-in-At c =
    refuses c.args.spec.now c.as_slice.result.now c.in-At.fault c.in-At.item c.error_at.result c.as_slice.ensures.value
    (subst (IsRefusal (items_of c.args.spec.now)) c.in-At.is c.requires) c.error_at.ensures
