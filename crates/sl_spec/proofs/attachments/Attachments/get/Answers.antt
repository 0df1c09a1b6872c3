use Rattle.std.proofs.Common.{List, nat_eq, slice_get, sym, ap, ◌∙◌}
use Rattle.sl_spec.specs.Tables.{Attached}
use Rattle.sl_spec.proofs.AttachmentLemmas.{found, missing}
use Rattle.sl_spec.proofs.attachments.Attachments.get.Goals as goal

pub returns-in-Some : goal.returns-in-Some
returns-in-Some c =
    c.get.ensures ∙ ap (λ (xs : List Attached). slice_get xs c.in-Some.index) c.self.view_is
    ∙ found (λ (a : Attached). nat_eq c.args.field a.field) c.args.self.now c.in-Some.index (sym c.index.ensures ∙ c.in-Some.is)

pub returns-in-None : goal.returns-in-None
returns-in-None c = missing (λ (a : Attached). nat_eq c.args.field a.field) c.args.self.now (sym c.index.ensures ∙ c.in-None.is)
