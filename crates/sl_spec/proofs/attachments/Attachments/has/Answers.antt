use Rattle.std.proofs.Common.{nat_eq, is_some, ap, ◌∙◌}
use Rattle.sl_spec.specs.Tables.{Attached}
use Rattle.sl_spec.proofs.AttachmentLemmas.{copied_some, some_found}
use Rattle.sl_spec.proofs.attachments.Attachments.has.Goals as goal

pub returns : goal.returns
returns c =
    c.is_some.ensures ∙ copied_some c.get.result ∙ ap is_some c.get.ensures
    ∙ some_found (λ (a : Attached). nat_eq c.args.field a.field) c.args.self.now
