use Rattle.std.proofs.Common.{◌++◌, ℕ, ap, ◌∙◌}
use Rattle.std.specs.declared.alloc.Global.{Global}
use Rattle.std.specs.declared.vec.Vec.{Vec}
use Rattle.sl_show.specs.Templates.{parts_text}
use Rattle.sl_show.specs.declared.templates.Part.TheVariants.{Text}
use Rattle.sl_show.proofs.PartLemmas.{parts_more}
use Rattle.sl_show.proofs.templates.Maker.close.Goals as goal

pub returns-clause-same : goal.returns-clause-same
returns-clause-same c t s =
    let parts = c.args.self.now.parts.items in
    parts_more t s parts c.push.new.self.items (Text c.replace-text.result) c.in_ok-push.ensures.items
    ∙ ap (λ (text : Vec ℕ Global). parts_text t s parts ++ text.items) c.replace-text.ensures.value
