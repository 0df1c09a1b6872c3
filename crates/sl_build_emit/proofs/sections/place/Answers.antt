use Rattle.std.proofs.Common.{ℕ, List, ◌∙◌, ap}
use Rattle.sl_build_emit.specs.Views.{frame_of, lists_of, scan, setting_of}
use Rattle.sl_build_template.specs.Placed.{parts_code}
use Rattle.sl_build_template.specs.Views.{parts_of}
use Rattle.sl_build_emit.proofs.sections.place.Goals as goal

pub returns : goal.returns
returns c =
    let site = c.args.site.now in
    let ps = parts_of c.args.parts.now in
    c.in_ok-out.ensures
    ∙ ap (λ (ns : List ℕ). parts_code site.top (setting_of site) (frame_of site) (lists_of c.args.lists.now) (λ l. scan ps ns l 0) 0 ps) c.deref.ensures.value
    ∙ c.in_ok-counts.ensures
