use Rattle.std.proofs.Common.{rules}
use Rattle.sl_build_emit.specs.Views.{frame_of, lists_of, setting_of}
use Rattle.sl_build_emit.proofs.SectionLemmas.{section_is, unplaced}
use Rattle.sl_build_template.specs.Placed.{label_at}
use Rattle.sl_build_template.specs.Views.{parts_of}
use Rattle.sl_build_emit.proofs.sections.counts.Goals as goal

pub returns-then-not-jumps_inside : goal.returns-then-not-jumps_inside
returns-then-not-jumps_inside c =
    let site = c.args.site.now in
    let g = setting_of site in
    let f = frame_of site in
    let lists = lists_of c.args.lists.now in
    let ps = parts_of c.args.parts.now in
    unplaced site.top g f lists _ (λ l. label_at site.top g f lists l 0 ps) ps 0 (search rules)

pub returns : goal.returns
returns c =
    let site = c.args.site.now in
    section_is site.top (setting_of site) (frame_of site) (lists_of c.args.lists.now) (parts_of c.args.parts.now) c.in_ok-counts.counts.items
    c.in_ok-counts.ensures
