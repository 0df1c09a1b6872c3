use Rattle.std.proofs.Common.{◌≡◌, ◌++◌, length, drop}
use Rattle.sl_build_emit.specs.Views.{frame_of, lists_of, scan, setting_of}
use Rattle.sl_build_template.specs.Placed.{parts_code}
use Rattle.sl_build_template.specs.Views.{parts_of}
use Rattle.sl_build_emit.proofs.sections.all_parts.Given as goal

abbrev pub invariant-parts : goal.invariant-parts
invariant-parts l =
    let g = setting_of l.site in
    let f = frame_of l.site in
    let lists = lists_of l.lists in
    l.out ++ parts_code l.site.top g f lists (λ x. scan (parts_of l.parts) l.lengths x 0) (length l.out) (parts_of (drop l.index l.parts))
    ≡ parts_code l.site.top g f lists (λ x. scan (parts_of l.parts) l.lengths x 0) 0 (parts_of l.parts)
