use Rattle.std.proofs.Common.{◌≡◌, map, take}
use Rattle.sl_build_emit.specs.Views.{frame_of, lists_of, setting_of}
use Rattle.sl_build_template.specs.Placed.{part_length}
use Rattle.sl_build_template.specs.Views.{parts_of}
use Rattle.sl_build_emit.proofs.sections.lengths.Given as goal

abbrev pub invariant-parts : goal.invariant-parts
invariant-parts l =
    l.lengths.items ≡ map (part_length l.site.top (setting_of l.site) (frame_of l.site) (lists_of l.lists)) (parts_of (take l.index l.parts))
