use Rattle.std.proofs.Common.{◌≡◌, drop}
use Rattle.sl_build_emit.specs.Views.{frame_of, setting_of}
use Rattle.sl_meaning_sections.specs.Nodes.{exported}
use Rattle.sl_section_flat.specs.Views.{steps_of}
use Rattle.sl_build.proofs.exports.exported.Given as goal

abbrev pub invariant-steps : goal.invariant-steps
invariant-steps l =
    exported (setting_of l.site) (frame_of l.site) (steps_of (drop l.index l.steps)) ≡ exported (setting_of l.site) (frame_of l.site) (steps_of l.steps)
