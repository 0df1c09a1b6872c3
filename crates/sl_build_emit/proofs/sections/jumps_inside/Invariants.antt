use Rattle.std.proofs.Common.{◌≡◌, drop}
use Rattle.sl_build_emit.specs.Views.{jump_inside}
use Rattle.sl_build_template.specs.Views.{parts_of}
use Rattle.sl_build_emit.proofs.sections.jumps_inside.Given as goal

abbrev pub invariant-parts : goal.invariant-parts
invariant-parts l = jump_inside (parts_of (drop l.index l.parts)) ≡ jump_inside (parts_of l.parts)
