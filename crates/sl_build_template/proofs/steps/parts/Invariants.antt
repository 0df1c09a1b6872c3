use Rattle.std.proofs.Common.{◌≡◌, take}
use Rattle.sl_section_flat.specs.Views.{steps_of}
use Rattle.sl_build_template.specs.Pieces.{parts_of_steps}
use Rattle.sl_build_template.specs.Views.{form_of, parts_of}
use Rattle.sl_build_template.proofs.steps.parts.Given as goal

abbrev pub invariant-steps : goal.invariant-steps
invariant-steps l = parts_of l.parts.items ≡ parts_of_steps (form_of l.form) (steps_of (take l.index l.steps))
