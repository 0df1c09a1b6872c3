use Rattle.std.proofs.Common.{◌≡◌, ◌∷◌, take}
use Rattle.sl_faithful_code.specs.Operations.{amount}
use Rattle.sl_build_emit.specs.Views.{frame_of, setting_of}
use Rattle.sl_build_template.specs.Placed.{values}
use Rattle.sl_build_emit.proofs.pieces.user_call.Given as goal

abbrev pub invariant-arguments : goal.invariant-arguments
invariant-arguments l =
    l.inputs.items ≡ amount l.fn.op.0 ∷ values l.site.top (setting_of l.site) (frame_of l.site) (take l.index l.arguments)
