use Rattle.std.proofs.Common.{◌<◌, ◌^◌, sym, arith}
use Rattle.sl_decode_choices.proofs.ChooserLemmas.{same_point}
use Rattle.sl_decode_choices.proofs.choosers.point_of.Goals as goal

pub returns : goal.returns
returns c =
    let bytes : c.args.bytes < 2 ^ 128 = omega arith in
    let context : c.args.context < 2 ^ 64 = omega arith in
    sym (same_point (record { bytes = c.args.bytes; context = c.args.context }) bytes context)
