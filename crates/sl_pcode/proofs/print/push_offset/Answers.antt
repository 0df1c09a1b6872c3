use Rattle.std.proofs.Common.{rules, sym, subst}
use Rattle.std.specs.Str.{IsUtf8}
use Rattle.std.proofs.lemmas.Result.{IfOk-at_ok}
use Rattle.sl_pcode.proofs.DigitTexts.{IsUtf8-encode_lower}
use Rattle.sl_pcode.proofs.print.push_offset.Goals as goal

pub unwrap-requires-2 : goal.unwrap-requires-2
unwrap-requires-2 c =
    let written = IfOk-at_ok _ c.unwrap.ensures c.encode_to_slice.ensures.written in
    let text = subst IsUtf8 (sym written) (IsUtf8-encode_lower _) in search rules
