use Rattle.std.proofs.Common.{◌%◌, ◌^◌, ◌∙◌, ap}
use Rattle.sl_word.proofs.Powers.{drop-bytes}
use Rattle.sl_emu.proofs.narrow.subpiece.Goals as goal

pub returns-clause-value : goal.returns-clause-value
returns-clause-value c =
    let same = drop-bytes c.args.a.bits c.args.from in
    c.low.ensures.value ∙ ap (λ v. v % 256 ^ c.args.out.bytes) (c.shifted_right.ensures ∙ same)
