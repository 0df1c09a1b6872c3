use Rattle.std.proofs.Common.{◌<◌, ◌∙◌, length, get_or, arith, rules}
use Rattle.sl_word.proofs.InOnePage.{least_below, least_first_is}
use Rattle.sl_word.proofs.layout.least_first.Goals as goal

pub returns-clause-value : goal.returns-clause-value
returns-clause-value c =
    c.from_le_bytes.ensures
    ∙ least_first_is c.among_zeros.result (λ i. get_or c.args.bytes.now i 0) (length c.args.bytes.now) c.requires
    (λ i h. grind (arith, c.among_zeros.ensures.inside i h)) (λ i h. c.among_zeros.ensures.behind i (omega arith))

pub returns-clause-below : goal.returns-clause-below
returns-clause-below c =
    rw (returns-clause-value c) (least_below (λ i. get_or c.args.bytes.now i 0) (length c.args.bytes.now) (λ i h. let byte : get_or c.args.bytes.now i 0 < 256 = search rules in byte))
