use Rattle.std.proofs.Common.{◌<◌, ◌∙◌, length, get_or, rules}
use Rattle.sl_word.proofs.InOnePage.{most_below, most_first_is}
use Rattle.sl_word.proofs.layout.most_first.Goals as goal

pub returns-clause-value : goal.returns-clause-value
returns-clause-value c =
    c.from_be_bytes.ensures
    ∙ most_first_is c.among_zeros.result (λ i. get_or c.args.bytes.now i 0) (length c.args.bytes.now) c.requires
    c.among_zeros.ensures.inside c.among_zeros.ensures.before

pub returns-clause-below : goal.returns-clause-below
returns-clause-below c =
    rw (returns-clause-value c) (most_below (λ i. get_or c.args.bytes.now i 0) (length c.args.bytes.now) (λ i h. let byte : get_or c.args.bytes.now i 0 < 256 = search rules in byte))
