use Rattle.std.proofs.Common.{◌-◌, ◌/◌, ◌^◌, ◌<◌, ◌∙◌, ap, bit_and, get_or, arith, rules}
use Rattle.sl_word.proofs.InOnePage.{first_least, first_most, least_below, most_below}
use Rattle.sl_word.proofs.Powers.{greatest-shift}
use Rattle.sl_word.proofs.narrow.first_number.Goals as goal

pub returns-in-Little-clause-value : goal.returns-in-Little-clause-value
returns-in-Little-clause-value c =
    let mask = greatest-shift 64 c.args.size.bytes c.bit_count-rest.result c.bit_count-rest.ensures (omega (arith, c.requires)) in
    ap (λ v. bit_and v ((2 ^ 64 - 1) / 2 ^ (64 - c.bit_count-rest.result))) c.from_le_bytes.ensures
    ∙ first_least c.args.bytes c.args.size.bytes _ c.requires mask (λ i. let byte : get_or c.args.bytes i 0 < 256 = search rules in byte)
    ∙ rw c.in-Little.is

pub returns-in-Little-clause-below : goal.returns-in-Little-clause-below
returns-in-Little-clause-below c =
    rw (returns-in-Little-clause-value c, c.in-Little.is) (least_below (λ i. get_or c.args.bytes i 0) c.args.size.bytes (λ i h. let byte : get_or c.args.bytes i 0 < 256 = search rules in byte))

pub returns-in-Big-clause-value : goal.returns-in-Big-clause-value
returns-in-Big-clause-value c =
    ap (λ v. v / 2 ^ (64 - c.bit_count-rest.result)) c.from_be_bytes.ensures
    ∙ first_most c.args.bytes c.args.size.bytes (64 - c.bit_count-rest.result) c.requires (omega (arith, c.bit_count-rest.ensures, c.requires)) (λ i. let byte : get_or c.args.bytes i 0 < 256 = search rules in byte)
    ∙ rw c.in-Big.is

pub returns-in-Big-clause-below : goal.returns-in-Big-clause-below
returns-in-Big-clause-below c =
    rw (returns-in-Big-clause-value c, c.in-Big.is) (most_below (λ i. get_or c.args.bytes i 0) c.args.size.bytes (λ i h. let byte : get_or c.args.bytes i 0 < 256 = search rules in byte))
