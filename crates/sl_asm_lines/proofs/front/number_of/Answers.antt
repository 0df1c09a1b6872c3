use Rattle.std.proofs.Common.{◌≡◌, ◌-◌, ◌<◌, drop, length, get_or, ap, ◌∙◌, rules}
use Rattle.std.proofs.lemmas.Nat.{be_bytes_8}
use Rattle.sl_asm_lines.proofs.NumberLemmas.{number_below}
use Rattle.sl_asm_lines.proofs.front.number_of.Goals as goal

pub returns-clause-below : goal.returns-clause-below
returns-clause-below c =
    number_below (length c.args.bytes.now) c.behind_zeros.result c.from_be_bytes.result c.requires c.from_be_bytes.ensures
    c.behind_zeros.ensures.zeros (λ i. let byte : get_or c.behind_zeros.result i 0 < 256 = search rules in byte)

pub returns-clause-digits : goal.returns-clause-digits
returns-clause-digits c =
    let whole : length c.behind_zeros.result ≡ 8 = search rules in
    ap (drop (8 - length c.args.bytes.now))
    (be_bytes_8 c.behind_zeros.result c.from_be_bytes.result whole
    (λ i. let byte : get_or c.behind_zeros.result i 0 < 256 = search rules in byte) c.from_be_bytes.ensures)
    ∙ c.behind_zeros.ensures.bytes
