use Rattle.std.proofs.Common.{ℕ, ap, ◌∙◌, arith, ◌^◌, ◌*◌, ◌%◌}
use Rattle.std.proofs.lemmas.Bool.Decides.{nat_tests}
use Rattle.sl_asm_lines.proofs.ReadingLemmas.{limit_is}
use Rattle.sl_asm_lines.proofs.reading.lie_in_space.Goals as goal

pub returns : goal.returns
returns c =
    let limit = ap (λ (k : ℕ). 1 * 2 ^ (8 * k) % 340282366920938463463374607431768211456) c.from-2.ensures ∙ limit_is c.args.size.bytes c.args.size.at_most_8 in (
      λ t. grind (arith, nat_tests, limit, c.from.ensures, t),
      λ within. grind (arith, nat_tests, limit, c.from.ensures, within),
    )
