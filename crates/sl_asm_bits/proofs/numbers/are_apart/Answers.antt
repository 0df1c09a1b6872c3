use Rattle.std.proofs.Common.{eq-eqb}
use borrow.Author.Tests.{eqb-true}
use Rattle.sl_asm_bits.proofs.NumberLemmas.{apart, not_apart, not_false, not_true}
use Rattle.sl_asm_bits.proofs.numbers.are_apart.Goals as goal

pub returns : goal.returns
returns c =
    let a = c.args.a.now in
    let b = c.args.b.now in (
      λ t. apart a b (λ e. not_false _ t (eq-eqb _ _ e)),
      λ none. not_true _ (λ t. not_apart a b (eqb-true _ _ t) none),
    )
