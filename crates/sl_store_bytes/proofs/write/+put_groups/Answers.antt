use Rattle.std.proofs.Common.{◌+◌, ◌-◌, ◌%◌, ◌/◌, ◌++◌, ◌∷◌, [], sym, ◌∙◌, ap, append_assoc, arith}
use Rattle.sl_store_bytes.specs.Numbers as numbers
use Rattle.sl_store_bytes.proofs.NumberLaws.{wide_groups}
use Rattle.sl_store_bytes.proofs.write.+put_groups.Goals as goal

pub returns : goal.returns
returns t c =
    c.in_ok-put_groups.ensures
    ∙ ap (λ xs. xs ++ numbers.groups (c.args.groups - 1) (c.args.number / 128)) c.in_ok-push-2.ensures.items
    ∙ append_assoc c.args.out.now.items ((128 + c.args.number % 128) ∷ []) (numbers.groups (c.args.groups - 1) (c.args.number / 128))
    ∙ ap (λ xs. c.args.out.now.items ++ xs) (sym (wide_groups c.args.groups c.args.number (omega arith) (omega arith)))
