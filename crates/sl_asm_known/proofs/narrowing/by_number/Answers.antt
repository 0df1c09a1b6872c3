use Rattle.std.proofs.Common.{Bool, IsTrue, subst}
use Rattle.std.specs.Prelude.{option_map}
use Rattle.std.proofs.lemmas.Bool.{false≢true}
use Rattle.sl_asm_known.proofs.BitsLemmas.{left_where, number_context, number_token}
use Rattle.sl_asm_known.specs.FieldBits.{HasNumberBits, HasTokenBits}
use Rattle.sl_asm_known.proofs.narrowing.by_number.Goals as goal

pub returns-else-may_have : goal.returns-else-may_have
returns-else-may_have c = λ xs inside h.
    let from = number_context c.args.t.now c.args.of.now c.args.at c.args.context c.args.number.now xs c.in_default.ensures h in
    false≢true (subst (λ (b : Bool). IsTrue b) c.if-may_have.false (c.may_have.ensures from.0 from.1 from.2))

pub returns : goal.returns
returns c =
    let t = c.args.t.now in
    let f = c.args.of.now in
    let number = c.args.number.now in
    left_where (HasNumberBits t f c.args.at c.args.context number) (HasTokenBits c.in-Some.token.now c.args.at number) c.args.region.items
    (option_map (λ v. v.items) c.by_token.result)
    (λ xs inside h. number_token t f c.args.at c.args.context number c.in-Some.token.now xs c.in-Some.ensures h)
    c.by_token.ensures
