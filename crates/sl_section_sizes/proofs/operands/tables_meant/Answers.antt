use Rattle.std.proofs.Common.{◌≡◌, ◌++◌, ◌∷◌, [], ℕ, Option, get_or, ap, ◌∙◌, arith}
use Rattle.std.proofs.lemmas.List.{take_all}
use Rattle.sl_base_graphs.proofs.Seen.{mapped_more}
use Rattle.sl_section_sizes.specs.Ordering.{table_meant}
use Rattle.sl_section_sizes.specs.Rows.{tables_meant}
use Rattle.sl_spec.specs.Tables.{Operand}
use Rattle.sl_section_sizes.proofs.operands.tables_meant.Goals as goal

abbrev meant : Operand → Option ℕ
meant o = table_meant o.means

pub operands-preserved : goal.operands-preserved
operands-preserved c =
    let os = c.args.operands.now in
    let i = c.operands.operand-index in
    let o = c.operand-item.result in
    let is : c.table_meant.result ≡ meant (get_or os i o) = c.table_meant.ensures ∙ ap meant (c.operand.view_is ∙ c.operand-item.is) in
    c.in_ok-push.ensures.items ∙ ap (λ b. c.operands.tables.items ++ b ∷ []) is ∙ mapped_more meant os c.operands.tables.items i o c.operands-test.true c.operands.invariant

pub returns : goal.returns
returns c = c.operands.invariant ∙ ap tables_meant (take_all c.operands.operand-index c.args.operands.now (omega (arith, c.operands-test.false)))
