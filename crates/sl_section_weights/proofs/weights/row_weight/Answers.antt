use Rattle.std.proofs.Common.{◌≡◌, ◌+◌, ℕ, List, get_or, map, min, ap, sym, ◌∙◌, arith}
use Rattle.sl_ast.specs.Trees.{Section}
use Rattle.sl_ast.specs.Views.{constructor_of, section_of}
use Rattle.sl_section_resolve.specs.MacroViews.{bodies_of}
use Rattle.sl_spec.specs.Tables.{Ctor, Operand}
use Rattle.sl_spec.specs.Unfolded.{heads_of}
use Rattle.sl_spec_tables.specs.Amounts.{node_amount}
use Rattle.sl_spec_tables.specs.Lengths.{put_together}
use Rattle.sl_spec_tables.specs.Views.{row_of}
use Rattle.sl_spec_tables.proofs.HeadLemmas.{under_section}
use Rattle.sl_spec_tables.proofs.CapLemmas.{sum_keeps, together_alike}
use Rattle.sl_section_weights.specs.Weights.{macro_weights, section_weight}
use Rattle.sl_section_weights.proofs.BodyLemmas.{cut}
use Rattle.sl_section_weights.proofs.WeightLemmas.{row_as}
use Rattle.sl_section_weights.proofs.weights.row_weight.Goals as goal

pub returns : goal.returns
returns c =
    let f : ℕ → ℕ = λ u. get_or c.args.values.now u 0 in
    let g : Operand → ℕ = λ o. node_amount f o.means in
    let macros = bodies_of c.args.macros.now in
    let row = c.args.row.now in
    let own = row.own.now.own.now in
    let hs = heads_of row.own.now.heads.items in
    let r = row_of row in
    let operands : c.as_slice.result.now ≡ r.0.operands = c.as_slice.ensures.value ∙ ap (λ (x : Ctor). x.operands) c.ctor.view_is in
    let weight : Section → ℕ = λ s. section_weight macros (macro_weights macros) s in
    let section : c.section_weight-section.result ≡ cut (weight r.1.1.section) =
    c.section_weight-section.ensures ∙ ap (λ s. cut (weight s)) (sym (under_section hs (constructor_of own))) in
    c.with_operands.ensures
    ∙ ap (λ (l : List Operand). cut (put_together (λ m n. m + n) c.section_weight-section.result (map g l))) operands
    ∙ together_alike 65537 (λ m n. m + n) (sum_keeps 65537) c.section_weight-section.result (weight r.1.1.section) (map g r.0.operands) (omega arith)
    ∙ ap cut (sym (row_as macros f r))
