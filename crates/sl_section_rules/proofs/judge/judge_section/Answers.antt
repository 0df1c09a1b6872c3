use Rattle.std.proofs.Common.{List, ap, sym, ◌∙◌}
use Rattle.sl_ast.specs.Trees.{statements}
use Rattle.sl_ast.specs.Views.{section_of, statements_of}
use Rattle.sl_ast.specs.declared.statements.Stmt.{Stmt}
use Rattle.sl_spec_rules.specs.Demands.{first_broken}
use Rattle.sl_section_rules.proofs.Told.{told_as}
use Rattle.sl_section_rules.specs.SectionRules.{section_demands}
use Rattle.sl_section_rules.proofs.judge.judge_section.Goals as goal

pub returns-in-Statements : goal.returns-in-Statements
returns-in-Statements c =
    let w = c.args.whole.now in
    let t = c.args.t.now in
    let macros = c.args.macros.now in
    let os = c.args.operands.now in
    let root = c.args.is_root in
    told_as c.judge_statements.result _ _
    (ap (λ (b : List Stmt). first_broken (section_demands w t macros os root (statements (statements_of b)))) c.as_slice-body.ensures.value
    ∙ ap (λ s. first_broken (section_demands w t macros os root (section_of s))) (sym c.in-Statements.is))
    c.judge_statements.ensures
