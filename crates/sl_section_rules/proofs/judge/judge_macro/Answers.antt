use Rattle.std.proofs.Common.{List, ℕ, Option, false, ap, map, ◌∙◌}
use Rattle.sl_ast.specs.Views.{bytes, statements_of}
use Rattle.sl_ast.specs.declared.statements.Stmt.{Stmt}
use Rattle.sl_spec_rules.specs.Demands.{first_broken}
use Rattle.sl_spec_rules.specs.Names.{Name}
use Rattle.sl_section_rules.proofs.Told.{told_as}
use Rattle.sl_section_rules.specs.Scopes.{macro_scope}
use Rattle.sl_section_rules.specs.SectionRules.{body_demands}
use Rattle.sl_section_rules.proofs.judge.judge_macro.Goals as goal

pub returns : goal.returns
returns c =
    let told : List Name → List Stmt → Option ℕ =
    λ ps b. first_broken (body_demands c.args.whole.now c.args.t.now c.args.macros.now (macro_scope c.args.t.now ps) ps false (statements_of b)) in
    told_as c.judge_parts.result _ _
    (ap (λ ps. told (map bytes ps) c.as_slice.result.now) c.as_slice-parameters.ensures.value
    ∙ ap (told (map bytes c.args.of.now.parameters.items)) c.as_slice.ensures.value)
    c.judge_parts.ensures
