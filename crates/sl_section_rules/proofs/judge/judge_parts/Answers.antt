use Rattle.std.proofs.Common.{false, ap, map}
use Rattle.sl_ast.specs.Views.{bytes, statements_of}
use Rattle.sl_spec_rules.specs.Demands.{first_broken}
use Rattle.sl_section_rules.proofs.Told.{told_as}
use Rattle.sl_section_rules.specs.SectionRules.{body_demands}
use Rattle.sl_section_rules.specs.declared.scopes.Scope.{Scope}
use Rattle.sl_section_rules.proofs.judge.judge_parts.Goals as goal

pub returns : goal.returns
returns c =
    told_as c.judge_body.result _ _
    (ap (λ (s : Scope). first_broken (body_demands c.args.whole.now c.args.t.now c.args.macros.now s (map bytes c.args.parameters.now) false (statements_of c.args.body.now))) c.in_ok-scope.ensures)
    c.judge_body.ensures
