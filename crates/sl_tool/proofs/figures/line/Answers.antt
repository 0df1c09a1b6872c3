use Rattle.std.proofs.Common.{ℕ, List, ◌++◌, ap, subst, ◌∙◌}
use Rattle.sl_ast.specs.Views.{items_of}
use Rattle.sl_tool_generator.specs.Line.{figures_line}
use Rattle.sl_tool_generator.specs.declared.line.Figures.{Figures}
use Rattle.sl_section_sizes.specs.Sizings.{lists_of}
use Rattle.sl_tool_stages.specs.StageViews.{compiled_view}
use Rattle.sl_tool.proofs.FigureLemmas.{figures_due, registers_lie}
use Rattle.sl_tool.proofs.figures.line.Goals as goal

pub figures_of-figures-requires-clause-spaces : goal.figures_of-figures-requires-clause-spaces
figures_of-figures-requires-clause-spaces g c =
    let b = c.args.compiled.now.specification.bound in
    registers_lie (items_of b.spec) b.tables (lists_of b.sizes.items) c.requires.binds

pub returns : goal.returns
returns g c =
    let b = c.args.compiled.now.specification.bound in
    let v = compiled_view c.args.compiled.now in
    let e = c.in_ok-execution.execution in
    let sizes = lists_of b.sizes.items in
    let old = g.R.Runner.count c.args.runner.now in
    let new = g.R.Runner.count c.execute.new.runner in
    figures_due v c.args.size c.in_ok-listed.listed sizes c.in_ok-image.image e old new c.push_line.new.line.items c.in_ok-image.ensures.same c.requires.binds
    c.in_ok-listed.ensures c.in_ok-execution.ensures (c.in_ok-push_line.ensures ∙ ap (λ (s : List ℕ). s ++ figures_line c.figures_of-figures.result) c.new-line.ensures.items ∙ ap (λ (f : Figures). figures_line f) c.figures_of-figures.ensures)
