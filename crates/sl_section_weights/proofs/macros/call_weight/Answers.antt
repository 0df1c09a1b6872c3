use Rattle.std.proofs.Common.{ap, sym, ◌∙◌}
use Rattle.sl_ast.specs.Views.{statement_of}
use Rattle.sl_section_resolve.specs.MacroViews.{bodies_of}
use Rattle.sl_section_resolve.proofs.MacroLemmas.{found_by_name}
use Rattle.sl_section_weights.specs.Weights.{call_weight, number_at}
use Rattle.sl_section_weights.proofs.macros.call_weight.Goals as goal

pub returns-in-Some : goal.returns-in-Some
returns-in-Some c =
    let macros = bodies_of c.args.macros.now in
    let weights = c.args.weights.now in
    c.known.ensures ∙ ap (number_at weights) (sym c.in-Some.is ∙ c.index_of.ensures ∙ found_by_name _ c.args.macros.now) ∙ ap (λ s. call_weight macros weights (statement_of s)) (sym c.in-Invoke.is)

pub returns-in-None : goal.returns-in-None
returns-in-None c =
    let macros = bodies_of c.args.macros.now in
    let weights = c.args.weights.now in
    ap (number_at weights) (sym c.in-None.is ∙ c.index_of.ensures ∙ found_by_name _ c.args.macros.now) ∙ ap (λ s. call_weight macros weights (statement_of s)) (sym c.in-Invoke.is)
