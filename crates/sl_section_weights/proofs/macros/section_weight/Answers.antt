use Rattle.std.proofs.Common.{ap, sym, ◌∙◌, List, ℕ}
use Rattle.sl_ast.specs.Views.{section_of, statements_of}
use Rattle.sl_section_resolve.specs.MacroViews.{bodies_of}
use Rattle.sl_section_weights.specs.Weights.{body_weight, macro_weights, section_weight}
use Rattle.sl_section_weights.proofs.BodyLemmas.{body_alike, cut}
use Rattle.sl_section_weights.proofs.macros.section_weight.Goals as goal

pub returns-in-Statements : goal.returns-in-Statements
returns-in-Statements c =
    let macros = bodies_of c.args.macros.now in
    c.body_weight.ensures
    ∙ ap (λ l. cut (body_weight macros c.args.weights.now (statements_of l))) c.as_slice.ensures.value
    ∙ ap (λ (ws : List ℕ). cut (body_weight macros ws (statements_of c.in-Statements.body.items))) c.requires
    ∙ body_alike macros (macro_weights macros) (statements_of c.in-Statements.body.items)
    ∙ ap (λ s. cut (section_weight macros (macro_weights macros) (section_of s))) (sym c.in-Statements.is)
