use Rattle.std.proofs.Common.{ap, ◌∙◌, List, ℕ, option_map, arith}
use Rattle.std.proofs.lemmas.List.{length-map}
use Rattle.std.proofs.lemmas.Option.{slice_get-map}
use Rattle.sl_ast.specs.Views.{statements_of}
use Rattle.sl_section_resolve.specs.MacroViews.{bodies_of, macro_view}
use Rattle.sl_section_weights.specs.Weights.{body_weight}
use Rattle.sl_section_weights.proofs.BodyLemmas.{all_macros, cut, macros_more}
use Rattle.sl_section_weights.proofs.macros.macro_weights.Goals as goal

pub macros-preserved : goal.macros-preserved
macros-preserved c =
    let macros = bodies_of c.args.macros.now in
    let m = macro_view c.member-m.result.now in
    let kept = c.args.macros.now in
    let at = slice_get-map macro_view kept c.macros.index ∙ ap (option_map macro_view) c.member-m.ensures in
    let now = c.macros.weights.items in
    c.in_ok-push.ensures.items
    ∙ macros_more macros now c.macros.index c.body_weight-weight.result m (omega (arith, c.macros-test.true, c.len-index-end.ensures, length-map kept macro_view)) at c.macros.invariant
    (c.body_weight-weight.ensures
    ∙ ap (λ (l : List ℕ). cut (body_weight macros l (statements_of c.as_slice-in-macros.result.now))) c.as_slice.ensures.value
    ∙ ap (λ l. cut (body_weight macros now (statements_of l))) c.as_slice-in-macros.ensures.value)

pub returns : goal.returns
returns c = all_macros (bodies_of c.args.macros.now) c.macros.weights.items c.macros.index (omega (arith, c.macros-test.false, c.len-index-end.ensures, length-map c.args.macros.now macro_view)) c.macros.invariant
