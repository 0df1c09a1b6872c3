use Rattle.std.proofs.Common.{◌≡◌, ◌==◌, Some, None, if◌then◌else◌, rules, length, option_map, slice_get, sym, ap, ◌∙◌}
use Rattle.std.proofs.lemmas.List.{length-map}
use Rattle.std.proofs.lemmas.Option.{slice_get-map}
use Rattle.sl_ast.specs.Views.{expression_of, expressions_of}
use Rattle.sl_section_resolve.specs.MacroViews.{bodies_of, macro_view}
use Rattle.sl_section_resolve.specs.Steps.{parameters_of}
use Rattle.sl_section_resolve.specs.Work.{if_takes}
use Rattle.sl_section_resolve.proofs.reading.taking.Goals as goal

pub returns-in-Some : goal.returns-in-Some
returns-in-Some c =
    let ms = c.args.macros.now in
    let i = c.args.i in
    let m = c.in-Some.m.now in
    let at : slice_get (bodies_of ms) i ≡ Some (macro_view m) = slice_get-map macro_view ms i ∙ ap (option_map macro_view) (sym c.in-Some.ensures) in
    let n : c.len.result ≡ length (parameters_of (macro_view m)) = search (rules, length-map) in
    let k : length c.args.es.now ≡ length (expressions_of c.args.es.now) = sym (length-map c.args.es.now expression_of) in
    c.chosen.ensures ∙ (λ j. if n j == k j then Some i else None) ∙ ap (λ o. if_takes i o (expressions_of c.args.es.now)) (sym at)

pub returns-in-None : goal.returns-in-None
returns-in-None c =
    let ms = c.args.macros.now in
    let i = c.args.i in
    sym (ap (λ o. if_takes i o (expressions_of c.args.es.now)) (slice_get-map macro_view ms i ∙ ap (option_map macro_view) (sym c.in-None.ensures)))
