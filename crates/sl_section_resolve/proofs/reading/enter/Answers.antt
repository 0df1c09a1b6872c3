use Rattle.std.proofs.Common.{◌≡◌, ◌∷◌, Some, length, option_map, slice_get, sym, ap, subst, ◌∙◌}
use Rattle.std.proofs.lemmas.List.{length-map}
use Rattle.std.proofs.lemmas.Option.{same_Some, slice_get-map}
use Rattle.sl_ast.specs.Trees.{invoke}
use Rattle.sl_ast.specs.Views.{expression_of, expressions_of, statement_of}
use Rattle.sl_section_resolve.specs.Macros.{Body}
use Rattle.sl_section_resolve.specs.MacroViews.{bodies_of, macro_view}
use Rattle.sl_section_resolve.specs.Steps.{parameters_of}
use Rattle.sl_section_resolve.specs.Work.{Begins, gone_on, left_in, statement_macro}
use Rattle.sl_section_resolve.proofs.WorkLemmas.{frame_enters, takes_of}
use Rattle.sl_section_resolve.proofs.reading.enter.Goals as goal

pub returns-in_ok-call-in-Invoke : goal.returns-in_ok-call-in-Invoke
returns-in_ok-call-in-Invoke c =
    let t = c.args.t.now in
    let macros = (bodies_of c.args.macros.now) in
    let f = c.args.frame in
    let w = c.in-Invoke.field-0.now in
    let es = expressions_of c.in-Invoke.es.items in
    let is : statement_of c.args.x.now ≡ invoke w es = ap statement_of c.in-Invoke.is in
    let left = c.requires.left ∙ ap (λ x. x ∷ left_in (gone_on f f.names)) is in
    let found = ap (λ x. statement_macro macros f.limit x) (sym is) ∙ c.requires.called in
    let begins = subst (λ l. Begins t f.names c.args.work.now (macro_view c.member-m.result.now) c.args.i (expressions_of l) c.in_ok-inner-in-Invoke.inner c.begin.new.work) c.as_slice.ensures.value c.in_ok-inner-in-Invoke.ensures in
    let e = c.in_ok-call-in-Invoke.ensures in
    frame_enters t macros f c.in_ok-inner-in-Invoke.inner c.args.work.now c.begin.new.work c.call.new.work w es c.args.i (macro_view c.member-m.result.now) left found (slice_get-map macro_view c.args.macros.now c.args.i ∙ ap (option_map macro_view) c.member-m.ensures) begins e.frames e.steps e.next e.calls

pub begin-requires : goal.begin-requires
begin-requires c =
    let macros = bodies_of c.args.macros.now in
    let w = c.in-Invoke.field-0.now in
    let es = expressions_of c.in-Invoke.es.items in
    let is : statement_of c.args.x.now ≡ invoke w es = ap statement_of c.in-Invoke.is in
    let found = ap (λ x. statement_macro macros c.args.frame.limit x) (sym is) ∙ c.requires.called in
    let takes = takes_of macros es c.args.i _ found in
    let m = macro_view c.member-m.result.now in
    let at : slice_get macros c.args.i ≡ Some m = slice_get-map macro_view c.args.macros.now c.args.i ∙ ap (option_map macro_view) c.member-m.ensures in
    let same : takes.m ≡ m = same_Some takes.m m (sym takes.at ∙ at) in
    ap (λ (x : Body). length (parameters_of x)) (sym same) ∙ takes.same ∙ length-map c.in-Invoke.es.items expression_of ∙ ap length (sym c.as_slice.ensures.value)
