use Rattle.std.proofs.Common.{◌+◌, ◌<◌, ◌∷◌, drop, length, sym, ap, ◌∙◌, arith}
use Rattle.std.proofs.lemmas.List.{drop_more}
use Rattle.sl_ast.specs.Views.{statement_of, statements_of}
use Rattle.sl_section_resolve.specs.MacroViews.{bodies_of}
use Rattle.sl_section_resolve.proofs.WorkLemmas.{frame_goes_on}
use Rattle.sl_section_resolve.proofs.reading.read.Goals as goal

pub returns-in_ok-go_on-in-None : goal.returns-in_ok-go_on-in-None
returns-in_ok-go_on-in-None c =
    let f = c.args.frame in
    let x = c.index-body-at.result in
    let below : f.at < length f.body.now = omega (arith, c.if-at-body.false) in
    let left = ap statements_of (drop_more f.body.now f.at x below ∙ ap (λ z. z ∷ drop (f.at + 1) f.body.now) (sym c.index-body-at.is)) in
    let none = sym c.statement_macro.ensures ∙ c.in-None.is in
    frame_goes_on c.args.t.now (bodies_of c.args.macros.now) f c.args.work.now c.go_on.new.work (statement_of x) left none c.in_ok-go_on-in-None.ensures
