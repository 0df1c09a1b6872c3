use Rattle.std.proofs.Common.{sym, ◌∙◌, drop, arith}
use Rattle.sl_explain_names.proofs.PlaceLemmas.{places_all, places_done, places_past}
use Rattle.sl_lex.specs.Views.{views}
use Rattle.sl_explain_names.proofs.places.push_places.Goals as goal

pub returns-then-is_done : goal.returns-then-is_done
returns-then-is_done c =
    places_all c.args.form c.args.index c.args.tokens.now _ _ _ c.tokens.invariant
    (places_done c.args.form c.tokens.part c.tokens.at (views (drop c.tokens.at c.args.tokens.now)) (sym c.is_done.ensures ∙ c.if-is_done.true))

pub returns : goal.returns
returns c =
    places_all c.args.form c.args.index c.args.tokens.now _ _ _ c.tokens.invariant
    (places_past c.args.form c.tokens.part c.tokens.at c.args.tokens.now (omega (arith, c.tokens-test.false)))
