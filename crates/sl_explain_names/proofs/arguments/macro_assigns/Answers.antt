use Rattle.std.proofs.Common.{List, sym, ap}
use Rattle.std.proofs.lemmas.List.{drop-map}
use Rattle.sl_explain_names.specs.Arguments.{assigns_from}
use Rattle.sl_lex.specs.Reading.{Token}
use Rattle.sl_lex.specs.Views.{view, views}
use Rattle.sl_explain_names.proofs.arguments.macro_assigns.Goals as goal

pub tokens-init : goal.tokens-init
tokens-init c =
    ap (λ (l : List Token). assigns_from (views c.args.tokens.now) c.args.name.now c.args.of l) (sym (drop-map view c.args.of c.args.tokens.now))
