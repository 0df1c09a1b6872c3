use Rattle.std.proofs.Common.{List, sym, ap}
use Rattle.std.proofs.lemmas.List.{drop-map}
use Rattle.sl_explain_exports.specs.Constructors.{export_from}
use Rattle.sl_lex.specs.Reading.{Token}
use Rattle.sl_lex.specs.Views.{view}
use Rattle.sl_lex.specs.declared.mode.Mode.TheVariants as mode
use Rattle.sl_explain_exports.proofs.constructors.export_of.Goals as goal

pub tokens-init : goal.tokens-init
tokens-init c = ap (λ (l : List Token). export_from mode.Top c.args.start l) (sym (drop-map view c.args.start c.args.tokens.now))
