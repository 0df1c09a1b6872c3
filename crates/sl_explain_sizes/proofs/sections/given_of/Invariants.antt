use Rattle.std.proofs.Common.{◌≡◌, ◌++◌, drop}
use Rattle.sl_explain_names.specs.ItemView.{item}
use Rattle.sl_explain_sizes.specs.ScopeView.{scope}
use Rattle.sl_explain_sizes.specs.Sections.{given_from}
use Rattle.sl_lex.specs.Views.{views}
use Rattle.sl_explain_sizes.proofs.sections.given_of.Given as goal

-- the parameters so far and those of the places that are left are all
abbrev pub invariant-places : goal.invariant-places
invariant-places l =
    l.given.items ++ given_from (scope l.s) (item l.of) (views l.left) (drop l.at l.of.places.items)
    ≡ given_from (scope l.s) (item l.of) (views l.arguments) l.of.places.items
