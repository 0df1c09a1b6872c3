use Rattle.std.proofs.Common.{◌≡◌, ◌++◌, drop}
use Rattle.sl_explain_names.specs.Places.{places_from}
use Rattle.sl_explain_names.specs.declared.places.Part.TheVariants.{Begin}
use Rattle.sl_lex.specs.Views.{views}
use Rattle.sl_explain_names.proofs.places.push_places.Given as goal

-- the places so far and those of what is left are all places
abbrev pub invariant-tokens : goal.invariant-tokens
invariant-tokens l =
    l.out.items ++ places_from l.form l.part l.at (views (drop l.at l.tokens))
    ≡ l.initial.out.items ++ places_from l.form Begin l.index (views (drop l.index l.tokens))
