use Rattle.std.proofs.Common.{◌≡◌, ◌++◌, drop}
use Rattle.sl_explain_points.specs.FieldsAtPoints.{fields_words}
use Rattle.sl_lex.specs.Views.{views}
use Rattle.sl_explain_points.proofs.told.push_fields.Given as goal

-- the words so far and those of the sites that are left are all words
abbrev pub invariant-sites : goal.invariant-sites
invariant-sites l =
    l.out.items ++ fields_words (views l.tokens) l.point (drop l.at l.sites)
    ≡ l.initial.out.items ++ fields_words (views l.tokens) l.point l.sites
