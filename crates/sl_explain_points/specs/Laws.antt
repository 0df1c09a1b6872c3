-- law: fields with their values have no control byte, whatever bytes the text has.
use Rattle.std.specs.Prelude.{◌≡◌, List, true}
use Rattle.std.specs.List.{list_all}
use Rattle.sl_cube.specs.declared.Point.{Point}
use Rattle.sl_explain_lines.specs.Laws.{is_shown}
use Rattle.sl_explain_points.specs.FieldsAtPoints.{fields_words}
use Rattle.sl_explain_points.specs.declared.sites.Site.{Site}
use Rattle.sl_lex.specs.Reading.{Token}

abbrev pub FieldsAreShown : Type 0
FieldsAreShown = (ts : List Token) (p : Point) (sites : List Site) → list_all is_shown (fields_words ts p sites) ≡ true
