-- Fields in words have no control byte.
use Rattle.std.proofs.Common.{ℕ, ℤ, pos, negsuc, suc, false, List, [], ◌∷◌, Option, Some, None, refl}
use Rattle.std.specs.Prelude.{codes}
use Rattle.std.specs.Fmt.{digits}
use Rattle.sl_cube.specs.declared.Point.{Point}
use Rattle.sl_explain_heads.specs.Words.{text_at}
use Rattle.sl_explain_lines.proofs.ShownLemmas.{AllShown, all_both, hex_shown, words_shown}
use Rattle.sl_explain_lines.specs.Excerpts.{shown_up_to}
use Rattle.sl_explain_points.specs.FieldsAtPoints.{fields_words, is_words, name_words, named_words, value_at, value_words}
use Rattle.sl_explain_points.specs.Laws.{FieldsAreShown}
use Rattle.sl_explain_points.specs.declared.sites.Site.{Site}
use Rattle.sl_lex.specs.Reading.{Token}
use Rattle.sl_show.specs.Numbers.{hex_text}

text_shown : (value : ℤ) → AllShown (hex_text value)
text_shown (pos n) = all_both (codes "0x") (digits 16 false n) refl (hex_shown n)
text_shown (negsuc n) = all_both (codes "-0x") (digits 16 false (suc n)) refl (hex_shown (suc n))

is_shown : (value : ℤ) → AllShown (is_words value)
unfolding is_words
is_shown value = all_both (codes "=") (hex_text value) refl (text_shown value)

name_shown : (name : List ℕ) → AllShown (name_words name)
unfolding name_words
name_shown name = all_both (codes " ") (shown_up_to 40 name) refl (words_shown 40 name)

named_shown : (name : List ℕ) (value : ℤ) → AllShown (named_words name value)
unfolding named_words
named_shown name value = all_both (name_words name) (is_words value) (name_shown name) (is_shown value)

value_shown : (name : List ℕ) (value : Option ℤ) → AllShown (value_words name value)
value_shown name None = refl
value_shown name (Some value) = named_shown name value

shown : (ts : List Token) (p : Point) (sites : List Site) → AllShown (fields_words ts p sites)
shown ts p [] = refl
shown ts p (s ∷ ss) =
    all_both (value_words (text_at ts s.field.index) (value_at ts s p)) (fields_words ts p ss)
    (value_shown (text_at ts s.field.index) (value_at ts s p)) (shown ts p ss)

pub fields : FieldsAreShown
fields = shown
