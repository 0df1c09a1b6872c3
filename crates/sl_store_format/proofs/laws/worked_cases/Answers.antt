use Rattle.std.proofs.Common.{refl}
use Rattle.sl_ast.specs.Symbols.{keyword_of}
use Rattle.sl_store_format.specs.Definitions.{definition_here, names_here}
use Rattle.sl_store_format.specs.FileNames.{file_name, goes_on, then_due, led}
use Rattle.sl_store_format.specs.Items.{place_here, placed_here, items_here}
use Rattle.sl_store_format.specs.Packed.{files_here, written_here}
use Rattle.sl_store_bytes.specs.Lexemes.{lexeme}
use Rattle.sl_store_bytes.specs.Lists.{some_more, either}
use Rattle.sl_store_bytes.specs.Numbers.{number_within}
use Rattle.sl_store_bytes.specs.Reader.{choose, byte}
use Rattle.sl_store_bytes.specs.Words.{whole_follow}
use Rattle.sl_store_format.proofs.laws.worked_cases.Goals as goal

pub returns : goal.returns
unfolding keyword_of definition_here names_here file_name goes_on then_due led place_here placed_here items_here files_here written_here lexeme some_more either number_within choose byte whole_follow
returns c = record {
  empty = refl;
  past_the_end = refl;
  nothing = refl;
  one_item = refl;
  one_byte_less = refl;
  longer_number = refl;
  item_without_file = refl;
  place_without_file = refl;
  keyword_as_name = refl;
  seventh_alternative = refl;
  name_without_utf8 = refl;
}
