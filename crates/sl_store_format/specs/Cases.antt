-- law: worked cases: what bytes after the mark are.
use Rattle.std.specs.Prelude.{◌≡◌, List, [], ◌∷◌, Ok, Err}
use Rattle.sl_ast.specs.Trees.{define, endian}
use Rattle.sl_ast.specs.declared.definitions.ByteOrder.TheVariants.{Big}
use Rattle.sl_store_format.specs.Items.{place_of, item_at}
use Rattle.sl_store_format.specs.Packed.{written_of, written_here}
use Rattle.sl_store_bytes.specs.Reader.{cut, damaged}
use Rattle.sl_store_bytes.specs.Verdicts.{at_end}

pub record WorkedCases : Type 0 where
  -- no files and no items
  pub empty : at_end (written_here (0 ∷ 0 ∷ [])) ≡ Ok (written_of [] [])
  -- a byte past the end is damaged
  pub past_the_end : at_end (written_here (0 ∷ 0 ∷ 0 ∷ [])) ≡ Err (damaged 1)
  -- nothing after the mark
  pub nothing : at_end (written_here []) ≡ Err cut
  -- one file `s` and `define endian=big;` on its line 1
  pub one_item : at_end (written_here (1 ∷ 1 ∷ 115 ∷ 1 ∷ 0 ∷ 1 ∷ 0 ∷ 0 ∷ 0 ∷ [])) ≡ Ok (written_of ((115 ∷ []) ∷ []) (item_at (place_of 0 1) (define (endian Big)) ∷ []))
  -- the same without its last byte
  pub one_byte_less : at_end (written_here (1 ∷ 1 ∷ 115 ∷ 1 ∷ 0 ∷ 1 ∷ 0 ∷ 0 ∷ [])) ≡ Err cut
  -- 0 in two bytes
  pub longer_number : at_end (written_here (128 ∷ 0 ∷ [])) ≡ Err (damaged 1)
  -- an item where there is no file
  pub item_without_file : at_end (written_here (0 ∷ 1 ∷ [])) ≡ Err (damaged 1)
  -- a place in the second of one file
  pub place_without_file : at_end (written_here (1 ∷ 1 ∷ 115 ∷ 1 ∷ 1 ∷ [])) ≡ Err (damaged 1)
  -- `define pcodeop if;`, at the last byte of the keyword
  pub keyword_as_name : at_end (written_here (1 ∷ 1 ∷ 115 ∷ 1 ∷ 0 ∷ 1 ∷ 0 ∷ 4 ∷ 0 ∷ 2 ∷ 105 ∷ 102 ∷ [])) ≡ Err (damaged 1)
  -- the seventh alternative of an item
  pub seventh_alternative : at_end (written_here (1 ∷ 1 ∷ 115 ∷ 1 ∷ 0 ∷ 1 ∷ 6 ∷ [])) ≡ Err (damaged 1)
  -- a name of a file that isn't UTF-8
  pub name_without_utf8 : at_end (written_here (1 ∷ 1 ∷ 255 ∷ [])) ≡ Err (damaged 1)
