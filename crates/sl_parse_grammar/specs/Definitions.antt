-- law: the reader of definitions and attached lists.
use Rattle.std.specs.Prelude.{ℕ, Bool, true, false, if◌then◌else◌, ◌==◌, Option, Some}
use Rattle.sl_ast.specs.Symbols.{quoted, Sym, number, word, text, mark}
use Rattle.sl_ast.specs.Trees.{SpaceAttribute, of_type, of_size, of_word_size, is_default, BitRange, Field, Names, one, several, Definition, endian, alignment, space, bit_ranges, pcode_ops, token, context, registers, Member, member_word, member_text, member_integer, member_negative}
use Rattle.sl_ast.specs.declared.definitions.AttachKind.{AttachKind}
use Rattle.sl_ast.specs.declared.definitions.AttachKind.TheVariants as a
use Rattle.sl_ast.specs.declared.definitions.ByteOrder.{ByteOrder}
use Rattle.sl_ast.specs.declared.definitions.ByteOrder.TheVariants as o
use Rattle.sl_ast.specs.declared.definitions.FieldAttribute.{FieldAttribute}
use Rattle.sl_ast.specs.declared.definitions.FieldAttribute.TheVariants as fa
use Rattle.sl_ast.specs.declared.symbols.Feature.TheVariants as f
use Rattle.sl_ast.specs.declared.symbols.Keyword.TheVariants as k
use Rattle.sl_ast.specs.declared.symbols.Mark.TheVariants as m
use Rattle.sl_parse_grammar.specs.Lists.{many}
use Rattle.sl_parse_grammar.specs.Reader.{Reader, ◌>>=◌, ◌>>◌, pure, peek, skip, unsupport, refuse, is_keyword, expect, expect_keyword, integer_here, name_here, optional}
use Rattle.sl_parse_grammar.specs.Statements.{until}

abbrev pub order_by : Option Sym → Reader ByteOrder
order_by (Some (word (quoted k.Big))) = skip >> pure o.Big
order_by (Some (word (quoted k.Little))) = skip >> pure o.Little
order_by s = refuse

unfoldable pub order : Reader ByteOrder
order = do
  expect_keyword k.Endian
  expect m.Equals
  peek >>= order_by

-- another word size than 1 is refused at the word, two symbols before
unfoldable pub checked_size : ℕ → Reader SpaceAttribute
checked_size n = λ i. (if n == 1 then skip >> pure (of_word_size n) else unsupport f.WordSize 2) i

abbrev pub word_size_by : Option Sym → Reader SpaceAttribute
word_size_by (Some (number n)) = checked_size n
word_size_by s = refuse

unfoldable pub type_here : Reader SpaceAttribute
type_here = do
  expect_keyword k.Type
  expect m.Equals
  w ← name_here
  pure (of_type w)

unfoldable pub size_attribute : Reader SpaceAttribute
size_attribute = do
  expect_keyword k.Size
  expect m.Equals
  n ← integer_here
  pure (of_size n)

unfoldable pub word_size_here : Reader SpaceAttribute
word_size_here = do
  expect_keyword k.WordSize
  expect m.Equals
  peek >>= word_size_by

abbrev pub space_attribute_by : Option Sym → Reader SpaceAttribute
space_attribute_by (Some (word (quoted k.Type))) = type_here
space_attribute_by (Some (word (quoted k.Size))) = size_attribute
space_attribute_by (Some (word (quoted k.WordSize))) = word_size_here
space_attribute_by (Some (word (quoted k.Default))) = skip >> pure is_default
space_attribute_by s = refuse

unfoldable pub space_attribute : Reader SpaceAttribute
space_attribute = peek >>= space_attribute_by

unfoldable pub bit_range : Reader BitRange
bit_range = do
  w ← name_here
  expect m.Equals
  register ← name_here
  expect m.OpenBracket
  low ← integer_here
  expect m.Comma
  count ← integer_here
  expect m.CloseBracket
  pure (record { name = w; register = register; low = low; count = count })

abbrev pub is_attribute : Option Sym → Bool
is_attribute (Some (word (quoted k.Signed))) = true
is_attribute (Some (word (quoted k.Hex))) = true
is_attribute (Some (word (quoted k.Dec))) = true
is_attribute (Some (word (quoted k.NoFlow))) = true
is_attribute s = false

abbrev pub attribute_by : Option Sym → Reader FieldAttribute
attribute_by (Some (word (quoted k.Signed))) = skip >> pure fa.Signed
attribute_by (Some (word (quoted k.Hex))) = skip >> pure fa.Hex
attribute_by (Some (word (quoted k.Dec))) = skip >> pure fa.Dec
attribute_by (Some (word (quoted k.NoFlow))) = skip >> pure fa.NoFlow
attribute_by s = refuse

unfoldable pub attribute : Reader FieldAttribute
attribute = peek >>= attribute_by

unfoldable pub field : Reader Field
field = do
  w ← name_here
  expect m.Equals
  expect m.Open
  low ← integer_here
  expect m.Comma
  high ← integer_here
  expect m.Close
  attributes ← many is_attribute attribute
  pure (record { name = w; low = low; high = high; attributes = attributes })

unfoldable pub name_list : Reader Names
name_list = do
  expect m.OpenBracket
  ws ← many (until m.CloseBracket) name_here
  expect m.CloseBracket
  pure (several ws)

abbrev pub names_by : Option Sym → Reader Names
names_by (Some (mark m.OpenBracket)) = name_list
names_by s = name_here >>= (λ w. pure (one w))

unfoldable pub names : Reader Names
names = peek >>= names_by

-- ---- definitions, up to their semicolon

unfoldable pub alignment_here : Reader Definition
alignment_here = do
  expect_keyword k.Alignment
  expect m.Equals
  n ← integer_here
  pure (alignment n)

unfoldable pub space_here : Reader Definition
space_here = do
  expect_keyword k.Space
  w ← name_here
  attributes ← many (until m.Semicolon) space_attribute
  pure (space w attributes)

unfoldable pub bit_ranges_here : Reader Definition
bit_ranges_here = do
  expect_keyword k.BitRange
  head ← bit_range
  more ← many (until m.Semicolon) bit_range
  pure (bit_ranges head more)

unfoldable pub pcode_ops_here : Reader Definition
pcode_ops_here = do
  expect_keyword k.PcodeOp
  ws ← names
  pure (pcode_ops ws)

unfoldable pub token_here : Reader Definition
token_here = do
  expect_keyword k.Token
  w ← name_here
  expect m.Open
  size ← integer_here
  expect m.Close
  own ← optional (is_keyword k.Endian) order
  fields ← many (until m.Semicolon) field
  pure (token w size own fields)

unfoldable pub context_here : Reader Definition
context_here = do
  expect_keyword k.Context
  w ← name_here
  fields ← many (until m.Semicolon) field
  pure (context w fields)

unfoldable pub registers_here : Reader Definition
registers_here = do
  w ← name_here
  expect_keyword k.Offset
  expect m.Equals
  offset ← integer_here
  expect_keyword k.Size
  expect m.Equals
  size ← integer_here
  ws ← names
  pure (registers w offset size ws)

abbrev pub definition_by : Option Sym → Reader Definition
definition_by (Some (word (quoted k.Endian))) = order >>= (λ x. pure (endian x))
definition_by (Some (word (quoted k.Alignment))) = alignment_here
definition_by (Some (word (quoted k.Space))) = space_here
definition_by (Some (word (quoted k.BitRange))) = bit_ranges_here
definition_by (Some (word (quoted k.PcodeOp))) = pcode_ops_here
definition_by (Some (word (quoted k.Token))) = token_here
definition_by (Some (word (quoted k.Context))) = context_here
definition_by s = registers_here

unfoldable pub definition : Reader Definition
definition = peek >>= definition_by

-- ---- attached lists

abbrev pub kind_by : Option Sym → Reader AttachKind
kind_by (Some (word (quoted k.Variables))) = skip >> pure a.Variables
kind_by (Some (word (quoted k.Names))) = skip >> pure a.Names
kind_by (Some (word (quoted k.Values))) = skip >> pure a.Values
kind_by s = refuse

unfoldable pub attach_kind : Reader AttachKind
attach_kind = peek >>= kind_by

abbrev pub negative : Reader Member
negative = do
  skip
  n ← integer_here
  pure (member_negative n)

abbrev pub member_by : Option Sym → Reader Member
member_by (Some (number n)) = skip >> pure (member_integer n)
member_by (Some (text t)) = skip >> pure (member_text t)
member_by (Some (mark m.Minus)) = negative
member_by (Some (word (quoted k.InstNext2))) = refuse
member_by (Some (word w)) = skip >> pure (member_word w)
member_by s = refuse

unfoldable pub member : Reader Member
member = peek >>= member_by
