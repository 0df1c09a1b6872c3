-- law: the reader of constructors, blocks, macros and whole specifications.
use Rattle.std.specs.Prelude.{ℕ, zero, suc, Bool, true, false, not, ◌&&◌, List, Option, Some, None, Result, Ok, Err}
use Rattle.sl_ast.specs.Symbols.{plain, quoted, Sym, word, text, mark, blank, caret, char}
use Rattle.sl_ast.specs.Trees.{Piece, piece_word, piece_text, piece_blank, piece_caret, piece_char, Section, statements, unimplemented, Constructor, Head, Inside, nothing, constructor_then, block_then, Item, define, attach_list, attach_one, macro, constructor, block}
use Rattle.sl_ast.specs.Validity.{heaviest, deepest}
use Rattle.sl_ast.specs.declared.symbols.Keyword.TheVariants as k
use Rattle.sl_ast.specs.declared.symbols.Mark.TheVariants as m
use Rattle.sl_parse_grammar.specs.Definitions.{definition, names, attach_kind, member}
use Rattle.sl_parse_grammar.specs.Lists.{many, listed}
use Rattle.sl_parse_grammar.specs.Patterns.{whole_pattern}
use Rattle.sl_parse_grammar.specs.Reader.{at, left, Fault, fault, nesting, Outcome, Reader, ◌>>=◌, ◌>>◌, pure, peek, skip, refuse, look, is_mark, is_keyword, expect, expect_keyword, name_here, optional}
use Rattle.sl_parse_grammar.specs.Statements.{until, body, actions}

-- ---- parts without a pattern

abbrev pub is_name : Option Sym → Bool
is_name (Some (word (plain w))) = true
is_name o = false

-- up to the word `is`
abbrev pub is_shown : Option Sym → Bool
is_shown o = not (is_keyword k.Is o)

abbrev pub piece_by : Option Sym → Reader Piece
piece_by (Some (word (quoted k.Is))) = refuse
piece_by (Some (word w)) = skip >> pure (piece_word w)
piece_by (Some (text t)) = skip >> pure (piece_text t)
piece_by (Some (blank t)) = skip >> pure (piece_blank t)
piece_by (Some (caret t)) = skip >> pure (piece_caret t)
piece_by (Some (char t)) = skip >> pure (piece_char t)
piece_by o = refuse

unfoldable pub piece : Reader Piece
piece = peek >>= piece_by

-- a pattern stands there, and neither actions nor the block's brace
abbrev pub is_pattern : Option Sym → Bool
is_pattern o = not (is_mark m.OpenBracket o) && not (is_mark m.OpenBrace o)

unfoldable pub define_here : Reader Item
define_here = do
  expect_keyword k.Define
  d ← definition
  expect m.Semicolon
  pure (define d)

unfoldable pub attach_here : Reader Item
attach_here = do
  expect_keyword k.Attach
  kind ← attach_kind
  ws ← names
  look (is_mark m.OpenBracket)
      (do
        expect m.OpenBracket
        members ← many (until m.CloseBracket) member
        expect m.CloseBracket
        expect m.Semicolon
        pure (attach_list kind ws members))
      (do
        x ← member
        expect m.Semicolon
        pure (attach_one kind ws x))

-- what stands inside a block, up to its brace; constructors are read by `one`, and blocks inside by `inner`
module _ (one : Reader Constructor) (inner : Reader (Head × Inside)) where
  abbrev pub inside_by : Reader Inside → Option Sym → Reader Inside
  inside_by later (Some (word (quoted k.With))) = inner >>= (λ b. later >>= (λ more. pure (block_then b.0 b.1 more)))
  inside_by later o = one >>= (λ c. later >>= (λ more. pure (constructor_then c more)))

  -- The rounds are more than the symbols that are left, and each part takes one.
  unfoldable pub inside_from : ℕ → Reader Inside
  inside_from zero = refuse
  inside_from (suc n) = look (is_mark m.CloseBrace) (pure nothing) (peek >>= inside_by (inside_from n))

  abbrev pub inside : Reader Inside
  inside = λ i. inside_from (suc (left i)) i

abbrev pub is_there : Option Sym → Bool
is_there None = false
is_there (Some x) = true

abbrev pub value_of : {A : Type 0} → Outcome A → Result A Fault
value_of (Ok p) = Ok p.0
value_of (Err e) = Err e

-- ---- readers of outermost expressions and patterns with at most so many operators and opening brackets

module _ (most : ℕ) where
  abbrev pub section_by : Option Sym → Reader Section
  section_by (Some (mark m.OpenBrace)) = body most >>= (λ found. pure (statements found))
  section_by (Some (word (quoted k.Unimpl))) = skip >> pure unimplemented
  section_by o = refuse

  unfoldable pub section : Reader Section
  section = peek >>= section_by

  unfoldable pub constructor_here : Reader Constructor
  constructor_here = do
    table ← optional is_name name_here
    expect m.Colon
    display ← many is_shown piece
    expect_keyword k.Is
    pattern ← whole_pattern most
    acts ← optional (is_mark m.OpenBracket) (actions most)
    what ← section
    pure (record { table = table; display = display; pattern = pattern; actions = acts; section = what })

  unfoldable pub head : Reader Head
  head = do
    expect_keyword k.With
    table ← optional is_name name_here
    expect m.Colon
    pattern ← optional is_pattern (whole_pattern most)
    acts ← optional (is_mark m.OpenBracket) (actions most)
    expect m.OpenBrace
    pure (record { table = table; pattern = pattern; actions = acts })

  -- a block, with blocks inside one another at most so many times
  unfoldable pub block_at : ℕ → Reader (Head × Inside)
  block_at zero = λ i. Err (fault nesting (left i))
  block_at (suc n) = do
    h ← head
    found ← inside constructor_here (block_at n)
    expect m.CloseBrace
    pure (h, found)

  unfoldable pub macro_here : Reader Item
  macro_here = do
    expect_keyword k.Macro
    w ← name_here
    expect m.Open
    parameters ← listed name_here
    expect m.Close
    found ← body most
    pure (macro (record { name = w; parameters = parameters; body = found }))

  -- an item, with blocks inside a block at most so many times
  abbrev pub item_by : ℕ → Option Sym → Reader Item
  item_by deep (Some (word (quoted k.Define))) = define_here
  item_by deep (Some (word (quoted k.Attach))) = attach_here
  item_by deep (Some (word (quoted k.Macro))) = macro_here
  item_by deep (Some (word (quoted k.With))) = block_at (suc deep) >>= (λ b. pure (block b.0 b.1))
  item_by deep o = constructor_here >>= (λ c. pure (constructor c))

  unfoldable pub item : ℕ → Reader Item
  item deep = peek >>= item_by deep

  -- the items that the symbols spell within these limits, or the fault
  unfoldable pub specification_within : ℕ → List Sym → Result (List Item) Fault
  specification_within deep symbols = value_of (many is_there (item deep) (at symbols 0))

-- the items that the symbols spell, or the fault
unfoldable pub specification : List Sym → Result (List Item) Fault
specification symbols = specification_within heaviest deepest symbols
