-- meaning: the trees of a specification, without the places of their tokens.
use Rattle.std.specs.Prelude.{ℕ, List, Option}
use Rattle.sl_ast.specs.Symbols.{Word}
use Rattle.sl_ast.specs.declared.definitions.AttachKind.{AttachKind}
use Rattle.sl_ast.specs.declared.definitions.ByteOrder.{ByteOrder}
use Rattle.sl_ast.specs.declared.definitions.FieldAttribute.{FieldAttribute}
use Rattle.sl_ast.specs.declared.expressions.BinaryOp.{BinaryOp}
use Rattle.sl_ast.specs.declared.expressions.PrefixOp.{PrefixOp}
use Rattle.sl_ast.specs.declared.patterns.PatternOp.{PatternOp}
use Rattle.sl_ast.specs.declared.patterns.Relation.{Relation}

-- a name is the bytes of its word
abbrev pub Name : Type 0
Name = List ℕ

mutual
  pub data Expression : Type 0 where
    integer : ℕ → Expression
    named : Name → Expression
    paren : Expression → Expression
    call : Name → Expressions → Expression
    sized : Expression → ℕ → Expression
    dropped : Expression → ℕ → Expression
    bits : Expression → ℕ → ℕ → Expression
    prefix : PrefixOp → Expression → Expression
    star : Option Name → Option ℕ → Expression → Expression
    binary : BinaryOp → Expression → Expression → Expression

  pub data Expressions : Type 0 where
    no_more : Expressions
    with_more : Expression → Expressions → Expressions

-- a bit pattern
pub data Pattern : Type 0 where
  bare : Name → Pattern
  constraint : Name → Relation → Expression → Pattern
  group : Pattern → Pattern
  ellipsis : Pattern → Pattern
  joined : PatternOp → Pattern → Pattern → Pattern

-- a name or an integer
pub data Operand : Type 0 where
  by_name : Name → Operand
  by_integer : ℕ → Operand

-- a disassembly action
pub data Action : Type 0 where
  set : Name → Expression → Action
  global_set : Operand → Name → Action

-- `*[space]:n`
pub record StarForm : Type 0 where
  pub space : Option Name
  pub size : Option ℕ

pub data Left : Type 0 where
  left_name : Name → Left
  left_bits : Name → ℕ → ℕ → Left
  left_star : StarForm → Expression → Left

pub data Direct : Type 0 where
  to_label : Name → Direct
  to_operand : Operand → Direct

pub data Dest : Type 0 where
  direct : Direct → Dest
  computed : Expression → Dest

pub data Target : Type 0 where
  calls : Operand → Target
  calls_computed : Expression → Target

pub data Exported : Type 0 where
  exports : Name → Exported
  exports_star : StarForm → Operand → Exported

pub data Statement : Type 0 where
  local : Name → Option ℕ → Option Expression → Statement
  declare : Name → ℕ → Expression → Statement
  assign : Left → Expression → Statement
  goto : Dest → Statement
  branch : Expression → Direct → Statement
  call_to : Target → Statement
  return : Expression → Statement
  build : Name → Statement
  export : Exported → Statement
  invoke : Name → List Expression → Statement
  label : Name → Statement

pub data SpaceAttribute : Type 0 where
  of_type : Name → SpaceAttribute
  of_size : ℕ → SpaceAttribute
  of_word_size : ℕ → SpaceAttribute
  is_default : SpaceAttribute

pub record BitRange : Type 0 where
  pub name : Name
  pub register : Name
  pub low : ℕ
  pub count : ℕ

pub record Field : Type 0 where
  pub name : Name
  pub low : ℕ
  pub high : ℕ
  pub attributes : List FieldAttribute

pub data Names : Type 0 where
  one : Name → Names
  several : List Name → Names

pub data Definition : Type 0 where
  endian : ByteOrder → Definition
  alignment : ℕ → Definition
  space : Name → List SpaceAttribute → Definition
  bit_ranges : BitRange → List BitRange → Definition
  pcode_ops : Names → Definition
  token : Name → ℕ → Option ByteOrder → List Field → Definition
  context : Name → List Field → Definition
  registers : Name → ℕ → ℕ → Names → Definition

-- a member of an attached list
pub data Member : Type 0 where
  member_word : Word → Member
  member_text : List ℕ → Member
  member_integer : ℕ → Member
  member_negative : ℕ → Member

-- a token of a display
pub data Piece : Type 0 where
  piece_word : Word → Piece
  piece_text : List ℕ → Piece
  piece_blank : List ℕ → Piece
  piece_caret : List ℕ → Piece
  piece_char : List ℕ → Piece

pub data Section : Type 0 where
  statements : List Statement → Section
  unimplemented : Section

pub record Constructor : Type 0 where
  pub table : Option Name
  pub display : List Piece
  pub pattern : Pattern
  pub actions : Option (List Action)
  pub section : Section

-- what a `with` block gives to each constructor inside
pub record Head : Type 0 where
  pub table : Option Name
  pub pattern : Option Pattern
  pub actions : Option (List Action)

-- what stands inside a `with` block: constructors and blocks
pub data Inside : Type 0 where
  nothing : Inside
  constructor_then : Constructor → Inside → Inside
  block_then : Head → Inside → Inside → Inside

pub record Macro : Type 0 where
  pub name : Name
  pub parameters : List Name
  pub body : List Statement

pub data Item : Type 0 where
  define : Definition → Item
  attach_list : AttachKind → Names → List Member → Item
  attach_one : AttachKind → Names → Member → Item
  macro : Macro → Item
  constructor : Constructor → Item
  block : Head → Inside → Item
