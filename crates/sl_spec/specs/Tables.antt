-- meaning: what a specification defines. Names are their bytes, numbers of members are numbers.
use Rattle.std.specs.Prelude.{ℕ, ℤ, Bool, List, Option}
use Rattle.sl_word.specs.declared.word.Endian.{Endian}
use Rattle.sl_spec.specs.declared.definitions.SpaceKind.{SpaceKind}
use Rattle.sl_spec.specs.declared.constructors.Means.{Means}

-- a name is its bytes
abbrev pub Name : Type 0
Name = List ℕ

-- an address space; an address has `size` bytes
pub record Space : Type 0 where
  pub name : Name
  pub kind : SpaceKind
  pub size : ℕ
  pub default : Bool

-- `size` bytes from `offset` on in a space
pub record Register : Type 0 where
  pub name : Name
  pub space : ℕ
  pub offset : ℕ
  pub size : ℕ

-- `count` bits of a register from bit `low` on
pub record BitRange : Type 0 where
  pub name : Name
  pub register : ℕ
  pub low : ℕ
  pub count : ℕ

pub record Token : Type 0 where
  pub name : Name
  pub bits : ℕ
  pub endian : Endian

-- the bits from `low` to `high` of a token, or of the context where there is no token
pub record Field : Type 0 where
  pub name : Name
  pub token : Option ℕ
  pub low : ℕ
  pub high : ℕ
  pub signed : Bool
  pub dec : Bool
  pub noflow : Bool

-- what is attached to each value of a field; nothing for `_`
pub data Entries : Type 0 where
  registers : List (Option ℕ) → Entries
  texts : List (Option Name) → Entries
  values : List (Option ℤ) → Entries

pub record Attached : Type 0 where
  pub field : ℕ
  pub entries : Entries

-- a table with the numbers of its constructors
pub record Table : Type 0 where
  pub name : Name
  pub constructors : List ℕ

pub record Operand : Type 0 where
  pub name : Name
  pub means : Means

-- a constructor of a table, by the number of its item among all items
pub record Ctor : Type 0 where
  pub table : ℕ
  pub item : ℕ
  pub operands : List Operand

pub record Macro : Type 0 where
  pub name : Name
  pub item : ℕ

pub record UserOp : Type 0 where
  pub name : Name
