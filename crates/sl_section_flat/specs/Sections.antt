-- meaning: sections without names, scopes and macros (SLEIGH manual, "The Semantic Section").
use Rattle.std.specs.Prelude.{ℕ, List, Option, min, max}
use Rattle.sl_word.specs.declared.operation.Op1.{Op1}
use Rattle.sl_word.specs.declared.operation.Op2.{Op2}
use Rattle.sl_section_flat.specs.declared.term.Order.{Order}

-- a written size, brought to 1 to 16 bytes; it is within them by the grammar and rule 26
abbrev pub bounded : ℕ → ℕ
bounded n = min (max n 1) 16

-- a count of bits, brought to 1 to 128; it is within them by rules 8 and 26
abbrev pub span_count : ℕ → ℕ
span_count n = min (max n 1) 128

-- What a name stands for: a register, bits of a register, a local by its size variable, an operand
-- by its number (a table, a field to which registers are attached, or a number), `inst_start`,
-- `inst_next`, or an integer.
pub data Symbol : Type 0 where
  register : (space offset size : ℕ) → Symbol
  bit_range : (space offset size low count : ℕ) → Symbol
  local : (x : ℕ) → Symbol
  table : (i : ℕ) → Symbol
  attached : (i size : ℕ) → Symbol
  value : (i : ℕ) → Symbol
  start : Symbol
  next : Symbol
  integer : (v : ℕ) → Symbol

-- An expression; x is its size variable. A space or a size is there where it is written.
mutual
  pub data Term : Type 0 where
    number : (v x : ℕ) → Term
    sized : (v n x : ℕ) → Term
    name : Symbol → (x : ℕ) → Term
    paren : Term → (x : ℕ) → Term
    kept : Term → (n x : ℕ) → Term
    dropped : Term → (n x : ℕ) → Term
    bits : Term → (low count x : ℕ) → Term
    load : (space size : Option ℕ) → Term → (x : ℕ) → Term
    one : Op1 → Term → (x : ℕ) → Term
    two : Op2 → Order → Term → Term → (x : ℕ) → Term
    user : (op : ℕ) → Terms → (x : ℕ) → Term

  pub data Terms : Type 0 where
    no_terms : Terms
    then_term : Term → Terms → Terms

-- the size variable of what an expression gives; parentheses have one of their own, which is equal
abbrev pub variable_of : Term → ℕ
variable_of (number v x) = x
variable_of (sized v n x) = x
variable_of (name s x) = x
variable_of (paren t x) = variable_of t
variable_of (kept t n x) = x
variable_of (dropped t n x) = x
variable_of (bits t l c x) = x
variable_of (load s n t x) = x
variable_of (one f t x) = x
variable_of (two f o a b x) = x
variable_of (user u ts x) = x

-- A label, of the section itself or of a call of a macro.
pub record Label : Type 0 where
  pub call : ℕ
  pub name : List ℕ

pub data Direct : Type 0 where
  to_label : Label → Direct
  to_place : Symbol → Direct

-- what is exported; x is its size variable
pub data Export : Type 0 where
  exports : Symbol → (x : ℕ) → Export
  exports_constant : (size : ℕ) → Term → (x : ℕ) → Export
  exports_memory : (space : Option ℕ) → (size : ℕ) → Term → (x : ℕ) → Export

-- A statement. Of a store, x is the size variable of what is stored.
pub data Step : Type 0 where
  declare : (x : ℕ) → (size : Option ℕ) → Step
  set : Symbol → Term → Step
  set_bits : Symbol → (low count : ℕ) → Term → Step
  store : (space size : Option ℕ) → (pointer : Term) → (x : ℕ) → (value : Term) → Step
  run_user : (op : ℕ) → List Term → Step
  build : (i : ℕ) → Step
  label : Label → Step
  branch : Direct → Step
  branch_if : Term → Direct → Step
  branch_to : Term → Step
  call : Symbol → Step
  call_to : Term → Step
  return : Term → Step
  export : Export → Step
