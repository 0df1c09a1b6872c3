-- law: the operations of expressions. What is a varnode already, as a register, a number or the
-- lowest bytes of what a name stands for, has none; the value of anything else is put where its
-- reader wants it.
use Rattle.std.specs.Prelude.{ℕ, ℤ, pos, negsuc, ◌+◌, ◌%◌, ◌^◌, nat_le}
use Rattle.std.specs.Prelude.{if◌then◌else◌, List, [], ◌∷◌, ◌++◌, Option, Some, None}
use Rattle.sl_faithful_code.specs.Bits.{bits_into}
use Rattle.sl_faithful_code.specs.Operations.{Operation, amount, at_temp, binary, call_user, constant}
use Rattle.sl_faithful_code.specs.Operations.{in_space, load_from, narrow, range_of, temporary, unary}
use Rattle.sl_section_equations.specs.Equations.{size_at}
use Rattle.sl_meaning_sections.specs.References.{Reference, Setting, local, memory, number, storage}
use Rattle.sl_meaning_sections.specs.Values.{Frame, meant, space_of}
use Rattle.sl_pcode.specs.declared.varnode.Varnode.{Varnode}
use Rattle.sl_section_flat.specs.Sections as s
use Rattle.sl_section_flat.specs.Sections.{Symbol, Term, Terms, variable_of}
use Rattle.sl_section_flat.specs.declared.term.Order.{Order}
use Rattle.sl_section_flat.specs.declared.term.Order.TheVariants.{AsWritten, Exchanged}
use Rattle.sl_word.specs.Numbers.{residue}
use Rattle.sl_word.specs.declared.operation.Op1.TheVariants.{Copy, IntSext}
use Rattle.sl_word.specs.declared.operation.Op2.{Op2}
use Rattle.sl_word.specs.declared.operation.Op2.TheVariants.{Subpiece}
use Rattle.sl_word.specs.declared.word.Size.{Size}

-- ---- what is read: a varnode, or a temporary that operations before fill

abbrev pub operand : Option Varnode → (otherwise : Varnode) → Varnode
operand None v = v
operand (Some leaf) v = leaf

abbrev pub code_before : Option Varnode → List Operation → List Operation
code_before None code = code
code_before (Some leaf) code = []

abbrev pub copied : Option Varnode → (out : Varnode) → List Operation → List Operation
copied None out code = code
copied (Some leaf) out code = unary Copy out leaf ∷ []

-- a number as a constant, which has 64 bits
abbrev pub number_leaf : ℤ → Size → Option Varnode
number_leaf (pos v) n = Some (constant (residue n.bytes (pos v)) n)
number_leaf (negsuc v) n =
    if nat_le n.bytes 8 then Some (constant (residue n.bytes (negsuc v)) n) else None

abbrev pub read_leaf : Reference → Size → Option Varnode
read_leaf (storage space offset size) n = Some (in_space space offset n)
read_leaf (local node x size) n = Some (temporary (range_of node x) n)
read_leaf (number v) n = number_leaf v n
read_leaf (memory space size pointer width) n = None

abbrev pub two_operands : Op2 → Order → (out a b : Varnode) → Operation
two_operands f AsWritten out a b = binary f out a b
two_operands f Exchanged out a b = binary f out b a

-- a view: the lowest bytes of a varnode, where there is one
abbrev pub view : Setting → Option Varnode → Size → Option Varnode
view g None n = None
view g (Some v) n = Some (narrow g.endian g.sizes v n)

module _ (g : Setting) (f : Frame) where
  abbrev pub symbol_leaf : Symbol → Size → Option Varnode
  symbol_leaf (s.bit_range space offset k low count) n = None
  symbol_leaf a n = read_leaf (meant g f a) n

  abbrev pub size_of : Term → Size
  size_of e = f.size (variable_of e)

  -- the varnode that a name stands for
  abbrev pub name_leaf : Term → Option Varnode
  name_leaf (s.name a x) = symbol_leaf a (f.size x)
  name_leaf (s.paren e x) = name_leaf e
  name_leaf _ = None

  abbrev pub term_leaf : Term → Option Varnode
  term_leaf (s.number v x) = Some (constant (v % 256 ^ (f.size x).bytes) (f.size x))
  term_leaf (s.sized v n x) = Some (constant (v % 256 ^ (f.size x).bytes) (f.size x))
  term_leaf (s.name a x) = symbol_leaf a (f.size x)
  term_leaf (s.paren e x) = term_leaf e
  term_leaf (s.kept e n x) = view g (name_leaf e) (f.size x)
  term_leaf (s.dropped e n x) = None
  term_leaf (s.bits e low count x) = None
  term_leaf (s.load space n e x) = None
  term_leaf (s.one op e x) = None
  term_leaf (s.two op order a b x) = None
  term_leaf (s.user op es x) = None

module _ (top : ℕ) where
  -- what a reference stands for is put into a varnode; temporaries from t on are free
  abbrev pub read_into : (t : ℕ) → Reference → (out : Varnode) → List Operation
  read_into t (storage space offset size) out = unary Copy out (in_space space offset out.size) ∷ []
  read_into t (local node x size) out =
      unary Copy out (temporary (range_of node x) out.size) ∷ []
  read_into t (number v) out = copied (number_leaf v out.size) out
      (unary IntSext out (constant (residue 8 v) (size_at 8)) ∷ [])
  read_into t (memory space size pointer width) out =
      code_before (read_leaf pointer width) (read_into t pointer (at_temp top t width))
      ++ load_from out space (operand (read_leaf pointer width) (at_temp top t width)) ∷ []

  module _ (g : Setting) (f : Frame) where
    abbrev pub symbol_into : (t : ℕ) → Symbol → (out : Varnode) → List Operation
    symbol_into t (s.bit_range space offset k low count) out =
        bits_into top t (in_space space offset (size_at k)) low count out
    symbol_into t a out = read_into t (meant g f a) out

    -- where a value is put to be read
    abbrev pub temp_of : (t : ℕ) → Term → Varnode
    temp_of t e = at_temp top t (size_of g f e)

    -- the varnode of a value that is read
    abbrev pub term_operand : (t : ℕ) → Term → Varnode
    term_operand t e = operand (term_leaf g f e) (temp_of t e)

    abbrev pub terms_operands : (t : ℕ) → Terms → List Varnode
    terms_operands t s.no_terms = []
    terms_operands t (s.then_term e es) = term_operand t e ∷ terms_operands (t + 1) es

    abbrev mutual
      pub term_into : (t : ℕ) → Term → (out : Varnode) → List Operation
      term_into t (s.number v x) out =
          unary Copy out (constant (v % 256 ^ (f.size x).bytes) (f.size x)) ∷ []
      term_into t (s.sized v n x) out =
          unary Copy out (constant (v % 256 ^ (f.size x).bytes) (f.size x)) ∷ []
      term_into t (s.name a x) out = symbol_into t a out
      term_into t (s.paren e x) out = term_into t e out
      term_into t (s.kept e n x) out = copied (view g (name_leaf g f e) (f.size x)) out
          (code_before (term_leaf g f e) (term_into t e (temp_of t e))
          ++ binary Subpiece out (term_operand t e) (amount 0) ∷ [])
      term_into t (s.dropped e n x) out =
          code_before (term_leaf g f e) (term_into t e (temp_of t e))
          ++ binary Subpiece out (term_operand t e) (amount n) ∷ []
      term_into t (s.bits e low count x) out =
          code_before (term_leaf g f e) (term_into t e (temp_of t e))
          ++ bits_into top t (term_operand t e) low count out
      term_into t (s.load space n e x) out =
          code_before (term_leaf g f e) (term_into t e (temp_of t e))
          ++ load_from out (space_of g space) (term_operand t e) ∷ []
      term_into t (s.one op e x) out =
          code_before (term_leaf g f e) (term_into t e (temp_of t e))
          ++ unary op out (term_operand t e) ∷ []
      term_into t (s.two op order a b x) out =
          code_before (term_leaf g f a) (term_into t a (temp_of t a))
          ++ (code_before (term_leaf g f b) (term_into (t + 1) b (temp_of (t + 1) b))
          ++ two_operands op order out (term_operand t a) (term_operand (t + 1) b) ∷ [])
      term_into t (s.user op es x) out =
          terms_before t es ++ call_user op (terms_operands t es) ∷ []

      pub terms_before : (t : ℕ) → Terms → List Operation
      terms_before t s.no_terms = []
      terms_before t (s.then_term e es) =
          code_before (term_leaf g f e) (term_into t e (temp_of t e))
          ++ terms_before (t + 1) es

    -- the operations before a value is read
    abbrev pub term_before : (t : ℕ) → Term → List Operation
    term_before t e = code_before (term_leaf g f e) (term_into t e (temp_of t e))
