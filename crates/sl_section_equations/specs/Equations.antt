-- meaning: what a section says of the sizes of its variables (SLEIGH manual, "Varnode Sizes").
use Rattle.std.specs.Prelude.{ℕ, ◌+◌, ◌/◌, ◌++◌, Bool, true, false, cond, List, [], ◌∷◌}
use Rattle.std.specs.Prelude.{Option, Some, None, max}
use Rattle.std.proofs.Math.Nat.{le-min, le-max_left, le-max_right, min-le_right}
use Rattle.sl_section_flat.specs.Sections as s
use Rattle.sl_section_flat.specs.Sections.{Export, Step, Symbol, Term, Terms, bounded, variable_of}
use Rattle.sl_section_flat.specs.Chains.{chain}
use Rattle.sl_sizes.specs.declared.Equation.{Equation}
use Rattle.sl_sizes.specs.declared.Equation.TheVariants.{Is, Equal, Less}
use Rattle.sl_word.specs.declared.operation.Op1.{Op1}
use Rattle.sl_word.specs.declared.operation.Op1.TheVariants as o1
use Rattle.sl_word.specs.declared.operation.Op2.{Op2}
use Rattle.sl_word.specs.declared.operation.Op2.TheVariants as o2
use Rattle.sl_word.specs.declared.word.Size.{Size}
use Rattle.sl_section_equations.specs.declared.class.Class.{Class}
use Rattle.sl_section_equations.specs.declared.class.Class.TheVariants as c

-- A size of n bytes, brought to 1 to 16; each size of a section is within them.
unfoldable pub size_at : ℕ → Size
size_at n = record {
  bytes = bounded n;
  some = le-min (le-max_right n 1) (le-max_left 1 16);
  at_most_16 = min-le_right (max n 1) 16;
}

-- as many bytes as c bits take
abbrev pub bit_bytes : ℕ → ℕ
bit_bytes c = (c + 7) / 8

-- the variable has n bytes
abbrev pub is : (x n : ℕ) → List Equation
is x n = Is x (size_at n) ∷ []

-- the variable has the size, where there is one
abbrev pub written : Option ℕ → (x : ℕ) → List Equation
written None x = []
written (Some n) x = is x n

-- ---- a number by itself: an integer, a field without attached registers, an action name,
-- `inst_start` or `inst_next`

abbrev pub is_bare_symbol : Symbol → Bool
is_bare_symbol (s.value i) = true
is_bare_symbol s.start = true
is_bare_symbol s.next = true
is_bare_symbol (s.integer v) = true
is_bare_symbol _ = false

abbrev pub is_bare : Term → Bool
is_bare (s.number v x) = true
is_bare (s.name a x) = is_bare_symbol a
is_bare _ = false

-- n bytes, where the expression is a number by itself
abbrev pub if_bare : Term → (n : ℕ) → List Equation
if_bare t n = cond (is_bare t) (is (variable_of t) n) []

-- ---- operations

-- how an operation ties the sizes of its parts and of its result; bytes are kept and dropped by
-- terms of their own
abbrev pub class_of : Op2 → Class
class_of o2.IntLeft = c.Shift
class_of o2.IntRight = c.Shift
class_of o2.IntSright = c.Shift
class_of o2.IntEqual = c.Test
class_of o2.IntNotEqual = c.Test
class_of o2.IntLess = c.Test
class_of o2.IntLessEqual = c.Test
class_of o2.IntSless = c.Test
class_of o2.IntSlessEqual = c.Test
class_of o2.IntCarry = c.Test
class_of o2.IntScarry = c.Test
class_of o2.IntSborrow = c.Test
class_of o2.BoolAnd = c.Boolean
class_of o2.BoolOr = c.Boolean
class_of o2.BoolXor = c.Boolean
class_of _ = c.Alike

abbrev pub class_equations : Class → (a b : Term) → (x : ℕ) → List Equation
class_equations c.Alike a b x =
    Equal (variable_of a) (variable_of b) ∷ Equal x (variable_of a) ∷ []
class_equations c.Shift a b x = if_bare b 4 ++ Equal x (variable_of a) ∷ []
class_equations c.Test a b x = Equal (variable_of a) (variable_of b) ∷ is x 1
class_equations c.Boolean a b x = is (variable_of a) 1 ++ (is (variable_of b) 1 ++ is x 1)

abbrev pub one_equations : Op1 → (a : Term) → (x : ℕ) → List Equation
one_equations o1.Copy a x = Equal x (variable_of a) ∷ []
one_equations o1.IntNegate a x = Equal x (variable_of a) ∷ []
one_equations o1.Int2Comp a x = Equal x (variable_of a) ∷ []
one_equations o1.BoolNegate a x = is (variable_of a) 1 ++ is x 1
one_equations _ a x = []

-- ---- names

-- the variable has the size of what the name stands for
abbrev pub symbol_equations : (ℕ → Option ℕ) → Symbol → (x : ℕ) → List Equation
symbol_equations operand (s.register space offset n) x = is x n
symbol_equations operand (s.bit_range space offset n low count) x = is x (bit_bytes count)
symbol_equations operand (s.local y) x = Equal x y ∷ []
symbol_equations operand (s.table i) x = written (operand i) x
symbol_equations operand (s.attached i n) x = is x n
symbol_equations operand (s.value i) x = []
symbol_equations operand s.start x = []
symbol_equations operand s.next x = []
symbol_equations operand (s.integer v) x = []

-- ---- the address sizes of spaces, and the sizes that the operands export, are known

module _ (address : Option ℕ → ℕ) (operand : ℕ → Option ℕ) where
  abbrev mutual
    pub term_equations : Term → List Equation
    term_equations (s.number v x) = []
    term_equations (s.sized v n x) = is x n
    term_equations (s.name a x) = symbol_equations operand a x
    term_equations (s.paren t x) = term_equations t ++ Equal x (variable_of t) ∷ []
    term_equations (s.kept t n x) = term_equations t ++ is x n
    term_equations (s.dropped t n x) = term_equations t ++ Less x (variable_of t) n ∷ []
    term_equations (s.bits t low count x) = term_equations t ++ is x (bit_bytes count)
    term_equations (s.load space n t x) =
        term_equations t ++ (if_bare t (address space) ++ written n x)
    term_equations (s.one op t x) = term_equations t ++ one_equations op t x
    term_equations (s.two op order a b x) =
        term_equations a ++ (term_equations b ++ class_equations (class_of op) a b x)
    term_equations (s.user op ts x) = arguments_equations ts

    -- a number as an argument has 8 bytes
    pub arguments_equations : Terms → List Equation
    arguments_equations s.no_terms = []
    arguments_equations (s.then_term t ts) =
        term_equations t ++ (if_bare t 8 ++ arguments_equations ts)

  -- a target in brackets; it lies in the default space
  abbrev pub target_equations : Term → List Equation
  target_equations t = term_equations t ++ if_bare t (address None)

  abbrev pub export_equations : Export → List Equation
  export_equations (s.exports a x) = symbol_equations operand a x
  export_equations (s.exports_constant n t x) = term_equations t ++ (if_bare t n ++ is x n)
  export_equations (s.exports_memory space n t x) =
      term_equations t ++ (if_bare t (address space) ++ is x n)

  abbrev pub step_equations : Step → List Equation
  step_equations (s.declare x n) = written n x
  step_equations (s.set a t) = term_equations t ++ symbol_equations operand a (variable_of t)
  step_equations (s.set_bits a low count t) =
      term_equations t ++ is (variable_of t) (bit_bytes count)
  step_equations (s.store space n pointer x t) =
      term_equations pointer ++ (if_bare pointer (address space) ++ (written n x
      ++ (term_equations t ++ Equal x (variable_of t) ∷ [])))
  step_equations (s.run_user op ts) = arguments_equations (chain ts)
  step_equations (s.branch_if t to) = term_equations t ++ is (variable_of t) 1
  step_equations (s.branch_to t) = target_equations t
  step_equations (s.call_to t) = target_equations t
  step_equations (s.return t) = target_equations t
  step_equations (s.export what) = export_equations what
  step_equations (s.build i) = []
  step_equations (s.label l) = []
  step_equations (s.branch to) = []
  step_equations (s.call a) = []

  abbrev pub section_equations : List Step → List Equation
  section_equations [] = []
  section_equations (a ∷ ss) = step_equations a ++ section_equations ss
