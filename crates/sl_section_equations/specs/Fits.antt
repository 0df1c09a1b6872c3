-- meaning: rule 40 of a section whose variables have sizes: in `x:n` n is at most the size of x,
-- in `x(n)` it is below that; a bit range fits its value; `zext` and `sext` don't shrink.
use Rattle.std.specs.Prelude.{ℕ, ◌+◌, ◌*◌, ◌&&◌, nat_le, nat_lt, Bool, true, false}
use Rattle.std.specs.Prelude.{List, [], ◌∷◌, Option, Some, None}
use Rattle.sl_section_flat.specs.Sections as s
use Rattle.sl_section_flat.specs.Sections.{Export, Step, Symbol, Term, Terms, variable_of}
use Rattle.sl_section_flat.specs.Chains.{chain}
use Rattle.sl_word.specs.declared.operation.Op1.{Op1}
use Rattle.sl_word.specs.declared.operation.Op1.TheVariants as o1
use Rattle.sl_section_equations.specs.Equations.{bit_bytes}

-- `count` bits from bit `low` on lie in n bytes
abbrev pub bits_fit : (low count n : ℕ) → Bool
bits_fit low count n = nat_le (low + count) (8 * n)

-- an operation on n bytes gives m bytes
abbrev pub one_fits : Op1 → (n m : ℕ) → Bool
one_fits o1.IntZext n m = nat_le n m
one_fits o1.IntSext n m = nat_le n m
one_fits _ n m = true

-- ---- expressions, by the sizes of the variables

module _ (size : ℕ → ℕ) where
  abbrev pub size_of : Term → ℕ
  size_of t = size (variable_of t)

  abbrev mutual
    pub term_fits : Term → Bool
    term_fits (s.number v x) = true
    term_fits (s.sized v n x) = true
    term_fits (s.name a x) = true
    term_fits (s.paren t x) = term_fits t
    term_fits (s.kept t n x) = term_fits t && nat_le n (size_of t)
    term_fits (s.dropped t n x) = term_fits t && nat_lt n (size_of t)
    term_fits (s.bits t low count x) = term_fits t && bits_fit low count (size_of t)
    term_fits (s.load space n t x) = term_fits t
    term_fits (s.one op t x) = term_fits t && one_fits op (size_of t) (size x)
    term_fits (s.two op order a b x) = term_fits a && term_fits b
    term_fits (s.user op ts x) = terms_fit ts

    pub terms_fit : Terms → Bool
    terms_fit s.no_terms = true
    terms_fit (s.then_term t ts) = term_fits t && terms_fit ts

  abbrev pub export_fits : Export → Bool
  export_fits (s.exports a x) = true
  export_fits (s.exports_constant n t x) = term_fits t
  export_fits (s.exports_memory space n t x) = term_fits t

-- ---- statements

-- the bits lie in what has a size
abbrev pub span_fits : (low count : ℕ) → Option ℕ → Bool
span_fits low count None = false
span_fits low count (Some n) = bits_fit low count n

-- by the sizes that the operands export, too
module _ (size : ℕ → ℕ) (operand : ℕ → Option ℕ) where
  abbrev pub symbol_size : Symbol → Option ℕ
  symbol_size (s.register space offset n) = Some n
  symbol_size (s.bit_range space offset n low count) = Some (bit_bytes count)
  symbol_size (s.local x) = Some (size x)
  symbol_size (s.table i) = operand i
  symbol_size (s.attached i n) = Some n
  symbol_size (s.value i) = None
  symbol_size s.start = None
  symbol_size s.next = None
  symbol_size (s.integer v) = None

  abbrev pub step_fits : Step → Bool
  step_fits (s.declare x n) = true
  step_fits (s.set a t) = term_fits size t
  step_fits (s.set_bits a low count t) = term_fits size t && span_fits low count (symbol_size a)
  step_fits (s.store space n pointer x t) = term_fits size pointer && term_fits size t
  step_fits (s.run_user op ts) = terms_fit size (chain ts)
  step_fits (s.build i) = true
  step_fits (s.label l) = true
  step_fits (s.branch to) = true
  step_fits (s.branch_if t to) = term_fits size t
  step_fits (s.branch_to t) = term_fits size t
  step_fits (s.call a) = true
  step_fits (s.call_to t) = term_fits size t
  step_fits (s.return t) = term_fits size t
  step_fits (s.export what) = export_fits size what

  abbrev pub section_fits : List Step → Bool
  section_fits [] = true
  section_fits (a ∷ ss) = step_fits a && section_fits ss
