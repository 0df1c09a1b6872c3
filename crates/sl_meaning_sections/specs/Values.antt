-- meaning: the values of expressions (SLEIGH manual, "Expressions").
use Rattle.std.specs.Prelude.{ℕ, pos, ◌+◌, ◌-◌, ◌*◌, ◌/◌, ◌%◌, ◌^◌, ◌==◌, Bool, false}
use Rattle.std.specs.Prelude.{if◌then◌else◌, List, Option, slice_get, unwrap_or}
use Rattle.std.specs.Prelude.{Result, Ok, Err}
use Rattle.sl_section_equations.specs.Equations.{bit_bytes, size_at}
use Rattle.sl_meaning_sections.specs.References.{Locals, Reference, Setting, load, local, number, read}
use Rattle.sl_meaning_sections.specs.References.{reference_size, storage}
use Rattle.sl_section_flat.specs.Sections as s
use Rattle.sl_section_flat.specs.Sections.{Symbol, Term, Terms, variable_of}
use Rattle.sl_section_flat.specs.declared.term.Order.{Order}
use Rattle.sl_section_flat.specs.declared.term.Order.TheVariants.{AsWritten, Exchanged}
use Rattle.sl_word.specs.Memories.{Memory}
use Rattle.sl_word.specs.Operations.{value1, value2}
use Rattle.sl_word.specs.declared.operation.Op2.{Op2}
use Rattle.sl_word.specs.declared.operation.Op2.TheVariants.{IntDiv, IntRem, IntSdiv, IntSrem}
use Rattle.sl_word.specs.declared.word.Size.{Size}

-- why an instruction stops
pub data Fault : Type 0 where
  divides_by_zero : Fault
  calls_user_op : (op : ℕ) → Fault
  jumps_too_often : Fault

infixl 10 ◌>>=◌
abbrev pub ◌>>=◌ : {A B : Type 0} → Result A Fault → (A → Result B Fault) → Result B Fault
(Ok v) >>= f = f v
(Err fault) >>= f = Err fault

-- the node of a section, the sizes of its variables, and what its operands stand for
pub record Frame : Type 0 where
  pub node : ℕ
  pub size : ℕ → Size
  pub refs : List Reference

abbrev pub reference_at : List Reference → ℕ → Reference
reference_at refs i = unwrap_or (slice_get refs i) (number (pos 0))

-- `count` bits from bit `low` on, and a number with others in their place
abbrev pub bits_of : (low count v : ℕ) → ℕ
bits_of low count v = v / 2 ^ low % 2 ^ count

abbrev pub with_bits : (low count old v : ℕ) → ℕ
with_bits low count old v = old - bits_of low count old * 2 ^ low + v % 2 ^ count * 2 ^ low

-- division has no value where the divisor is 0
abbrev pub has_no_value : Op2 → ℕ → Bool
has_no_value IntDiv b = b == 0
has_no_value IntRem b = b == 0
has_no_value IntSdiv b = b == 0
has_no_value IntSrem b = b == 0
has_no_value _ b = false

abbrev pub applied : Op2 → (size out a b : ℕ) → Result ℕ Fault
applied f size out a b =
    if has_no_value f b then Err divides_by_zero else Ok (value2 f size out a b)

-- an operation on a, of n bytes, and b, of k bytes
abbrev pub ordered : Op2 → Order → (n k out a b : ℕ) → Result ℕ Fault
ordered f AsWritten n k out a b = applied f n out a b
ordered f Exchanged n k out a b = applied f k out b a

-- what stops the arguments of a user operation, or else the fault of the operation itself
abbrev pub fault_or : Result ℕ Fault → Fault → Fault
fault_or (Ok v) fault = fault
fault_or (Err first) fault = first

module _ (g : Setting) where
  -- the default space where none is named
  abbrev pub space_of : Option ℕ → ℕ
  space_of space = unwrap_or space g.default

  module _ (f : Frame) where
    abbrev pub bytes : ℕ → ℕ
    bytes x = (f.size x).bytes

    abbrev pub size_of : Term → ℕ
    size_of t = bytes (variable_of t)

    -- what a name stands for; of bits of a register, the register
    abbrev pub meant : Symbol → Reference
    meant (s.register space offset n) = storage space offset (size_at n)
    meant (s.bit_range space offset n low count) = storage space offset (size_at n)
    meant (s.local x) = local f.node x (f.size x)
    meant (s.table i) = reference_at f.refs i
    meant (s.attached i n) = reference_at f.refs i
    meant (s.value i) = reference_at f.refs i
    meant s.start = number g.start
    meant s.next = number g.next
    meant (s.integer v) = number (pos v)

    abbrev pub symbol_size : Symbol → Size
    symbol_size (s.bit_range space offset n low count) = size_at (bit_bytes count)
    symbol_size a = reference_size (meant a)

    module _ (m : Memory) (l : Locals) where
      abbrev pub symbol_value : Symbol → (n : ℕ) → ℕ
      symbol_value (s.bit_range space offset k low count) n =
          bits_of low count (load g m space offset (size_at k).bytes)
      symbol_value a n = read g m l (meant a) n

      -- from left to right, all parts
      abbrev mutual
        pub value : Term → Result ℕ Fault
        value (s.number v x) = Ok (v % 256 ^ bytes x)
        value (s.sized v n x) = Ok (v % 256 ^ bytes x)
        value (s.name a x) = Ok (symbol_value a (bytes x))
        value (s.paren t x) = value t
        value (s.kept t n x) = value t >>= λ v. Ok (v % 256 ^ bytes x)
        value (s.dropped t n x) = value t >>= λ v. Ok (v / 256 ^ n % 256 ^ bytes x)
        value (s.bits t low count x) = value t >>= λ v. Ok (bits_of low count v)
        value (s.load space n t x) = value t >>= λ p. Ok (load g m (space_of space) p (bytes x))
        value (s.one op t x) = value t >>= λ v. Ok (value1 op (size_of t) (bytes x) v)
        value (s.two op order a b x) = value a >>= λ v. value b >>= λ w.
            ordered op order (size_of a) (size_of b) (bytes x) v w
        value (s.user op ts x) = Err (fault_in (calls_user_op op) ts)

        -- the fault of a user operation, or of the first argument that has one
        pub fault_in : Fault → Terms → Fault
        fault_in fault s.no_terms = fault
        fault_in fault (s.then_term t ts) = fault_or (value t) (fault_in fault ts)
