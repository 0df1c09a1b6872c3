-- law: the operations of statements and of sections.
use Rattle.std.specs.Prelude.{ℕ, ◌+◌, ◌-◌, ◌%◌, ◌^◌, Bool, false, if◌then◌else◌, length}
use Rattle.std.specs.Prelude.{List, [], ◌∷◌, ◌++◌, slice_get, slice_index, unwrap_or}
use Rattle.sl_faithful_code.specs.Bits.{bits_put, is_below}
use Rattle.sl_faithful_code.specs.Operations.{Operation, amount, at_temp, call_user, exit, exit_if}
use Rattle.sl_faithful_code.specs.Operations.{in_space, range_of, store_to, temporary}
use Rattle.sl_faithful_code.specs.Terms.{code_before, operand, read_into, read_leaf, size_of, symbol_into}
use Rattle.sl_faithful_code.specs.Terms.{symbol_leaf, term_before, term_into, term_operand, terms_before}
use Rattle.sl_faithful_code.specs.Terms.{terms_operands}
use Rattle.sl_section_equations.specs.Equations.{size_at}
use Rattle.sl_meaning_sections.specs.References.{Reference, Setting, local, memory, number, storage}
use Rattle.sl_meaning_sections.specs.Statements.{is_label}
use Rattle.sl_meaning_sections.specs.Values.{Frame, meant, space_of, symbol_size}
use Rattle.sl_pcode.specs.declared.code.Code.{Code}
use Rattle.sl_pcode.specs.declared.code.Code.TheVariants as code
use Rattle.sl_pcode.specs.declared.varnode.Varnode.{Varnode}
use Rattle.sl_section_flat.specs.Sections as s
use Rattle.sl_section_flat.specs.Sections.{Direct, Label, Step, Symbol, Term}
use Rattle.sl_section_flat.specs.Chains.{chain}
use Rattle.sl_word.specs.Numbers.{residue}
use Rattle.sl_word.specs.declared.word.Size.{Size}

-- the distance from a place of the list to another, in two's complement of four bytes
abbrev pub relative : (from to : ℕ) → ℕ
relative from to = (to + 4294967296 - from) % 4294967296

module _ (top : ℕ) where
  -- a value is put into memory at a pointer
  abbrev pub memory_put : (t : ℕ) → (space : ℕ) → (pointer : Reference) → (width : Size)
      → Varnode → List Operation
  memory_put t space pointer width v =
      code_before (read_leaf pointer width) (read_into top t pointer (at_temp top t width))
      ++ store_to space (operand (read_leaf pointer width) (at_temp top t width)) v ∷ []

  -- bits of a value are put where a reference stands
  abbrev pub reference_bits : Reference → Size → (old v : Varnode) → (below : Bool)
      → (low count : ℕ) → List Operation
  reference_bits (storage space offset size) n old v below low count =
      bits_put top 2 n old v below low count (in_space space offset n)
  reference_bits (local node x size) n old v below low count =
      bits_put top 2 n old v below low count (temporary (range_of node x) n)
  reference_bits (number z) n old v below low count = []
  reference_bits (memory space size pointer width) n old v below low count =
      bits_put top 2 n old v below low count (at_temp top 2 n)
      ++ memory_put 4 space pointer width (at_temp top 2 n)

  module _ (g : Setting) (f : Frame) where
    -- an expression is put where a reference stands
    abbrev pub reference_set : Reference → Term → List Operation
    reference_set (storage space offset size) e =
        term_into top g f 0 e (in_space space offset (size_of g f e))
    reference_set (local node x size) e =
        term_into top g f 0 e (temporary (range_of node x) (size_of g f e))
    reference_set (number z) e = term_before top g f 0 e
    reference_set (memory space size pointer width) e = term_before top g f 0 e
        ++ memory_put 1 space pointer width (term_operand top g f 0 e)

    abbrev pub set_code : Symbol → Term → List Operation
    set_code (s.bit_range space offset k low count) e = term_before top g f 0 e
        ++ bits_put top 1 (size_at k) (in_space space offset (size_at k)) (term_operand top g f 0 e)
        (is_below e count) low count (in_space space offset (size_at k))
    set_code a e = reference_set (meant g f a) e

    abbrev pub symbol_operand : (t : ℕ) → Symbol → Size → Varnode
    symbol_operand t a n = operand (symbol_leaf g f a n) (at_temp top t n)

    abbrev pub symbol_before : (t : ℕ) → Symbol → Size → List Operation
    symbol_before t a n =
        code_before (symbol_leaf g f a n) (symbol_into top g f t a (at_temp top t n))

    abbrev pub symbol_bits : Symbol → Size → (old v : Varnode) → (below : Bool)
        → (low count : ℕ) → List Operation
    symbol_bits (s.bit_range space offset k low' count') n old v below low count =
        bits_put top 2 n old v below low count (at_temp top 2 n)
        ++ bits_put top 4 (size_at k) (in_space space offset (size_at k)) (at_temp top 2 n) false low'
        count' (in_space space offset (size_at k))
    symbol_bits a n old v below low count = reference_bits (meant g f a) n old v below low count

    abbrev pub set_bits_code : Symbol → (low count : ℕ) → Term → List Operation
    set_bits_code a low count e = term_before top g f 0 e
        ++ (symbol_before 1 a (symbol_size g f a)
        ++ symbol_bits a (symbol_size g f a) (symbol_operand 1 a (symbol_size g f a))
        (term_operand top g f 0 e) (is_below e count) low count)

    abbrev pub store_code : (space : ℕ) → (pointer e : Term) → List Operation
    store_code space pointer e = term_before top g f 0 e ++ (term_before top g f 1 pointer
        ++ store_to space (term_operand top g f 1 pointer) (term_operand top g f 0 e) ∷ [])

    -- a number as an address of the default space
    abbrev pub address_bytes : ℕ
    address_bytes = slice_index g.sizes g.default

    abbrev pub pointer_address : Reference → Size → ℕ
    pointer_address (number v) width = residue width.bytes v % 256 ^ address_bytes
    pointer_address _ width = 0

    abbrev pub target_address : Reference → ℕ
    target_address (number v) = residue address_bytes v
    target_address (memory space size pointer width) = pointer_address pointer width
    target_address _ = 0

    abbrev pub target_of : Symbol → Varnode
    target_of a =
        in_space g.default (target_address (meant g f a)) (size_at address_bytes)

    -- a value is read by an operation that leaves the list
    abbrev pub exit_code : Code → Term → List Operation
    exit_code kind e = term_before top g f 0 e ++ exit kind (term_operand top g f 0 e) ∷ []

    abbrev pub child_code : List (List Operation) → (i : ℕ) → List Operation
    child_code children i = unwrap_or (slice_get children i) []

    -- by where labels are
    module _ (label_place : Label → ℕ) where
      abbrev pub direct : (at : ℕ) → Direct → Varnode
      direct at (s.to_label l) = amount (relative at (label_place l))
      direct at (s.to_place a) = target_of a

    -- by the lists of the operands, too
    module _ (label_place : Label → ℕ) (children : List (List Operation)) where
      -- a statement whose first operation has a place in the list
      abbrev pub step_code : (at : ℕ) → Step → List Operation
      step_code at (s.declare x n) = []
      step_code at (s.set a e) = set_code a e
      step_code at (s.set_bits a low count e) = set_bits_code a low count e
      step_code at (s.store space n pointer x e) = store_code (space_of g space) pointer e
      step_code at (s.run_user op es) = terms_before top g f 0 (chain es)
          ++ call_user op (terms_operands top g f 0 (chain es)) ∷ []
      step_code at (s.build i) = child_code children i
      step_code at (s.label l) = []
      step_code at (s.branch to) = exit code.Branch (direct label_place at to) ∷ []
      step_code at (s.branch_if e to) = term_before top g f 0 e
          ++ exit_if (direct label_place (at + length (term_before top g f 0 e)) to)
          (term_operand top g f 0 e) ∷ []
      step_code at (s.branch_to e) = exit_code code.BranchInd e
      step_code at (s.call a) = exit code.Call (target_of a) ∷ []
      step_code at (s.call_to e) = exit_code code.CallInd e
      step_code at (s.return e) = exit_code code.Return e
      step_code at (s.export what) = []

    module _ (children : List (List Operation)) where
      -- how many operations a statement has, which doesn't depend on where labels are
      abbrev pub step_length : Step → ℕ
      step_length a = length (step_code (λ l. 0) children 0 a)

      abbrev pub steps_code : (Label → ℕ) → (at : ℕ) → List Step → List Operation
      steps_code label_place at [] = []
      steps_code label_place at (a ∷ ss) = step_code label_place children at a
          ++ steps_code label_place (at + step_length a) ss

      -- the place of a label, behind the statements before it
      abbrev pub label_at : Label → (at : ℕ) → List Step → ℕ
      label_at l at [] = at
      label_at l at (a ∷ ss) =
          if is_label a l then at else label_at l (at + step_length a) ss

      abbrev pub section_code : List Step → List Operation
      section_code ss = steps_code (λ l. label_at l 0 ss) 0 ss
