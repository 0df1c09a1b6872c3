-- view: a section as a template: its operations, with operands, locals and the places of labels left
-- open.
use Rattle.std.specs.Prelude.{ℕ, pos, ◌+◌, ◌%◌, ◌^◌, Bool, false, List, [], ◌∷◌, ◌++◌, Option}
use Rattle.std.specs.Prelude.{Some, None, map, slice_index, unwrap_or}
use Rattle.sl_faithful_code.specs.Bits.{is_below}
use Rattle.sl_faithful_code.specs.Operations.{amount, constant, in_space}
use Rattle.sl_section_equations.specs.Equations.{bit_bytes, size_at}
use Rattle.sl_pcode.specs.declared.code.Code.{Code}
use Rattle.sl_pcode.specs.declared.code.Code.TheVariants as code
use Rattle.sl_section_flat.specs.Sections as s
use Rattle.sl_section_flat.specs.Sections.{Label, Step, Symbol, Term, Terms, variable_of}
use Rattle.sl_section_flat.specs.Chains.{chain}
use Rattle.sl_section_flat.specs.declared.term.Order.{Order}
use Rattle.sl_section_flat.specs.declared.term.Order.TheVariants.{AsWritten, Exchanged}
use Rattle.sl_build_template.specs.declared.slot.Given.TheVariants.{Operand, Start, Next}
use Rattle.sl_build_template.specs.declared.slot.Slot.{Slot}
use Rattle.sl_build_template.specs.declared.slot.Slot.TheVariants as slot
use Rattle.sl_build_template.specs.declared.slot.Whole.{Whole}
use Rattle.sl_build_template.specs.declared.slot.Whole.TheVariants as whole
use Rattle.sl_word.specs.Numbers.{residue}
use Rattle.sl_word.specs.declared.operation.Op1.{Op1}
use Rattle.sl_word.specs.declared.operation.Op1.TheVariants.{Copy}
use Rattle.sl_word.specs.declared.operation.Op2.{Op2}
use Rattle.sl_word.specs.declared.operation.Op2.TheVariants.{Subpiece}
use Rattle.sl_word.specs.declared.word.Size.{Size}

-- What is known of a section before its operands are: how many bytes an address has in each space,
-- the default space, and the sizes of its variables.
pub record Form : Type 0 where
  pub sizes : List ℕ
  pub default : ℕ
  pub size : ℕ → Size

-- One operation, or what hangs on an operand: what is given is made ready to be read, or put into a
-- varnode; a value is put where an operand stands (`put`), or was put there already if that is a
-- varnode (`stored`), or is put into bits of it; bits of what is read are put into a varnode
-- (`extract`), and so is a value of so many bytes with bits of another in their place (`insert`).
pub data Piece : Type 0 where
  read : (v : Slot) → Piece
  into : (v out : Slot) → Piece
  unary : Op1 → (out a : Slot) → Piece
  binary : Op2 → (out a b : Slot) → Piece
  load : (out : Slot) → (space : ℕ) → (pointer : Slot) → Piece
  store : (space : ℕ) → (pointer v : Slot) → Piece
  user : (op : ℕ) → List Slot → Piece
  exit : Code → (target : Slot) → Piece
  exit_if : (target condition : Slot) → Piece
  put : (i : ℕ) → (v : Slot) → Piece
  stored : (i : ℕ) → Size → Piece
  put_bits : (i : ℕ) → (v : Slot) → (below : Bool) → (low count : ℕ) → Piece
  extract : (t : ℕ) → (from : Slot) → (low count : ℕ) → (out : Slot) → Piece
  insert : (t : ℕ) → Size → (old v : Slot) → (below : Bool) → (low count : ℕ) → (out : Slot) → Piece

-- What stands behind the pieces of a statement.
pub data Tail : Type 0 where
  nothing : Tail
  build : (i : ℕ) → Tail
  label : Label → Tail
  branch : Label → Tail
  branch_if : Label → (condition : Slot) → Tail

-- The template of a statement.
pub record Part : Type 0 where
  pub pieces : List Piece
  pub tail : Tail

-- ---- slots

abbrev pub slot_size : Slot → Size
slot_size (slot.Fixed v) = v.size
slot_size (slot.Local x n) = n
slot_size (slot.Temporary t n) = n
slot_size (slot.Given a t n) = n
slot_size (slot.View t w n) = n
slot_size (slot.Written i n) = n
slot_size (slot.Target a n) = n

abbrev pub number : ℕ → Slot
number v = slot.Fixed (amount v)

-- a value is made ready to be read
abbrev pub reads : Slot → List Piece
reads (slot.Given a t n) = read (slot.Given a t n) ∷ []
reads (slot.View t (whole.Given a k) n) = read (slot.View t (whole.Given a k) n) ∷ []
reads v = []

abbrev pub reads_or : Option Slot → List Piece → List Piece
reads_or None ps = ps
reads_or (Some v) ps = reads v

abbrev pub integer : ℕ → Size → Slot
integer v n = slot.Fixed (constant (v % 256 ^ n.bytes) n)

-- what a name stands for as a whole, where that isn't bits of it
abbrev pub symbol_whole : Symbol → Size → Option Whole
symbol_whole (s.register space offset k) n = Some (whole.Fixed (in_space space offset n))
symbol_whole (s.bit_range space offset k low count) n = None
symbol_whole (s.local x) n = Some (whole.Local x n)
symbol_whole (s.table i) n = Some (whole.Given (Operand i) n)
symbol_whole (s.attached i k) n = Some (whole.Given (Operand i) n)
symbol_whole (s.value i) n = Some (whole.Given (Operand i) n)
symbol_whole s.start n = Some (whole.Given Start n)
symbol_whole s.next n = Some (whole.Given Next n)
symbol_whole (s.integer v) n = Some (whole.Fixed (constant (v % 256 ^ n.bytes) n))

-- the slot of a name, where it is one
abbrev pub slot_of : (t : ℕ) → Option Whole → Option Slot
slot_of t None = None
slot_of t (Some (whole.Fixed v)) = Some (slot.Fixed v)
slot_of t (Some (whole.Local x n)) = Some (slot.Local x n)
slot_of t (Some (whole.Given a n)) = Some (slot.Given a t n)

abbrev pub symbol_slot : (t : ℕ) → Symbol → Size → Option Slot
symbol_slot t a n = slot_of t (symbol_whole a n)

-- the slot of its lowest bytes
abbrev pub view_of : (t : ℕ) → Option Whole → Size → Option Slot
view_of t None n = None
view_of t (Some w) n = Some (slot.View t w n)

abbrev pub into_or : Option Slot → (out : Slot) → List Piece → List Piece
into_or None out ps = ps
into_or (Some v) out ps = into v out ∷ []

-- ---- names that are read

abbrev pub register : (space offset k : ℕ) → Slot
register space offset k = slot.Fixed (in_space space offset (size_at k))

abbrev pub symbol_into : (t : ℕ) → Symbol → (out : Slot) → List Piece
symbol_into t (s.register space offset k) out =
    unary Copy out (slot.Fixed (in_space space offset (slot_size out))) ∷ []
symbol_into t (s.bit_range space offset k low count) out =
    extract t (register space offset k) low count out ∷ []
symbol_into t (s.local x) out = unary Copy out (slot.Local x (slot_size out)) ∷ []
symbol_into t (s.table i) out = into (slot.Given (Operand i) t (slot_size out)) out ∷ []
symbol_into t (s.attached i k) out = into (slot.Given (Operand i) t (slot_size out)) out ∷ []
symbol_into t (s.value i) out = into (slot.Given (Operand i) t (slot_size out)) out ∷ []
symbol_into t s.start out = into (slot.Given Start t (slot_size out)) out ∷ []
symbol_into t s.next out = into (slot.Given Next t (slot_size out)) out ∷ []
symbol_into t (s.integer v) out = unary Copy out (integer v (slot_size out)) ∷ []

abbrev pub two_pieces : Op2 → Order → (out a b : Slot) → Piece
two_pieces f AsWritten out a b = binary f out a b
two_pieces f Exchanged out a b = binary f out b a

-- bits of a value are put into bits of a register, which are n bytes
abbrev pub range_bits : (whole : Size) → (register : Slot) → (n : Size) → (low' count' : ℕ)
    → (v : Slot) → (below : Bool) → (low count : ℕ) → List Piece
range_bits whole register n low' count' v below low count =
    extract 1 register low' count' (slot.Temporary 1 n)
    ∷ insert 2 n (slot.Temporary 1 n) v below low count (slot.Temporary 2 n)
    ∷ insert 4 whole register (slot.Temporary 2 n) false low' count' register ∷ []

-- an expression is put where an operand stands, by its slot, if it has one, and its pieces
abbrev pub set_by : (i : ℕ) → Size → Option Slot → List Piece → List Piece
set_by i n None ps = ps ++ stored i n ∷ []
set_by i n (Some v) ps = put i v ∷ []

module _ (h : Form) where
  abbrev pub space_in : Option ℕ → ℕ
  space_in space = unwrap_or space h.default

  abbrev pub size_of : Term → Size
  size_of e = h.size (variable_of e)

  abbrev pub address_bytes : ℕ
  address_bytes = slice_index h.sizes h.default

  -- ---- expressions

  -- what a name in an expression stands for
  abbrev pub term_whole : Term → Option Whole
  term_whole (s.name a x) = symbol_whole a (h.size x)
  term_whole (s.paren e x) = term_whole e
  term_whole _ = None

  abbrev pub term_slot : (t : ℕ) → Term → Option Slot
  term_slot t (s.number v x) = Some (integer v (h.size x))
  term_slot t (s.sized v n x) = Some (integer v (h.size x))
  term_slot t (s.name a x) = symbol_slot t a (h.size x)
  term_slot t (s.paren e x) = term_slot t e
  term_slot t (s.kept e n x) = view_of t (term_whole e) (h.size x)
  term_slot t (s.dropped e n x) = None
  term_slot t (s.bits e low count x) = None
  term_slot t (s.load space n e x) = None
  term_slot t (s.one op e x) = None
  term_slot t (s.two op order a b x) = None
  term_slot t (s.user op es x) = None

  abbrev pub temp_of : (t : ℕ) → Term → Slot
  temp_of t e = slot.Temporary t (size_of e)

  -- the slot of a value that is read
  abbrev pub term_value : (t : ℕ) → Term → Slot
  term_value t e = unwrap_or (term_slot t e) (temp_of t e)

  abbrev pub terms_values : (t : ℕ) → Terms → List Slot
  terms_values t s.no_terms = []
  terms_values t (s.then_term e es) = term_value t e ∷ terms_values (t + 1) es

  abbrev mutual
    pub term_into : (t : ℕ) → Term → (out : Slot) → List Piece
    term_into t (s.number v x) out = unary Copy out (integer v (h.size x)) ∷ []
    term_into t (s.sized v n x) out = unary Copy out (integer v (h.size x)) ∷ []
    term_into t (s.name a x) out = symbol_into t a out
    term_into t (s.paren e x) out = term_into t e out
    term_into t (s.kept e n x) out = into_or (view_of t (term_whole e) (h.size x)) out
        (reads_or (term_slot t e) (term_into t e (temp_of t e))
        ++ binary Subpiece out (term_value t e) (number 0) ∷ [])
    term_into t (s.dropped e n x) out = reads_or (term_slot t e) (term_into t e (temp_of t e))
        ++ binary Subpiece out (term_value t e) (number n) ∷ []
    term_into t (s.bits e low count x) out = reads_or (term_slot t e) (term_into t e (temp_of t e))
        ++ extract t (term_value t e) low count out ∷ []
    term_into t (s.load space n e x) out = reads_or (term_slot t e) (term_into t e (temp_of t e))
        ++ load out (space_in space) (term_value t e) ∷ []
    term_into t (s.one op e x) out = reads_or (term_slot t e) (term_into t e (temp_of t e))
        ++ unary op out (term_value t e) ∷ []
    term_into t (s.two op order a b x) out =
        reads_or (term_slot t a) (term_into t a (temp_of t a))
        ++ (reads_or (term_slot (t + 1) b) (term_into (t + 1) b (temp_of (t + 1) b))
        ++ two_pieces op order out (term_value t a) (term_value (t + 1) b) ∷ [])
    term_into t (s.user op es x) out = terms_before t es ++ user op (terms_values t es) ∷ []

    pub terms_before : (t : ℕ) → Terms → List Piece
    terms_before t s.no_terms = []
    terms_before t (s.then_term e es) = reads_or (term_slot t e) (term_into t e (temp_of t e))
        ++ terms_before (t + 1) es

  -- the pieces before a value is read
  abbrev pub term_before : (t : ℕ) → Term → List Piece
  term_before t e = reads_or (term_slot t e) (term_into t e (temp_of t e))

  -- ---- statements

  abbrev pub operand_set : (i : ℕ) → Term → List Piece
  operand_set i e = set_by i (size_of e) (term_slot 0 e) (term_into 0 e (slot.Written i (size_of e)))

  abbrev pub set_pieces : Symbol → Term → List Piece
  set_pieces (s.register space offset k) e =
      term_into 0 e (slot.Fixed (in_space space offset (size_of e)))
  set_pieces (s.bit_range space offset k low count) e = term_before 0 e
      ++ insert 1 (size_at k) (register space offset k) (term_value 0 e) (is_below e count) low
      count (register space offset k) ∷ []
  set_pieces (s.local x) e = term_into 0 e (slot.Local x (size_of e))
  set_pieces (s.table i) e = operand_set i e
  set_pieces (s.attached i k) e = operand_set i e
  set_pieces (s.value i) e = operand_set i e
  set_pieces s.start e = term_before 0 e
  set_pieces s.next e = term_before 0 e
  set_pieces (s.integer v) e = term_before 0 e

  -- bits of a value are put where a name stands
  abbrev pub symbol_bits : Symbol → (v : Slot) → (below : Bool) → (low count : ℕ) → List Piece
  symbol_bits (s.register space offset k) v below low count =
      insert 2 (size_at k) (register space offset k) v below low count
      (register space offset k) ∷ []
  symbol_bits (s.bit_range space offset k low' count') v below low count =
      range_bits (size_at k) (register space offset k) (size_at (bit_bytes count')) low' count'
      v below low count
  symbol_bits (s.local x) v below low count =
      insert 2 (h.size x) (slot.Local x (h.size x)) v below low count
      (slot.Local x (h.size x)) ∷ []
  symbol_bits (s.table i) v below low count = put_bits i v below low count ∷ []
  symbol_bits (s.attached i k) v below low count = put_bits i v below low count ∷ []
  symbol_bits (s.value i) v below low count = put_bits i v below low count ∷ []
  symbol_bits s.start v below low count = []
  symbol_bits s.next v below low count = []
  symbol_bits (s.integer z) v below low count = []

  abbrev pub set_bits_pieces : Symbol → (low count : ℕ) → Term → List Piece
  set_bits_pieces a low count e = term_before 0 e
      ++ symbol_bits a (term_value 0 e) (is_below e count) low count

  abbrev pub store_pieces : (space : ℕ) → (pointer e : Term) → List Piece
  store_pieces space pointer e = term_before 0 e
      ++ (term_before 1 pointer ++ store space (term_value 1 pointer) (term_value 0 e) ∷ [])

  abbrev pub user_pieces : (t op : ℕ) → Terms → List Piece
  user_pieces t op es = terms_before t es ++ user op (terms_values t es) ∷ []

  abbrev pub exit_pieces : Code → Term → List Piece
  exit_pieces kind e = term_before 0 e ++ exit kind (term_value 0 e) ∷ []

  -- an address of the default space
  abbrev pub address : ℕ → Slot
  address offset = slot.Fixed (in_space h.default offset (size_at address_bytes))

  abbrev pub target_slot : Symbol → Slot
  target_slot (s.register space offset k) = address 0
  target_slot (s.bit_range space offset k low count) = address 0
  target_slot (s.local x) = address 0
  target_slot (s.table i) = slot.Target (Operand i) (size_at address_bytes)
  target_slot (s.attached i k) = slot.Target (Operand i) (size_at address_bytes)
  target_slot (s.value i) = slot.Target (Operand i) (size_at address_bytes)
  target_slot s.start = slot.Target Start (size_at address_bytes)
  target_slot s.next = slot.Target Next (size_at address_bytes)
  target_slot (s.integer v) = address (residue address_bytes (pos v))

  abbrev pub part : List Piece → Tail → Part
  part ps tail = record { pieces = ps; tail = tail }

  abbrev pub part_of_step : Step → Part
  part_of_step (s.declare x n) = part [] nothing
  part_of_step (s.set a e) = part (set_pieces a e) nothing
  part_of_step (s.set_bits a low count e) = part (set_bits_pieces a low count e) nothing
  part_of_step (s.store space n pointer x e) =
      part (store_pieces (space_in space) pointer e) nothing
  part_of_step (s.run_user op es) = part (user_pieces 0 op (chain es)) nothing
  part_of_step (s.build i) = part [] (build i)
  part_of_step (s.label l) = part [] (label l)
  part_of_step (s.branch (s.to_label l)) = part [] (branch l)
  part_of_step (s.branch (s.to_place a)) = part (exit code.Branch (target_slot a) ∷ []) nothing
  part_of_step (s.branch_if e (s.to_label l)) =
      part (term_before 0 e) (branch_if l (term_value 0 e))
  part_of_step (s.branch_if e (s.to_place a)) =
      part (term_before 0 e ++ exit_if (target_slot a) (term_value 0 e) ∷ []) nothing
  part_of_step (s.branch_to e) = part (exit_pieces code.BranchInd e) nothing
  part_of_step (s.call a) = part (exit code.Call (target_slot a) ∷ []) nothing
  part_of_step (s.call_to e) = part (exit_pieces code.CallInd e) nothing
  part_of_step (s.return e) = part (exit_pieces code.Return e) nothing
  part_of_step (s.export what) = part [] nothing

  abbrev pub parts_of_steps : List Step → List Part
  parts_of_steps ss = map part_of_step ss
