-- view: the operations of a template at a node.
use Rattle.std.specs.Prelude.{ℕ, ◌+◌, if◌then◌else◌, length, List, [], ◌∷◌, ◌++◌, Bool, false, map}
use Rattle.std.specs.Prelude.{Option, Some, slice_get, unwrap_or}
use Rattle.sl_faithful_code.specs.Bits.{bits_into, bits_put}
use Rattle.sl_faithful_code.specs.Operations as o
use Rattle.sl_faithful_code.specs.Operations.{Operation, amount, at_temp, in_space, range_of, temporary}
use Rattle.sl_faithful_code.specs.Statements.{memory_put, reference_bits, relative, target_address}
use Rattle.sl_faithful_code.specs.Terms.{code_before, copied, operand, read_into, read_leaf, view}
use Rattle.sl_meaning_sections.specs.References.{Reference, Setting, local, memory, number, reference_size}
use Rattle.sl_meaning_sections.specs.References.{storage}
use Rattle.sl_meaning_sections.specs.Statements.{same_label}
use Rattle.sl_meaning_sections.specs.Values.{Frame, reference_at}
use Rattle.sl_pcode.specs.declared.code.Code.TheVariants as code
use Rattle.sl_pcode.specs.declared.varnode.Varnode.{Varnode}
use Rattle.sl_section_flat.specs.Sections.{Label}
use Rattle.sl_build_template.specs.Pieces as p
use Rattle.sl_build_template.specs.Pieces.{Part, Piece, Tail, slot_size}
use Rattle.sl_build_template.specs.declared.slot.Given.{Given}
use Rattle.sl_build_template.specs.declared.slot.Given.TheVariants.{Operand, Start, Next}
use Rattle.sl_build_template.specs.declared.slot.Slot.{Slot}
use Rattle.sl_build_template.specs.declared.slot.Slot.TheVariants as slot
use Rattle.sl_build_template.specs.declared.slot.Whole.{Whole}
use Rattle.sl_build_template.specs.declared.slot.Whole.TheVariants as whole
use Rattle.sl_word.specs.declared.operation.Op1.TheVariants.{Copy}
use Rattle.sl_word.specs.declared.operation.Op2.TheVariants.{Subpiece}
use Rattle.sl_word.specs.declared.word.Size.{Size}

abbrev pub tail_is : Tail → Label → Bool
tail_is (p.label k) l = same_label k l
tail_is _ l = false

module _ (top : ℕ) where
  -- what is read, before it is
  abbrev pub read_code : Reference → (t : ℕ) → Size → List Operation
  read_code r t n = code_before (read_leaf r n) (read_into top t r (at_temp top t n))

  abbrev pub read_value : Reference → (t : ℕ) → Size → Varnode
  read_value r t n = operand (read_leaf r n) (at_temp top t n)

  -- where a value for a reference is put: there, where that is a varnode
  abbrev pub written : Reference → Size → Varnode
  written (storage space offset size) n = in_space space offset n
  written (local node x size) n = temporary (range_of node x) n
  written (number v) n = at_temp top 0 n
  written (memory space size pointer width) n = at_temp top 0 n

  -- what follows where it isn't
  abbrev pub stored_code : Reference → Size → List Operation
  stored_code (storage space offset size) n = []
  stored_code (local node x size) n = []
  stored_code (number v) n = []
  stored_code (memory space size pointer width) n =
      memory_put top 1 space pointer width (at_temp top 0 n)

  -- a value is put into bits of what a reference stands for
  abbrev pub bits_code : Reference → (v : Varnode) → (below : Bool) → (low count : ℕ)
      → List Operation
  bits_code r v below low count = read_code r 1 (reference_size r)
      ++ reference_bits top r (reference_size r) (read_value r 1 (reference_size r)) v below low
      count

  module _ (g : Setting) (f : Frame) where
    abbrev pub given : Given → Reference
    given (Operand i) = reference_at f.refs i
    given Start = number g.start
    given Next = number g.next

    -- the varnode that a name stands for
    abbrev pub whole_leaf : Whole → Option Varnode
    whole_leaf (whole.Fixed v) = Some v
    whole_leaf (whole.Local x n) = Some (temporary (range_of f.node x) n)
    whole_leaf (whole.Given a n) = read_leaf (given a) n

    -- where it is none, what is given is put into a temporary value, and its lowest bytes are taken
    abbrev pub cut_into : (t : ℕ) → Whole → (out : Varnode) → List Operation
    cut_into t (whole.Fixed v) out = []
    cut_into t (whole.Local x n) out = []
    cut_into t (whole.Given a n) out = read_into top t (given a) (at_temp top t n)
        ++ o.binary Subpiece out (at_temp top t n) (amount 0) ∷ []

    abbrev pub value : Slot → Varnode
    value (slot.Fixed v) = v
    value (slot.Local x n) = temporary (range_of f.node x) n
    value (slot.Temporary t n) = at_temp top t n
    value (slot.Given a t n) = read_value (given a) t n
    value (slot.View t w n) = operand (view g (whole_leaf w) n) (at_temp top t n)
    value (slot.Written i n) = written (reference_at f.refs i) n
    value (slot.Target a n) = in_space g.default (target_address top g f (given a)) n

    abbrev pub values : List Slot → List Varnode
    values vs = map value vs

    -- the operations before a value is read
    abbrev pub before : Slot → List Operation
    before (slot.Fixed v) = []
    before (slot.Local x n) = []
    before (slot.Temporary t n) = []
    before (slot.Given a t n) = read_code (given a) t n
    before (slot.View t w n) =
        code_before (view g (whole_leaf w) n) (cut_into t w (at_temp top t n))
    before (slot.Written i n) = []
    before (slot.Target a n) = []

    -- a value is put into a varnode
    abbrev pub into : Slot → (out : Varnode) → List Operation
    into (slot.Fixed v) out = o.unary Copy out v ∷ []
    into (slot.Local x n) out = o.unary Copy out (temporary (range_of f.node x) n) ∷ []
    into (slot.Temporary t n) out = o.unary Copy out (at_temp top t n) ∷ []
    into (slot.Given a t n) out = read_into top t (given a) out
    into (slot.View t w n) out = copied (view g (whole_leaf w) n) out (cut_into t w out)
    into (slot.Written i n) out = o.unary Copy out (written (reference_at f.refs i) n) ∷ []
    into (slot.Target a n) out =
        o.unary Copy out (in_space g.default (target_address top g f (given a)) n) ∷ []

    -- a value is put where a reference stands
    abbrev pub put_code : Reference → Slot → List Operation
    put_code (storage space offset size) v = into v (in_space space offset (slot_size v))
    put_code (local node x size) v = into v (temporary (range_of node x) (slot_size v))
    put_code (number z) v = before v
    put_code (memory space size pointer width) v =
        before v ++ memory_put top 1 space pointer width (value v)

    abbrev pub piece_code : Piece → List Operation
    piece_code (p.read v) = before v
    piece_code (p.into v out) = into v (value out)
    piece_code (p.unary op out a) = o.unary op (value out) (value a) ∷ []
    piece_code (p.binary op out a b) = o.binary op (value out) (value a) (value b) ∷ []
    piece_code (p.load out space a) = o.load_from (value out) space (value a) ∷ []
    piece_code (p.store space a v) = o.store_to space (value a) (value v) ∷ []
    piece_code (p.user op vs) = o.call_user op (values vs) ∷ []
    piece_code (p.exit kind target) = o.exit kind (value target) ∷ []
    piece_code (p.exit_if target v) = o.exit_if (value target) (value v) ∷ []
    piece_code (p.put i v) = put_code (reference_at f.refs i) v
    piece_code (p.stored i n) = stored_code (reference_at f.refs i) n
    piece_code (p.put_bits i v below low count) =
        bits_code (reference_at f.refs i) (value v) below low count
    piece_code (p.extract t from low count out) =
        bits_into top t (value from) low count (value out)
    piece_code (p.insert t n old v below low count out) =
        bits_put top t n (value old) (value v) below low count (value out)

    abbrev pub pieces_code : List Piece → List Operation
    pieces_code [] = []
    pieces_code (a ∷ ps) = piece_code a ++ pieces_code ps

    -- ---- statements

    module _ (label_place : Label → ℕ) (children : List (List Operation)) where
      -- what stands at a place of the list behind the pieces
      abbrev pub tail_code : (at : ℕ) → Tail → List Operation
      tail_code at p.nothing = []
      tail_code at (p.build i) = unwrap_or (slice_get children i) []
      tail_code at (p.label l) = []
      tail_code at (p.branch l) = o.exit code.Branch (amount (relative at (label_place l))) ∷ []
      tail_code at (p.branch_if l v) =
          o.exit_if (amount (relative at (label_place l))) (value v) ∷ []

      abbrev pub part_code : (at : ℕ) → Part → List Operation
      part_code at a = pieces_code a.pieces ++ tail_code (at + length (pieces_code a.pieces)) a.tail

    module _ (children : List (List Operation)) where
      abbrev pub part_length : Part → ℕ
      part_length a = length (part_code (λ l. 0) children 0 a)

      abbrev pub parts_code : (Label → ℕ) → (at : ℕ) → List Part → List Operation
      parts_code label_place at [] = []
      parts_code label_place at (a ∷ ps) = part_code label_place children at a
          ++ parts_code label_place (at + part_length a) ps

      -- the place of a label, behind the statements before it
      abbrev pub label_at : Label → (at : ℕ) → List Part → ℕ
      label_at l at [] = at
      label_at l at (a ∷ ps) =
          if tail_is a.tail l then at else label_at l (at + part_length a) ps

      -- the operations of a template
      abbrev pub placed : List Part → List Operation
      placed ps = parts_code (λ l. label_at l 0 ps) 0 ps
