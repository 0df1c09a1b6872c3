-- The pieces of expressions come to their operations.
use Rattle.std.proofs.Common.{◌≡◌, ℕ, ◌+◌, Bool, true, false, List, [], ◌∷◌, ◌++◌, append-nil, append_assoc, Option, Some, None, refl, sym, ap, ◌∙◌, pos, negsuc}
use Rattle.std.specs.Prelude.{if◌then◌else◌, nat_le, unwrap_or}
use Rattle.sl_faithful_code.specs.Bits.{bits_into}
use Rattle.sl_faithful_code.specs.Operations as o
use Rattle.sl_faithful_code.specs.Operations.{Operation, amount, at_temp, constant, in_space, range_of, temporary}
use Rattle.sl_faithful_code.specs.Terms as term
use Rattle.sl_faithful_code.specs.Terms.{code_before, copied, name_leaf, operand, read_leaf, term_into, term_leaf, term_operand, terms_before, terms_operands, view}
use Rattle.sl_meaning_sections.specs.References.{Reference, Setting, local, memory, number, storage}
use Rattle.sl_meaning_sections.specs.Values.{Frame, reference_at, space_of}
use Rattle.sl_pcode.specs.declared.varnode.Varnode.{Varnode}
use Rattle.sl_section_flat.specs.Sections as s
use Rattle.sl_section_flat.specs.Sections.{Symbol, Term, Terms, variable_of}
use Rattle.sl_section_flat.specs.declared.term.Order.{Order}
use Rattle.sl_section_flat.specs.declared.term.Order.TheVariants.{AsWritten, Exchanged}
use Rattle.sl_build_template.specs.Pieces as p
use Rattle.sl_build_template.specs.Pieces.{Form, Piece, slot_size}
use Rattle.sl_build_template.specs.Placed.{before, cut_into, given, into, piece_code, pieces_code, read_value, value, values, whole_leaf, written}
use Rattle.sl_build_template.specs.declared.slot.Slot.{Slot}
use Rattle.sl_build_template.specs.declared.slot.Slot.TheVariants as slot
use Rattle.sl_build_template.specs.declared.slot.Whole.{Whole}
use Rattle.sl_build_template.specs.declared.slot.Whole.TheVariants as whole
use Rattle.sl_word.specs.Numbers.{residue}
use Rattle.sl_word.specs.declared.operation.Op1.TheVariants.{Copy}
use Rattle.sl_word.specs.declared.operation.Op2.{Op2}
use Rattle.sl_word.specs.declared.operation.Op2.TheVariants.{Subpiece}
use Rattle.sl_word.specs.declared.word.Size.{Size}

abbrev pub form : Setting → Frame → Form
form g f = record { sizes = g.sizes; default = g.default; size = f.size }

module _ (top : ℕ) where
  below_size : (b : Bool) (w : Varnode) (t : ℕ) (n : Size) → w.size ≡ n → (operand (if b then Some w else None) (at_temp top t n)).size ≡ n
  below_size true w t n e = e
  below_size false w t n e = refl

  read_size : (r : Reference) (t : ℕ) (n : Size) → (read_value top r t n).size ≡ n
  read_size (storage space offset size) t n = refl
  read_size (local node x size) t n = refl
  read_size (number (pos v)) t n = refl
  read_size (number (negsuc v)) t n = below_size (nat_le n.bytes 8) (constant (residue n.bytes (negsuc v)) n) t n refl
  read_size (memory space size pointer width) t n = refl

  written_size : (r : Reference) (n : Size) → (written top r n).size ≡ n
  written_size (storage space offset size) n = refl
  written_size (local node x size) n = refl
  written_size (number v) n = refl
  written_size (memory space size pointer width) n = refl

  module _ (g : Setting) (f : Frame) where
    view_size : (leaf : Option Varnode) (t : ℕ) (n : Size) → (operand (view g leaf n) (at_temp top t n)).size ≡ n
    view_size None t n = refl
    view_size (Some v) t n = refl

    pub value_size : (v : Slot) → (value top g f v).size ≡ slot_size v
    value_size (slot.Fixed v) = refl
    value_size (slot.Local x n) = refl
    value_size (slot.Temporary t n) = refl
    value_size (slot.Given a t n) = read_size (given top g f a) t n
    value_size (slot.View t w n) = view_size (whole_leaf top g f w) t n
    value_size (slot.Written i n) = written_size (reference_at f.refs i) n
    value_size (slot.Target a n) = refl

    abbrev code : List Piece → List Operation
    code ps = pieces_code top g f ps

    pub both : (a b : List Piece) → code (a ++ b) ≡ code a ++ code b
    both [] b = refl
    both (q ∷ a) b = ap (λ c. piece_code top g f q ++ c) (both a b) ∙ sym (append_assoc (piece_code top g f q) (code a) (code b))

    -- pieces one behind the other
    pub joined : (a b : List Piece) (ca cb : List Operation) → code a ≡ ca → code b ≡ cb → code (a ++ b) ≡ ca ++ cb
    joined a b ca cb ea eb = both a b ∙ ap (λ c. c ++ code b) ea ∙ ap (λ c. ca ++ c) eb

    -- ---- slots stand for what is read

    pub record IsSlotOf (t : ℕ) (e : Term) (v : Slot) : Type 0 where
      pub size : slot_size v ≡ term.size_of g f e
      pub reads : code_before (term_leaf g f e) (term_into top g f t e (term.temp_of top g f t e)) ≡ before top g f v
      pub has : operand (term_leaf g f e) (term.temp_of top g f t e) ≡ value top g f v
      pub puts : (out : Varnode) → out.size ≡ term.size_of g f e → term_into top g f t e out ≡ into top g f v out

    abbrev pub Opens : ℕ → Term → Option Slot → Type 0
    Opens t e None = term_leaf g f e ≡ None
    Opens t e (Some v) = IsSlotOf t e v

    copied_at : (n : Size) (out : Varnode) → out.size ≡ n → (at : Size → Varnode) → o.unary Copy out (at out.size) ∷ [] ≡ o.unary Copy out (at n) ∷ []
    copied_at n out e at = ap (λ k. o.unary Copy out (at k) ∷ []) e

    name_opens : (t : ℕ) (a : Symbol) (x : ℕ) → Opens t (s.name a x) (p.symbol_slot t a (f.size x))
    name_opens t (s.register space offset k) x = record { size = refl; reads = refl; has = refl; puts = λ out e. copied_at (f.size x) out e (λ k. in_space space offset k) }
    name_opens t (s.bit_range space offset k low count) x = refl
    name_opens t (s.local y) x = record { size = refl; reads = refl; has = refl; puts = λ out e. copied_at (f.size x) out e (λ k. temporary (range_of f.node y) k) }
    name_opens t (s.table i) x = record { size = refl; reads = refl; has = refl; puts = λ out e. refl }
    name_opens t (s.attached i k) x = record { size = refl; reads = refl; has = refl; puts = λ out e. refl }
    name_opens t (s.value i) x = record { size = refl; reads = refl; has = refl; puts = λ out e. refl }
    name_opens t s.start x = record { size = refl; reads = refl; has = refl; puts = λ out e. refl }
    name_opens t s.next x = record { size = refl; reads = refl; has = refl; puts = λ out e. refl }
    name_opens t (s.integer v) x = record { size = refl; reads = refl; has = refl; puts = λ out e. copied_at (f.size x) out e (λ k. constant (residue k.bytes (pos v)) k) }

    paren_opens : (t : ℕ) (e : Term) (x : ℕ) (w : Option Slot) → Opens t e w → Opens t (s.paren e x) w
    paren_opens t e x None h = h
    paren_opens t e x (Some v) h = record { size = h.size; reads = h.reads; has = h.has; puts = h.puts }

    -- ---- the lowest bytes of what a name stands for

    -- the operations that take them from a temporary value
    abbrev cut : (t : ℕ) → Term → (out : Varnode) → List Operation
    cut t e out = term.term_before top g f t e ++ o.binary Subpiece out (term_operand top g f t e) (amount 0) ∷ []

    -- A name in an expression stands for it.
    record IsWholeOf (t : ℕ) (e : Term) (w : Whole) : Type 0 where
      leaf : name_leaf g f e ≡ whole_leaf top g f w
      cuts : (n : Size) (out : Varnode) → copied (view g (whole_leaf top g f w) n) out (cut t e out) ≡ copied (view g (whole_leaf top g f w) n) out (cut_into top g f t w out)

    abbrev Stands : ℕ → Term → Option Whole → Type 0
    Stands t e None = name_leaf g f e ≡ None
    Stands t e (Some w) = IsWholeOf t e w

    given_cuts : (leaf : Option Varnode) (n : Size) (out tmp : Varnode) (code : List Operation)
        → copied (view g leaf n) out (code_before leaf code ++ o.binary Subpiece out (operand leaf tmp) (amount 0) ∷ []) ≡ copied (view g leaf n) out (code ++ o.binary Subpiece out tmp (amount 0) ∷ [])
    given_cuts None n out tmp code = refl
    given_cuts (Some v) n out tmp code = refl

    abbrev given_stands : Reference → (t : ℕ) → (k n : Size) → (out : Varnode) → Type 0
    given_stands r t k n out =
        copied (view g (read_leaf r k) n) out (code_before (read_leaf r k) (term.read_into top t r (at_temp top t k)) ++ o.binary Subpiece out (operand (read_leaf r k) (at_temp top t k)) (amount 0) ∷ [])
        ≡ copied (view g (read_leaf r k) n) out (term.read_into top t r (at_temp top t k) ++ o.binary Subpiece out (at_temp top t k) (amount 0) ∷ [])

    given_is : (r : Reference) (t : ℕ) (k n : Size) (out : Varnode) → given_stands r t k n out
    given_is r t k n out = given_cuts (read_leaf r k) n out (at_temp top t k) (term.read_into top t r (at_temp top t k))

    name_stands : (t : ℕ) (a : Symbol) (x : ℕ) → Stands t (s.name a x) (p.symbol_whole a (f.size x))
    name_stands t (s.register space offset k) x = record { leaf = refl; cuts = λ n out. refl }
    name_stands t (s.bit_range space offset k low count) x = refl
    name_stands t (s.local y) x = record { leaf = refl; cuts = λ n out. refl }
    name_stands t (s.table i) x = record { leaf = refl; cuts = given_is (reference_at f.refs i) t (f.size x) }
    name_stands t (s.attached i k) x = record { leaf = refl; cuts = given_is (reference_at f.refs i) t (f.size x) }
    name_stands t (s.value i) x = record { leaf = refl; cuts = given_is (reference_at f.refs i) t (f.size x) }
    name_stands t s.start x = record { leaf = refl; cuts = given_is (number g.start) t (f.size x) }
    name_stands t s.next x = record { leaf = refl; cuts = given_is (number g.next) t (f.size x) }
    name_stands t (s.integer v) x = record { leaf = refl; cuts = λ n out. refl }

    paren_stands : (t : ℕ) (e : Term) (x : ℕ) (w : Option Whole) → Stands t e w → Stands t (s.paren e x) w
    paren_stands t e x None h = h
    paren_stands t e x (Some w) h = record { leaf = h.leaf; cuts = h.cuts }

    stands : (t : ℕ) (e : Term) → Stands t e (p.term_whole (form g f) e)
    stands t (s.number v x) = refl
    stands t (s.sized v n x) = refl
    stands t (s.name a x) = name_stands t a x
    stands t (s.paren e x) = paren_stands t e x (p.term_whole (form g f) e) (stands t e)
    stands t (s.kept e n x) = refl
    stands t (s.dropped e n x) = refl
    stands t (s.bits e low count x) = refl
    stands t (s.load space n e x) = refl
    stands t (s.one op e x) = refl
    stands t (s.two op order a b x) = refl
    stands t (s.user op es x) = refl

    kept_puts : (t : ℕ) (e : Term) (n : Size) (w : Whole) → IsWholeOf t e w → (out : Varnode) → copied (view g (name_leaf g f e) n) out (cut t e out) ≡ into top g f (slot.View t w n) out
    kept_puts t e n w h out = ap (λ l. copied (view g l n) out (cut t e out)) h.leaf ∙ h.cuts n out

    read_once : (leaf : Option Varnode) (out : Varnode) (code : List Operation) → code_before leaf (copied leaf out code) ≡ code_before leaf code
    read_once None out code = refl
    read_once (Some v) out code = refl

    kept_opens : (t : ℕ) (e : Term) (k x : ℕ) (w : Option Whole) → Stands t e w → Opens t (s.kept e k x) (p.view_of t w (f.size x))
    kept_opens t e k x None h = ap (λ l. view g l (f.size x)) h
    kept_opens t e k x (Some w) h =
        let n = f.size x in
        let tmp = at_temp top t n in
        record {
          size = refl;
          reads = ap (λ l. code_before (view g l n) (copied (view g l n) tmp (cut t e tmp))) h.leaf
              ∙ ap (code_before (view g (whole_leaf top g f w) n)) (h.cuts n tmp)
              ∙ read_once (view g (whole_leaf top g f w) n) tmp (cut_into top g f t w tmp);
          has = ap (λ l. operand (view g l n) tmp) h.leaf;
          puts = λ out same. kept_puts t e n w h out;
        }

    pub opens : (t : ℕ) (e : Term) → Opens t e (p.term_slot (form g f) t e)
    opens t (s.number v x) = record { size = refl; reads = refl; has = refl; puts = λ out e. refl }
    opens t (s.sized v n x) = record { size = refl; reads = refl; has = refl; puts = λ out e. refl }
    opens t (s.name a x) = name_opens t a x
    opens t (s.paren e x) = paren_opens t e x (p.term_slot (form g f) t e) (opens t e)
    opens t (s.kept e n x) = kept_opens t e n x (p.term_whole (form g f) e) (stands t e)
    opens t (s.dropped e n x) = refl
    opens t (s.bits e low count x) = refl
    opens t (s.load space n e x) = refl
    opens t (s.one op e x) = refl
    opens t (s.two op order a b x) = refl
    opens t (s.user op es x) = refl

    reads_slot : (v : Slot) → code (p.reads v) ≡ before top g f v
    reads_slot (slot.Fixed v) = refl
    reads_slot (slot.Local x n) = refl
    reads_slot (slot.Temporary t n) = refl
    reads_slot (slot.Given a t n) = append-nil (before top g f (slot.Given a t n))
    reads_slot (slot.View t (whole.Fixed v) n) = refl
    reads_slot (slot.View t (whole.Local x k) n) = refl
    reads_slot (slot.View t (whole.Given a k) n) = append-nil (before top g f (slot.View t (whole.Given a k) n))
    reads_slot (slot.Written i n) = refl
    reads_slot (slot.Target a n) = refl

    before_by : (t : ℕ) (e : Term) (w : Option Slot) (ps : List Piece) → Opens t e w → code ps ≡ term_into top g f t e (term.temp_of top g f t e)
        → code (p.reads_or w ps) ≡ term.term_before top g f t e
    before_by t e None ps h is = is ∙ ap (λ l. code_before l (term_into top g f t e (term.temp_of top g f t e))) (sym h)
    before_by t e (Some v) ps h is = reads_slot v ∙ sym h.reads

    value_by : (t : ℕ) (e : Term) (w : Option Slot) → Opens t e w → value top g f (unwrap_or w (p.temp_of (form g f) t e)) ≡ term_operand top g f t e
    value_by t e None h = ap (λ l. operand l (term.temp_of top g f t e)) (sym h)
    value_by t e (Some v) h = sym h.has

    pub value_is : (t : ℕ) (e : Term) → value top g f (p.term_value (form g f) t e) ≡ term_operand top g f t e
    value_is t e = value_by t e (p.term_slot (form g f) t e) (opens t e)

    pub values_are : (t : ℕ) (es : Terms) → values top g f (p.terms_values (form g f) t es) ≡ terms_operands top g f t es
    values_are t s.no_terms = refl
    values_are t (s.then_term e es) = ap (λ v. v ∷ values top g f (p.terms_values (form g f) (t + 1) es)) (value_is t e) ∙ ap (λ vs. term_operand top g f t e ∷ vs) (values_are (t + 1) es)

    -- ---- names and bits

    name_into : (t : ℕ) (a : Symbol) (out : Slot) → code (p.symbol_into t a out) ≡ term.symbol_into top g f t a (value top g f out)
    name_into t (s.register space offset k) out = sym (copied_at (slot_size out) (value top g f out) (value_size out) (λ k. in_space space offset k))
    name_into t (s.bit_range space offset k low count) out = append-nil _
    name_into t (s.local x) out = sym (copied_at (slot_size out) (value top g f out) (value_size out) (λ k. temporary (range_of f.node x) k))
    name_into t (s.table i) out = append-nil _
    name_into t (s.attached i k) out = append-nil _
    name_into t (s.value i) out = append-nil _
    name_into t s.start out = append-nil _
    name_into t s.next out = append-nil _
    name_into t (s.integer v) out = sym (copied_at (slot_size out) (value top g f out) (value_size out) (λ k. constant (residue k.bytes (pos v)) k))

    two_is : (op : Op2) (order : Order) (out a b : Slot) → code (p.two_pieces op order out a b ∷ []) ≡ term.two_operands op order (value top g f out) (value top g f a) (value top g f b) ∷ []
    two_is op AsWritten out a b = refl
    two_is op Exchanged out a b = refl

    -- ---- expressions

    kept_into : (t : ℕ) (e : Term) (n : Size) (out : Slot) (w : Option Whole) (ps : List Piece) → Stands t e w → code ps ≡ cut t e (value top g f out)
        → code (p.into_or (p.view_of t w n) out ps) ≡ copied (view g (name_leaf g f e) n) (value top g f out) (cut t e (value top g f out))
    kept_into t e n out None ps h is = is ∙ ap (λ l. copied (view g l n) (value top g f out) (cut t e (value top g f out))) (sym h)
    kept_into t e n out (Some w) ps h is = append-nil _ ∙ sym (kept_puts t e n w h (value top g f out))

    mutual
      pub into_is : (t : ℕ) (e : Term) (out : Slot) → code (p.term_into (form g f) t e out) ≡ term_into top g f t e (value top g f out)
      into_is t (s.number v x) out = refl
      into_is t (s.sized v n x) out = refl
      into_is t (s.name a x) out = name_into t a out
      into_is t (s.paren e x) out = into_is t e out
      into_is t (s.kept e n x) out =
          kept_into t e (f.size x) out (p.term_whole (form g f) e) _ (stands t e)
          (joined (p.term_before (form g f) t e) _ (term.term_before top g f t e) _
          (before_by t e (p.term_slot (form g f) t e) _ (opens t e) (into_is t e (p.temp_of (form g f) t e)))
          (ap (λ v. o.binary Subpiece (value top g f out) v (amount 0) ∷ []) (value_is t e)))
      into_is t (s.dropped e n x) out =
          joined (p.term_before (form g f) t e) _ (term.term_before top g f t e) _
          (before_by t e (p.term_slot (form g f) t e) _ (opens t e) (into_is t e (p.temp_of (form g f) t e)))
          (ap (λ v. o.binary Subpiece (value top g f out) v (amount n) ∷ []) (value_is t e))
      into_is t (s.bits e low count x) out =
          joined (p.term_before (form g f) t e) _ (term.term_before top g f t e) _
          (before_by t e (p.term_slot (form g f) t e) _ (opens t e) (into_is t e (p.temp_of (form g f) t e)))
          (append-nil (bits_into top t (value top g f (p.term_value (form g f) t e)) low count (value top g f out)) ∙ ap (λ v. bits_into top t v low count (value top g f out)) (value_is t e))
      into_is t (s.load space n e x) out =
          joined (p.term_before (form g f) t e) _ (term.term_before top g f t e) _
          (before_by t e (p.term_slot (form g f) t e) _ (opens t e) (into_is t e (p.temp_of (form g f) t e)))
          (ap (λ v. o.load_from (value top g f out) (space_of g space) v ∷ []) (value_is t e))
      into_is t (s.one op e x) out =
          joined (p.term_before (form g f) t e) _ (term.term_before top g f t e) _
          (before_by t e (p.term_slot (form g f) t e) _ (opens t e) (into_is t e (p.temp_of (form g f) t e)))
          (ap (λ v. o.unary op (value top g f out) v ∷ []) (value_is t e))
      into_is t (s.two op order a b x) out =
          joined (p.term_before (form g f) t a) _ (term.term_before top g f t a) _
          (before_by t a (p.term_slot (form g f) t a) _ (opens t a) (into_is t a (p.temp_of (form g f) t a)))
          (joined (p.term_before (form g f) (t + 1) b) _ (term.term_before top g f (t + 1) b) _
          (before_by (t + 1) b (p.term_slot (form g f) (t + 1) b) _ (opens (t + 1) b) (into_is (t + 1) b (p.temp_of (form g f) (t + 1) b)))
          (two_is op order out (p.term_value (form g f) t a) (p.term_value (form g f) (t + 1) b)
          ∙ ap (λ v. term.two_operands op order (value top g f out) v (value top g f (p.term_value (form g f) (t + 1) b)) ∷ []) (value_is t a)
          ∙ ap (λ v. term.two_operands op order (value top g f out) (term_operand top g f t a) v ∷ []) (value_is (t + 1) b)))
      into_is t (s.user op es x) out =
          joined (p.terms_before (form g f) t es) _ (terms_before top g f t es) _ (all_before t es) (ap (λ vs. o.call_user op vs ∷ []) (values_are t es))

      pub all_before : (t : ℕ) (es : Terms) → code (p.terms_before (form g f) t es) ≡ terms_before top g f t es
      all_before t s.no_terms = refl
      all_before t (s.then_term e es) =
          joined (p.term_before (form g f) t e) _ (term.term_before top g f t e) _
          (before_by t e (p.term_slot (form g f) t e) _ (opens t e) (into_is t e (p.temp_of (form g f) t e)))
          (all_before (t + 1) es)

    pub before_is : (t : ℕ) (e : Term) → code (p.term_before (form g f) t e) ≡ term.term_before top g f t e
    before_is t e = before_by t e (p.term_slot (form g f) t e) _ (opens t e) (into_is t e (p.temp_of (form g f) t e))
