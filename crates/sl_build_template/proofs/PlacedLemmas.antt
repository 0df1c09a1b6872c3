-- The template of a section comes to its operations.
use Rattle.std.proofs.Common.{◌≡◌, ℕ, ◌+◌, Bool, false, List, [], ◌∷◌, ◌++◌, append-nil, length, Option, Some, None, refl, sym, ap, ◌∙◌, arith, pos, negsuc}
use Rattle.std.specs.Prelude.{ℤ, if◌then◌else◌}
use Rattle.std.proofs.Math.Path.{fun_ext}
use Rattle.sl_faithful_code.specs.Bits.{bits_into, bits_put, is_below}
use Rattle.sl_faithful_code.specs.Operations as o
use Rattle.sl_faithful_code.specs.Operations.{Operation, amount, at_temp, in_space, range_of, temporary}
use Rattle.sl_faithful_code.specs.Statements as step
use Rattle.sl_faithful_code.specs.Statements.{memory_put, reference_set, relative, section_code, step_code, step_length, steps_code, target_of}
use Rattle.sl_faithful_code.specs.Terms as term
use Rattle.sl_faithful_code.specs.Terms.{code_before, number_leaf, operand, term_into, term_leaf, term_operand, terms_before, terms_operands}
use Rattle.sl_section_equations.specs.Equations.{bit_bytes, size_at}
use Rattle.sl_meaning_sections.specs.References.{Reference, Setting, local, memory, number, storage}
use Rattle.sl_meaning_sections.specs.Statements.{is_label}
use Rattle.sl_meaning_sections.specs.Values.{Frame, reference_at, symbol_size}
use Rattle.sl_pcode.specs.declared.code.Code.{Code}
use Rattle.sl_pcode.specs.declared.code.Code.TheVariants as code
use Rattle.sl_pcode.specs.declared.varnode.Varnode.{Varnode}
use Rattle.sl_section_flat.specs.Sections as s
use Rattle.sl_section_flat.specs.Sections.{Label, Step, Symbol, Term, Terms}
use Rattle.sl_section_flat.specs.Chains.{chain}
use Rattle.sl_build_template.specs.Pieces as p
use Rattle.sl_build_template.specs.Pieces.{Form, Part, Piece, part_of_step, parts_of_steps, slot_size}
use Rattle.sl_build_template.specs.Placed.{into, label_at, part_code, part_length, parts_code, pieces_code, placed, put_code, stored_code, tail_is, value, written}
use Rattle.sl_build_template.specs.Views.{IsTemplateOf}
use Rattle.sl_build_template.specs.declared.slot.Slot.{Slot}
use Rattle.sl_build_template.specs.declared.slot.Slot.TheVariants as slot
use Rattle.sl_build_template.proofs.TermLemmas.{IsSlotOf, Opens, all_before, before_is, form, into_is, joined, opens, value_is, values_are}

number_nothing : (z : ℤ) (c : List Operation) → [] ≡ code_before (number_leaf z (size_at 8)) c ++ []
unfolding size_at
number_nothing (pos v) c = refl
number_nothing (negsuc v) c = refl

module _ (top : ℕ) (g : Setting) (f : Frame) where
  abbrev all : List Piece → List Operation
  all ps = pieces_code top g f ps

  -- ---- values that are put where operands stand

  put_is : (r : Reference) (e : Term) (v : Slot) → IsSlotOf top g f 0 e v → put_code top g f r v ≡ reference_set top g f r e
  put_is (storage space offset size) e v h =
      ap (λ n. into top g f v (in_space space offset n)) h.size ∙ sym (h.puts (in_space space offset (term.size_of g f e)) refl)
  put_is (local node x size) e v h =
      ap (λ n. into top g f v (temporary (range_of node x) n)) h.size ∙ sym (h.puts (temporary (range_of node x) (term.size_of g f e)) refl)
  put_is (number z) e v h = sym h.reads
  put_is (memory space size pointer width) e v h =
      ap (λ c. c ++ memory_put top 1 space pointer width (value top g f v)) (sym h.reads)
      ∙ ap (λ w. term.term_before top g f 0 e ++ memory_put top 1 space pointer width w) (sym h.has)

  stored_is : (r : Reference) (e : Term) → term_leaf g f e ≡ None
      → term_into top g f 0 e (written top r (term.size_of g f e)) ++ stored_code top r (term.size_of g f e) ≡ reference_set top g f r e
  stored_is (storage space offset size) e h = append-nil _
  stored_is (local node x size) e h = append-nil _
  stored_is (number z) e h = append-nil _ ∙ ap (λ l. code_before l (term_into top g f 0 e (term.temp_of top g f 0 e))) (sym h)
  stored_is (memory space size pointer width) e h =
      ap (λ l. code_before l (term_into top g f 0 e (term.temp_of top g f 0 e)) ++ memory_put top 1 space pointer width (operand l (term.temp_of top g f 0 e))) (sym h)

  set_by_is : (i : ℕ) (e : Term) (w : Option Slot) → Opens top g f 0 e w
      → all (p.set_by i (term.size_of g f e) w (p.term_into (form g f) 0 e (slot.Written i (term.size_of g f e)))) ≡ reference_set top g f (reference_at f.refs i) e
  set_by_is i e None h =
      joined top g f (p.term_into (form g f) 0 e (slot.Written i (term.size_of g f e))) _ _ _
      (into_is top g f 0 e (slot.Written i (term.size_of g f e))) (append-nil (stored_code top (reference_at f.refs i) (term.size_of g f e)))
      ∙ stored_is (reference_at f.refs i) e h
  set_by_is i e (Some v) h = append-nil (put_code top g f (reference_at f.refs i) v) ∙ put_is (reference_at f.refs i) e v h

  operand_set_is : (i : ℕ) (e : Term) → all (p.operand_set (form g f) i e) ≡ reference_set top g f (reference_at f.refs i) e
  operand_set_is i e = set_by_is i e (p.term_slot (form g f) 0 e) (opens top g f 0 e)

  -- ---- assignments

  set_is : (a : Symbol) (e : Term) → all (p.set_pieces (form g f) a e) ≡ step.set_code top g f a e
  set_is (s.register space offset k) e = into_is top g f 0 e (slot.Fixed (in_space space offset (term.size_of g f e)))
  set_is (s.bit_range space offset k low count) e =
      joined top g f (p.term_before (form g f) 0 e) _ _ _ (before_is top g f 0 e)
      (append-nil (put_register (value top g f (p.term_value (form g f) 0 e))) ∙ ap put_register (value_is top g f 0 e))
    where
      put_register : Varnode → List Operation
      put_register v = bits_put top 1 (size_at k) (in_space space offset (size_at k)) v (is_below e count) low count (in_space space offset (size_at k))
  set_is (s.local x) e = into_is top g f 0 e (slot.Local x (term.size_of g f e))
  set_is (s.table i) e = operand_set_is i e
  set_is (s.attached i k) e = operand_set_is i e
  set_is (s.value i) e = operand_set_is i e
  set_is s.start e = before_is top g f 0 e
  set_is s.next e = before_is top g f 0 e
  set_is (s.integer v) e = before_is top g f 0 e

  -- bits of what a name stands for, read before
  abbrev bits_of : Symbol → (v : Varnode) → (below : Bool) → (low count : ℕ) → List Operation
  bits_of a v below low count =
      step.symbol_before top g f 1 a (symbol_size g f a) ++ step.symbol_bits top g f a (symbol_size g f a) (step.symbol_operand top g f 1 a (symbol_size g f a)) v below low count

  bits_are : (a : Symbol) (v : Slot) (below : Bool) (low count : ℕ) → all (p.symbol_bits (form g f) a v below low count) ≡ bits_of a (value top g f v) below low count
  bits_are (s.register space offset k) v below low count = append-nil _
  bits_are (s.bit_range space offset k low' count') v below low count =
      let n = size_at (bit_bytes count') in
      let whole = in_space space offset (size_at k) in
      let first = bits_into top 1 whole low' count' (at_temp top 1 n) in
      let second = bits_put top 2 n (at_temp top 1 n) (value top g f v) below low count (at_temp top 2 n) in
      let third = bits_put top 4 (size_at k) whole (at_temp top 2 n) false low' count' whole in
      ap (λ os. first ++ (second ++ os)) (append-nil third)
  bits_are (s.local x) v below low count = append-nil _
  bits_are (s.table i) v below low count = append-nil _
  bits_are (s.attached i k) v below low count = append-nil _
  bits_are (s.value i) v below low count = append-nil _
  bits_are s.start v below low count = number_nothing g.start _
  bits_are s.next v below low count = number_nothing g.next _
  bits_are (s.integer z) v below low count = refl

  set_bits_is : (a : Symbol) (low count : ℕ) (e : Term) → all (p.set_bits_pieces (form g f) a low count e) ≡ step.set_bits_code top g f a low count e
  set_bits_is a low count e =
      joined top g f (p.term_before (form g f) 0 e) _ _ _ (before_is top g f 0 e)
      (bits_are a (p.term_value (form g f) 0 e) (is_below e count) low count ∙ ap (λ v. bits_of a v (is_below e count) low count) (value_is top g f 0 e))

  store_is : (space : ℕ) (pointer e : Term) → all (p.store_pieces (form g f) space pointer e) ≡ step.store_code top g f space pointer e
  store_is space pointer e =
      joined top g f (p.term_before (form g f) 0 e) _ _ _ (before_is top g f 0 e)
      (joined top g f (p.term_before (form g f) 1 pointer) _ _ _ (before_is top g f 1 pointer)
      (ap (λ a. o.store_to space a (value top g f (p.term_value (form g f) 0 e)) ∷ []) (value_is top g f 1 pointer)
      ∙ ap (λ v. o.store_to space (term_operand top g f 1 pointer) v ∷ []) (value_is top g f 0 e)))

  user_is : (op : ℕ) (es : Terms) → all (p.user_pieces (form g f) 0 op es) ≡ terms_before top g f 0 es ++ o.call_user op (terms_operands top g f 0 es) ∷ []
  user_is op es =
      joined top g f (p.terms_before (form g f) 0 es) _ _ _ (all_before top g f 0 es) (ap (λ vs. o.call_user op vs ∷ []) (values_are top g f 0 es))

  exit_is : (kind : Code) (e : Term) → all (p.exit_pieces (form g f) kind e) ≡ step.exit_code top g f kind e
  exit_is kind e = joined top g f (p.term_before (form g f) 0 e) _ _ _ (before_is top g f 0 e) (ap (λ v. o.exit kind v ∷ []) (value_is top g f 0 e))

  target_is : (a : Symbol) → value top g f (p.target_slot (form g f) a) ≡ target_of top g f a
  target_is (s.register space offset k) = refl
  target_is (s.bit_range space offset k low count) = refl
  target_is (s.local x) = refl
  target_is (s.table i) = refl
  target_is (s.attached i k) = refl
  target_is (s.value i) = refl
  target_is s.start = refl
  target_is s.next = refl
  target_is (s.integer v) = refl

  leave_is : (kind : Code) (a : Symbol) → all (p.exit kind (p.target_slot (form g f) a) ∷ []) ≡ o.exit kind (target_of top g f a) ∷ []
  leave_is kind a = ap (λ v. o.exit kind v ∷ []) (target_is a)

  leave_if_is : (a : Symbol) (e : Term) → all (p.term_before (form g f) 0 e ++ p.exit_if (p.target_slot (form g f) a) (p.term_value (form g f) 0 e) ∷ [])
      ≡ term.term_before top g f 0 e ++ o.exit_if (target_of top g f a) (term_operand top g f 0 e) ∷ []
  leave_if_is a e =
      joined top g f (p.term_before (form g f) 0 e) _ _ _ (before_is top g f 0 e)
      (ap (λ v. o.exit_if v (value top g f (p.term_value (form g f) 0 e)) ∷ []) (target_is a) ∙ ap (λ v. o.exit_if (target_of top g f a) v ∷ []) (value_is top g f 0 e))

  -- ---- statements

  module _ (lists : List (List Operation)) where
    abbrev PartIs : Step → Type 0
    PartIs a = (label_place : Label → ℕ) (at : ℕ) → part_code top g f label_place lists at (part_of_step (form g f) a) ≡ step_code top g f label_place lists at a

    plain : (ps : List Piece) (c : List Operation) → all ps ≡ c → all ps ++ [] ≡ c
    plain ps c is = append-nil (all ps) ∙ is

    part_is : (a : Step) → PartIs a
    part_is (s.declare x n) label_place at = refl
    part_is (s.set a e) label_place at = plain (p.set_pieces (form g f) a e) _ (set_is a e)
    part_is (s.set_bits a low count e) label_place at = plain (p.set_bits_pieces (form g f) a low count e) _ (set_bits_is a low count e)
    part_is (s.store space n pointer x e) label_place at = plain (p.store_pieces (form g f) (p.space_in (form g f) space) pointer e) _ (store_is (p.space_in (form g f) space) pointer e)
    part_is (s.run_user op es) label_place at = plain (p.user_pieces (form g f) 0 op (chain es)) _ (user_is op (chain es))
    part_is (s.build i) label_place at = refl
    part_is (s.label l) label_place at = refl
    part_is (s.branch (s.to_label l)) label_place at =
        let here : at + 0 ≡ at = omega arith in
        ap (λ k. o.exit code.Branch (amount (relative k (label_place l))) ∷ []) here
    part_is (s.branch (s.to_place a)) label_place at = plain (p.exit code.Branch (p.target_slot (form g f) a) ∷ []) _ (leave_is code.Branch a)
    part_is (s.branch_if e (s.to_label l)) label_place at =
        ap (λ c. c ++ o.exit_if (amount (relative (at + length c) (label_place l))) (value top g f (p.term_value (form g f) 0 e)) ∷ []) (before_is top g f 0 e)
        ∙ ap (λ v. term.term_before top g f 0 e ++ o.exit_if (amount (relative (at + length (term.term_before top g f 0 e)) (label_place l))) v ∷ []) (value_is top g f 0 e)
    part_is (s.branch_if e (s.to_place a)) label_place at =
        plain (p.term_before (form g f) 0 e ++ p.exit_if (p.target_slot (form g f) a) (p.term_value (form g f) 0 e) ∷ []) _ (leave_if_is a e)
    part_is (s.branch_to e) label_place at = plain (p.exit_pieces (form g f) code.BranchInd e) _ (exit_is code.BranchInd e)
    part_is (s.call a) label_place at = plain (p.exit code.Call (p.target_slot (form g f) a) ∷ []) _ (leave_is code.Call a)
    part_is (s.call_to e) label_place at = plain (p.exit_pieces (form g f) code.CallInd e) _ (exit_is code.CallInd e)
    part_is (s.return e) label_place at = plain (p.exit_pieces (form g f) code.Return e) _ (exit_is code.Return e)
    part_is (s.export what) label_place at = refl

    length_is : (a : Step) → part_length top g f lists (part_of_step (form g f) a) ≡ step_length top g f lists a
    length_is a = ap length (part_is a (λ l. 0) 0)

    tail_label : (a : Step) (l : Label) → tail_is (part_of_step (form g f) a).tail l ≡ is_label a l
    tail_label (s.declare x n) l = refl
    tail_label (s.set a e) l = refl
    tail_label (s.set_bits a low count e) l = refl
    tail_label (s.store space n pointer x e) l = refl
    tail_label (s.run_user op es) l = refl
    tail_label (s.build i) l = refl
    tail_label (s.label k) l = refl
    tail_label (s.branch (s.to_label k)) l = refl
    tail_label (s.branch (s.to_place a)) l = refl
    tail_label (s.branch_if e (s.to_label k)) l = refl
    tail_label (s.branch_if e (s.to_place a)) l = refl
    tail_label (s.branch_to e) l = refl
    tail_label (s.call a) l = refl
    tail_label (s.call_to e) l = refl
    tail_label (s.return e) l = refl
    tail_label (s.export what) l = refl

    -- ---- sections

    parts_are : (label_place : Label → ℕ) (ss : List Step) (at : ℕ) → parts_code top g f lists label_place at (parts_of_steps (form g f) ss) ≡ steps_code top g f lists label_place at ss
    parts_are label_place [] at = refl
    parts_are label_place (a ∷ ss) at =
        ap (λ c. c ++ parts_code top g f lists label_place (at + part_length top g f lists (part_of_step (form g f) a)) (parts_of_steps (form g f) ss)) (part_is a label_place at)
        ∙ ap (λ n. step_code top g f label_place lists at a ++ parts_code top g f lists label_place (at + n) (parts_of_steps (form g f) ss)) (length_is a)
        ∙ ap (λ c. step_code top g f label_place lists at a ++ c) (parts_are label_place ss (at + step_length top g f lists a))

    labels_are : (l : Label) (ss : List Step) (at : ℕ) → label_at top g f lists l at (parts_of_steps (form g f) ss) ≡ step.label_at top g f lists l at ss
    labels_are l [] at = refl
    labels_are l (a ∷ ss) at =
        ap (λ (b : Bool). if b then at else label_at top g f lists l (at + part_length top g f lists (part_of_step (form g f) a)) (parts_of_steps (form g f) ss)) (tail_label a l)
        ∙ ap (λ (n : ℕ). if is_label a l then at else label_at top g f lists l (at + n) (parts_of_steps (form g f) ss)) (length_is a)
        ∙ ap (λ (n : ℕ). if is_label a l then at else n) (labels_are l ss (at + step_length top g f lists a))

    pub placed_is_code : (ss : List Step) → placed top g f lists (parts_of_steps (form g f) ss) ≡ section_code top g f lists ss
    placed_is_code ss =
        ap (λ (places : Label → ℕ). parts_code top g f lists places 0 (parts_of_steps (form g f) ss)) (fun_ext (λ l. labels_are l ss 0))
        ∙ parts_are (λ l. step.label_at top g f lists l 0 ss) ss 0

-- the template of a section at each node that has its sizes
pub is_template : (h : Form) (ss : List Step) → IsTemplateOf h ss (parts_of_steps h ss)
is_template h ss top g f lists sizes default size =
    let same : h ≡ form g f = λ i. record { sizes = sym sizes i; default = sym default i; size = sym size i } in
    ap (λ (k : Form). placed top g f lists (parts_of_steps k ss)) same ∙ placed_is_code top g f lists ss
