-- The list of an instruction has at most 4,096 operations for each part of its sections.
use Rattle.std.proofs.Common.{◌≡◌, ℕ, zero, suc, ◌+◌, ◌*◌, ◌≤◌, List, [], ◌∷◌, ◌++◌, length, Option, Some, None, refl, ap, arith, length-append, pos}
use Rattle.std.specs.Prelude.{Bool, true, false, ◌%◌, ◌^◌, ◌==◌, ◌&&◌, if◌then◌else◌, nat_le, nat_lt, slice_get, unwrap_or}
use Rattle.sl_faithful_code.specs.Bits as bits
use Rattle.sl_faithful_code.specs.Bits.{bits_into, bits_put, clear, cleared, bits_by_mask, bits_by_shifts, clear_above, has_mask, has_more, is_below, join, lower, mask, number_at, number_put, ones, others, put_by_mask, put_by_shifts, raise, raised, shorten, shortened, taken, value_put, widen, widened}
use Rattle.sl_faithful_code.specs.Nodes.{children_code, node_code}
use Rattle.sl_faithful_code.specs.Operations.{Operation, amount, at_temp, binary, call_user, constant, exit, exit_if, in_space, load_from, range_of, store_to, temporary, unary}
use Rattle.sl_faithful_code.specs.Statements.{direct, label_at, memory_put, reference_bits, reference_set, set_bits_code, set_code, step_code, step_length, steps_code, store_code, symbol_before, symbol_bits, symbol_operand}
use Rattle.sl_faithful_code.specs.Terms.{code_before, copied, name_leaf, number_leaf, operand, read_into, read_leaf, size_of, symbol_into, symbol_leaf, temp_of, term_before, term_into, term_leaf, term_operand, terms_before, terms_operands, two_operands, view}
use Rattle.sl_section_equations.specs.Equations.{size_at}
use Rattle.sl_meaning_sections.specs.Nodes.{Node, Operands, child, cut_to, export_reference, exported, frame_of, given, no_operands, node, reference_of, references_of, term_reference}
use Rattle.sl_meaning_sections.specs.References.{Reference, Setting, local, memory, number, storage}
use Rattle.sl_meaning_sections.specs.Values.{Frame, meant, reference_at, space_of, symbol_size}
use Rattle.sl_pcode.specs.declared.code.Code.TheVariants as code
use Rattle.sl_pcode.specs.declared.varnode.Varnode.{Varnode}
use Rattle.sl_section_flat.specs.Sections as s
use Rattle.sl_section_flat.specs.Sections.{Export, Label, Step, Symbol, Term, Terms}
use Rattle.sl_section_flat.specs.Chains.{chain}
use Rattle.sl_faithful_formed.specs.Lengths.{AreDistinct, AreTrees, IsNone, IsPlain, IsTree, ListsAreShort, built, node_count, node_parts, operands_count, operands_parts, step_built, step_parts, steps_parts, term_parts, terms_parts}
use Rattle.sl_word.specs.declared.operation.Op1.TheVariants as one
use Rattle.sl_word.specs.declared.operation.Op2.TheVariants as two
use Rattle.sl_word.specs.declared.word.Size.{Size}

-- ---- pointers

-- how many pointers are read on the way to what is there
abbrev pub pointers : Reference → ℕ
pointers (storage space offset size) = 0
pointers (local k x size) = 0
pointers (number v) = 0
pointers (memory space size pointer width) = pointers pointer + 1

plain_pointers : (r : Reference) → IsPlain r → pointers r ≡ 0
plain_pointers (storage space offset size) h = refl
plain_pointers (local k x size) h = refl
plain_pointers (number v) h = refl
plain_pointers (memory space size pointer width) h = absurd h

cut_pointers : (n : ℕ) (r : Reference) → pointers (cut_to n r) ≡ pointers r
cut_pointers n (storage space offset size) = refl
cut_pointers n (local k x size) = refl
cut_pointers n (number v) = refl
cut_pointers n (memory space size pointer width) = refl

module _ (g : Setting) (f : Frame) (most : ℕ) (refs : (i : ℕ) → pointers (reference_at f.refs i) ≤ most) where
  meant_pointers : (a : Symbol) → pointers (meant g f a) ≤ most
  meant_pointers (s.register space offset n) = omega arith
  meant_pointers (s.bit_range space offset n low count) = omega arith
  meant_pointers (s.local x) = omega arith
  meant_pointers (s.table i) = refs i
  meant_pointers (s.attached i n) = refs i
  meant_pointers (s.value i) = refs i
  meant_pointers s.start = omega arith
  meant_pointers s.next = omega arith
  meant_pointers (s.integer v) = omega arith

  term_pointers : (e : Term) → pointers (term_reference g f e) ≤ most
  term_pointers (s.number v x) = omega arith
  term_pointers (s.name a x) = meant_pointers a
  term_pointers (s.sized v n x) = omega arith
  term_pointers (s.paren e x) = omega arith
  term_pointers (s.kept e n x) = omega arith
  term_pointers (s.dropped e n x) = omega arith
  term_pointers (s.bits e low count x) = omega arith
  term_pointers (s.load space n e x) = omega arith
  term_pointers (s.one op e x) = omega arith
  term_pointers (s.two op order a b x) = omega arith
  term_pointers (s.user op es x) = omega arith

  export_pointers : (what : Export) → pointers (export_reference g f what) ≤ most + 1
  export_pointers (s.exports a x) = let h = meant_pointers a in omega arith
  export_pointers (s.exports_constant n e x) = let h = term_pointers e in let same = cut_pointers n (term_reference g f e) in omega arith
  export_pointers (s.exports_memory space n e x) = let h = term_pointers e in omega arith

  exported_pointers : (ss : List Step) → pointers (exported g f ss) ≤ most + 1
  exported_pointers [] = omega arith
  exported_pointers (s.export what ∷ ss) = export_pointers what
  exported_pointers (s.declare x n ∷ ss) = exported_pointers ss
  exported_pointers (s.set a e ∷ ss) = exported_pointers ss
  exported_pointers (s.set_bits a low count e ∷ ss) = exported_pointers ss
  exported_pointers (s.store space n pointer x e ∷ ss) = exported_pointers ss
  exported_pointers (s.run_user op es ∷ ss) = exported_pointers ss
  exported_pointers (s.build i ∷ ss) = exported_pointers ss
  exported_pointers (s.label l ∷ ss) = exported_pointers ss
  exported_pointers (s.branch to ∷ ss) = exported_pointers ss
  exported_pointers (s.branch_if e to ∷ ss) = exported_pointers ss
  exported_pointers (s.branch_to e ∷ ss) = exported_pointers ss
  exported_pointers (s.call a ∷ ss) = exported_pointers ss
  exported_pointers (s.call_to e ∷ ss) = exported_pointers ss
  exported_pointers (s.return e ∷ ss) = exported_pointers ss

module _ (g : Setting) where
  mutual
    reference_pointers : (n : Node) → IsTree n → pointers (reference_of g n) ≤ node_count n
    reference_pointers (node k sec os) tree =
        exported_pointers g (frame_of k sec (references_of g os)) (operands_count os) (λ i. references_pointers os tree.1 i) sec.steps

    references_pointers : (os : Operands) → AreTrees os → (i : ℕ) → pointers (reference_at (references_of g os) i) ≤ operands_count os
    references_pointers no_operands trees i = omega arith
    references_pointers (given r os) trees zero = let plain = plain_pointers r trees.0 in omega arith
    references_pointers (given r os) trees (suc i) = references_pointers os trees.1 i
    references_pointers (child n os) trees zero = let h = reference_pointers n trees.0 in omega arith
    references_pointers (child n os) trees (suc i) = let h = references_pointers os trees.1 i in omega arith

before_length : (leaf : Option Varnode) (os : List Operation) → length (code_before leaf os) ≤ length os
before_length None os = omega arith
before_length (Some v) os = omega arith

copied_length : (leaf : Option Varnode) (out : Varnode) (o : Operation) → length (copied leaf out (o ∷ [])) ≤ 1
copied_length None out o = omega arith
copied_length (Some v) out o = omega arith

copied_most : (leaf : Option Varnode) (out : Varnode) (os : List Operation) (most : ℕ) → 1 ≤ most → length os ≤ most → length (copied leaf out os) ≤ most
copied_most None out os most some le = le
copied_most (Some v) out os most some le = omega (arith, some)

-- ---- bits

chosen_length : (c : Bool) (a b : List Operation) (n : ℕ) → length a ≤ n → length b ≤ n → length (if c then a else b) ≤ n
chosen_length true a b n h k = h
chosen_length false a b n h k = k

taken_length : (c : Bool) (o : Operation) → length (taken c o) ≤ 1
taken_length true o = omega arith
taken_length false o = omega arith

module _ (top : ℕ) where
  bits_length : (t : ℕ) (from : Varnode) (low count : ℕ) (out : Varnode) → length (bits_into top t from low count out) ≤ 3
  unfolding bits_into
  bits_length t from low count out =
      let down = taken_length (nat_lt 0 low) (binary two.IntRight (at_temp top t from.size) from (amount low)) in
      let a = bits.lowered top t from low in
      let cut = taken_length (nat_lt out.size.bytes a.size.bytes) (binary two.Subpiece (at_temp top t out.size) a (amount 0)) in
      let clears = clear_above top t a count out in
      let drops = binary two.Subpiece out a (amount 0) ∷ [] in
      let all = length-append (lower top t from low) clears in
      let most = length-append (shorten top t a out.size) (binary two.IntAnd out (shortened top t a out.size) (constant (ones count) out.size) ∷ []) in
      let some = length-append (lower top t from low) drops in
      chosen_length (has_mask from.size low count && nat_le out.size.bytes from.size.bytes) (bits_by_mask top t from low count out) (bits_by_shifts top t from low count out) 3
      (chosen_length (nat_lt (low + count) (8 * from.size.bytes) && nat_lt count (8 * out.size.bytes)) (lower top t from low ++ clears) _ 3 (omega (arith, down, cut, all, most))
      (chosen_length (nat_lt out.size.bytes from.size.bytes) (lower top t from low ++ drops) (binary two.IntRight out from (amount low) ∷ []) 3 (omega (arith, down, some)) (omega arith)))
      (omega arith)

  number_put_length : (t : ℕ) (n : Size) (old : Varnode) (low count k : ℕ) (out : Varnode) → length (number_put top t n old low count k out) ≤ 8
  number_put_length t n old low count k out =
      chosen_length (k == 0) (binary two.IntAnd out old (others n low count) ∷ []) _ 8 (omega arith)
      (chosen_length (k == mask low count) (binary two.IntOr out old (constant k n) ∷ []) (join top t n old (constant k n) low count out) 8 (omega arith) (omega arith))

  value_put_length : (t : ℕ) (n : Size) (old v : Varnode) (below : Bool) (low count : ℕ) (out : Varnode) → length (value_put top t n old v below low count out) ≤ 8
  value_put_length t n old v below low count out =
      let more = has_more n v below low count in
      let a = widened top t n v in
      let b = cleared top more t n a in
      let last = join top t n old (raised top t n b low) low count out in
      let first = taken_length (nat_lt v.size.bytes n.bytes) (unary one.IntZext (at_temp top t n) v) in
      let second = taken_length more (binary two.IntAnd (at_temp top t n) a (constant (ones count) n)) in
      let third = taken_length (nat_lt 0 low) (binary two.IntLeft (at_temp top t n) b (amount low)) in
      let all = length-append (widen top t n v) (clear top more t n a count ++ (raise top t n b low ++ last)) in
      let most = length-append (clear top more t n a count) (raise top t n b low ++ last) in
      let some = length-append (raise top t n b low) last in
      omega (arith, first, second, third, all, most, some)

  masked_length : (k : Option ℕ) (t : ℕ) (n : Size) (old v : Varnode) (below : Bool) (low count : ℕ) (out : Varnode) → length (put_by_mask top k t n old v below low count out) ≤ 8
  masked_length (Some k) t n old v below low count out = number_put_length t n old low count (k % 2 ^ count * 2 ^ low) out
  masked_length None t n old v below low count out = value_put_length t n old v below low count out

  bits_put_length : (t : ℕ) (n : Size) (old v : Varnode) (below : Bool) (low count : ℕ) (out : Varnode) → length (bits_put top t n old v below low count out) ≤ 8
  unfolding bits_put
  bits_put_length t n old v below low count out =
      chosen_length (has_mask n low count) (put_by_mask top (number_at v.place v.offset) t n old v below low count out) (put_by_shifts top t n old v low count out) 8
      (masked_length (number_at v.place v.offset) t n old v below low count out) (omega arith)

  -- ---- expressions

  reference_length : (r : Reference) (t : ℕ) (out : Varnode) → length (read_into top t r out) ≤ pointers r + 1
  reference_length (storage space offset size) t out = omega arith
  reference_length (local k x size) t out = omega arith
  reference_length (number v) t out = copied_length (number_leaf v out.size) out _
  reference_length (memory space size pointer width) t out =
      let inner = read_into top t pointer (at_temp top t width) in
      let before = code_before (read_leaf pointer width) inner in
      let o = load_from out space (operand (read_leaf pointer width) (at_temp top t width)) in
      let h = reference_length pointer t (at_temp top t width) in
      let h' = before_length (read_leaf pointer width) inner in
      let len : length (before ++ o ∷ []) ≡ length before + 1 = length-append before (o ∷ []) in
      omega (arith, h, h', len)

  memory_put_length : (t space : ℕ) (pointer : Reference) (width : Size) (v : Varnode) → length (memory_put top t space pointer width v) ≤ pointers pointer + 2
  memory_put_length t space pointer width v =
      let inner = read_into top t pointer (at_temp top t width) in
      let before = code_before (read_leaf pointer width) inner in
      let o = store_to space (operand (read_leaf pointer width) (at_temp top t width)) v in
      let h = reference_length pointer t (at_temp top t width) in
      let h' = before_length (read_leaf pointer width) inner in
      let len : length (before ++ o ∷ []) ≡ length before + 1 = length-append before (o ∷ []) in
      omega (arith, h, h', len)

  reference_bits_length : (r : Reference) (n : Size) (old v : Varnode) (below : Bool) (low count : ℕ) → length (reference_bits top r n old v below low count) ≤ pointers r + 9
  reference_bits_length (storage space offset size) n old v below low count = let h = bits_put_length 2 n old v below low count (in_space space offset n) in omega (arith, h)
  reference_bits_length (local k x size) n old v below low count = let h = bits_put_length 2 n old v below low count (temporary (range_of k x) n) in omega (arith, h)
  reference_bits_length (number z) n old v below low count = omega arith
  reference_bits_length (memory space size pointer width) n old v below low count =
      let put = bits_put top 2 n old v below low count (at_temp top 2 n) in
      let rest = memory_put top 4 space pointer width (at_temp top 2 n) in
      let h = memory_put_length 4 space pointer width (at_temp top 2 n) in
      let k = bits_put_length 2 n old v below low count (at_temp top 2 n) in
      let len = length-append put rest in
      omega (arith, h, k, len)

  module _ (g : Setting) (f : Frame) (refs : (i : ℕ) → pointers (reference_at f.refs i) ≤ 1024) where
    symbol_length : (a : Symbol) (t : ℕ) (out : Varnode) → length (symbol_into top g f t a out) ≤ 1025
    symbol_length (s.bit_range space offset k low count) t out = let h = bits_length t (in_space space offset (size_at k)) low count out in omega (arith, h)
    symbol_length (s.register space offset k) t out = omega arith
    symbol_length (s.local x) t out = omega arith
    symbol_length (s.table i) t out = let h = reference_length (reference_at f.refs i) t out in let few = refs i in omega (arith, h, few)
    symbol_length (s.attached i k) t out = let h = reference_length (reference_at f.refs i) t out in let few = refs i in omega (arith, h, few)
    symbol_length (s.value i) t out = let h = reference_length (reference_at f.refs i) t out in let few = refs i in omega (arith, h, few)
    symbol_length s.start t out = let h = reference_length (number g.start) t out in omega (arith, h)
    symbol_length s.next t out = let h = reference_length (number g.next) t out in omega (arith, h)
    symbol_length (s.integer v) t out = omega arith

    -- the operations before a value is read are no more than those that put it somewhere
    before : (e : Term) (t : ℕ) → length (term_before top g f t e) ≤ length (term_into top g f t e (temp_of top g f t e))
    before e t = before_length (term_leaf g f e) (term_into top g f t e (temp_of top g f t e))

    mutual
      term_length : (e : Term) (t : ℕ) (out : Varnode) → length (term_into top g f t e out) ≤ 4096 * term_parts e
      term_length (s.number v x) t out = omega arith
      term_length (s.sized v k x) t out = omega arith
      term_length (s.name a x) t out = let h = symbol_length a t out in omega (arith, h)
      term_length (s.paren e x) t out = let h = term_length e t out in omega (arith, h)
      term_length (s.kept e k x) t out =
          let h = term_length e t (temp_of top g f t e) in let h' = before e t in
          let code = term_before top g f t e ++ binary two.Subpiece out (term_operand top g f t e) (amount 0) ∷ [] in
          let len = length-append (term_before top g f t e) (binary two.Subpiece out (term_operand top g f t e) (amount 0) ∷ []) in
          copied_most (view g (name_leaf g f e) (f.size x)) out code (4096 * (term_parts e + 1)) (omega arith) (omega (arith, h, h', len))
      term_length (s.dropped e k x) t out =
          let h = term_length e t (temp_of top g f t e) in let h' = before e t in
          let len = length-append (term_before top g f t e) (binary two.Subpiece out (term_operand top g f t e) (amount k) ∷ []) in
          omega (arith, h, h', len)
      term_length (s.bits e low count x) t out =
          let h = term_length e t (temp_of top g f t e) in let h' = before e t in
          let k = bits_length t (term_operand top g f t e) low count out in
          let len = length-append (term_before top g f t e) (bits_into top t (term_operand top g f t e) low count out) in
          omega (arith, h, h', k, len)
      term_length (s.load space k e x) t out =
          let h = term_length e t (temp_of top g f t e) in let h' = before e t in
          let len = length-append (term_before top g f t e) (load_from out (space_of g space) (term_operand top g f t e) ∷ []) in
          omega (arith, h, h', len)
      term_length (s.one op e x) t out =
          let h = term_length e t (temp_of top g f t e) in let h' = before e t in
          let len = length-append (term_before top g f t e) (unary op out (term_operand top g f t e) ∷ []) in
          omega (arith, h, h', len)
      term_length (s.two op order a b x) t out =
          let last = two_operands op order out (term_operand top g f t a) (term_operand top g f (t + 1) b) ∷ [] in
          let h = term_length a t (temp_of top g f t a) in let h' = before a t in
          let k = term_length b (t + 1) (temp_of top g f (t + 1) b) in let k' = before b (t + 1) in
          let len = length-append (term_before top g f t a) (term_before top g f (t + 1) b ++ last) in
          let len' = length-append (term_before top g f (t + 1) b) last in
          omega (arith, h, h', k, k', len, len')
      term_length (s.user op es x) t out =
          let h = terms_length es t in
          let len = length-append (terms_before top g f t es) (call_user op (terms_operands top g f t es) ∷ []) in
          omega (arith, h, len)

      terms_length : (es : Terms) (t : ℕ) → length (terms_before top g f t es) ≤ 4096 * terms_parts es
      terms_length s.no_terms t = omega arith
      terms_length (s.then_term e es) t =
          let h = term_length e t (temp_of top g f t e) in let h' = before e t in
          let k = terms_length es (t + 1) in
          let len = length-append (term_before top g f t e) (terms_before top g f (t + 1) es) in
          omega (arith, h, h', k, len)

    term_before_length : (e : Term) (t : ℕ) → length (term_before top g f t e) ≤ 4096 * term_parts e
    term_before_length e t = let h = term_length e t (temp_of top g f t e) in let h' = before e t in omega (arith, h, h')

    -- ---- statements

    reference_set_length : (r : Reference) (e : Term) → pointers r ≤ 1024 → length (reference_set top g f r e) ≤ 4096 * term_parts e + 1026
    reference_set_length (storage space offset size) e few = let h = term_length e 0 (in_space space offset (size_of g f e)) in omega (arith, h)
    reference_set_length (local k x size) e few = let h = term_length e 0 (temporary (range_of k x) (size_of g f e)) in omega (arith, h)
    reference_set_length (number z) e few = let h = term_before_length e 0 in omega (arith, h)
    reference_set_length (memory space size pointer width) e few =
        let v = term_operand top g f 0 e in
        let h = term_before_length e 0 in
        let k = memory_put_length 1 space pointer width v in
        let len = length-append (term_before top g f 0 e) (memory_put top 1 space pointer width v) in
        omega (arith, h, k, len, few)

    set_length : (a : Symbol) (e : Term) → length (set_code top g f a e) ≤ 4096 * term_parts e + 1026
    set_length (s.bit_range space offset k low count) e =
        let h = term_before_length e 0 in
        let whole = in_space space offset (size_at k) in
        let put = bits_put top 1 (size_at k) whole (term_operand top g f 0 e) (is_below e count) low count whole in
        let most = bits_put_length 1 (size_at k) whole (term_operand top g f 0 e) (is_below e count) low count whole in
        let len = length-append (term_before top g f 0 e) put in
        omega (arith, h, most, len)
    set_length (s.register space offset n) e = reference_set_length (storage space offset (size_at n)) e (omega arith)
    set_length (s.local x) e = reference_set_length (local f.node x (f.size x)) e (omega arith)
    set_length (s.table i) e = reference_set_length (reference_at f.refs i) e (refs i)
    set_length (s.attached i n) e = reference_set_length (reference_at f.refs i) e (refs i)
    set_length (s.value i) e = reference_set_length (reference_at f.refs i) e (refs i)
    set_length s.start e = reference_set_length (number g.start) e (omega arith)
    set_length s.next e = reference_set_length (number g.next) e (omega arith)
    set_length (s.integer v) e = reference_set_length (number (pos v)) e (omega arith)

    symbol_bits_length : (a : Symbol) (n : Size) (old v : Varnode) (below : Bool) (low count : ℕ) → length (symbol_bits top g f a n old v below low count) ≤ 1033
    symbol_bits_length (s.bit_range space offset k low' count') n old v below low count =
        let whole = in_space space offset (size_at k) in
        let inner = bits_put top 2 n old v below low count (at_temp top 2 n) in
        let outer = bits_put top 4 (size_at k) whole (at_temp top 2 n) false low' count' whole in
        let h = bits_put_length 2 n old v below low count (at_temp top 2 n) in
        let h' = bits_put_length 4 (size_at k) whole (at_temp top 2 n) false low' count' whole in
        let len = length-append inner outer in
        omega (arith, h, h', len)
    symbol_bits_length (s.register space offset k) n old v below low count = let h = bits_put_length 2 n old v below low count (in_space space offset n) in omega (arith, h)
    symbol_bits_length (s.local x) n old v below low count = let h = bits_put_length 2 n old v below low count (temporary (range_of f.node x) n) in omega (arith, h)
    symbol_bits_length (s.table i) n old v below low count = let h = reference_bits_length (reference_at f.refs i) n old v below low count in let few = refs i in omega (arith, h, few)
    symbol_bits_length (s.attached i k) n old v below low count = let h = reference_bits_length (reference_at f.refs i) n old v below low count in let few = refs i in omega (arith, h, few)
    symbol_bits_length (s.value i) n old v below low count = let h = reference_bits_length (reference_at f.refs i) n old v below low count in let few = refs i in omega (arith, h, few)
    symbol_bits_length s.start n old v below low count = omega arith
    symbol_bits_length s.next n old v below low count = omega arith
    symbol_bits_length (s.integer k) n old v below low count = omega arith

    set_bits_length : (a : Symbol) (low count : ℕ) (e : Term) → length (set_bits_code top g f a low count e) ≤ 4096 * term_parts e + 2058
    set_bits_length a low count e =
        let n = symbol_size g f a in
        let first = term_before top g f 0 e in
        let second = symbol_before top g f 1 a n in
        let rest = symbol_bits top g f a n (symbol_operand top g f 1 a n) (term_operand top g f 0 e) (is_below e count) low count in
        let h = term_before_length e 0 in
        let k = symbol_length a 1 (at_temp top 1 n) in
        let k' = before_length (symbol_leaf g f a n) (symbol_into top g f 1 a (at_temp top 1 n)) in
        let l = symbol_bits_length a n (symbol_operand top g f 1 a n) (term_operand top g f 0 e) (is_below e count) low count in
        let len = length-append first (second ++ rest) in
        let len' = length-append second rest in
        omega (arith, h, k, k', l, len, len')

    store_length : (space : ℕ) (pointer e : Term) → length (store_code top g f space pointer e) ≤ 4096 * (term_parts pointer + term_parts e) + 1
    store_length space pointer e =
        let o = store_to space (term_operand top g f 1 pointer) (term_operand top g f 0 e) in
        let h = term_before_length e 0 in
        let k = term_before_length pointer 1 in
        let len = length-append (term_before top g f 0 e) (term_before top g f 1 pointer ++ o ∷ []) in
        let len' = length-append (term_before top g f 1 pointer) (o ∷ []) in
        omega (arith, h, k, len, len')

    last_length : (e : Term) (o : Operation) → length (term_before top g f 0 e ++ o ∷ []) ≤ 4096 * term_parts e + 1
    last_length e o = let h = term_before_length e 0 in let len = length-append (term_before top g f 0 e) (o ∷ []) in omega (arith, h, len)

    user_length : (op : ℕ) (es : Terms) → length (terms_before top g f 0 es ++ call_user op (terms_operands top g f 0 es) ∷ []) ≤ 4096 * terms_parts es + 1
    user_length op es =
        let h = terms_length es 0 in
        let len = length-append (terms_before top g f 0 es) (call_user op (terms_operands top g f 0 es) ∷ []) in
        omega (arith, h, len)

-- ---- lists that are placed once at most

abbrev placed_length : List (List Operation) → List ℕ → ℕ
placed_length lists [] = 0
placed_length lists (i ∷ is) = length (unwrap_or (slice_get lists i) []) + placed_length lists is

abbrev whole_length : List (List Operation) → ℕ
whole_length [] = 0
whole_length (l ∷ lists) = length l + whole_length lists

-- the numbers above 0, each one less
abbrev lowered : List ℕ → List ℕ
lowered [] = []
lowered (zero ∷ is) = lowered is
lowered (suc i ∷ is) = i ∷ lowered is

lowered_none : (i : ℕ) (is : List ℕ) → IsNone (suc i) is → IsNone i (lowered is)
lowered_none i [] h = tt
lowered_none i (zero ∷ is) h = lowered_none i is h.1
lowered_none i (suc j ∷ is) h = ((λ e. h.0 (ap suc e)), lowered_none i is h.1)

lowered_distinct : (is : List ℕ) → AreDistinct is → AreDistinct (lowered is)
lowered_distinct [] h = tt
lowered_distinct (zero ∷ is) h = lowered_distinct is h.1
lowered_distinct (suc i ∷ is) h = (lowered_none i is h.0, lowered_distinct is h.1)

without_first : (l : List Operation) (lists : List (List Operation)) (is : List ℕ) → IsNone 0 is → placed_length (l ∷ lists) is ≡ placed_length lists (lowered is)
without_first l lists [] h = refl
without_first l lists (zero ∷ is) h = absurd (h.0 refl)
without_first l lists (suc i ∷ is) h = ap (λ n. length (unwrap_or (slice_get lists i) []) + n) (without_first l lists is h.1)

with_first : (l : List Operation) (lists : List (List Operation)) (is : List ℕ) → AreDistinct is → placed_length (l ∷ lists) is ≤ length l + placed_length lists (lowered is)
with_first l lists [] h = omega arith
with_first l lists (zero ∷ is) h = let e = without_first l lists is h.0 in omega (arith, e)
with_first l lists (suc i ∷ is) h = let le = with_first l lists is h.1 in omega (arith, le)

nothing_placed : (is : List ℕ) → placed_length [] is ≡ 0
nothing_placed [] = refl
nothing_placed (i ∷ is) = let e = nothing_placed is in omega (arith, e)

placed_once : (lists : List (List Operation)) (is : List ℕ) → AreDistinct is → placed_length lists is ≤ whole_length lists
placed_once [] is h = let e = nothing_placed is in omega (arith, e)
placed_once (l ∷ lists) is h =
    let first = with_first l lists is h in
    let rest = placed_once lists (lowered is) (lowered_distinct is h) in
    omega (arith, first, rest)

placed_append : (lists : List (List Operation)) (is js : List ℕ) → placed_length lists (is ++ js) ≡ placed_length lists is + placed_length lists js
placed_append lists [] js = omega arith
placed_append lists (i ∷ is) js = let e = placed_append lists is js in omega (arith, e)

-- ---- sections

module _ (top : ℕ) (g : Setting) (f : Frame) (refs : (i : ℕ) → pointers (reference_at f.refs i) ≤ 1024) (lists : List (List Operation)) (label_place : Label → ℕ) where
  step_length_most : (a : Step) (p : ℕ) → length (step_code top g f label_place lists p a) ≤ 4096 * step_parts a + placed_length lists (step_built a)
  step_length_most (s.declare x n) p = omega arith
  step_length_most (s.set a e) p = let h = set_length top g f refs a e in omega (arith, h)
  step_length_most (s.set_bits a low count e) p = let h = set_bits_length top g f refs a low count e in omega (arith, h)
  step_length_most (s.store space n pointer x e) p = let h = store_length top g f refs (space_of g space) pointer e in omega (arith, h)
  step_length_most (s.run_user op es) p = let h = user_length top g f refs op (chain es) in omega (arith, h)
  step_length_most (s.build i) p = omega arith
  step_length_most (s.label l) p = omega arith
  step_length_most (s.branch to) p = omega arith
  step_length_most (s.branch_if e to) p =
      let h = last_length top g f refs e (exit_if (direct top g f label_place (p + length (term_before top g f 0 e)) to) (term_operand top g f 0 e)) in omega (arith, h)
  step_length_most (s.branch_to e) p = let h = last_length top g f refs e (exit code.BranchInd (term_operand top g f 0 e)) in omega (arith, h)
  step_length_most (s.call a) p = omega arith
  step_length_most (s.call_to e) p = let h = last_length top g f refs e (exit code.CallInd (term_operand top g f 0 e)) in omega (arith, h)
  step_length_most (s.return e) p = let h = last_length top g f refs e (exit code.Return (term_operand top g f 0 e)) in omega (arith, h)
  step_length_most (s.export what) p = omega arith

  steps_length_most : (ss : List Step) (p : ℕ) → length (steps_code top g f lists label_place p ss) ≤ 4096 * steps_parts ss + placed_length lists (built ss)
  steps_length_most [] p = omega arith
  steps_length_most (a ∷ ss) p =
      let q = p + step_length top g f lists a in
      let first = step_code top g f label_place lists p a in
      let rest = steps_code top g f lists label_place q ss in
      let h = step_length_most a p in
      let k = steps_length_most ss q in
      let len = length-append first rest in
      let e = placed_append lists (step_built a) (built ss) in
      omega (arith, h, k, len, e)

module _ (top : ℕ) (g : Setting) where
  mutual
    node_length : (n : Node) → IsTree n → node_count n ≤ 1024 → length (node_code top g n) ≤ 4096 * node_parts n
    node_length (node k sec os) tree few =
        let f = frame_of k sec (references_of g os) in
        let lists = children_code top g os in
        let refs : (i : ℕ) → pointers (reference_at f.refs i) ≤ 1024 = λ i. let h = references_pointers g os tree.1 i in omega (arith, h, few) in
        let own = steps_length_most top g f refs lists (λ l. label_at top g f lists l 0 sec.steps) sec.steps 0 in
        let once = placed_once lists (built sec.steps) tree.0 in
        let below = operands_length os tree.1 (omega arith) in
        omega (arith, own, once, below)

    operands_length : (os : Operands) → AreTrees os → operands_count os ≤ 1024 → whole_length (children_code top g os) ≤ 4096 * operands_parts os
    operands_length no_operands trees few = omega arith
    operands_length (given r os) trees few = let h = operands_length os trees.1 few in omega (arith, h)
    operands_length (child n os) trees few =
        let h = node_length n trees.0 (omega arith) in
        let k = operands_length os trees.1 (omega arith) in
        omega (arith, h, k)

pub lists_are_short : ListsAreShort
lists_are_short top g root tree few parts = let h = node_length top g root tree few in omega (arith, h, parts)
