-- The operations of statements are well formed, and their jumps stay inside the list.
use Rattle.std.proofs.Common.{◌≡◌, ℕ, ◌+◌, ◌-◌, ◌*◌, ◌%◌, ◌^◌, ◌<◌, ◌≤◌, Bool, true, false, List, [], ◌∷◌, ◌++◌, length, refl, sym, ap, ◌∙◌, subst, arith, length-append, inl, inr, pos}
use Rattle.std.specs.Prelude.{◌==◌, Option, Some, None, if◌then◌else◌, nat_lt, slice_index}
use Rattle.std.proofs.lemmas.Bool.Decides.{nat_tests}
use Rattle.std.proofs.lemmas.Bool.{cases_lt}
use Rattle.std.proofs.lemmas.Nat.{mod_below}
use Rattle.std.proofs.Math.Nat.{mod-eq_of_lt}
use Rattle.sl_faithful_code.specs.Bits.{bits_put, clear, cleared, has_mask, has_more, is_below, join, mask, number_at, number_put, ones, others, put_by_mask, put_by_shifts, raise, raised, value_put, widen, widened}
use Rattle.sl_faithful_code.specs.Fits.{ReferenceFits, StepFits, StepsFit, SymbolFits, TermFits}
use Rattle.sl_faithful_code.specs.Operations.{Operation, amount, at_temp, binary, constant, exit, exit_if, in_space, range_of, store_to, unary}
use Rattle.sl_faithful_code.specs.Statements.{child_code, direct, label_at, memory_put, reference_bits, reference_set, relative, section_code, set_bits_code, set_code, step_code, step_length, steps_code, store_code, symbol_before, symbol_bits, symbol_operand, target_address, target_of}
use Rattle.sl_faithful_code.specs.Terms.{code_before, operand, read_into, read_leaf, size_of, symbol_leaf, term_before, term_operand}
use Rattle.sl_faithful_code.proofs.Statements.{step_same, target}
use Rattle.sl_faithful_code.proofs.Bits.{moved_size, ones_low}
use Rattle.sl_faithful_code.proofs.Lands.{placed}
use Rattle.sl_faithful_code.proofs.Numbers.{placed_below}
use Rattle.sl_section_equations.specs.Equations.{size_at}
use Rattle.sl_meaning_sections.specs.References.{Reference, Setting, local, memory, number, storage}
use Rattle.sl_meaning_sections.specs.Statements.{is_label}
use Rattle.sl_meaning_sections.specs.Values.{Frame, meant, reference_at, space_of, symbol_size}
use Rattle.sl_pcode.specs.Targets.{IsWithin, LeadsWithin}
use Rattle.sl_pcode.specs.WellFormed.{IsInRange, IsTarget}
use Rattle.sl_pcode.specs.declared.code.Code.TheVariants as code
use Rattle.sl_pcode.specs.declared.varnode.Place2.{Place2}
use Rattle.sl_pcode.specs.declared.varnode.Place2.TheVariants.{Unique, In}
use Rattle.sl_pcode.specs.declared.varnode.Varnode.{Varnode}
use Rattle.sl_section_flat.specs.Sections as s
use Rattle.sl_section_flat.specs.Sections.{Direct, Label, Step, Symbol, Term}
use Rattle.sl_section_flat.specs.Chains.{chain}
use Rattle.sl_faithful_formed.specs.Formed.{IsMachine, IsPlaced, IsSpace, StepIsFormed, StepsAreFormed, TermIsFormed}
use Rattle.sl_faithful_formed.specs.Lengths.{step_parts, steps_parts, term_parts}
use Rattle.sl_faithful_formed.proofs.Operations.{Stand, Straight, amount_fits, binary_stands, branch_if_stands, branch_ind_stands, branch_stands, call_ind_stands, call_stands, four, moved_fits, return_stands, space_writable, stand_append, stand_at, stand_straight, store_stands, straight_append, straight_choice, straight_taken, temporary_writable, unary_stands}
use Rattle.sl_faithful_formed.proofs.Terms.{Fine, Writable, before_fine, fine_before, local_range, reference_fine, reference_reads, size_bytes, symbol_fine, symbol_reads, temp_range, temp_writable, term_fine, term_reads, user_fine}
use Rattle.sl_word.specs.Numbers.{residue}
use Rattle.sl_word.specs.declared.operation.Op1.TheVariants as one
use Rattle.sl_word.specs.declared.operation.Op2.TheVariants as two
use Rattle.sl_word.specs.declared.word.Size.{Size}
use Rattle.sl_word.proofs.InRange.{residue_below}
use Rattle.sl_word.proofs.Powers.{bytes_pos}

-- ---- relative places

relative_below : (p t : ℕ) → relative p t < 4294967296
relative_below p t = mod_below (t + 4294967296 - p) 4294967296 (omega arith)

-- a relative number from within a list to within it stays there
is_within : (base p t count : ℕ) → base + p ≤ count → base + t ≤ count → count < 2147483648 → IsWithin (base + p) count (relative p t)
is_within base p t count here there short = record {
  not_before = λ far. elim (cases_lt t p) [
    | inl less ↦
        let r : relative p t ≡ t + 4294967296 - p = mod-eq_of_lt (omega arith) in
        omega arith
    | inr more ↦
        let r : relative p t ≡ t - p = near (t - p) (t + 4294967296 - p) (omega arith) (omega arith) in
        absurd (let no : ⊥ = omega arith in no)
  ];
  not_behind = subst (λ n. n ≤ count) (sym (target base p t (omega arith) (omega arith))) there;
}
  where
    near : (d n : ℕ) → n ≡ d + 4294967296 → d < 4294967296 → n % 4294967296 ≡ d
    near d n e lt = omega (arith, e)

module _ (g : Setting) (is : IsMachine g) (Local : (node x n : ℕ) → Type 0) (top : ℕ) (low : top ≤ 1073741824) (below : (k x n : ℕ) → Local k x n → range_of k x + n ≤ top) where
  abbrev Straights : List Operation → Type 0
  Straights os = Fine g is Local top low below os

  abbrev Room : ℕ → Type 0
  Room t = t ≤ 1048576

  -- ---- what is written

  module _ (t : ℕ) (n : Size) (old v : Varnode) (some_below : Bool) (low' count : ℕ) (place : Place2) (offset : ℕ) (writes : Writable g is Local top low below (placed place offset n)) (reads : IsInRange g.sizes old) (reads' : IsInRange g.sizes v)
      (same : n.bytes ≡ old.size.bytes) (narrower : v.size.bytes ≤ n.bytes) (inside : low' + count ≤ 8 * n.bytes) (room : Room (t + 1)) where
    abbrev to : Varnode
    to = placed place offset n

    abbrev new : Varnode
    new = at_temp top t n

    abbrev field : Varnode
    field = at_temp top (t + 1) n

    new_range : IsInRange g.sizes new
    new_range = temp_range g is Local top low below t n (omega arith)

    new_writable : Writable g is Local top low below new
    new_writable = temp_writable g is Local top low below t n (omega arith)

    field_range : IsInRange g.sizes field
    field_range = temp_range g is Local top low below (t + 1) n room

    field_writable : Writable g is Local top low below field
    field_writable = temp_writable g is Local top low below (t + 1) n room

    others_range : IsInRange g.sizes (others n low' count)
    others_range = let some = bytes_pos n.bytes in let r : 256 ^ n.bytes - 1 - mask low' count < 256 ^ n.bytes = omega arith in r

    join_fine : (at : Varnode) → IsInRange g.sizes at → at.size.bytes ≡ n.bytes → Straights (join top t n old at low' count to)
    join_fine at there size = (
      binary_stands g.sizes two.IntAnd field old (others n low' count) (same, same) tt field_writable reads others_range,
      (binary_stands g.sizes two.IntOr to field at (size, refl) tt writes field_range there, tt),
    )

    number_put_fine : (k : ℕ) → k < 256 ^ n.bytes → Straights (number_put top t n old low' count k to)
    number_put_fine k small =
        straight_choice g.sizes (k == 0) (binary two.IntAnd to old (others n low' count) ∷ []) _
        (λ yes. (binary_stands g.sizes two.IntAnd to old (others n low' count) (same, same) tt writes reads others_range, tt))
        (λ no. straight_choice g.sizes (k == mask low' count) (binary two.IntOr to old (constant k n) ∷ []) (join top t n old (constant k n) low' count to)
        (λ yes. (binary_stands g.sizes two.IntOr to old (constant k n) (same, same) tt writes reads small, tt))
        (λ no. join_fine (constant k n) small refl))

    abbrev more : Bool
    more = has_more n v some_below low' count

    value_put_fine : Straights (value_put top t n old v some_below low' count to)
    value_put_fine =
        let a = widened top t n v in
        let b = cleared top more t n a in
        let c = raised top t n b low' in
        let a_size : a.size.bytes ≡ n.bytes = moved_size (nat_lt v.size.bytes n.bytes) new v n.bytes refl (λ no. grind (arith, nat_tests, narrower)) in
        let b_size : b.size.bytes ≡ n.bytes = moved_size more new a n.bytes refl (λ no. a_size) in
        let c_size : c.size.bytes ≡ n.bytes = moved_size (nat_lt 0 low') new b n.bytes refl (λ no. b_size) in
        let a_range = moved_fits g.sizes (nat_lt v.size.bytes n.bytes) new v new_range reads' in
        let b_range = moved_fits g.sizes more new a new_range a_range in
        let c_range = moved_fits g.sizes (nat_lt 0 low') new b new_range b_range in
        let few : count ≤ 8 * n.bytes = omega (arith, inside) in
        let w = n.at_most_16 in
        straight_append g.sizes (widen top t n v) _
        (straight_taken g.sizes (nat_lt v.size.bytes n.bytes) (unary one.IntZext new v) (λ yes. unary_stands g.sizes one.IntZext new v narrower new_writable reads'))
        (straight_append g.sizes (clear top more t n a count) _
        (straight_taken g.sizes more (binary two.IntAnd new a (constant (ones count) n)) (λ yes. binary_stands g.sizes two.IntAnd new a (constant (ones count) n) (sym a_size, sym a_size) tt new_writable a_range (ones_low n.bytes count few)))
        (straight_append g.sizes (raise top t n b low') _
        (straight_taken g.sizes (nat_lt 0 low') (binary two.IntLeft new b (amount low')) (λ yes. binary_stands g.sizes two.IntLeft new b (amount low') (sym b_size) tt new_writable b_range (amount_fits g.sizes low' (omega (arith, w, inside)))))
        (join_fine c c_range c_size)))

    shifts_fine : Straights (put_by_shifts top t n old v low' count to)
    shifts_fine =
        let w = n.at_most_16 in (
          unary_stands g.sizes one.IntZext new v narrower new_writable reads',
          (
            binary_stands g.sizes two.IntLeft new new (amount (8 * n.bytes - count)) refl tt new_writable new_range (amount_fits g.sizes _ (omega (arith, w))),
            (
              binary_stands g.sizes two.IntRight new new (amount (8 * n.bytes - (low' + count))) refl tt new_writable new_range (amount_fits g.sizes _ (omega (arith, w))),
              (
                binary_stands g.sizes two.IntLeft field old (amount (8 * n.bytes - (low' + count))) same tt field_writable reads (amount_fits g.sizes _ (omega (arith, w))),
                (
                  binary_stands g.sizes two.IntRight field field (amount (8 * n.bytes - count)) refl tt field_writable field_range (amount_fits g.sizes _ (omega (arith, w))),
                  (
                    binary_stands g.sizes two.IntLeft field field (amount low') refl tt field_writable field_range (amount_fits g.sizes low' (omega (arith, w, inside))),
                    (
                      binary_stands g.sizes two.IntSub field old field (same, same) tt field_writable reads field_range,
                      (binary_stands g.sizes two.IntAdd to field new (refl, refl) tt writes field_range new_range, tt),
                    ),
                  ),
                ),
              ),
            ),
          ),
        )

    masked_fine : (k : Option ℕ) → Straights (put_by_mask top k t n old v some_below low' count to)
    masked_fine (Some k) = number_put_fine (k % 2 ^ count * 2 ^ low') (placed_below n.bytes k low' count inside)
    masked_fine None = value_put_fine

    bits_put_fine : Straights (bits_put top t n old v some_below low' count to)
    unfolding bits_put
    bits_put_fine =
        straight_choice g.sizes (has_mask n low' count) (put_by_mask top (number_at v.place v.offset) t n old v some_below low' count to) (put_by_shifts top t n old v low' count to)
        (λ yes. masked_fine (number_at v.place v.offset)) (λ no. shifts_fine)

  memory_put_fine : (t space : ℕ) (pointer : Reference) (width : Size) (v : Varnode) → IsSpace g space → ReferenceFits Local pointer width.bytes → IsPlaced g pointer → IsInRange g.sizes v → Room t → Straights (memory_put top t space pointer width v)
  memory_put_fine t space pointer width v there fits placed' reads room =
      let q = operand (read_leaf pointer width) (at_temp top t width) in
      straight_append g.sizes (code_before (read_leaf pointer width) (read_into top t pointer (at_temp top t width))) (store_to space q v ∷ [])
      (fine_before g is Local top low below (read_leaf pointer width) _ (reference_fine g is Local top low below pointer Unique (top + t * 16) width t (temp_writable g is Local top low below t width room) fits placed' room))
      (store_stands g.sizes is.few space q v there (reference_reads g is Local top low below pointer width t fits placed' room).range reads, tt)

  reference_bits_fine : (r : Reference) (n : Size) (old v : Varnode) (below' : Bool) (low' count : ℕ) → ReferenceFits Local r n.bytes → IsPlaced g r → IsInRange g.sizes old → IsInRange g.sizes v → n.bytes ≡ old.size.bytes → v.size.bytes ≤ n.bytes → low' + count ≤ 8 * n.bytes
      → Straights (reference_bits top r n old v below' low' count)
  reference_bits_fine (storage space offset size) n old v below' low' count fits there reads reads' same narrower inside =
      bits_put_fine 2 n old v below' low' count (In (record { 0 = space })) offset (space_writable g.sizes space offset n there) reads reads' same narrower inside (omega arith)
  reference_bits_fine (local k x size) n old v below' low' count fits there reads reads' same narrower inside =
      bits_put_fine 2 n old v below' low' count Unique (range_of k x) (temporary_writable g.sizes (range_of k x) n (local_range g is Local top low below k x n fits)) reads reads' same narrower inside (omega arith)
  reference_bits_fine (number z) n old v below' low' count fits there reads reads' same narrower inside = tt
  reference_bits_fine (memory space size pointer width) n old v below' low' count fits there reads reads' same narrower inside =
      straight_append g.sizes (bits_put top 2 n old v below' low' count (at_temp top 2 n)) (memory_put top 4 space pointer width (at_temp top 2 n))
      (bits_put_fine 2 n old v below' low' count Unique (top + 2 * 16) (temp_writable g is Local top low below 2 n (omega arith)) reads reads' same narrower inside (omega arith))
      (memory_put_fine 4 space pointer width (at_temp top 2 n) there.0 fits there.1 (temp_range g is Local top low below 2 n (omega arith)) (omega arith))

  module _ (f : Frame) where
    -- ---- assignments

    reference_set_fine : (r : Reference) (e : Term) → ReferenceFits Local r (size_of g f e).bytes → IsPlaced g r → TermFits Local g f e → TermIsFormed g f e → Room (term_parts e) → Straights (reference_set top g f r e)
    reference_set_fine (storage space offset size) e where_fits there fits formed room =
        term_fine g is Local top low below f e (In (record { 0 = space })) offset 0 (space_writable g.sizes space offset (size_of g f e) there) fits formed (omega arith)
    reference_set_fine (local k x size) e where_fits there fits formed room =
        term_fine g is Local top low below f e Unique (range_of k x) 0 (temporary_writable g.sizes (range_of k x) (size_of g f e) (local_range g is Local top low below k x (size_of g f e) where_fits)) fits formed (omega arith)
    reference_set_fine (number z) e where_fits there fits formed room = before_fine g is Local top low below f e 0 fits formed (omega arith)
    reference_set_fine (memory space size pointer width) e where_fits there fits formed room =
        straight_append g.sizes (term_before top g f 0 e) (memory_put top 1 space pointer width (term_operand top g f 0 e))
        (before_fine g is Local top low below f e 0 fits formed (omega arith))
        (memory_put_fine 1 space pointer width (term_operand top g f 0 e) there.0 where_fits there.1 (term_reads g is Local top low below f e 0 fits formed (omega arith)).range (omega arith))

    set_fine : (a : Symbol) (e : Term) → SymbolFits Local g f a (size_of g f e).bytes → IsPlaced g (meant g f a) → TermFits Local g f e → TermIsFormed g f e → Room (term_parts e) → Straights (set_code top g f a e)
    set_fine (s.bit_range space offset k low' count) e where_fits there fits formed room =
        let v = term_operand top g f 0 e in
        let n = size_at k in
        let reads = term_reads g is Local top low below f e 0 fits formed (omega arith) in
        straight_append g.sizes (term_before top g f 0 e) (bits_put top 1 n (in_space space offset n) v (is_below e count) low' count (in_space space offset n))
        (before_fine g is Local top low below f e 0 fits formed (omega arith))
        (bits_put_fine 1 n (in_space space offset n) v (is_below e count) low' count (In (record { 0 = space })) offset (space_writable g.sizes space offset n there) there reads.range refl (omega (arith, size_bytes g is Local top low below f e v reads, where_fits.2)) where_fits.0 (omega arith))
    set_fine (s.register space offset n) e where_fits there fits formed room = reference_set_fine (storage space offset (size_at n)) e where_fits there fits formed room
    set_fine (s.local x) e where_fits there fits formed room = reference_set_fine (local f.node x (f.size x)) e where_fits there fits formed room
    set_fine (s.table i) e where_fits there fits formed room = reference_set_fine (reference_at f.refs i) e where_fits there fits formed room
    set_fine (s.attached i n) e where_fits there fits formed room = reference_set_fine (reference_at f.refs i) e where_fits there fits formed room
    set_fine (s.value i) e where_fits there fits formed room = reference_set_fine (reference_at f.refs i) e where_fits there fits formed room
    set_fine s.start e where_fits there fits formed room = reference_set_fine (number g.start) e where_fits there fits formed room
    set_fine s.next e where_fits there fits formed room = reference_set_fine (number g.next) e where_fits there fits formed room
    set_fine (s.integer v) e where_fits there fits formed room = reference_set_fine (number (pos v)) e where_fits there fits formed room

    symbol_bits_fine : (a : Symbol) (n : Size) (old v : Varnode) (below' : Bool) (low' count : ℕ) → SymbolFits Local g f a n.bytes → IsPlaced g (meant g f a) → IsInRange g.sizes old → IsInRange g.sizes v → n.bytes ≡ old.size.bytes → v.size.bytes ≤ n.bytes → low' + count ≤ 8 * n.bytes
        → Straights (symbol_bits top g f a n old v below' low' count)
    symbol_bits_fine (s.bit_range space offset k least count') n old v below' low' count fits there reads reads' same narrower inside =
        let tmp = at_temp top 2 n in
        let whole = in_space space offset (size_at k) in
        straight_append g.sizes (bits_put top 2 n old v below' low' count tmp) (bits_put top 4 (size_at k) whole tmp false least count' whole)
        (bits_put_fine 2 n old v below' low' count Unique (top + 2 * 16) (temp_writable g is Local top low below 2 n (omega arith)) reads reads' same narrower inside (omega arith))
        (bits_put_fine 4 (size_at k) whole tmp false least count' (In (record { 0 = space })) offset (space_writable g.sizes space offset (size_at k) there) there (temp_range g is Local top low below 2 n (omega arith)) refl fits.2 fits.0 (omega arith))
    symbol_bits_fine (s.register space offset k) n old v below' low' count fits there reads reads' same narrower inside = reference_bits_fine (storage space offset (size_at k)) n old v below' low' count fits there reads reads' same narrower inside
    symbol_bits_fine (s.local x) n old v below' low' count fits there reads reads' same narrower inside = reference_bits_fine (local f.node x (f.size x)) n old v below' low' count fits there reads reads' same narrower inside
    symbol_bits_fine (s.table i) n old v below' low' count fits there reads reads' same narrower inside = reference_bits_fine (reference_at f.refs i) n old v below' low' count fits there reads reads' same narrower inside
    symbol_bits_fine (s.attached i k) n old v below' low' count fits there reads reads' same narrower inside = reference_bits_fine (reference_at f.refs i) n old v below' low' count fits there reads reads' same narrower inside
    symbol_bits_fine (s.value i) n old v below' low' count fits there reads reads' same narrower inside = reference_bits_fine (reference_at f.refs i) n old v below' low' count fits there reads reads' same narrower inside
    symbol_bits_fine s.start n old v below' low' count fits there reads reads' same narrower inside = reference_bits_fine (number g.start) n old v below' low' count fits there reads reads' same narrower inside
    symbol_bits_fine s.next n old v below' low' count fits there reads reads' same narrower inside = reference_bits_fine (number g.next) n old v below' low' count fits there reads reads' same narrower inside
    symbol_bits_fine (s.integer k) n old v below' low' count fits there reads reads' same narrower inside = reference_bits_fine (number (pos k)) n old v below' low' count fits there reads reads' same narrower inside

    set_bits_fine : (a : Symbol) (low' count : ℕ) (e : Term) → TermFits Local g f e → SymbolFits Local g f a (symbol_size g f a).bytes → low' + count ≤ 8 * (symbol_size g f a).bytes → (size_of g f e).bytes ≤ (symbol_size g f a).bytes → IsPlaced g (meant g f a) → TermIsFormed g f e → Room (term_parts e)
        → Straights (set_bits_code top g f a low' count e)
    set_bits_fine a low' count e fits where_fits inside narrower there formed room =
        let n = symbol_size g f a in
        let v = term_operand top g f 0 e in
        let old = symbol_operand top g f 1 a n in
        let reads = term_reads g is Local top low below f e 0 fits formed (omega arith) in
        let reads' = symbol_reads g is Local top low below f a n 1 where_fits there (omega arith) in
        let rest = symbol_bits top g f a n old v (is_below e count) low' count in
        straight_append g.sizes (term_before top g f 0 e) (symbol_before top g f 1 a n ++ rest)
        (before_fine g is Local top low below f e 0 fits formed (omega arith))
        (straight_append g.sizes (symbol_before top g f 1 a n) rest
        (fine_before g is Local top low below (symbol_leaf g f a n) _ (symbol_fine g is Local top low below f a Unique (top + 1 * 16) n 1 (temp_writable g is Local top low below 1 n (omega arith)) where_fits there (omega arith)))
        (symbol_bits_fine a n old v (is_below e count) low' count where_fits there reads'.range reads.range (sym (ap (λ (k : Size). k.bytes) reads'.size)) (omega (arith, size_bytes g is Local top low below f e v reads, narrower)) inside))

    store_fine : (space : ℕ) (pointer e : Term) → IsSpace g space → TermFits Local g f pointer → TermIsFormed g f pointer → TermFits Local g f e → TermIsFormed g f e → Room (term_parts pointer + term_parts e + 1) → Straights (store_code top g f space pointer e)
    store_fine space pointer e there fits formed fits' formed' room =
        let v = term_operand top g f 0 e in
        let q = term_operand top g f 1 pointer in
        straight_append g.sizes (term_before top g f 0 e) (term_before top g f 1 pointer ++ store_to space q v ∷ [])
        (before_fine g is Local top low below f e 0 fits' formed' (omega arith))
        (straight_append g.sizes (term_before top g f 1 pointer) (store_to space q v ∷ [])
        (before_fine g is Local top low below f pointer 1 fits formed (omega arith))
        (store_stands g.sizes is.few space q v there (term_reads g is Local top low below f pointer 1 fits formed (omega arith)).range (term_reads g is Local top low below f e 0 fits' formed' (omega arith)).range, tt))

    -- ---- exits

    target_below : (r : Reference) → target_address top g f r < 256 ^ slice_index g.sizes g.default
    target_below (number v) = residue_below (slice_index g.sizes g.default) v
    target_below (memory space size (number v) width) = mod_below (residue width.bytes v) (256 ^ slice_index g.sizes g.default) (bytes_pos (slice_index g.sizes g.default))
    target_below (memory space size (storage z o n) width) = bytes_pos (slice_index g.sizes g.default)
    target_below (memory space size (local k x n) width) = bytes_pos (slice_index g.sizes g.default)
    target_below (memory space size (memory z n r w) width) = bytes_pos (slice_index g.sizes g.default)
    target_below (storage space offset size) = bytes_pos (slice_index g.sizes g.default)
    target_below (local k x size) = bytes_pos (slice_index g.sizes g.default)

    target_range : (a : Symbol) → IsInRange g.sizes (target_of top g f a)
    target_range a = (is.default, target_below (meant g f a))

    -- a value is read by an operation that leaves the list
    exit_fine : (e : Term) (o : Operation) → TermFits Local g f e → TermIsFormed g f e → Room (term_parts e) → (IsInRange g.sizes (term_operand top g f 0 e) → Straight g.sizes o) → Straights (term_before top g f 0 e ++ o ∷ [])
    exit_fine e o fits formed room leaves =
        straight_append g.sizes (term_before top g f 0 e) (o ∷ []) (before_fine g is Local top low below f e 0 fits formed (omega arith)) (leaves (term_reads g is Local top low below f e 0 fits formed (omega arith)).range, tt)

    -- ---- one section, whose first operation has a place in a list of so many

    module _ (base count : ℕ) (short : count < 2147483648) (label_place : Label → ℕ) (within : (x : Label) → base + label_place x ≤ count) (lists : List (List Operation)) (child : (i q : ℕ) → q + length (child_code top g f lists i) ≤ count → Stand g.sizes q count (child_code top g f lists i)) where
      direct_target : (p : ℕ) (to : Direct) → IsTarget (direct top g f label_place p to)
      direct_target p (s.to_label l) = four
      direct_target p (s.to_place a) = tt

      direct_within : (p : ℕ) (to : Direct) → base + p ≤ count → LeadsWithin (base + p) count (direct top g f label_place p to)
      direct_within p (s.to_label l) here = is_within base p (label_place l) count here (within l) short
      direct_within p (s.to_place a) here = tt

      direct_range : (p : ℕ) (to : Direct) → IsInRange g.sizes (direct top g f label_place p to)
      direct_range p (s.to_label l) = amount_fits g.sizes (relative p (label_place l)) (relative_below p (label_place l))
      direct_range p (s.to_place a) = target_range a

      step_stands : (a : Step) (p : ℕ) → StepFits Local g f a → StepIsFormed g f a → Room (step_parts a) → base + p + length (step_code top g f label_place lists p a) ≤ count → Stand g.sizes (base + p) count (step_code top g f label_place lists p a)
      step_stands (s.declare x n) p fits formed room le = tt
      step_stands (s.set a e) p fits formed room le = stand_straight g.sizes (base + p) count _ (set_fine a e fits.1 formed.0 fits.0 formed.1 (omega arith))
      step_stands (s.set_bits a low' n e) p fits formed room le = stand_straight g.sizes (base + p) count _ (set_bits_fine a low' n e fits.0 fits.1 fits.2 fits.3 formed.0 formed.1 (omega arith))
      step_stands (s.store space n pointer x e) p fits formed room le = stand_straight g.sizes (base + p) count _ (store_fine (space_of g space) pointer e formed.0 fits.1 formed.1 fits.0 formed.2 room)
      step_stands (s.run_user op es) p fits formed room le = stand_straight g.sizes (base + p) count _ (user_fine g is Local top low below f op (chain es) fits formed.0 formed.1 (omega arith))
      step_stands (s.build i) p fits formed room le = child i (base + p) le
      step_stands (s.label l) p fits formed room le = tt
      step_stands (s.branch to) p fits formed room le =
          (branch_stands g.sizes (base + p) count (direct top g f label_place p to) (direct_target p to) (direct_within p to (omega arith)) (direct_range p to), tt)
      step_stands (s.branch_if e to) p fits formed room le =
          let before = term_before top g f 0 e in
          let v = term_operand top g f 0 e in
          let q = p + length before in
          let o = exit_if (direct top g f label_place q to) v in
          let len = length-append before (o ∷ []) in
          let reads = term_reads g is Local top low below f e 0 fits.0 formed.0 (omega arith) in
          stand_append g.sizes (base + p) count before (o ∷ []) (stand_straight g.sizes (base + p) count before (before_fine g is Local top low below f e 0 fits.0 formed.0 (omega arith)))
          (stand_at g.sizes (base + q) (base + p + length before) count (o ∷ []) (omega arith)
          (branch_if_stands g.sizes (base + q) count (direct top g f label_place q to) v (direct_target q to) (direct_within q to (omega (arith, le, len))) (size_bytes g is Local top low below f e v reads ∙ formed.1) (direct_range q to) reads.range, tt))
      step_stands (s.branch_to e) p fits formed room le =
          stand_straight g.sizes (base + p) count _ (exit_fine e (exit code.BranchInd (term_operand top g f 0 e)) fits formed (omega arith) (branch_ind_stands g.sizes (term_operand top g f 0 e)))
      step_stands (s.call a) p fits formed room le = (call_stands g.sizes (target_of top g f a) tt (target_range a) (base + p) count, tt)
      step_stands (s.call_to e) p fits formed room le =
          stand_straight g.sizes (base + p) count _ (exit_fine e (exit code.CallInd (term_operand top g f 0 e)) fits formed (omega arith) (call_ind_stands g.sizes (term_operand top g f 0 e)))
      step_stands (s.return e) p fits formed room le =
          stand_straight g.sizes (base + p) count _ (exit_fine e (exit code.Return (term_operand top g f 0 e)) fits formed (omega arith) (return_stands g.sizes (term_operand top g f 0 e)))
      step_stands (s.export what) p fits formed room le = tt

      steps_stand : (ss : List Step) (p : ℕ) → StepsFit Local g f ss → StepsAreFormed g f ss → Room (steps_parts ss) → base + p + length (steps_code top g f lists label_place p ss) ≤ count → Stand g.sizes (base + p) count (steps_code top g f lists label_place p ss)
      steps_stand [] p fits formed room le = tt
      steps_stand (a ∷ ss) p fits formed room le =
          let cs = step_code top g f label_place lists p a in
          let q = p + step_length top g f lists a in
          let rest = steps_code top g f lists label_place q ss in
          let same = step_same top g f lists label_place p a in
          let len = length-append cs rest in
          stand_append g.sizes (base + p) count cs rest
          (step_stands a p fits.0 formed.0 (omega arith) (omega (arith, le, len)))
          (stand_at g.sizes (base + q) (base + p + length cs) count rest (omega (arith, same)) (steps_stand ss q fits.1 formed.1 (omega arith) (omega (arith, le, len, same))))

    -- a label has a place of its section, or the end of it
    label_if : (b : Bool) (x y n : ℕ) → x ≤ n → y ≤ n → (if b then x else y) ≤ n
    label_if true x y n h k = h
    label_if false x y n h k = k

    label_within : (lists : List (List Operation)) (label_place : Label → ℕ) (l : Label) (ss : List Step) (p : ℕ) → label_at top g f lists l p ss ≤ p + length (steps_code top g f lists label_place p ss)
    label_within lists label_place l [] p = omega arith
    label_within lists label_place l (a ∷ ss) p =
        let cs = step_code top g f label_place lists p a in
        let q = p + step_length top g f lists a in
        let rest = steps_code top g f lists label_place q ss in
        let same = step_same top g f lists label_place p a in
        let len = length-append cs rest in
        let behind = label_within lists label_place l ss q in
        label_if (is_label a l) p (label_at top g f lists l q ss) (p + length (cs ++ rest)) (omega arith) (omega (arith, behind, len, same))

    pub section_stands : (ss : List Step) (base count : ℕ) (lists : List (List Operation)) → ((i q : ℕ) → q + length (child_code top g f lists i) ≤ count → Stand g.sizes q count (child_code top g f lists i)) → StepsFit Local g f ss → StepsAreFormed g f ss → Room (steps_parts ss) → base + length (section_code top g f lists ss) ≤ count → count < 2147483648 → Stand g.sizes base count (section_code top g f lists ss)
    section_stands ss base count lists child fits formed room le short =
        let label_place : Label → ℕ = λ l. label_at top g f lists l 0 ss in
        let within : (x : Label) → base + label_place x ≤ count = λ x. let w = label_within lists label_place x ss 0 in omega (arith, le, w) in
        let whole = section_code top g f lists ss in
        stand_at g.sizes (base + 0) base count whole (omega arith) (steps_stand base count short label_place within lists child ss 0 fits formed room (omega arith))
