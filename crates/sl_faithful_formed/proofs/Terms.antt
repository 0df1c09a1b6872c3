-- The operations of an expression are well formed.
use Rattle.std.proofs.Common.{◌≡◌, ℕ, ◌+◌, ◌-◌, ◌*◌, ◌%◌, ◌^◌, ◌<◌, ◌≤◌, Bool, true, false, List, [], ◌∷◌, ◌++◌, Option, Some, None, refl, sym, ap, subst, arith, pos, negsuc}
use Rattle.std.specs.Prelude.{ℤ, ◌&&◌, if◌then◌else◌, nat_le, nat_lt, slice_index}
use Rattle.std.proofs.lemmas.Bool.Decides.{nat_tests}
use Rattle.std.proofs.lemmas.Nat.{mod_below}
use Rattle.std.proofs.lemmas.List.Elements.{All-cons, All-nil}
use Rattle.sl_faithful_code.specs.Bits.{bits_by_mask, bits_by_shifts, bits_into, clear_above, has_mask, lower, lowered, ones, shorten, shortened}
use Rattle.sl_faithful_code.specs.Fits.{ReferenceFits, SymbolFits, TermFits, TermsFit}
use Rattle.sl_faithful_code.specs.Operations.{Operation, amount, at_temp, binary, bytes_before, call_user, constant, in_space, load_from, narrow, offset_after, range_of, temporary, unary}
use Rattle.sl_faithful_code.specs.Terms.{code_before, copied, name_leaf, operand, read_into, read_leaf, size_of, symbol_into, symbol_leaf, term_before, term_into, term_leaf, term_operand, terms_before, terms_operands, two_operands, view}
use Rattle.sl_faithful_code.proofs.Numbers.{eight}
use Rattle.sl_faithful_code.proofs.Bits.{moved_size, ones_low}
use Rattle.sl_faithful_code.proofs.Lands.{placed}
use Rattle.sl_faithful_code.proofs.Operators.{left_true, right_true}
use Rattle.sl_section_equations.specs.Equations.{size_at}
use Rattle.sl_meaning_sections.specs.References.{Reference, Setting, local, memory, number, storage}
use Rattle.sl_meaning_sections.specs.Values.{Frame, meant, reference_at, space_of}
use Rattle.sl_pcode.specs.WellFormed.{IsAmount, IsAtPlace, IsInRange, IsWritable, ReadsInRange}
use Rattle.sl_pcode.specs.declared.varnode.Place2.{Place2}
use Rattle.sl_pcode.specs.declared.varnode.Place2.TheVariants.{Const, Unique, In}
use Rattle.sl_pcode.specs.declared.varnode.Varnode.{Varnode}
use Rattle.sl_section_flat.specs.Sections as s
use Rattle.sl_section_flat.specs.Sections.{Symbol, Term, Terms}
use Rattle.sl_section_flat.specs.declared.term.Order.{Order}
use Rattle.sl_section_flat.specs.declared.term.Order.TheVariants.{AsWritten, Exchanged}
use Rattle.sl_faithful_formed.specs.Formed.{IsMachine, IsNoPiece, IsPlaced, TakesParts, TermIsFormed, TermsAreFormed}
use Rattle.sl_faithful_formed.specs.Lengths.{term_parts, terms_parts}
use Rattle.sl_faithful_formed.proofs.Operations.{AllStraight, Straight, amount_fits, binary_stands, call_user_stands, load_stands, moved_fits, straight_append, straight_choice, straight_taken, temporary_writable, unary_stands}
use Rattle.sl_word.specs.Numbers.{residue}
use Rattle.sl_word.specs.Operations.{TakesSizes1, TakesSizes2}
use Rattle.sl_word.specs.declared.operation.Op1.TheVariants as one
use Rattle.sl_word.specs.declared.operation.Op2.{Op2}
use Rattle.sl_word.specs.declared.operation.Op2.TheVariants as two
use Rattle.sl_word.specs.declared.word.Endian.{Endian}
use Rattle.sl_word.specs.declared.word.Endian.TheVariants.{Little, Big}
use Rattle.sl_word.specs.declared.word.Size.{Size}
use Rattle.sl_word.proofs.InRange.{residue_below}
use Rattle.sl_word.proofs.Powers.{bytes_pos}

-- of other operations than of dropping bytes, it doesn't matter which number the second part is
any_number : (f : Op2) (n k out x y : ℕ) → IsNoPiece f → TakesSizes2 f n k out x → TakesSizes2 f n k out y
any_number two.IntAdd n k out x y apart h = h
any_number two.IntSub n k out x y apart h = h
any_number two.IntMult n k out x y apart h = h
any_number two.IntDiv n k out x y apart h = h
any_number two.IntRem n k out x y apart h = h
any_number two.IntSdiv n k out x y apart h = h
any_number two.IntSrem n k out x y apart h = h
any_number two.IntLeft n k out x y apart h = h
any_number two.IntRight n k out x y apart h = h
any_number two.IntSright n k out x y apart h = h
any_number two.IntAnd n k out x y apart h = h
any_number two.IntOr n k out x y apart h = h
any_number two.IntXor n k out x y apart h = h
any_number two.IntEqual n k out x y apart h = h
any_number two.IntNotEqual n k out x y apart h = h
any_number two.IntLess n k out x y apart h = h
any_number two.IntLessEqual n k out x y apart h = h
any_number two.IntSless n k out x y apart h = h
any_number two.IntSlessEqual n k out x y apart h = h
any_number two.IntCarry n k out x y apart h = h
any_number two.IntScarry n k out x y apart h = h
any_number two.IntSborrow n k out x y apart h = h
any_number two.BoolAnd n k out x y apart h = h
any_number two.BoolOr n k out x y apart h = h
any_number two.BoolXor n k out x y apart h = h
any_number two.Subpiece n k out x y apart h = absurd apart

no_amount : (f : Op2) (b : Varnode) → IsNoPiece f → IsAmount f b
no_amount two.Subpiece b apart = absurd apart
no_amount _ b apart = tt

module _ (g : Setting) (is : IsMachine g) (Local : (node x n : ℕ) → Type 0) (top : ℕ) (low : top ≤ 1073741824) (below : (k x n : ℕ) → Local k x n → range_of k x + n ≤ top) where
  abbrev sizes : List ℕ
  sizes = g.sizes

  abbrev pub Writable : Varnode → Type 0
  Writable v = IsWritable g.sizes v

  abbrev pub Fine : List Operation → Type 0
  Fine os = AllStraight g.sizes os

  -- a varnode of this size is read
  pub record Reads (n : Size) (a : Varnode) : Type 0 where
    pub range : IsInRange g.sizes a
    pub size : a.size ≡ n

  pub temp_range : (t : ℕ) (n : Size) → t ≤ 1048576 → IsInRange g.sizes (at_temp top t n)
  temp_range t n le = let b = n.at_most_16 in omega (arith, b, low, le)

  pub temp_writable : (t : ℕ) (n : Size) → t ≤ 1048576 → Writable (at_temp top t n)
  temp_writable t n le = temporary_writable g.sizes (top + t * 16) n (temp_range t n le)

  pub local_range : (k x : ℕ) (n : Size) → Local k x n.bytes → IsInRange g.sizes (temporary (range_of k x) n)
  local_range k x n there = let b = below k x n.bytes there in omega (arith, b, low)

  pub fine_before : (leaf : Option Varnode) (os : List Operation) → Fine os → Fine (code_before leaf os)
  fine_before None os h = h
  fine_before (Some v) os h = tt

  -- ---- references

  leaf_reads : (b : Bool) (v : ℕ) (n : Size) (t : ℕ) → v < 256 ^ n.bytes → t ≤ 1048576 → Reads n (operand (if b then Some (constant v n) else None) (at_temp top t n))
  leaf_reads true v n t lt le = record { range = lt; size = refl }
  leaf_reads false v n t lt le = record { range = temp_range t n le; size = refl }

  pub reference_reads : (r : Reference) (n : Size) (t : ℕ) → ReferenceFits Local r n.bytes → IsPlaced g r → t ≤ 1048576 → Reads n (operand (read_leaf r n) (at_temp top t n))
  reference_reads (storage space offset size) n t fits there le = record { range = there; size = refl }
  reference_reads (local k x size) n t fits there le = record { range = local_range k x n fits; size = refl }
  reference_reads (number (pos v)) n t fits there le = record { range = residue_below n.bytes (pos v); size = refl }
  reference_reads (number (negsuc v)) n t fits there le = leaf_reads (nat_le n.bytes 8) (residue n.bytes (negsuc v)) n t (residue_below n.bytes (negsuc v)) le
  reference_reads (memory space size pointer width) n t fits there le = record { range = temp_range t n le; size = refl }

  eight_fits : (v : ℤ) → residue 8 v < 256 ^ (size_at 8).bytes
  eight_fits v = subst (λ k. residue 8 v < 256 ^ k) (sym eight) (residue_below 8 v)

  number_fine : (b : Bool) (v : ℕ) (place : Place2) (offset : ℕ) (n : Size) → nat_le n.bytes 8 ≡ b → Writable (placed place offset n)
      → Fine (copied (if b then Some (constant (residue n.bytes (negsuc v)) n) else None) (placed place offset n) (unary one.IntSext (placed place offset n) (constant (residue 8 (negsuc v)) (size_at 8)) ∷ []))
  number_fine true v place offset n test writes =
      (unary_stands g.sizes one.Copy (placed place offset n) (constant (residue n.bytes (negsuc v)) n) refl writes (residue_below n.bytes (negsuc v)), tt)
  number_fine false v place offset n test writes =
      let more : 8 ≤ n.bytes = grind (arith, nat_tests) in
      (unary_stands g.sizes one.IntSext (placed place offset n) (constant (residue 8 (negsuc v)) (size_at 8)) (subst (λ k. k ≤ n.bytes) (sym eight) more) writes (eight_fits (negsuc v)), tt)

  pub reference_fine : (r : Reference) (place : Place2) (offset : ℕ) (n : Size) (t : ℕ) → Writable (placed place offset n) → ReferenceFits Local r n.bytes → IsPlaced g r → t ≤ 1048576 → Fine (read_into top t r (placed place offset n))
  reference_fine (storage space o size) place offset n t writes fits there le =
      (unary_stands g.sizes one.Copy (placed place offset n) (in_space space o n) refl writes there, tt)
  reference_fine (local k x size) place offset n t writes fits there le =
      (unary_stands g.sizes one.Copy (placed place offset n) (temporary (range_of k x) n) refl writes (local_range k x n fits), tt)
  reference_fine (number (pos v)) place offset n t writes fits there le =
      (unary_stands g.sizes one.Copy (placed place offset n) (constant (residue n.bytes (pos v)) n) refl writes (residue_below n.bytes (pos v)), tt)
  reference_fine (number (negsuc v)) place offset n t writes fits there le = number_fine (nat_le n.bytes 8) v place offset n refl writes
  reference_fine (memory space size pointer width) place offset n t writes fits there le =
      let before = code_before (read_leaf pointer width) (read_into top t pointer (at_temp top t width)) in
      let a = operand (read_leaf pointer width) (at_temp top t width) in
      let first = fine_before (read_leaf pointer width) _ (reference_fine pointer Unique (top + t * 16) width t (temp_writable t width le) fits there.1 le) in
      straight_append g.sizes before (load_from (placed place offset n) space a ∷ []) first
      (load_stands g.sizes is.few (placed place offset n) space a there.0 writes (reference_reads pointer width t fits there.1 le).range, tt)

  -- ---- bits

  module _ (from : Varnode) (low' count : ℕ) (place : Place2) (offset : ℕ) (n : Size) (t : ℕ) (writes : Writable (placed place offset n)) (reads : IsInRange g.sizes from) (narrower : n.bytes ≤ from.size.bytes) (le : t ≤ 1048576) where
    abbrev tall : Varnode
    tall = at_temp top t from.size

    abbrev out : Varnode
    out = placed place offset n

    lower_fine : low' ≤ 128 → Fine (lower top t from low')
    lower_fine few =
        straight_taken g.sizes (nat_lt 0 low') (binary two.IntRight tall from (amount low'))
        (λ yes. binary_stands g.sizes two.IntRight tall from (amount low') refl tt (temp_writable t from.size le) reads (amount_fits g.sizes low' (omega (arith, few))))

    lowered_range : IsInRange g.sizes (lowered top t from low')
    lowered_range = moved_fits g.sizes (nat_lt 0 low') tall from (temp_range t from.size le) reads

    lowered_bytes : (lowered top t from low').size.bytes ≡ from.size.bytes
    lowered_bytes = moved_size (nat_lt 0 low') tall from from.size.bytes refl (λ no. refl)

    clear_fine : count ≤ 8 * n.bytes → Fine (clear_above top t (lowered top t from low') count out)
    clear_fine few =
        let a = lowered top t from low' in
        let short = at_temp top t n in
        let less : n.bytes ≤ a.size.bytes = omega (arith, lowered_bytes, narrower) in
        let same : n.bytes ≡ (shortened top t a n).size.bytes = sym (moved_size (nat_lt n.bytes a.size.bytes) short a n.bytes refl (λ no. grind (arith, nat_tests, less))) in
        straight_append g.sizes (shorten top t a n) (binary two.IntAnd out (shortened top t a n) (constant (ones count) n) ∷ [])
        (straight_taken g.sizes (nat_lt n.bytes a.size.bytes) (binary two.Subpiece short a (amount 0))
        (λ yes. binary_stands g.sizes two.Subpiece short a (amount 0) (omega (arith, less)) refl (temp_writable t n le) lowered_range (amount_fits g.sizes 0 (omega arith)))) (
          binary_stands g.sizes two.IntAnd out (shortened top t a n) (constant (ones count) n) (same, same) tt writes
              (moved_fits g.sizes (nat_lt n.bytes a.size.bytes) short a (temp_range t n le) lowered_range) (ones_low n.bytes count few),
          tt,
        )

    cut_fine : low' ≤ 128 → Fine (lower top t from low' ++ binary two.Subpiece out (lowered top t from low') (amount 0) ∷ [])
    cut_fine few =
        straight_append g.sizes (lower top t from low') (binary two.Subpiece out (lowered top t from low') (amount 0) ∷ []) (lower_fine few)
        (binary_stands g.sizes two.Subpiece out (lowered top t from low') (amount 0) (omega (arith, lowered_bytes, narrower)) refl writes lowered_range (amount_fits g.sizes 0 (omega arith)), tt)

    mask_fine : low' + count ≤ 8 * from.size.bytes → Fine (bits_by_mask top t from low' count out)
    mask_fine inside =
        let few : low' ≤ 128 = omega (arith, from.size.at_most_16, inside) in
        straight_choice g.sizes (nat_lt (low' + count) (8 * from.size.bytes) && nat_lt count (8 * n.bytes))
        (lower top t from low' ++ clear_above top t (lowered top t from low') count out) _
        (λ yes.
        let test = right_true (nat_lt (low' + count) (8 * from.size.bytes)) (nat_lt count (8 * n.bytes)) yes in
        let less : count ≤ 8 * n.bytes = grind (arith, nat_tests) in
        straight_append g.sizes (lower top t from low') (clear_above top t (lowered top t from low') count out) (lower_fine few) (clear_fine less))
        (λ no. straight_choice g.sizes (nat_lt n.bytes from.size.bytes) (lower top t from low' ++ binary two.Subpiece out (lowered top t from low') (amount 0) ∷ []) (binary two.IntRight out from (amount low') ∷ [])
        (λ yes. cut_fine few)
        (λ wide. let same : n.bytes ≡ from.size.bytes = grind (arith, nat_tests, narrower) in
        (binary_stands g.sizes two.IntRight out from (amount low') same tt writes reads (amount_fits g.sizes low' (omega (arith, few))), tt)))

    shifts_fine : Fine (bits_by_shifts top t from low' count out)
    shifts_fine =
        let w = from.size.at_most_16 in
        let there = temp_range t from.size le in
        let write = temp_writable t from.size le in (
          binary_stands g.sizes two.IntLeft tall from (amount (8 * from.size.bytes - (low' + count))) refl tt write reads (amount_fits g.sizes _ (omega (arith, w))),
          (
            binary_stands g.sizes two.IntRight tall tall (amount (8 * from.size.bytes - count)) refl tt write there (amount_fits g.sizes _ (omega (arith, w))),
            (binary_stands g.sizes two.Subpiece out tall (amount 0) (omega (arith, narrower)) refl writes there (amount_fits g.sizes 0 (omega arith)), tt),
          ),
        )

    pub bits_fine : Fine (bits_into top t from low' count out)
    unfolding bits_into
    bits_fine =
        straight_choice g.sizes (has_mask from.size low' count && nat_le n.bytes from.size.bytes) (bits_by_mask top t from low' count out) (bits_by_shifts top t from low' count out)
        (λ yes.
        let masked = left_true (has_mask from.size low' count) (nat_le n.bytes from.size.bytes) yes in
        let test = right_true (nat_le from.size.bytes 8) (nat_le (low' + count) (8 * from.size.bytes)) masked in
        mask_fine (grind (arith, nat_tests)))
        (λ no. shifts_fine)

  -- ---- names, expressions

  module _ (f : Frame) where
    pub symbol_fine : (a : Symbol) (place : Place2) (offset : ℕ) (n : Size) (t : ℕ) → Writable (placed place offset n) → SymbolFits Local g f a n.bytes → IsPlaced g (meant g f a) → t ≤ 1048576 → Fine (symbol_into top g f t a (placed place offset n))
    symbol_fine (s.bit_range space o k low' count) place offset n t writes fits there le =
        bits_fine (in_space space o (size_at k)) low' count place offset n t writes there fits.2 le
    symbol_fine (s.register space o k) place offset n t writes fits there le = reference_fine (storage space o (size_at k)) place offset n t writes fits there le
    symbol_fine (s.local x) place offset n t writes fits there le = reference_fine (local f.node x (f.size x)) place offset n t writes fits there le
    symbol_fine (s.table i) place offset n t writes fits there le = reference_fine (reference_at f.refs i) place offset n t writes fits there le
    symbol_fine (s.attached i k) place offset n t writes fits there le = reference_fine (reference_at f.refs i) place offset n t writes fits there le
    symbol_fine (s.value i) place offset n t writes fits there le = reference_fine (reference_at f.refs i) place offset n t writes fits there le
    symbol_fine s.start place offset n t writes fits there le = reference_fine (number g.start) place offset n t writes fits there le
    symbol_fine s.next place offset n t writes fits there le = reference_fine (number g.next) place offset n t writes fits there le
    symbol_fine (s.integer v) place offset n t writes fits there le = reference_fine (number (pos v)) place offset n t writes fits there le

    pub symbol_reads : (a : Symbol) (n : Size) (t : ℕ) → SymbolFits Local g f a n.bytes → IsPlaced g (meant g f a) → t ≤ 1048576 → Reads n (operand (symbol_leaf g f a n) (at_temp top t n))
    symbol_reads (s.bit_range space o k low' count) n t fits there le = record { range = temp_range t n le; size = refl }
    symbol_reads (s.register space o k) n t fits there le = reference_reads (storage space o (size_at k)) n t fits there le
    symbol_reads (s.local x) n t fits there le = reference_reads (local f.node x (f.size x)) n t fits there le
    symbol_reads (s.table i) n t fits there le = reference_reads (reference_at f.refs i) n t fits there le
    symbol_reads (s.attached i k) n t fits there le = reference_reads (reference_at f.refs i) n t fits there le
    symbol_reads (s.value i) n t fits there le = reference_reads (reference_at f.refs i) n t fits there le
    symbol_reads s.start n t fits there le = reference_reads (number g.start) n t fits there le
    symbol_reads s.next n t fits there le = reference_reads (number g.next) n t fits there le
    symbol_reads (s.integer v) n t fits there le = reference_reads (number (pos v)) n t fits there le

    literal_range : (v : ℕ) (n : Size) → v % 256 ^ n.bytes < 256 ^ n.bytes
    literal_range v n = mod_below v (256 ^ n.bytes) (bytes_pos n.bytes)

    -- ---- the lowest bytes of what a name stands for

    narrow_at : (endian : Endian) (place : Place2) (offset size n : ℕ) → n ≤ size → IsAtPlace g.sizes place offset size → IsAtPlace g.sizes place (offset_after g.sizes place offset (bytes_before endian size n) n) n
    narrow_at endian Const offset size n le range = mod_below offset (256 ^ n) (bytes_pos n)
    narrow_at Little Unique offset size n le range = omega (arith, le, range)
    narrow_at Big Unique offset size n le range = omega (arith, le, range)
    narrow_at endian (In space) offset size n le range = (range.0, mod_below _ (256 ^ slice_index g.sizes space.0) (bytes_pos (slice_index g.sizes space.0)))

    name_reads : (e : Term) (v : Varnode) → name_leaf g f e ≡ Some v → TermFits Local g f e → TermIsFormed g f e → Reads (size_of g f e) v
    name_reads (s.name a x) v is fits formed = subst (λ leaf. Reads (f.size x) (operand leaf (at_temp top 0 (f.size x)))) is (symbol_reads a (f.size x) 0 fits formed (omega arith))
    name_reads (s.paren e x) v is fits formed = name_reads e v is fits formed
    name_reads (s.number k x) v is fits formed = absurd (let no : ⊥ = cc in no)
    name_reads (s.sized k n x) v is fits formed = absurd (let no : ⊥ = cc in no)
    name_reads (s.kept e k x) v is fits formed = absurd (let no : ⊥ = cc in no)
    name_reads (s.dropped e k x) v is fits formed = absurd (let no : ⊥ = cc in no)
    name_reads (s.bits e low' count x) v is fits formed = absurd (let no : ⊥ = cc in no)
    name_reads (s.load space k e x) v is fits formed = absurd (let no : ⊥ = cc in no)
    name_reads (s.one op e x) v is fits formed = absurd (let no : ⊥ = cc in no)
    name_reads (s.two op order a b x) v is fits formed = absurd (let no : ⊥ = cc in no)
    name_reads (s.user op es x) v is fits formed = absurd (let no : ⊥ = cc in no)

    narrow_range : (e : Term) (n : Size) (v : Varnode) → name_leaf g f e ≡ Some v → TermFits Local g f e → TermIsFormed g f e → n.bytes ≤ (size_of g f e).bytes → IsInRange g.sizes (narrow g.endian g.sizes v n)
    narrow_range e n v is fits formed narrower =
        let reads = name_reads e v is fits formed in
        narrow_at g.endian v.place v.offset v.size.bytes n.bytes (subst (λ (k : Size). n.bytes ≤ k.bytes) (sym reads.size) narrower) reads.range

    view_reads : (e : Term) (n : Size) (leaf : Option Varnode) (t : ℕ) → name_leaf g f e ≡ leaf → TermFits Local g f e → TermIsFormed g f e → n.bytes ≤ (size_of g f e).bytes → t ≤ 1048576 → Reads n (operand (view g leaf n) (at_temp top t n))
    view_reads e n None t is fits formed narrower le = record { range = temp_range t n le; size = refl }
    view_reads e n (Some v) t is fits formed narrower le = record { range = narrow_range e n v is fits formed narrower; size = refl }

    pub term_reads : (e : Term) (t : ℕ) → TermFits Local g f e → TermIsFormed g f e → t ≤ 1048576 → Reads (size_of g f e) (term_operand top g f t e)
    term_reads (s.number v x) t fits formed le = record { range = literal_range v (f.size x); size = refl }
    term_reads (s.sized v k x) t fits formed le = record { range = literal_range v (f.size x); size = refl }
    term_reads (s.name a x) t fits formed le = symbol_reads a (f.size x) t fits formed le
    term_reads (s.paren e x) t fits formed le = term_reads e t fits formed le
    term_reads (s.kept e k x) t fits formed le = view_reads e (f.size x) (name_leaf g f e) t refl fits.0 formed.0 formed.1 le
    term_reads (s.dropped e k x) t fits formed le = record { range = temp_range t (f.size x) le; size = refl }
    term_reads (s.bits e low' count x) t fits formed le = record { range = temp_range t (f.size x) le; size = refl }
    term_reads (s.load space k e x) t fits formed le = record { range = temp_range t (f.size x) le; size = refl }
    term_reads (s.one op e x) t fits formed le = record { range = temp_range t (f.size x) le; size = refl }
    term_reads (s.two op order a b x) t fits formed le = record { range = temp_range t (f.size x) le; size = refl }
    term_reads (s.user op es x) t fits formed le = record { range = temp_range t (f.size x) le; size = refl }

    -- an expression is a part
    pub term_some : (e : Term) → 1 ≤ term_parts e
    term_some (s.number v x) = omega arith
    term_some (s.sized v k x) = omega arith
    term_some (s.name a x) = omega arith
    term_some (s.paren e x) = omega arith
    term_some (s.kept e k x) = omega arith
    term_some (s.dropped e k x) = omega arith
    term_some (s.bits e low' count x) = omega arith
    term_some (s.load space k e x) = omega arith
    term_some (s.one op e x) = omega arith
    term_some (s.two op order a b x) = omega arith
    term_some (s.user op es x) = omega arith

    terms_read : (es : Terms) (t : ℕ) → TermsFit Local g f es → TermsAreFormed g f es → t + terms_parts es ≤ 1048576 → ReadsInRange g.sizes (terms_operands top g f t es)
    terms_read s.no_terms t fits formed le = All-nil (IsInRange g.sizes)
    terms_read (s.then_term e es) t fits formed le =
        let some = term_some e in
        All-cons (IsInRange g.sizes) (term_operand top g f t e) (terms_operands top g f (t + 1) es) (term_reads e t fits.0 formed.0 (omega arith)).range (terms_read es (t + 1) fits.1 formed.1 (omega (arith, some)))

    pub size_bytes : (e : Term) (a : Varnode) → Reads (size_of g f e) a → a.size.bytes ≡ (size_of g f e).bytes
    size_bytes e a r = ap (λ (k : Size). k.bytes) r.size

    -- an operator's operation, by the order of its parts
    operator_fine : (op : Op2) (order : Order) (a b : Term) (out p q : Varnode) → Reads (size_of g f a) p → Reads (size_of g f b) q → IsNoPiece op → TakesParts op order (size_of g f a).bytes (size_of g f b).bytes out.size.bytes → Writable out → Straight g.sizes (two_operands op order out p q)
    operator_fine op AsWritten a b out p q reads reads' apart takes writes =
        let there = subst (λ n. TakesSizes2 op n q.size.bytes out.size.bytes 0) (sym (size_bytes a p reads)) (subst (λ k. TakesSizes2 op (size_of g f a).bytes k out.size.bytes 0) (sym (size_bytes b q reads')) takes) in
        binary_stands g.sizes op out p q (any_number op p.size.bytes q.size.bytes out.size.bytes 0 q.offset apart there) (no_amount op q apart) writes reads.range reads'.range
    operator_fine op Exchanged a b out p q reads reads' apart takes writes =
        let there = subst (λ n. TakesSizes2 op q.size.bytes n out.size.bytes 0) (sym (size_bytes a p reads)) (subst (λ k. TakesSizes2 op k (size_of g f a).bytes out.size.bytes 0) (sym (size_bytes b q reads')) takes) in
        binary_stands g.sizes op out q p (any_number op q.size.bytes p.size.bytes out.size.bytes 0 p.offset apart there) (no_amount op p apart) writes reads'.range reads.range

    -- the lowest bytes are put into a varnode
    kept_fine : (e : Term) (n : Size) (leaf : Option Varnode) (place : Place2) (offset t : ℕ) → name_leaf g f e ≡ leaf → Writable (placed place offset n) → TermFits Local g f e → TermIsFormed g f e × (n.bytes ≤ (size_of g f e).bytes) → t ≤ 1048576 → Fine (term_before top g f t e)
        → Fine (copied (view g leaf n) (placed place offset n) (term_before top g f t e ++ binary two.Subpiece (placed place offset n) (term_operand top g f t e) (amount 0) ∷ []))
    kept_fine e n None place offset t is writes fits formed le before =
        let out = placed place offset n in
        let a = term_operand top g f t e in
        let reads = term_reads e t fits formed.0 le in
        straight_append g.sizes (term_before top g f t e) (binary two.Subpiece out a (amount 0) ∷ []) before
        (binary_stands g.sizes two.Subpiece out a (amount 0) (omega (arith, size_bytes e a reads, formed.1)) refl writes reads.range (amount_fits g.sizes 0 (omega arith)), tt)
    kept_fine e n (Some v) place offset t is writes fits formed le before =
        (unary_stands g.sizes one.Copy (placed place offset n) (narrow g.endian g.sizes v n) refl writes (narrow_range e n v is fits formed.0 formed.1), tt)

    mutual
      pub term_fine : (e : Term) (place : Place2) (offset t : ℕ) → Writable (placed place offset (size_of g f e)) → TermFits Local g f e → TermIsFormed g f e → t + term_parts e ≤ 1048576 → Fine (term_into top g f t e (placed place offset (size_of g f e)))
      term_fine (s.number v x) place offset t writes fits formed le =
          (unary_stands g.sizes one.Copy (placed place offset (f.size x)) (constant (v % 256 ^ (f.size x).bytes) (f.size x)) refl writes (literal_range v (f.size x)), tt)
      term_fine (s.sized v k x) place offset t writes fits formed le =
          (unary_stands g.sizes one.Copy (placed place offset (f.size x)) (constant (v % 256 ^ (f.size x).bytes) (f.size x)) refl writes (literal_range v (f.size x)), tt)
      term_fine (s.name a x) place offset t writes fits formed le = symbol_fine a place offset (f.size x) t writes fits formed (omega arith)
      term_fine (s.paren e x) place offset t writes fits formed le = term_fine e place offset t writes fits formed (omega arith)
      term_fine (s.kept e k x) place offset t writes fits formed le =
          let before = fine_before (term_leaf g f e) _ (term_fine e Unique (top + t * 16) t (temp_writable t (size_of g f e) (omega arith)) fits.0 formed.0 (omega arith)) in
          kept_fine e (f.size x) (name_leaf g f e) place offset t refl writes fits.0 formed (omega arith) before
      term_fine (s.dropped e k x) place offset t writes fits formed le =
          let out = placed place offset (f.size x) in
          let a = term_operand top g f t e in
          let n = size_of g f e in
          let wide = n.at_most_16 in
          let reads = term_reads e t fits formed.0 (omega arith) in
          let before = fine_before (term_leaf g f e) _ (term_fine e Unique (top + t * 16) t (temp_writable t n (omega arith)) fits formed.0 (omega arith)) in
          straight_append g.sizes (term_before top g f t e) (binary two.Subpiece out a (amount k) ∷ []) before
          (binary_stands g.sizes two.Subpiece out a (amount k) (omega (arith, size_bytes e a reads, formed.1)) refl writes reads.range (amount_fits g.sizes k (omega (arith, formed.1, wide))), tt)
      term_fine (s.bits e low' count x) place offset t writes fits formed le =
          let out = placed place offset (f.size x) in
          let a = term_operand top g f t e in
          let reads = term_reads e t fits.0 formed.0 (omega arith) in
          let before = fine_before (term_leaf g f e) _ (term_fine e Unique (top + t * 16) t (temp_writable t (size_of g f e) (omega arith)) fits.0 formed.0 (omega arith)) in
          straight_append g.sizes (term_before top g f t e) (bits_into top t a low' count out) before
          (bits_fine a low' count place offset (f.size x) t writes reads.range (omega (arith, size_bytes e a reads, formed.1)) (omega arith))
      term_fine (s.load space k e x) place offset t writes fits formed le =
          let out = placed place offset (f.size x) in
          let a = term_operand top g f t e in
          let reads = term_reads e t fits formed.0 (omega arith) in
          let before = fine_before (term_leaf g f e) _ (term_fine e Unique (top + t * 16) t (temp_writable t (size_of g f e) (omega arith)) fits formed.0 (omega arith)) in
          straight_append g.sizes (term_before top g f t e) (load_from out (space_of g space) a ∷ []) before
          (load_stands g.sizes is.few out (space_of g space) a formed.1 writes reads.range, tt)
      term_fine (s.one op e x) place offset t writes fits formed le =
          let out = placed place offset (f.size x) in
          let a = term_operand top g f t e in
          let reads = term_reads e t fits formed.0 (omega arith) in
          let before = fine_before (term_leaf g f e) _ (term_fine e Unique (top + t * 16) t (temp_writable t (size_of g f e) (omega arith)) fits formed.0 (omega arith)) in
          straight_append g.sizes (term_before top g f t e) (unary op out a ∷ []) before
          (unary_stands g.sizes op out a (subst (λ n. TakesSizes1 op n (f.size x).bytes) (sym (size_bytes e a reads)) formed.1) writes reads.range, tt)
      term_fine (s.two op order a b x) place offset t writes fits formed le =
          let out = placed place offset (f.size x) in
          let p = term_operand top g f t a in
          let q = term_operand top g f (t + 1) b in
          let some = term_some a in
          let reads = term_reads a t fits.0 formed.0 (omega arith) in
          let reads' = term_reads b (t + 1) fits.1 formed.1 (omega (arith, some)) in
          let room : t + 1 + term_parts b ≤ 1048576 = omega (arith, some, le) in
          let room' : t + 1 ≤ 1048576 = omega (arith, some, le) in
          let before = fine_before (term_leaf g f a) _ (term_fine a Unique (top + t * 16) t (temp_writable t (size_of g f a) (omega arith)) fits.0 formed.0 (omega arith)) in
          let before' = fine_before (term_leaf g f b) _ (term_fine b Unique (top + (t + 1) * 16) (t + 1) (temp_writable (t + 1) (size_of g f b) room') fits.1 formed.1 room) in
          straight_append g.sizes (term_before top g f t a) (term_before top g f (t + 1) b ++ two_operands op order out p q ∷ []) before
          (straight_append g.sizes (term_before top g f (t + 1) b) (two_operands op order out p q ∷ []) before'
          (operator_fine op order a b out p q reads reads' formed.2 formed.3 writes, tt))
      term_fine (s.user op es x) place offset t writes fits formed le =
          straight_append g.sizes (terms_before top g f t es) (call_user op (terms_operands top g f t es) ∷ []) (terms_fine es t fits formed.0 (omega arith))
          (call_user_stands g.sizes op (terms_operands top g f t es) formed.1 (terms_read es t fits formed.0 (omega arith)), tt)

      pub terms_fine : (es : Terms) (t : ℕ) → TermsFit Local g f es → TermsAreFormed g f es → t + terms_parts es ≤ 1048576 → Fine (terms_before top g f t es)
      terms_fine s.no_terms t fits formed le = tt
      terms_fine (s.then_term e es) t fits formed le =
          let some = term_some e in
          straight_append g.sizes (term_before top g f t e) (terms_before top g f (t + 1) es)
          (fine_before (term_leaf g f e) _ (term_fine e Unique (top + t * 16) t (temp_writable t (size_of g f e) (omega arith)) fits.0 formed.0 (omega arith)))
          (terms_fine es (t + 1) fits.1 formed.1 (omega (arith, some)))

    -- the operations before a value is read
    pub before_fine : (e : Term) (t : ℕ) → TermFits Local g f e → TermIsFormed g f e → t + term_parts e ≤ 1048576 → Fine (term_before top g f t e)
    before_fine e t fits formed le =
        fine_before (term_leaf g f e) _ (term_fine e Unique (top + t * 16) t (temp_writable t (size_of g f e) (omega arith)) fits formed le)

    -- a user operation with its arguments
    pub user_fine : (op : ℕ) (es : Terms) → TermsFit Local g f es → TermsAreFormed g f es → op < 4294967296 → terms_parts es ≤ 1048576 → Fine (terms_before top g f 0 es ++ call_user op (terms_operands top g f 0 es) ∷ [])
    user_fine op es fits formed lt le =
        straight_append g.sizes (terms_before top g f 0 es) (call_user op (terms_operands top g f 0 es) ∷ []) (terms_fine es 0 fits formed (omega arith))
        (call_user_stands g.sizes op (terms_operands top g f 0 es) lt (terms_read es 0 fits formed (omega arith)), tt)
