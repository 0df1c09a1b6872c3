-- The operations of an expression leave its value.
use Rattle.std.proofs.Common.{◌≡◌, ℕ, ◌+◌, ◌*◌, ◌/◌, ◌%◌, ◌^◌, ◌<◌, ◌≤◌, Bool, true, false, List, [], ◌∷◌, ◌++◌, length, Option, Some, None, Ok, Err, refl, sym, ap, ◌∙◌, subst, arith, append_assoc, length-append, pos, negsuc}
use Rattle.std.specs.Prelude.{ℤ, if◌then◌else◌, nat_le, Result}
use Rattle.std.specs.List.{All}
use Rattle.std.proofs.lemmas.Nat.{mod_below}
use Rattle.std.proofs.Math.Nat.{div-one}
use Rattle.sl_faithful_code.specs.Fits.{ReferenceFits, SymbolFits, TermFits, TermsFit}
use Rattle.sl_faithful_code.specs.Operations.{Operation, amount, at_temp, binary, call_user, constant, in_space, load_from, narrow, range_of, temporary, unary}
use Rattle.sl_faithful_code.specs.Runs.{Final, stops}
use Rattle.sl_faithful_code.specs.Bits.{bits_into}
use Rattle.sl_faithful_code.specs.Terms.{code_before, copied, name_leaf, operand, read_into, read_leaf, size_of, symbol_into, symbol_leaf, term_before, term_into, term_operand, terms_before, terms_operands, two_operands, view}
use Rattle.sl_faithful_code.proofs.Base.{Apart, HasAt, Holds, from, has_back, has_front, has_len, holds_same, step, with_bind, with_final}
use Rattle.sl_faithful_code.proofs.Bytes.{Same, number_below, read_same, same_below, same_refl, same_trans}
use Rattle.sl_faithful_code.proofs.Numbers.{eight, extended}
use Rattle.sl_faithful_code.proofs.Bits.{bits_land}
use Rattle.sl_faithful_code.proofs.Lands.{Lands, Uses, at_place, lands_at, lands_of_uses, placed, put_run}
use Rattle.sl_faithful_code.proofs.Operators.{Has, binary_goes, piece_goes, unary_goes}
use Rattle.sl_faithful_code.proofs.Narrow.{narrow_value}
use Rattle.sl_section_equations.specs.Equations.{size_at}
use Rattle.sl_meaning_sections.specs.References.{Locals, Reference, Setting, load, local, memory, number, read, storage}
use Rattle.sl_meaning_sections.specs.Values.{◌>>=◌, Fault, Frame, applied, bits_of, calls_user_op, fault_in, fault_or, ordered, reference_at, space_of, symbol_value, value}
use Rattle.sl_pcode.specs.Machine.{Temporaries, put, value_of}
use Rattle.sl_pcode.specs.WellFormed.{IsWellFormedOp}
use Rattle.sl_pcode.specs.declared.effect.Effect.TheVariants.{Load, UserOp}
use Rattle.sl_pcode.specs.declared.operation.Op.{Op}
use Rattle.sl_pcode.specs.declared.varnode.Place2.{Place2}
use Rattle.sl_pcode.specs.declared.varnode.Place2.TheVariants.{Unique}
use Rattle.sl_pcode.specs.declared.varnode.Varnode.{Varnode}
use Rattle.sl_section_flat.specs.Sections as s
use Rattle.sl_section_flat.specs.Sections.{Symbol, Term, Terms, variable_of}
use Rattle.sl_section_flat.specs.declared.term.Order.{Order}
use Rattle.sl_section_flat.specs.declared.term.Order.TheVariants.{AsWritten, Exchanged}
use Rattle.sl_word.specs.Memories.{Memory}
use Rattle.sl_word.specs.Numbers.{residue, signed_value}
use Rattle.sl_word.specs.Operations.{value1}
use Rattle.sl_word.specs.declared.operation.Op1.{Op1}
use Rattle.sl_word.specs.declared.operation.Op1.TheVariants as one
use Rattle.sl_word.specs.declared.operation.Op2.{Op2}
use Rattle.sl_word.specs.declared.operation.Op2.TheVariants as two
use Rattle.sl_word.specs.declared.word.Size.{Size}
use Rattle.sl_word.proofs.InRange.{residue_below}
use Rattle.sl_word.proofs.Powers.{bytes_pos}

module _ (g : Setting) (code : List Op) where
  module _ (Local : (node x n : ℕ) → Type 0) (top : ℕ) (lays : Apart Local top) (well : All (IsWellFormedOp g.sizes) code) where
    abbrev pub temp : ℕ → ℕ
    temp t = top + t * 16

    -- an operation of one operand puts its value into a varnode
    unary_put : (op : Op1) (a : Varnode) (place : Place2) (offset : ℕ) (n : Size) (x p left t : ℕ) (m : Memory) (u u' : Temporaries) (go : ℕ → Final) → value_of g.endian g.sizes a m u' ≡ x → x < 256 ^ a.size.bytes
        → Has g code well p (unary op (placed place offset n) a) → Same t u u' → Lands g code left (p + 1) t (placed place offset n) m u go → from g code left p m u' ≡ go (value1 op a.size.bytes n.bytes x)
    unary_put op a place offset n x p left t m u u' go ex hx has same lands =
        unary_goes g code well op (placed place offset n) a x p left m u' go ex hx has (λ v lt. lands v u' same lt)

    -- ---- references

    eight_low : (z : ℤ) → residue 8 z < 256 ^ (size_at 8).bytes
    eight_low z = subst (λ k. residue 8 z < 256 ^ k) (sym eight) (residue_below 8 z)

    number_uses : (b : Bool) (z : ℤ) (n : Size) (t p left : ℕ) (m : Memory) (u : Temporaries) (go : ℕ → Final) → residue n.bytes (signed_value 8 (residue 8 z)) ≡ residue n.bytes z
        → let leaf : Option Varnode = if b then Some (constant (residue n.bytes z) n) else None in
        let ops = code_before leaf (copied leaf (at_temp top t n) (unary one.IntSext (at_temp top t n) (constant (residue 8 z) (size_at 8)) ∷ [])) in
        HasAt g code p ops → Uses g code left (p + length ops) (temp t) (operand leaf (at_temp top t n)) n.bytes m u go → from g code left p m u ≡ go (residue n.bytes z)
    number_uses true z n t p left m u go is has uses =
        at_place g code left p (p + 0) m u (omega arith) ∙ uses (residue n.bytes z) u (same_refl (temp t) u) (residue_below n.bytes z) (λ u'' same. refl)
    number_uses false z n t p left m u go is has uses =
        unary_put one.IntSext (constant (residue 8 z) (size_at 8)) Unique (temp t) n (residue 8 z) p left (temp t) m u u go refl (eight_low z) has.0 (same_refl (temp t) u) (lands_of_uses g code left (p + 1) (temp t) n m u go uses)
        ∙ ap (λ k. go (residue n.bytes (signed_value k (residue 8 z)))) eight ∙ ap go is

    number_lands : (b : Bool) (z : ℤ) (place : Place2) (offset : ℕ) (n : Size) (t p left : ℕ) (m : Memory) (u : Temporaries) (go : ℕ → Final) → residue n.bytes (signed_value 8 (residue 8 z)) ≡ residue n.bytes z
        → let leaf : Option Varnode = if b then Some (constant (residue n.bytes z) n) else None in
        let ops = copied leaf (placed place offset n) (unary one.IntSext (placed place offset n) (constant (residue 8 z) (size_at 8)) ∷ []) in
        HasAt g code p ops → Lands g code left (p + length ops) (temp t) (placed place offset n) m u go → from g code left p m u ≡ go (residue n.bytes z)
    number_lands true z place offset n t p left m u go is has lands =
        unary_put one.Copy (constant (residue n.bytes z) n) place offset n (residue n.bytes z) p left (temp t) m u u go refl (residue_below n.bytes z) has.0 (same_refl (temp t) u) lands
    number_lands false z place offset n t p left m u go is has lands =
        unary_put one.IntSext (constant (residue 8 z) (size_at 8)) place offset n (residue 8 z) p left (temp t) m u u go refl (eight_low z) has.0 (same_refl (temp t) u) lands
        ∙ ap (λ k. go (residue n.bytes (signed_value k (residue 8 z)))) eight ∙ ap go is

    loaded_below : (m : Memory) (space offset n : ℕ) → ((z o : ℕ) → m z o < 256) → load g m space offset n < 256 ^ n
    loaded_below m space offset n low = number_below g.endian _ n (λ i. low space _)

    abbrev pub ReferenceUses : Reference → Size → Type 0
    ReferenceUses r n = (t p left : ℕ) (m : Memory) (l : Locals) (u : Temporaries) (go : ℕ → Final) → ReferenceFits Local r n.bytes → Holds g.endian Local m l u
        → HasAt g code p (code_before (read_leaf r n) (read_into top t r (at_temp top t n)))
        → Uses g code left (p + length (code_before (read_leaf r n) (read_into top t r (at_temp top t n)))) (temp t) (operand (read_leaf r n) (at_temp top t n)) n.bytes m u go
        → from g code left p m u ≡ go (read g m l r n.bytes)

    memory_lands : (space : ℕ) (pointer : Reference) (width : Size) → ReferenceUses pointer width → (place : Place2) (offset : ℕ) (n : Size) (t p left : ℕ) (m : Memory) (l : Locals) (u : Temporaries) (go : ℕ → Final) → ReferenceFits Local pointer width.bytes → Holds g.endian Local m l u
        → let ops = code_before (read_leaf pointer width) (read_into top t pointer (at_temp top t width)) ++ load_from (placed place offset n) space (operand (read_leaf pointer width) (at_temp top t width)) ∷ [] in
        HasAt g code p ops → Lands g code left (p + length ops) (temp t) (placed place offset n) m u go → from g code left p m u ≡ go (load g m space (read g m l pointer width.bytes) n.bytes)
    memory_lands space pointer width pointer_uses place offset n t p left m l u go fits holds has lands =
        let before = code_before (read_leaf pointer width) (read_into top t pointer (at_temp top t width)) in
        let a = operand (read_leaf pointer width) (at_temp top t width) in
        let o = load_from (placed place offset n) space a in
        let len : p + length (before ++ o ∷ []) ≡ p + length before + 1 = omega (arith, length-append before (o ∷ [])) in
        pointer_uses t p left m l u (λ v. go (load g m space v n.bytes)) fits holds (has_front g code p before (o ∷ []) has)
        (λ v u' same lt reads.
        put_run g code (Load (placed place offset n) (amount space) a) (placed place offset n) (load g m space v n.bytes) (p + length before) left (temp t) m u u' go (has_back g code p before (o ∷ []) has).0
        (λ next jump leave fault. ap (λ x. put g.endian g.sizes (placed place offset n) (load g m space x n.bytes) m u' next) (reads u' (same_refl _ u')))
        (loaded_below m space v n.bytes holds.memory) same (lands_at g code left _ _ (temp t) (placed place offset n) m u go len lands))

    pub reference_uses : (r : Reference) (n : Size) → ReferenceUses r n
    reference_uses (storage space offset size) n t p left m l u go fits holds has uses =
        at_place g code left p (p + 0) m u (omega arith)
        ∙ uses (load g m space offset n.bytes) u (same_refl (temp t) u) (loaded_below m space offset n.bytes holds.memory) (λ u'' same. refl)
    reference_uses (local k x size) n t p left m l u go fits holds has uses =
        let b = lays.below k x n.bytes fits in
        at_place g code left p (p + 0) m u (omega arith)
        ∙ uses (l k x) u (same_refl (temp t) u) (subst (λ v. v < 256 ^ n.bytes) (holds.at k x n.bytes fits) (number_below g.endian (λ i. u (range_of k x + i)) n.bytes (λ i. holds.low (range_of k x + i))))
        (λ u'' same. read_same g.endian (temp t + 16) (range_of k x) n.bytes u u'' (omega arith) same ∙ holds.at k x n.bytes fits)
    reference_uses (number (pos v)) n t p left m l u go fits holds has uses =
        at_place g code left p (p + 0) m u (omega arith)
        ∙ uses (residue n.bytes (pos v)) u (same_refl (temp t) u) (residue_below n.bytes (pos v)) (λ u'' same. refl)
    reference_uses (number (negsuc v)) n t p left m l u go fits holds has uses =
        number_uses (nat_le n.bytes 8) (negsuc v) n t p left m u go (extended v n.bytes fits) has uses
    reference_uses (memory space size pointer width) n t p left m l u go fits holds has uses =
        memory_lands space pointer width (λ t p left m l u go. reference_uses pointer width t p left m l u go) Unique (temp t) n t p left m l u go fits holds has (lands_of_uses g code left _ (temp t) n m u go uses)

    pub reference_lands : (r : Reference) (place : Place2) (offset : ℕ) (n : Size) (t p left : ℕ) (m : Memory) (l : Locals) (u : Temporaries) (go : ℕ → Final) → ReferenceFits Local r n.bytes → Holds g.endian Local m l u
        → HasAt g code p (read_into top t r (placed place offset n)) → Lands g code left (p + length (read_into top t r (placed place offset n))) (temp t) (placed place offset n) m u go
        → from g code left p m u ≡ go (read g m l r n.bytes)
    reference_lands (storage space o size) place offset n t p left m l u go fits holds has lands =
        unary_put one.Copy (in_space space o n) place offset n (load g m space o n.bytes) p left (temp t) m u u go refl (loaded_below m space o n.bytes holds.memory) has.0 (same_refl (temp t) u) lands
    reference_lands (local k x size) place offset n t p left m l u go fits holds has lands =
        unary_put one.Copy (temporary (range_of k x) n) place offset n (l k x) p left (temp t) m u u go (holds.at k x n.bytes fits)
        (subst (λ v. v < 256 ^ n.bytes) (holds.at k x n.bytes fits) (number_below g.endian (λ i. u (range_of k x + i)) n.bytes (λ i. holds.low (range_of k x + i)))) has.0 (same_refl (temp t) u) lands
    reference_lands (number (pos v)) place offset n t p left m l u go fits holds has lands =
        unary_put one.Copy (constant (residue n.bytes (pos v)) n) place offset n (residue n.bytes (pos v)) p left (temp t) m u u go refl (residue_below n.bytes (pos v)) has.0 (same_refl (temp t) u) lands
    reference_lands (number (negsuc v)) place offset n t p left m l u go fits holds has lands =
        number_lands (nat_le n.bytes 8) (negsuc v) place offset n t p left m u go (extended v n.bytes fits) has lands
    reference_lands (memory space size pointer width) place offset n t p left m l u go fits holds has lands =
        memory_lands space pointer width (reference_uses pointer width) place offset n t p left m l u go fits holds has lands

    -- ---- names, expressions

    module _ (f : Frame) where
      pub symbol_lands : (a : Symbol) (place : Place2) (offset : ℕ) (n : Size) (t p left : ℕ) (m : Memory) (l : Locals) (u : Temporaries) (go : ℕ → Final) → SymbolFits Local g f a n.bytes → Holds g.endian Local m l u
          → HasAt g code p (symbol_into top g f t a (placed place offset n)) → Lands g code left (p + length (symbol_into top g f t a (placed place offset n))) (temp t) (placed place offset n) m u go
          → from g code left p m u ≡ go (symbol_value g f m l a n.bytes)
      symbol_lands (s.bit_range space o k low count) place offset n t p left m l u go fits holds has lands =
          bits_land g code well top (in_space space o (size_at k)) low count t place offset n p left m u u go (load g m space o (size_at k).bytes) fits.0 fits.1 (loaded_below m space o (size_at k).bytes holds.memory) (λ u'' same'. refl) (same_refl (temp t) u) has lands
      symbol_lands (s.register space o k) place offset n t p left m l u go fits holds has lands = reference_lands (storage space o (size_at k)) place offset n t p left m l u go fits holds has lands
      symbol_lands (s.local x) place offset n t p left m l u go fits holds has lands = reference_lands (local f.node x (f.size x)) place offset n t p left m l u go fits holds has lands
      symbol_lands (s.table i) place offset n t p left m l u go fits holds has lands = reference_lands (reference_at f.refs i) place offset n t p left m l u go fits holds has lands
      symbol_lands (s.attached i k) place offset n t p left m l u go fits holds has lands = reference_lands (reference_at f.refs i) place offset n t p left m l u go fits holds has lands
      symbol_lands (s.value i) place offset n t p left m l u go fits holds has lands = reference_lands (reference_at f.refs i) place offset n t p left m l u go fits holds has lands
      symbol_lands s.start place offset n t p left m l u go fits holds has lands = reference_lands (number g.start) place offset n t p left m l u go fits holds has lands
      symbol_lands s.next place offset n t p left m l u go fits holds has lands = reference_lands (number g.next) place offset n t p left m l u go fits holds has lands
      symbol_lands (s.integer v) place offset n t p left m l u go fits holds has lands = reference_lands (number (pos v)) place offset n t p left m l u go fits holds has lands

      pub symbol_uses : (a : Symbol) (n : Size) (t p left : ℕ) (m : Memory) (l : Locals) (u : Temporaries) (go : ℕ → Final) → SymbolFits Local g f a n.bytes → Holds g.endian Local m l u
          → HasAt g code p (code_before (symbol_leaf g f a n) (symbol_into top g f t a (at_temp top t n)))
          → Uses g code left (p + length (code_before (symbol_leaf g f a n) (symbol_into top g f t a (at_temp top t n)))) (temp t) (operand (symbol_leaf g f a n) (at_temp top t n)) n.bytes m u go
          → from g code left p m u ≡ go (symbol_value g f m l a n.bytes)
      symbol_uses (s.bit_range space o k low count) n t p left m l u go fits holds has uses =
          symbol_lands (s.bit_range space o k low count) Unique (temp t) n t p left m l u go fits holds has (lands_of_uses g code left _ (temp t) n m u go uses)
      symbol_uses (s.register space o k) n t p left m l u go fits holds has uses = reference_uses (storage space o (size_at k)) n t p left m l u go fits holds has uses
      symbol_uses (s.local x) n t p left m l u go fits holds has uses = reference_uses (local f.node x (f.size x)) n t p left m l u go fits holds has uses
      symbol_uses (s.table i) n t p left m l u go fits holds has uses = reference_uses (reference_at f.refs i) n t p left m l u go fits holds has uses
      symbol_uses (s.attached i k) n t p left m l u go fits holds has uses = reference_uses (reference_at f.refs i) n t p left m l u go fits holds has uses
      symbol_uses (s.value i) n t p left m l u go fits holds has uses = reference_uses (reference_at f.refs i) n t p left m l u go fits holds has uses
      symbol_uses s.start n t p left m l u go fits holds has uses = reference_uses (number g.start) n t p left m l u go fits holds has uses
      symbol_uses s.next n t p left m l u go fits holds has uses = reference_uses (number g.next) n t p left m l u go fits holds has uses
      symbol_uses (s.integer v) n t p left m l u go fits holds has uses = reference_uses (number (pos v)) n t p left m l u go fits holds has uses

      abbrev pub TermLands : Term → Type 0
      TermLands e = (place : Place2) (offset t p left : ℕ) (m : Memory) (l : Locals) (u : Temporaries) (go : ℕ → Final) → TermFits Local g f e → Holds g.endian Local m l u
          → HasAt g code p (term_into top g f t e (placed place offset (size_of g f e))) → Lands g code left (p + length (term_into top g f t e (placed place offset (size_of g f e)))) (temp t) (placed place offset (size_of g f e)) m u go
          → from g code left p m u ≡ with_final (value g f m l e) m go

      abbrev pub TermUses : Term → Type 0
      TermUses e = (t p left : ℕ) (m : Memory) (l : Locals) (u : Temporaries) (go : ℕ → Final) → TermFits Local g f e → Holds g.endian Local m l u
          → HasAt g code p (term_before top g f t e) → Uses g code left (p + length (term_before top g f t e)) (temp t) (term_operand top g f t e) (size_of g f e).bytes m u go
          → from g code left p m u ≡ with_final (value g f m l e) m go

      -- ---- the size of what is read

      leaf_size : (b : Bool) (v : ℕ) (n : Size) (o : ℕ) → (operand (if b then Some (constant v n) else None) (temporary o n)).size ≡ n
      leaf_size true v n o = refl
      leaf_size false v n o = refl

      reference_size : (r : Reference) (n : Size) (o : ℕ) → (operand (read_leaf r n) (temporary o n)).size ≡ n
      reference_size (storage space offset size) n o = refl
      reference_size (local k x size) n o = refl
      reference_size (number (pos v)) n o = refl
      reference_size (number (negsuc v)) n o = leaf_size (nat_le n.bytes 8) (residue n.bytes (negsuc v)) n o
      reference_size (memory space size pointer width) n o = refl

      pub symbol_operand_size : (a : Symbol) (n : Size) (o : ℕ) → (operand (symbol_leaf g f a n) (temporary o n)).size ≡ n
      symbol_operand_size (s.bit_range space offset k low count) n o = refl
      symbol_operand_size (s.register space offset k) n o = refl
      symbol_operand_size (s.local x) n o = refl
      symbol_operand_size (s.table i) n o = reference_size (reference_at f.refs i) n o
      symbol_operand_size (s.attached i k) n o = reference_size (reference_at f.refs i) n o
      symbol_operand_size (s.value i) n o = reference_size (reference_at f.refs i) n o
      symbol_operand_size s.start n o = reference_size (number g.start) n o
      symbol_operand_size s.next n o = reference_size (number g.next) n o
      symbol_operand_size (s.integer v) n o = refl

      view_size : (leaf : Option Varnode) (n : Size) (o : ℕ) → (operand (view g leaf n) (temporary o n)).size ≡ n
      view_size None n o = refl
      view_size (Some v) n o = refl

      pub name_size : (e : Term) (v : Varnode) → name_leaf g f e ≡ Some v → v.size ≡ size_of g f e
      name_size (s.name a x) v is = subst (λ leaf. (operand leaf (temporary 0 (f.size x))).size ≡ f.size x) is (symbol_operand_size a (f.size x) 0)
      name_size (s.paren e x) v is = name_size e v is
      name_size (s.number k x) v is = absurd (let no : ⊥ = cc in no)
      name_size (s.sized k n x) v is = absurd (let no : ⊥ = cc in no)
      name_size (s.kept e k x) v is = absurd (let no : ⊥ = cc in no)
      name_size (s.dropped e k x) v is = absurd (let no : ⊥ = cc in no)
      name_size (s.bits e low count x) v is = absurd (let no : ⊥ = cc in no)
      name_size (s.load space k e x) v is = absurd (let no : ⊥ = cc in no)
      name_size (s.one op e x) v is = absurd (let no : ⊥ = cc in no)
      name_size (s.two op order a b x) v is = absurd (let no : ⊥ = cc in no)
      name_size (s.user op es x) v is = absurd (let no : ⊥ = cc in no)

      -- ---- the lowest bytes of what a name stands for

      -- it is read where it is
      name_uses : (e : Term) (v : Varnode) (t p left : ℕ) (m : Memory) (l : Locals) (u : Temporaries) (go : ℕ → Final) → name_leaf g f e ≡ Some v → TermFits Local g f e → Holds g.endian Local m l u
          → p ≤ length code → Uses g code left p (temp t) v (size_of g f e).bytes m u go → from g code left p m u ≡ with_final (value g f m l e) m go
      name_uses (s.name a x) v t p left m l u go is fits holds inside uses =
          let here : p ≡ p + 0 = omega arith in
          let n = f.size x in
          let ops : Option Varnode → List Operation = λ leaf. code_before leaf (symbol_into top g f t a (at_temp top t n)) in
          subst (λ leaf. HasAt g code p (ops leaf) → Uses g code left (p + length (ops leaf)) (temp t) (operand leaf (at_temp top t n)) n.bytes m u go → from g code left p m u ≡ go (symbol_value g f m l a n.bytes)) is
          (symbol_uses a n t p left m l u go fits holds) inside (subst (λ q. Uses g code left q (temp t) v n.bytes m u go) here uses)
      name_uses (s.paren e x) v t p left m l u go is fits holds inside uses = name_uses e v t p left m l u go is fits holds inside uses
      name_uses (s.number k x) v t p left m l u go is fits holds inside uses = absurd (let no : ⊥ = cc in no)
      name_uses (s.sized k n x) v t p left m l u go is fits holds inside uses = absurd (let no : ⊥ = cc in no)
      name_uses (s.kept e k x) v t p left m l u go is fits holds inside uses = absurd (let no : ⊥ = cc in no)
      name_uses (s.dropped e k x) v t p left m l u go is fits holds inside uses = absurd (let no : ⊥ = cc in no)
      name_uses (s.bits e low count x) v t p left m l u go is fits holds inside uses = absurd (let no : ⊥ = cc in no)
      name_uses (s.load space k e x) v t p left m l u go is fits holds inside uses = absurd (let no : ⊥ = cc in no)
      name_uses (s.one op e x) v t p left m l u go is fits holds inside uses = absurd (let no : ⊥ = cc in no)
      name_uses (s.two op order a b x) v t p left m l u go is fits holds inside uses = absurd (let no : ⊥ = cc in no)
      name_uses (s.user op es x) v t p left m l u go is fits holds inside uses = absurd (let no : ⊥ = cc in no)

      -- and so is a view
      view_uses : (e : Term) (n : Size) (v : Varnode) (t p left : ℕ) (m : Memory) (l : Locals) (u : Temporaries) (go : ℕ → Final) → name_leaf g f e ≡ Some v → TermFits Local g f e × (n.bytes ≤ (size_of g f e).bytes) → Holds g.endian Local m l u
          → p ≤ length code → Uses g code left p (temp t) (narrow g.endian g.sizes v n) n.bytes m u go → from g code left p m u ≡ with_final (value g f m l e >>= (λ w. Ok (w % 256 ^ n.bytes))) m go
      view_uses e n v t p left m l u go is fits holds inside uses =
          let most : n.bytes ≤ v.size.bytes = subst (λ (k : Size). n.bytes ≤ k.bytes) (sym (name_size e v is)) fits.1 in
          name_uses e v t p left m l u (λ w. go (w % 256 ^ n.bytes)) is fits.0 holds inside
          (λ w u' same lt reads. uses (w % 256 ^ n.bytes) u' same (mod_below w (256 ^ n.bytes) (bytes_pos n.bytes))
          (λ u'' same'. narrow_value g.endian g.sizes m u'' v n most holds.memory (same'.low (same.low holds.low)) ∙ ap (λ q. q % 256 ^ n.bytes) (reads u'' same')))
          ∙ sym (with_bind (value g f m l e) (λ w. Ok (w % 256 ^ n.bytes)) m go)

      abbrev kept_into : Term → Size → Option Varnode → (t : ℕ) → (out : Varnode) → List Operation
      kept_into e n leaf t out = copied (view g leaf n) out (term_before top g f t e ++ binary two.Subpiece out (term_operand top g f t e) (amount 0) ∷ [])

      abbrev KeptLands : Term → Size → Option Varnode → Type 0
      KeptLands e n leaf = (place : Place2) (offset t p left : ℕ) (m : Memory) (l : Locals) (u : Temporaries) (go : ℕ → Final) → TermFits Local g f e × (n.bytes ≤ (size_of g f e).bytes) → Holds g.endian Local m l u
          → HasAt g code p (kept_into e n leaf t (placed place offset n)) → Lands g code left (p + length (kept_into e n leaf t (placed place offset n))) (temp t) (placed place offset n) m u go
          → from g code left p m u ≡ with_final (value g f m l e >>= (λ w. Ok (w % 256 ^ n.bytes))) m go

      kept_uses : (e : Term) (x : ℕ) (leaf : Option Varnode) → name_leaf g f e ≡ leaf → KeptLands e (f.size x) leaf → (t p left : ℕ) (m : Memory) (l : Locals) (u : Temporaries) (go : ℕ → Final) → TermFits Local g f e × ((f.size x).bytes ≤ (size_of g f e).bytes) → Holds g.endian Local m l u
          → let ops = code_before (view g leaf (f.size x)) (kept_into e (f.size x) leaf t (at_temp top t (f.size x))) in
          HasAt g code p ops → Uses g code left (p + length ops) (temp t) (operand (view g leaf (f.size x)) (at_temp top t (f.size x))) (f.size x).bytes m u go
          → from g code left p m u ≡ with_final (value g f m l e >>= (λ w. Ok (w % 256 ^ (f.size x).bytes))) m go
      kept_uses e x None is ih t p left m l u go fits holds has uses = ih Unique (temp t) t p left m l u go fits holds has (lands_of_uses g code left _ (temp t) (f.size x) m u go uses)
      kept_uses e x (Some v) is ih t p left m l u go fits holds has uses =
          let here : p + 0 ≡ p = omega arith in
          view_uses e (f.size x) v t p left m l u go is fits holds has (subst (λ q. Uses g code left q (temp t) (narrow g.endian g.sizes v (f.size x)) (f.size x).bytes m u go) here uses)

      -- what has a varnode of its own is read there, anything else from a temporary
      pub uses_of_lands : (e : Term) → TermLands e → TermUses e
      uses_of_lands (s.number v x) ih t p left m l u go fits holds has uses =
          at_place g code left p (p + 0) m u (omega arith) ∙ uses (v % 256 ^ (f.size x).bytes) u (same_refl (temp t) u) (mod_below v (256 ^ (f.size x).bytes) (bytes_pos (f.size x).bytes)) (λ u'' same. refl)
      uses_of_lands (s.sized v k x) ih t p left m l u go fits holds has uses =
          at_place g code left p (p + 0) m u (omega arith) ∙ uses (v % 256 ^ (f.size x).bytes) u (same_refl (temp t) u) (mod_below v (256 ^ (f.size x).bytes) (bytes_pos (f.size x).bytes)) (λ u'' same. refl)
      uses_of_lands (s.name a x) ih t p left m l u go fits holds has uses = symbol_uses a (f.size x) t p left m l u go fits holds has uses
      uses_of_lands (s.paren e x) ih t p left m l u go fits holds has uses = uses_of_lands e ih t p left m l u go fits holds has uses
      uses_of_lands (s.kept e k x) ih t p left m l u go fits holds has uses = kept_uses e x (name_leaf g f e) refl ih t p left m l u go fits holds has uses
      uses_of_lands (s.dropped e k x) ih t p left m l u go fits holds has uses = ih Unique (temp t) t p left m l u go fits holds has (lands_of_uses g code left _ (temp t) (f.size x) m u go uses)
      uses_of_lands (s.bits e low count x) ih t p left m l u go fits holds has uses = ih Unique (temp t) t p left m l u go fits holds has (lands_of_uses g code left _ (temp t) (f.size x) m u go uses)
      uses_of_lands (s.load space k e x) ih t p left m l u go fits holds has uses = ih Unique (temp t) t p left m l u go fits holds has (lands_of_uses g code left _ (temp t) (f.size x) m u go uses)
      uses_of_lands (s.one op e x) ih t p left m l u go fits holds has uses = ih Unique (temp t) t p left m l u go fits holds has (lands_of_uses g code left _ (temp t) (f.size x) m u go uses)
      uses_of_lands (s.two op order a b x) ih t p left m l u go fits holds has uses = ih Unique (temp t) t p left m l u go fits holds has (lands_of_uses g code left _ (temp t) (f.size x) m u go uses)
      uses_of_lands (s.user op es x) ih t p left m l u go fits holds has uses = ih Unique (temp t) t p left m l u go fits holds has (lands_of_uses g code left _ (temp t) (f.size x) m u go uses)

      pub operand_size : (e : Term) (t : ℕ) → (term_operand top g f t e).size ≡ size_of g f e
      operand_size (s.number v x) t = refl
      operand_size (s.sized v k x) t = refl
      operand_size (s.name a x) t = symbol_operand_size a (f.size x) (temp t)
      operand_size (s.paren e x) t = operand_size e t
      operand_size (s.kept e k x) t = view_size (name_leaf g f e) (f.size x) (temp t)
      operand_size (s.dropped e k x) t = refl
      operand_size (s.bits e low count x) t = refl
      operand_size (s.load space k e x) t = refl
      operand_size (s.one op e x) t = refl
      operand_size (s.two op order a b x) t = refl
      operand_size (s.user op es x) t = refl

      -- ---- operators

      binary_run : (op : Op2) (a b : Varnode) (place : Place2) (offset : ℕ) (n : Size) (x y q left t : ℕ) (m : Memory) (u u' : Temporaries) (go : ℕ → Final)
          → value_of g.endian g.sizes a m u' ≡ x → value_of g.endian g.sizes b m u' ≡ y → x < 256 ^ a.size.bytes → y < 256 ^ b.size.bytes
          → Has g code well q (binary op (placed place offset n) a b) → Same (temp t) u u' → Lands g code left (q + 1) (temp t) (placed place offset n) m u go
          → from g code left q m u' ≡ with_final (applied op a.size.bytes n.bytes x y) m go
      binary_run op a b place offset n x y q left t m u u' go ex ey hx hy has same lands =
          binary_goes g code well op (placed place offset n) a b x y q left m u' go ex ey hx hy has (λ v lt. lands v u' same lt)

      ordered_run : (op : Op2) (order : Order) (a b : Varnode) (na nb : Size) (place : Place2) (offset : ℕ) (n : Size) (x y q left t : ℕ) (m : Memory) (u u' : Temporaries) (go : ℕ → Final)
          → a.size ≡ na → b.size ≡ nb → value_of g.endian g.sizes a m u' ≡ x → value_of g.endian g.sizes b m u' ≡ y → x < 256 ^ na.bytes → y < 256 ^ nb.bytes
          → HasAt g code q (two_operands op order (placed place offset n) a b ∷ []) → Same (temp t) u u' → Lands g code left (q + 1) (temp t) (placed place offset n) m u go
          → from g code left q m u' ≡ with_final (ordered op order na.bytes nb.bytes n.bytes x y) m go
      ordered_run op AsWritten a b na nb place offset n x y q left t m u u' go sa sb ex ey hx hy has same lands =
          binary_run op a b place offset n x y q left t m u u' go ex ey (subst (λ (k : Size). x < 256 ^ k.bytes) (sym sa) hx) (subst (λ (k : Size). y < 256 ^ k.bytes) (sym sb) hy) has.0 same lands
          ∙ ap (λ (k : Size). with_final (applied op k.bytes n.bytes x y) m go) sa
      ordered_run op Exchanged a b na nb place offset n x y q left t m u u' go sa sb ex ey hx hy has same lands =
          binary_run op b a place offset n y x q left t m u u' go ey ex (subst (λ (k : Size). y < 256 ^ k.bytes) (sym sb) hy) (subst (λ (k : Size). x < 256 ^ k.bytes) (sym sa) hx) has.0 same lands
          ∙ ap (λ (k : Size). with_final (applied op k.bytes n.bytes y x) m go) sb

      unary_run : (op : Op1) (a : Varnode) (na : Size) (place : Place2) (offset : ℕ) (n : Size) (x q left t : ℕ) (m : Memory) (u u' : Temporaries) (go : ℕ → Final)
          → a.size ≡ na → value_of g.endian g.sizes a m u' ≡ x → x < 256 ^ na.bytes
          → HasAt g code q (unary op (placed place offset n) a ∷ []) → Same (temp t) u u' → Lands g code left (q + 1) (temp t) (placed place offset n) m u go
          → from g code left q m u' ≡ go (value1 op na.bytes n.bytes x)
      unary_run op a na place offset n x q left t m u u' go sa ex hx has same lands =
          unary_put op a place offset n x q left (temp t) m u u' go ex (subst (λ (k : Size). x < 256 ^ k.bytes) (sym sa) hx) has.0 same lands
          ∙ ap (λ (k : Size). go (value1 op k.bytes n.bytes x)) sa

      piece_run : (e : Term) (t k : ℕ) (place : Place2) (offset : ℕ) (n : Size) (x q left : ℕ) (m : Memory) (u u' : Temporaries) (go : ℕ → Final)
          → value_of g.endian g.sizes (term_operand top g f t e) m u' ≡ x → x < 256 ^ (size_of g f e).bytes
          → HasAt g code q (binary two.Subpiece (placed place offset n) (term_operand top g f t e) (amount k) ∷ []) → Same (temp t) u u' → Lands g code left (q + 1) (temp t) (placed place offset n) m u go
          → from g code left q m u' ≡ go (x / 256 ^ k % 256 ^ n.bytes)
      piece_run e t k place offset n x q left m u u' go ex hx has same lands =
          piece_goes g code well (placed place offset n) (term_operand top g f t e) x k q left m u' go ex (subst (λ (k : Size). x < 256 ^ k.bytes) (sym (operand_size e t)) hx) has.0 (λ v lt. lands v u' same lt)

      -- the lowest bytes are put into a varnode
      kept_lands : (e : Term) (n : Size) (leaf : Option Varnode) → name_leaf g f e ≡ leaf → TermUses e → KeptLands e n leaf
      kept_lands e n None is e_uses place offset t p left m l u go fits holds has lands =
          let before = term_before top g f t e in
          let a = term_operand top g f t e in
          let out = placed place offset n in
          let o = binary two.Subpiece out a (amount 0) in
          let len : p + length (before ++ o ∷ []) ≡ p + length before + 1 = omega (arith, length-append before (o ∷ [])) in
          e_uses t p left m l u (λ v. go (v % 256 ^ n.bytes)) fits.0 holds (has_front g code p before (o ∷ []) has)
          (λ v u' same lt reads. piece_run e t 0 place offset n v (p + length before) left m u u' go (reads u' (same_refl _ u')) lt (has_back g code p before (o ∷ []) has) same (lands_at g code left _ _ (temp t) out m u go len lands)
          ∙ ap (λ q. go (q % 256 ^ n.bytes)) (div-one v))
          ∙ sym (with_bind (value g f m l e) (λ v. Ok (v % 256 ^ n.bytes)) m go)
      kept_lands e n (Some v) is e_uses place offset t p left m l u go fits holds has lands =
          let a = narrow g.endian g.sizes v n in
          let inside : p ≤ length code = omega (arith, has_len g code p (unary one.Copy (placed place offset n) a ∷ []) has) in
          view_uses e n v t p left m l u go is fits holds inside
          (λ w u' same lt reads. unary_put one.Copy a place offset n w p left (temp t) m u u' go (reads u' (same_refl _ u')) lt has.0 same lands)

      -- ---- all expressions

      stopped : (r : Result ℕ Fault) (m : Memory) (fault : Fault) → with_final r m (λ v. stops fault m) ≡ stops (fault_or r fault) m
      stopped (Ok v) m fault = refl
      stopped (Err first) m fault = refl

      mutual
        pub term_lands : (e : Term) → TermLands e
        term_lands (s.number v x) place offset t p left m l u go fits holds has lands =
            unary_put one.Copy (constant (v % 256 ^ (f.size x).bytes) (f.size x)) place offset (f.size x) (v % 256 ^ (f.size x).bytes) p left (temp t) m u u go refl
            (mod_below v (256 ^ (f.size x).bytes) (bytes_pos (f.size x).bytes)) has.0 (same_refl (temp t) u) lands
        term_lands (s.sized v k x) place offset t p left m l u go fits holds has lands =
            unary_put one.Copy (constant (v % 256 ^ (f.size x).bytes) (f.size x)) place offset (f.size x) (v % 256 ^ (f.size x).bytes) p left (temp t) m u u go refl
            (mod_below v (256 ^ (f.size x).bytes) (bytes_pos (f.size x).bytes)) has.0 (same_refl (temp t) u) lands
        term_lands (s.name a x) place offset t p left m l u go fits holds has lands = symbol_lands a place offset (f.size x) t p left m l u go fits holds has lands
        term_lands (s.paren e x) place offset t p left m l u go fits holds has lands = term_lands e place offset t p left m l u go fits holds has lands
        term_lands (s.kept e k x) place offset t p left m l u go fits holds has lands = kept_lands e (f.size x) (name_leaf g f e) refl (uses_of_lands e (term_lands e)) place offset t p left m l u go fits holds has lands
        term_lands (s.dropped e k x) place offset t p left m l u go fits holds has lands =
            let before = term_before top g f t e in
            let a = term_operand top g f t e in
            let n = f.size x in
            let out = placed place offset n in
            let o = binary two.Subpiece out a (amount k) in
            let len : p + length (before ++ o ∷ []) ≡ p + length before + 1 = omega (arith, length-append before (o ∷ [])) in
            uses_of_lands e (term_lands e) t p left m l u (λ v. go (v / 256 ^ k % 256 ^ n.bytes)) fits holds (has_front g code p before (o ∷ []) has)
            (λ v u' same lt reads. piece_run e t k place offset n v (p + length before) left m u u' go (reads u' (same_refl _ u')) lt (has_back g code p before (o ∷ []) has) same (lands_at g code left _ _ (temp t) out m u go len lands))
            ∙ sym (with_bind (value g f m l e) (λ v. Ok (v / 256 ^ k % 256 ^ n.bytes)) m go)
        term_lands (s.bits e low count x) place offset t p left m l u go fits holds has lands =
            let before = term_before top g f t e in
            let a = term_operand top g f t e in
            let n = f.size x in
            let out = placed place offset n in
            let ops = bits_into top t a low count out in
            let len : p + length (before ++ ops) ≡ p + length before + length ops = omega (arith, length-append before ops) in
            let within : low + count ≤ 8 * a.size.bytes = subst (λ (k : Size). low + count ≤ 8 * k.bytes) (sym (operand_size e t)) fits.1 in
            uses_of_lands e (term_lands e) t p left m l u (λ v. go (bits_of low count v)) fits.0 holds (has_front g code p before ops has)
            (λ v u' same lt reads. bits_land g code well top a low count t place offset n (p + length before) left m u u' go v within fits.2 (subst (λ (k : Size). v < 256 ^ k.bytes) (sym (operand_size e t)) lt) reads same (has_back g code p before ops has) (lands_at g code left _ _ (temp t) out m u go len lands))
            ∙ sym (with_bind (value g f m l e) (λ v. Ok (bits_of low count v)) m go)
        term_lands (s.load space k e x) place offset t p left m l u go fits holds has lands =
            let before = term_before top g f t e in
            let a = term_operand top g f t e in
            let n = f.size x in
            let out = placed place offset n in
            let z = space_of g space in
            let o = load_from out z a in
            let len : p + length (before ++ o ∷ []) ≡ p + length before + 1 = omega (arith, length-append before (o ∷ [])) in
            uses_of_lands e (term_lands e) t p left m l u (λ v. go (load g m z v n.bytes)) fits holds (has_front g code p before (o ∷ []) has)
            (λ v u' same lt reads. put_run g code (Load out (amount z) a) out (load g m z v n.bytes) (p + length before) left (temp t) m u u' go (has_back g code p before (o ∷ []) has).0
            (λ next jump leave fault. ap (λ q. put g.endian g.sizes out (load g m z q n.bytes) m u' next) (reads u' (same_refl _ u')))
            (loaded_below m z v n.bytes holds.memory) same (lands_at g code left _ _ (temp t) out m u go len lands))
            ∙ sym (with_bind (value g f m l e) (λ v. Ok (load g m z v n.bytes)) m go)
        term_lands (s.one op e x) place offset t p left m l u go fits holds has lands =
            let before = term_before top g f t e in
            let a = term_operand top g f t e in
            let n = f.size x in
            let out = placed place offset n in
            let o = unary op out a in
            let len : p + length (before ++ o ∷ []) ≡ p + length before + 1 = omega (arith, length-append before (o ∷ [])) in
            uses_of_lands e (term_lands e) t p left m l u (λ v. go (value1 op (size_of g f e).bytes n.bytes v)) fits holds (has_front g code p before (o ∷ []) has)
            (λ v u' same lt reads. unary_run op a (size_of g f e) place offset n v (p + length before) left t m u u' go (operand_size e t) (reads u' (same_refl _ u')) lt (has_back g code p before (o ∷ []) has) same (lands_at g code left _ _ (temp t) out m u go len lands))
            ∙ sym (with_bind (value g f m l e) (λ v. Ok (value1 op (size_of g f e).bytes n.bytes v)) m go)
        term_lands (s.two op order a b x) place offset t p left m l u go fits holds has lands =
            let ca = term_before top g f t a in
            let cb = term_before top g f (t + 1) b in
            let va = term_operand top g f t a in
            let vb = term_operand top g f (t + 1) b in
            let na = size_of g f a in
            let nb = size_of g f b in
            let n = f.size x in
            let out = placed place offset n in
            let o = two_operands op order out va vb in
            let back = has_back g code p ca (cb ++ o ∷ []) has in
            let len : p + length (ca ++ (cb ++ o ∷ [])) ≡ p + length ca + length cb + 1 = omega (arith, length-append ca (cb ++ o ∷ []), length-append cb (o ∷ [])) in
            let up : temp (t + 1) ≡ temp t + 16 = omega arith in
            uses_of_lands a (term_lands a) t p left m l u (λ v. with_final (value g f m l b >>= (λ w. ordered op order na.bytes nb.bytes n.bytes v w)) m go) fits.0 holds (has_front g code p ca _ has)
            (λ v w same lt reads.
            uses_of_lands b (term_lands b) (t + 1) (p + length ca) left m l w (λ y. with_final (ordered op order na.bytes nb.bytes n.bytes v y) m go) fits.1 (holds_same g.endian Local top lays (temp t) m l u w (omega arith) same holds) (has_front g code _ cb _ back)
            (λ y w' same' lt' reads'.
            ordered_run op order va vb na nb place offset n v y (p + length ca + length cb) left t m u w' go (operand_size a t) (operand_size b (t + 1)) (reads w' (same_below _ _ w w' (omega arith) same')) (reads' w' (same_refl _ w')) lt lt' (has_back g code _ cb _ back)
            (same_trans (temp t) (temp (t + 1)) u w w' (omega arith) same same') (lands_at g code left _ _ (temp t) out m u go len lands))
            ∙ sym (with_bind (value g f m l b) (λ y. ordered op order na.bytes nb.bytes n.bytes v y) m go))
            ∙ sym (with_bind (value g f m l a) (λ v. value g f m l b >>= (λ w. ordered op order na.bytes nb.bytes n.bytes v w)) m go)
        term_lands (s.user op es x) place offset t p left m l u go fits holds has lands = terms_stop es op (terms_operands top g f t es) t p left m l u fits holds has

        -- a user operation behind its arguments
        pub terms_stop : (es : Terms) (op : ℕ) (arguments : List Varnode) (t p left : ℕ) (m : Memory) (l : Locals) (u : Temporaries) → TermsFit Local g f es → Holds g.endian Local m l u
            → HasAt g code p (terms_before top g f t es ++ call_user op arguments ∷ []) → from g code left p m u ≡ stops (fault_in g f m l (calls_user_op op) es) m
        terms_stop s.no_terms op arguments t p left m l u fits holds has = step g code (UserOp (amount op)) left p m u has.0
        terms_stop (s.then_term e es) op arguments t p left m l u fits holds has =
            let before = term_before top g f t e in
            let rest = terms_before top g f (t + 1) es in
            let o = call_user op arguments in
            let has' = subst (λ os. HasAt g code p os) (append_assoc before rest (o ∷ [])) has in
            uses_of_lands e (term_lands e) t p left m l u (λ v. stops (fault_in g f m l (calls_user_op op) es) m) fits.0 holds (has_front g code p before (rest ++ o ∷ []) has')
            (λ v w same lt reads. terms_stop es op arguments (t + 1) (p + length before) left m l w fits.1 (holds_same g.endian Local top lays (temp t) m l u w (omega arith) same holds) (has_back g code p before (rest ++ o ∷ []) has'))
            ∙ stopped (value g f m l e) m (fault_in g f m l (calls_user_op op) es)

      pub term_uses : (e : Term) → TermUses e
      term_uses e = uses_of_lands e (term_lands e)
