-- The operations of a section lead to the default space alone, call the user operations that the
-- section names, and do something.
use Rattle.std.proofs.Common.{ℕ, ◌+◌, ◌-◌, ◌*◌, ◌%◌, ◌^◌, Bool, false, List, [], ◌∷◌, ◌++◌, length, Option}
use Rattle.std.proofs.Common.{Some, None, refl}
use Rattle.std.specs.Prelude.{◌&&◌, ◌==◌, if◌then◌else◌, nat_le, nat_lt}
use Rattle.sl_faithful_code.specs.Bits.{bits_by_mask, bits_by_shifts, bits_into, bits_put, clear}
use Rattle.sl_faithful_code.specs.Bits.{clear_above, cleared, has_mask, has_more, is_below, join}
use Rattle.sl_faithful_code.specs.Bits.{lower, lowered, mask, number_at, number_put, ones, others}
use Rattle.sl_faithful_code.specs.Bits.{put_by_mask, put_by_shifts, raise, raised, shorten}
use Rattle.sl_faithful_code.specs.Bits.{shortened, taken, value_put, widen, widened}
use Rattle.sl_faithful_code.specs.Operations.{Operation, amount, at_temp, binary, call_user, constant}
use Rattle.sl_faithful_code.specs.Operations.{exit, exit_if, in_space, load_from, range_of, store_to}
use Rattle.sl_faithful_code.specs.Operations.{temporary, unary}
use Rattle.sl_faithful_code.specs.Statements.{child_code, direct, label_at, memory_put}
use Rattle.sl_faithful_code.specs.Statements.{reference_bits, reference_set, section_code, set_bits_code}
use Rattle.sl_faithful_code.specs.Statements.{set_code, step_code, step_length, steps_code, store_code}
use Rattle.sl_faithful_code.specs.Statements.{symbol_before, symbol_bits, symbol_operand}
use Rattle.sl_faithful_code.specs.Terms.{code_before, name_leaf, number_leaf, operand, read_into, read_leaf}
use Rattle.sl_faithful_code.specs.Terms.{size_of, symbol_into, symbol_leaf, temp_of, term_before, term_into}
use Rattle.sl_faithful_code.specs.Terms.{term_leaf, term_operand, terms_before, terms_operands}
use Rattle.sl_faithful_code.specs.Terms.{two_operands, view}
use Rattle.sl_section_equations.specs.Equations.{size_at}
use Rattle.sl_faithful_lists.proofs.Operations.{AllLead, Leads, binary_leads, lead_append}
use Rattle.sl_faithful_lists.proofs.Operations.{lead_before, lead_choice, lead_copied, lead_taken}
use Rattle.sl_faithful_lists.proofs.Operations.{lead_then, ordered_leads, unary_leads}
use Rattle.sl_faithful_lists.specs.Targets.{IsInDefault}
use Rattle.sl_faithful_keeping.specs.Names.{StepNames, StepsName, TermNames, TermsName}
use Rattle.sl_meaning_sections.specs.References.{Reference, Setting, local, memory, number, storage}
use Rattle.sl_meaning_sections.specs.Values.{Frame, meant, space_of, symbol_size}
use Rattle.sl_pcode.specs.declared.code.Code.TheVariants as code
use Rattle.sl_pcode.specs.declared.varnode.Varnode.{Varnode}
use Rattle.sl_section_flat.specs.Sections as s
use Rattle.sl_section_flat.specs.Sections.{Direct, Label, Step, Symbol, Term, Terms}
use Rattle.sl_section_flat.specs.Chains.{chain}
use Rattle.sl_word.specs.Numbers.{residue}
use Rattle.sl_word.specs.declared.operation.Op1.{Op1}
use Rattle.sl_word.specs.declared.operation.Op1.TheVariants.{Copy, IntSext, IntZext}
use Rattle.sl_word.specs.declared.operation.Op2.{Op2}
use Rattle.sl_word.specs.declared.operation.Op2.TheVariants.{IntAdd, IntAnd, IntLeft, IntOr}
use Rattle.sl_word.specs.declared.operation.Op2.TheVariants.{IntRight, IntSub, Subpiece}
use Rattle.sl_word.specs.declared.word.Size.{Size}

module _ (top : ℕ) (g : Setting) (userops : ℕ) where
  abbrev Lead : List Operation → Type 0
  Lead os = AllLead g.default userops os

  append : (a b : List Operation) → Lead a → Lead b → Lead (a ++ b)
  append a b h k = lead_append g.default userops a b h k

  followed : (a : List Operation) (o : Operation) → Lead a → Leads g.default userops o
      → Lead (a ++ o ∷ [])
  followed a o h k = lead_then g.default userops a o h k

  one_leads : (f : Op1) (out a : Varnode) → Leads g.default userops (unary f out a)
  one_leads f out a = unary_leads g.default userops f out a

  two_leads : (f : Op2) (out a b : Varnode) → Leads g.default userops (binary f out a b)
  two_leads f out a b = binary_leads g.default userops f out a b

  choice : (c : Bool) (a b : List Operation) → Lead a → Lead b → Lead (if c then a else b)
  choice c a b h k = lead_choice g.default userops c a b h k

  may_lead : (c : Bool) (o : Operation) → Leads g.default userops o → Lead (taken c o)
  may_lead c o h = lead_taken g.default userops c o h

  -- ---- what is read and written

  read_leads : (t : ℕ) (r : Reference) (out : Varnode) → Lead (read_into top t r out)
  read_leads t (storage space offset size) out =
      (one_leads Copy out (in_space space offset out.size), tt)
  read_leads t (local node x size) out =
      (one_leads Copy out (temporary (range_of node x) out.size), tt)
  read_leads t (number v) out =
      lead_copied g.default userops (number_leaf v out.size) out
      (unary IntSext out (constant (residue 8 v) (size_at 8)) ∷ [])
      (one_leads IntSext out (constant (residue 8 v) (size_at 8)), tt)
  read_leads t (memory space size pointer width) out =
      let temp = at_temp top t width in
      followed (code_before (read_leaf pointer width) (read_into top t pointer temp))
      (load_from out space (operand (read_leaf pointer width) temp))
      (lead_before g.default userops (read_leaf pointer width) (read_into top t pointer temp)
      (read_leads t pointer temp)) (tt, tt, tt)

  bits_lead : (t : ℕ) (from : Varnode) (low count : ℕ) (out : Varnode)
      → Lead (bits_into top t from low count out)
  unfolding bits_into
  bits_lead t from low count out =
      let tall = at_temp top t from.size in
      let short = at_temp top t out.size in
      let a = lowered top t from low in
      let b = shortened top t a out.size in
      let ones = constant (ones count) out.size in
      let lowers = may_lead (nat_lt 0 low) (binary IntRight tall from (amount low))
      (two_leads IntRight tall from (amount low)) in
      let shortens = may_lead (nat_lt out.size.bytes a.size.bytes)
      (binary Subpiece short a (amount 0)) (two_leads Subpiece short a (amount 0)) in
      choice (has_mask from.size low count && nat_le out.size.bytes from.size.bytes)
      (bits_by_mask top t from low count out) (bits_by_shifts top t from low count out)
      (choice (nat_lt (low + count) (8 * from.size.bytes) && nat_lt count (8 * out.size.bytes))
      (lower top t from low ++ clear_above top t a count out) _
      (append (lower top t from low) (clear_above top t a count out) lowers
      (followed (shorten top t a out.size) (binary IntAnd out b ones) shortens
      (two_leads IntAnd out b ones)))
      (choice (nat_lt out.size.bytes from.size.bytes)
      (lower top t from low ++ binary Subpiece out a (amount 0) ∷ [])
      (binary IntRight out from (amount low) ∷ [])
      (followed (lower top t from low) (binary Subpiece out a (amount 0)) lowers
      (two_leads Subpiece out a (amount 0))) (two_leads IntRight out from (amount low), tt))) (
        two_leads IntLeft tall from (amount (8 * from.size.bytes - (low + count))),
        (
          two_leads IntRight tall tall (amount (8 * from.size.bytes - count)),
          (two_leads Subpiece out tall (amount 0), tt),
        ),
      )

  module _ (t : ℕ) (n : Size) (old v : Varnode) (low count : ℕ) (out : Varnode) where
    abbrev new : Varnode
    new = at_temp top t n

    abbrev field : Varnode
    field = at_temp top (t + 1) n

    join_leads : (at : Varnode) → Lead (join top t n old at low count out)
    join_leads at =
        (two_leads IntAnd field old (others n low count), (two_leads IntOr out field at, tt))

    number_leads : (k : ℕ) → Lead (number_put top t n old low count k out)
    number_leads k =
        choice (k == 0) (binary IntAnd out old (others n low count) ∷ []) _
        (two_leads IntAnd out old (others n low count), tt)
        (choice (k == mask low count) (binary IntOr out old (constant k n) ∷ [])
        (join top t n old (constant k n) low count out)
        (two_leads IntOr out old (constant k n), tt) (join_leads (constant k n)))

    value_bits_lead : (below : Bool) → Lead (value_put top t n old v below low count out)
    value_bits_lead below =
        let more = has_more n v below low count in
        let a = widened top t n v in
        let b = cleared top more t n a in
        let ones = constant (ones count) n in
        append (widen top t n v) _
        (may_lead (nat_lt v.size.bytes n.bytes) (unary IntZext new v) (one_leads IntZext new v))
        (append (clear top more t n a count) _
        (may_lead more (binary IntAnd new a ones) (two_leads IntAnd new a ones))
        (append (raise top t n b low) (join top t n old (raised top t n b low) low count out)
        (may_lead (nat_lt 0 low) (binary IntLeft new b (amount low))
        (two_leads IntLeft new b (amount low))) (join_leads (raised top t n b low))))

    shifts_lead : Lead (put_by_shifts top t n old v low count out)
    shifts_lead =
        let up = amount (8 * n.bytes - (low + count)) in
        let down = amount (8 * n.bytes - count) in (
          one_leads IntZext new v,
          (
            two_leads IntLeft new new down,
            (
              two_leads IntRight new new up,
              (
                two_leads IntLeft field old up,
                (
                  two_leads IntRight field field down,
                  (
                    two_leads IntLeft field field (amount low),
                    (two_leads IntSub field old field, (two_leads IntAdd out field new, tt)),
                  ),
                ),
              ),
            ),
          ),
        )

    masked_leads : (k : Option ℕ) (below : Bool)
        → Lead (put_by_mask top k t n old v below low count out)
    masked_leads (Some k) below = number_leads (k % 2 ^ count * 2 ^ low)
    masked_leads None below = value_bits_lead below

    put_leads : (below : Bool) → Lead (bits_put top t n old v below low count out)
    unfolding bits_put
    put_leads below =
        choice (has_mask n low count)
        (put_by_mask top (number_at v.place v.offset) t n old v below low count out)
        (put_by_shifts top t n old v low count out)
        (masked_leads (number_at v.place v.offset) below) shifts_lead

  memory_leads : (t space : ℕ) (pointer : Reference) (width : Size) (v : Varnode)
      → Lead (memory_put top t space pointer width v)
  memory_leads t space pointer width v =
      let temp = at_temp top t width in
      followed (code_before (read_leaf pointer width) (read_into top t pointer temp))
      (store_to space (operand (read_leaf pointer width) temp) v)
      (lead_before g.default userops (read_leaf pointer width) (read_into top t pointer temp)
      (read_leads t pointer temp)) (tt, tt, tt)

  reference_leads : (r : Reference) (n : Size) (old v : Varnode) (below : Bool) (low count : ℕ)
      → Lead (reference_bits top r n old v below low count)
  reference_leads (storage space offset size) n old v below low count =
      put_leads 2 n old v low count (in_space space offset n) below
  reference_leads (local node x size) n old v below low count =
      put_leads 2 n old v low count (temporary (range_of node x) n) below
  reference_leads (number z) n old v below low count = tt
  reference_leads (memory space size pointer width) n old v below low count =
      append (bits_put top 2 n old v below low count (at_temp top 2 n))
      (memory_put top 4 space pointer width (at_temp top 2 n))
      (put_leads 2 n old v low count (at_temp top 2 n) below)
      (memory_leads 4 space pointer width (at_temp top 2 n))

  module _ (f : Frame) where
    symbol_leads : (t : ℕ) (a : Symbol) (out : Varnode) → Lead (symbol_into top g f t a out)
    symbol_leads t (s.bit_range space offset k low count) out =
        bits_lead t (in_space space offset (size_at k)) low count out
    symbol_leads t a out = read_leads t (meant g f a) out

    before_leads : (t : ℕ) (a : Symbol) (n : Size) → Lead (symbol_before top g f t a n)
    before_leads t a n =
        lead_before g.default userops (symbol_leaf g f a n)
        (symbol_into top g f t a (at_temp top t n)) (symbol_leads t a (at_temp top t n))

    symbol_bits_lead : (a : Symbol) (n : Size) (old v : Varnode) (below : Bool) (low count : ℕ)
        → Lead (symbol_bits top g f a n old v below low count)
    symbol_bits_lead (s.bit_range space offset k low' count') n old v below low count =
        let whole = in_space space offset (size_at k) in
        append (bits_put top 2 n old v below low count (at_temp top 2 n))
        (bits_put top 4 (size_at k) whole (at_temp top 2 n) false low' count' whole)
        (put_leads 2 n old v low count (at_temp top 2 n) below)
        (put_leads 4 (size_at k) whole (at_temp top 2 n) low' count' whole false)
    symbol_bits_lead a n old v below low count =
        reference_leads (meant g f a) n old v below low count

    -- ---- expressions, and statements

    module _ (IsSo : Symbol → Type 0) (spaces : ℕ) where
      abbrev Names : Term → Type 0
      Names e = TermNames IsSo spaces userops e

      mutual
        term_leads : (t : ℕ) (e : Term) (out : Varnode) → Names e
            → Lead (term_into top g f t e out)
        term_leads t (s.number v x) out h =
            (one_leads Copy out (constant (v % 256 ^ (f.size x).bytes) (f.size x)), tt)
        term_leads t (s.sized v n x) out h =
            (one_leads Copy out (constant (v % 256 ^ (f.size x).bytes) (f.size x)), tt)
        term_leads t (s.name a x) out h = symbol_leads t a out
        term_leads t (s.paren e x) out h = term_leads t e out h
        term_leads t (s.kept e n x) out h =
            let piece = binary Subpiece out (term_operand top g f t e) (amount 0) in
            lead_copied g.default userops (view g (name_leaf g f e) (f.size x)) out
            (term_before top g f t e ++ piece ∷ [])
            (followed (term_before top g f t e) piece
            (lead_before g.default userops (term_leaf g f e)
            (term_into top g f t e (temp_of top g f t e))
            (term_leads t e (temp_of top g f t e) h))
            (two_leads Subpiece out (term_operand top g f t e) (amount 0)))
        term_leads t (s.dropped e n x) out h =
            followed (term_before top g f t e)
            (binary Subpiece out (term_operand top g f t e) (amount n))
            (lead_before g.default userops (term_leaf g f e)
            (term_into top g f t e (temp_of top g f t e))
            (term_leads t e (temp_of top g f t e) h))
            (two_leads Subpiece out (term_operand top g f t e) (amount n))
        term_leads t (s.bits e low count x) out h =
            append (term_before top g f t e)
            (bits_into top t (term_operand top g f t e) low count out)
            (lead_before g.default userops (term_leaf g f e)
            (term_into top g f t e (temp_of top g f t e))
            (term_leads t e (temp_of top g f t e) h))
            (bits_lead t (term_operand top g f t e) low count out)
        term_leads t (s.load space n e x) out h =
            followed (term_before top g f t e)
            (load_from out (space_of g space) (term_operand top g f t e))
            (lead_before g.default userops (term_leaf g f e)
            (term_into top g f t e (temp_of top g f t e))
            (term_leads t e (temp_of top g f t e) h.1)) (tt, tt, tt)
        term_leads t (s.one op e x) out h =
            followed (term_before top g f t e) (unary op out (term_operand top g f t e))
            (lead_before g.default userops (term_leaf g f e)
            (term_into top g f t e (temp_of top g f t e))
            (term_leads t e (temp_of top g f t e) h))
            (one_leads op out (term_operand top g f t e))
        term_leads t (s.two op order a b x) out h =
            let p = term_operand top g f t a in
            let q = term_operand top g f (t + 1) b in
            append (term_before top g f t a)
            (term_before top g f (t + 1) b ++ two_operands op order out p q ∷ [])
            (lead_before g.default userops (term_leaf g f a)
            (term_into top g f t a (temp_of top g f t a))
            (term_leads t a (temp_of top g f t a) h.1))
            (followed (term_before top g f (t + 1) b) (two_operands op order out p q)
            (lead_before g.default userops (term_leaf g f b)
            (term_into top g f (t + 1) b (temp_of top g f (t + 1) b))
            (term_leads (t + 1) b (temp_of top g f (t + 1) b) h.2))
            (ordered_leads g.default userops op order out p q))
        term_leads t (s.user op es x) out h =
            followed (terms_before top g f t es) (call_user op (terms_operands top g f t es))
            (terms_lead t es h.1) (tt, h.0, tt)

        terms_lead : (t : ℕ) (es : Terms) → TermsName IsSo spaces userops es
            → Lead (terms_before top g f t es)
        terms_lead t s.no_terms h = tt
        terms_lead t (s.then_term e es) h =
            append (term_before top g f t e) (terms_before top g f (t + 1) es)
            (lead_before g.default userops (term_leaf g f e)
            (term_into top g f t e (temp_of top g f t e))
            (term_leads t e (temp_of top g f t e) h.0)) (terms_lead (t + 1) es h.1)

      -- the operations before a value is read
      value_leads : (t : ℕ) (e : Term) → Names e → Lead (term_before top g f t e)
      value_leads t e h =
          lead_before g.default userops (term_leaf g f e)
          (term_into top g f t e (temp_of top g f t e)) (term_leads t e (temp_of top g f t e) h)

      put_at_leads : (r : Reference) (e : Term) → Names e → Lead (reference_set top g f r e)
      put_at_leads (storage space offset size) e h =
          term_leads 0 e (in_space space offset (size_of g f e)) h
      put_at_leads (local node x size) e h =
          term_leads 0 e (temporary (range_of node x) (size_of g f e)) h
      put_at_leads (number z) e h = value_leads 0 e h
      put_at_leads (memory space size pointer width) e h =
          append (term_before top g f 0 e)
          (memory_put top 1 space pointer width (term_operand top g f 0 e)) (value_leads 0 e h)
          (memory_leads 1 space pointer width (term_operand top g f 0 e))

      set_leads : (a : Symbol) (e : Term) → Names e → Lead (set_code top g f a e)
      set_leads (s.bit_range space offset k low count) e h =
          let whole = in_space space offset (size_at k) in
          append (term_before top g f 0 e)
          (bits_put top 1 (size_at k) whole (term_operand top g f 0 e) (is_below e count) low count
          whole)
          (value_leads 0 e h)
          (put_leads 1 (size_at k) whole (term_operand top g f 0 e) low count whole
          (is_below e count))
      set_leads a e h = put_at_leads (meant g f a) e h

      set_bits_lead : (a : Symbol) (low count : ℕ) (e : Term) → Names e
          → Lead (set_bits_code top g f a low count e)
      set_bits_lead a low count e h =
          let n = symbol_size g f a in
          let old = symbol_operand top g f 1 a n in
          let v = term_operand top g f 0 e in
          let below = is_below e count in
          append (term_before top g f 0 e)
          (symbol_before top g f 1 a n ++ symbol_bits top g f a n old v below low count)
          (value_leads 0 e h)
          (append (symbol_before top g f 1 a n) (symbol_bits top g f a n old v below low count)
          (before_leads 1 a n) (symbol_bits_lead a n old v below low count))

      store_leads : (space : ℕ) (pointer e : Term) → Names pointer → Names e
          → Lead (store_code top g f space pointer e)
      store_leads space pointer e h k =
          let o = store_to space (term_operand top g f 1 pointer) (term_operand top g f 0 e) in
          append (term_before top g f 0 e) (term_before top g f 1 pointer ++ o ∷ [])
          (value_leads 0 e k) (followed (term_before top g f 1 pointer) o (value_leads 1 pointer h)
          (tt, tt, tt))

      -- a jump or a call through a value leads where that says
      exit_leads : (e : Term) (o : Operation) → Names e → Leads g.default userops o
          → Lead (term_before top g f 0 e ++ o ∷ [])
      exit_leads e o h k = followed (term_before top g f 0 e) o (value_leads 0 e h) k

      -- by where labels are, and the lists of the operands
      module _ (label_place : Label → ℕ) (lists : List (List Operation))
          (child : (i : ℕ) → Lead (child_code top g f lists i)) where
        direct_leads : (at : ℕ) (to : Direct)
            → IsInDefault g.default (direct top g f label_place at to)
        direct_leads at (s.to_label l) = tt
        direct_leads at (s.to_place a) = refl

        step_leads : (at : ℕ) (a : Step) → StepNames IsSo spaces userops a
            → Lead (step_code top g f label_place lists at a)
        step_leads at (s.declare x n) h = tt
        step_leads at (s.set a e) h = set_leads a e h.1
        step_leads at (s.set_bits a low count e) h = set_bits_lead a low count e h.1
        step_leads at (s.store space n pointer x e) h =
            store_leads (space_of g space) pointer e h.1 h.2
        step_leads at (s.run_user op es) h =
            followed (terms_before top g f 0 (chain es))
            (call_user op (terms_operands top g f 0 (chain es))) (terms_lead 0 (chain es) h.1)
            (tt, h.0, tt)
        step_leads at (s.build i) h = child i
        step_leads at (s.label l) h = tt
        step_leads at (s.branch to) h = ((direct_leads at to, tt, tt), tt)
        step_leads at (s.branch_if e to) h =
            let q = at + length (term_before top g f 0 e) in
            exit_leads e (exit_if (direct top g f label_place q to) (term_operand top g f 0 e))
            h.0 (direct_leads q to, tt, tt)
        step_leads at (s.branch_to e) h =
            exit_leads e (exit code.BranchInd (term_operand top g f 0 e)) h (tt, tt, tt)
        step_leads at (s.call a) h = ((refl, tt, tt), tt)
        step_leads at (s.call_to e) h =
            exit_leads e (exit code.CallInd (term_operand top g f 0 e)) h (tt, tt, tt)
        step_leads at (s.return e) h =
            exit_leads e (exit code.Return (term_operand top g f 0 e)) h (tt, tt, tt)
        step_leads at (s.export what) h = tt

        steps_lead : (at : ℕ) (ss : List Step) → StepsName IsSo spaces userops ss
            → Lead (steps_code top g f lists label_place at ss)
        steps_lead at [] h = tt
        steps_lead at (a ∷ ss) h =
            let q = at + step_length top g f lists a in
            append (step_code top g f label_place lists at a)
            (steps_code top g f lists label_place q ss) (step_leads at a h.0)
            (steps_lead q ss h.1)

      pub section_leads : (lists : List (List Operation)) (ss : List Step)
          → ((i : ℕ) → Lead (child_code top g f lists i)) → StepsName IsSo spaces userops ss
          → Lead (section_code top g f lists ss)
      section_leads lists ss child h =
          steps_lead (λ l. label_at top g f lists l 0 ss) lists child 0 ss h
