-- The operations of statements do what the statements do.
use Rattle.std.proofs.Common.{◌≡◌, ℕ, zero, suc, ◌+◌, ◌-◌, ◌*◌, ◌%◌, ◌^◌, ◌<◌, ◌≤◌, ◌==◌, Bool, true, false, List, [], ◌∷◌, ◌++◌, length, Ok, Err, refl, sym, ap, ◌∙◌, subst, arith, length-append, inl, inr, pos}
use Rattle.std.specs.Prelude.{if◌then◌else◌, ◌&&◌, nat_lt, not, Result, unwrap_or, slice_get, slice_index}
use Rattle.std.specs.List.{All}
use Rattle.std.proofs.lemmas.Bool.{cases_lt}
use Rattle.std.proofs.lemmas.Bool.Decides.{nat_tests}
use Rattle.std.proofs.Math.Nat.{mod-eq_of_lt, mod-mod}
use Rattle.sl_faithful_code.specs.Bits.{bits_put, is_below}
use Rattle.sl_faithful_code.specs.Fits.{DirectFits, ReferenceFits, StepFits, StepsFit, SymbolFits, TargetFits, TermFits}
use Rattle.sl_faithful_code.specs.Operations.{Operation, amount, at_temp, exit, exit_if, in_space, range_of, store_to, temporary}
use Rattle.sl_faithful_code.specs.Runs.{Final, final_ending, leaves, stops}
use Rattle.sl_faithful_code.specs.Statements.{child_code, direct, label_at, memory_put, reference_bits, reference_set, relative, section_code, set_bits_code, set_code, step_code, step_length, steps_code, symbol_before, symbol_bits, symbol_operand, target_address, target_of}
use Rattle.sl_faithful_code.specs.Terms.{code_before, operand, read_into, read_leaf, size_of, term_before, term_operand, terms_operands}
use Rattle.sl_faithful_code.proofs.Base.{Apart, At, HasAt, Holds, from, has_back, has_front, has_len, holds_same, holds_set, jumped, jumped_none, jumped_some, step, with_final, with_same}
use Rattle.sl_faithful_code.proofs.Below.{below_value}
use Rattle.sl_faithful_code.proofs.Bits.{Reads, bits_put_lands, is_loose, plain_value, put_value, put_value_is}
use Rattle.sl_faithful_code.proofs.Operators.{left_true}
use Rattle.sl_faithful_code.proofs.Bytes.{Same, low_stored, number_below, put_at, same_below, same_refl, same_trans}
use Rattle.sl_faithful_code.proofs.Lands.{Lands, at_place, lands_of_uses, placed}
use Rattle.sl_faithful_code.proofs.Terms.{operand_size, reference_uses, symbol_operand_size, symbol_uses, term_lands, term_uses, terms_stop}
use Rattle.sl_section_equations.specs.Equations.{size_at}
use Rattle.sl_meaning_sections.specs.References.{Locals, Reference, Setting, State, load, local, memory, number, put, put_bytes, read, storage, with_local}
use Rattle.sl_meaning_sections.specs.Statements as mean
use Rattle.sl_meaning_sections.specs.Statements.{Next, Outcome, assigned, behind, bits_assigned, counted, goes, is_label, leaves_to, pointed, section_runs, steps_run, then_do, with_value}
use Rattle.sl_meaning_sections.specs.Values.{Fault, Frame, jumps_too_often, meant, reference_at, space_of, symbol_size, symbol_value, value, with_bits}
use Rattle.sl_pcode.specs.Machine.{Temporaries, at_target, value_of}
use Rattle.sl_pcode.specs.Targets.{place_at}
use Rattle.sl_pcode.specs.WellFormed.{IsWellFormedOp}
use Rattle.sl_pcode.specs.declared.code.Code.TheVariants as kind
use Rattle.sl_pcode.specs.declared.effect.Effect.TheVariants.{Store, Branch, CBranch, Call, Indirect}
use Rattle.sl_pcode.specs.declared.operation.Op.{Op}
use Rattle.sl_pcode.specs.declared.varnode.Place2.{Place2}
use Rattle.sl_pcode.specs.declared.varnode.Place2.TheVariants.{Unique, In}
use Rattle.sl_pcode.specs.declared.varnode.Varnode.{Varnode}
use Rattle.sl_section_flat.specs.Sections as s
use Rattle.sl_section_flat.specs.Sections.{Direct, Label, Step, Symbol, Term}
use Rattle.sl_section_flat.specs.Chains.{chain}
use Rattle.sl_word.specs.Memories.{Memory, stored}
use Rattle.sl_word.specs.Numbers.{residue}
use Rattle.sl_word.specs.declared.word.Size.{Size}
use Rattle.sl_word.proofs.Powers.{low-wrap}

-- what follows a section, down to the end of the list
abbrev pub Rest : Type 0
Rest = State → Final

abbrev pub state : Memory → Locals → ℕ → State
state m l left = record { memory = m; locals = l; left = left }

abbrev pub after : Outcome → Rest → Final
after (mean.ends st) go = go st
after (mean.leaves target m) go = leaves target m
after (mean.stops f m) go = stops f m

after_then : (o : Outcome) (next : Next) (go : Rest) → after (then_do o next) go ≡ after o (λ st. after (next st) go)
after_then (mean.ends st) next go = refl
after_then (mean.leaves target m) next go = refl
after_then (mean.stops f m) next go = refl

after_value : (r : Result ℕ Fault) (m : Memory) (next : ℕ → Outcome) (go : Rest) → after (with_value r m next) go ≡ with_final r m (λ v. after (next v) go)
after_value (Ok v) m next go = refl
after_value (Err f) m next go = refl

after_choice : (b : Bool) (x y : Outcome) (go : Rest) → after (if b then x else y) go ≡ (if b then after x go else after y go)
after_choice true x y go = refl
after_choice false x y go = refl

-- what follows may be another that gives the same for the value that there is
with_known : (r : Result ℕ Fault) (m : Memory) (go go' : ℕ → Final) → ((v : ℕ) → r ≡ Ok v → go v ≡ go' v) → with_final r m go ≡ with_final r m go'
with_known (Ok v) m go go' same = same v refl
with_known (Err f) m go go' same = refl

-- a relative number leads where it is to lead
pub target : (base p t : ℕ) → base + p < 2147483648 → base + t < 2147483648 → place_at (base + p) (relative p t) ≡ base + t
target base p t hp ht =
    elim (cases_lt t p) [
      | inl less ↦
          let r : relative p t ≡ t + 4294967296 - p = mod-eq_of_lt (omega arith) in
          let far : nat_lt (t + 4294967296 - p) (2 ^ 31) ≡ false = grind (arith, nat_tests) in
          ap (place_at (base + p)) r
          ∙ ap (λ b. if b then base + p + (t + 4294967296 - p) else base + p + (t + 4294967296 - p) - 2 ^ 32) far
          ∙ omega arith
      | inr more ↦
          let r : relative p t ≡ t - p = near (t - p) (t + 4294967296 - p) (omega arith) (omega arith) in
          let close : nat_lt (t - p) (2 ^ 31) ≡ true = grind (arith, nat_tests) in
          ap (place_at (base + p)) r
          ∙ ap (λ b. if b then base + p + (t - p) else base + p + (t - p) - 2 ^ 32) close
          ∙ omega arith
    ]
  where
    near : (d n : ℕ) → n ≡ d + 4294967296 → d < 4294967296 → n % 4294967296 ≡ d
    near d n e lt = omega (arith, e)

-- no label changes the number of operations
pub step_same : (top : ℕ) (g : Setting) (f : Frame) (lists : List (List Operation)) (label_place : Label → ℕ) (p : ℕ) (a : Step) → length (step_code top g f label_place lists p a) ≡ step_length top g f lists a
step_same top g f lists label_place p (s.declare x n) = refl
step_same top g f lists label_place p (s.set a e) = refl
step_same top g f lists label_place p (s.set_bits a low count e) = refl
step_same top g f lists label_place p (s.store space n pointer x e) = refl
step_same top g f lists label_place p (s.run_user op es) = refl
step_same top g f lists label_place p (s.build i) = refl
step_same top g f lists label_place p (s.label l) = refl
step_same top g f lists label_place p (s.branch to) = refl
step_same top g f lists label_place p (s.branch_if e to) =
    length-append (term_before top g f 0 e) _ ∙ sym (length-append (term_before top g f 0 e) _)
step_same top g f lists label_place p (s.branch_to e) = refl
step_same top g f lists label_place p (s.call a) = refl
step_same top g f lists label_place p (s.call_to e) = refl
step_same top g f lists label_place p (s.return e) = refl
step_same top g f lists label_place p (s.export what) = refl

module _ (g : Setting) (code : List Op) (Local : (node x n : ℕ) → Type 0) where
  -- from a place on, with locals that are held and so many jumps left at most, the list ends so
  pub record Good (most p : ℕ) (go : Rest) : Type 0 where
    pub by : (left : ℕ) (m : Memory) (l : Locals) (u : Temporaries) → left ≤ most → Holds g.endian Local m l u → from g code left p m u ≡ go (state m l left)

  pub good_at : (most p q : ℕ) (go : Rest) → p ≡ q → Good most p go → Good most q go
  good_at most p q go e good = subst (λ r. Good most r go) e good

  pub good_below : (most fewer p : ℕ) (go : Rest) → fewer ≤ most → Good most p go → Good fewer p go
  good_below most fewer p go le good = record { by = λ left m l u h holds. good.by left m l u (omega arith) holds }

  module _ (top : ℕ) (lays : Apart Local top) (f : Frame) (well : All (IsWellFormedOp g.sizes) code) (narrow : slice_index g.sizes g.default ≤ 8) (small : length code < 2147483648) where
    holds_after : (t : ℕ) (m : Memory) (l : Locals) (u u' : Temporaries) → Same (top + t * 16) u u' → Holds g.endian Local m l u → Holds g.endian Local m l u'
    holds_after t m l u u' same holds = holds_same g.endian Local top lays (top + t * 16) m l u u' (omega arith) same holds

    holds_stored : (m : Memory) (l : Locals) (u : Temporaries) (space offset n v : ℕ) → Holds g.endian Local m l u → Holds g.endian Local (stored g.endian g.sizes m space offset n v) l u
    holds_stored m l u space offset n v holds = record { at = holds.at; low = holds.low; memory = low_stored g.endian g.sizes m space offset n v holds.memory }

    -- ---- what is written, and then the rest

    -- a value that lands in storage
    storage_lands : (space offset : ℕ) (n : Size) (t most left q : ℕ) (m : Memory) (l : Locals) (u : Temporaries) (go : Rest) → left ≤ most → Holds g.endian Local m l u → Good most q go
        → Lands g code left q (top + t * 16) (in_space space offset n) m u (λ v. go (state (stored g.endian g.sizes m space offset n.bytes v) l left))
    storage_lands space offset n t most left q m l u go le holds next v u' same lt =
        next.by left (stored g.endian g.sizes m space offset n.bytes v) l u' le (holds_stored m l u' space offset n.bytes v (holds_after t m l u u' same holds))

    local_lands : (k x : ℕ) (n : Size) (t most left q : ℕ) (m : Memory) (l : Locals) (u : Temporaries) (go : Rest) → Local k x n.bytes → left ≤ most → Holds g.endian Local m l u → Good most q go
        → Lands g code left q (top + t * 16) (temporary (range_of k x) n) m u (λ v. go (state m (with_local k x v l) left))
    local_lands k x n t most left q m l u go there le holds next v u' same lt =
        next.by left m (with_local k x v l) (put_at g.endian u' (range_of k x) n.bytes v) le (holds_set g.endian Local top lays m l u' k x n.bytes v there lt (holds_after t m l u u' same holds))

    -- a value that is read is put into memory at a pointer
    memory_run : (t space : ℕ) (pointer : Reference) (width : Size) (a : Varnode) (n v most left p : ℕ) (m : Memory) (l : Locals) (u : Temporaries) (go : Rest) → ReferenceFits Local pointer width.bytes → a.size.bytes ≡ n
        → ((u' : Temporaries) → Same (top + t * 16) u u' → value_of g.endian g.sizes a m u' ≡ v) → left ≤ most → Holds g.endian Local m l u
        → HasAt g code p (memory_put top t space pointer width a) → Good most (p + length (memory_put top t space pointer width a)) go
        → from g code left p m u ≡ go (state (stored g.endian g.sizes m space (read g m l pointer width.bytes) n v) l left)
    memory_run t space pointer width a n v most left p m l u go fits sized reads le holds has next =
        let before = code_before (read_leaf pointer width) (read_into top t pointer (at_temp top t width)) in
        let q = operand (read_leaf pointer width) (at_temp top t width) in
        let o = store_to space q a in
        let len : p + length (before ++ o ∷ []) ≡ p + length before + 1 = omega (arith, length-append before (o ∷ [])) in
        reference_uses g code Local top lays well pointer width t p left m l u (λ b. go (state (stored g.endian g.sizes m space b n v) l left)) fits holds (has_front g code p before (o ∷ []) has)
        (λ b u' same lt pointed.
        step g code (Store (amount space) q a) left (p + length before) m u' (has_back g code p before (o ∷ []) has).0
        ∙ (good_at most _ _ go len next).by left _ l u' le (holds_stored m l u' space (value_of g.endian g.sizes q m u') a.size.bytes (value_of g.endian g.sizes a m u') (holds_after t m l u u' same holds))
        ∙ ap (λ w. go (state (stored g.endian g.sizes m space w a.size.bytes (value_of g.endian g.sizes a m u')) l left)) (pointed u' (same_refl _ u'))
        ∙ ap (λ w. go (state (stored g.endian g.sizes m space b a.size.bytes w) l left)) (reads u' same)
        ∙ ap (λ w. go (state (stored g.endian g.sizes m space b w v) l left)) sized)

    nothing_run : (most left p : ℕ) (m : Memory) (l : Locals) (u : Temporaries) (go : Rest) → left ≤ most → Holds g.endian Local m l u → Good most (p + 0) go → from g code left p m u ≡ go (state m l left)
    nothing_run most left p m l u go le holds next =
        at_place g code left p (p + 0) m u (omega arith) ∙ next.by left m l u le holds

    -- ---- assignments

    reference_set_run : (r : Reference) (e : Term) (most p left : ℕ) (m : Memory) (l : Locals) (u : Temporaries) (go : Rest) → TermFits Local g f e → ReferenceFits Local r (size_of g f e).bytes → left ≤ most → Holds g.endian Local m l u
        → HasAt g code p (reference_set top g f r e) → Good most (p + length (reference_set top g f r e)) go
        → from g code left p m u ≡ with_final (value g f m l e) m (λ v. go (put g r (size_of g f e).bytes v (state m l left)))
    reference_set_run (storage space offset size) e most p left m l u go fits where_fits le holds has next =
        term_lands g code Local top lays well f e (In (record { 0 = space })) offset 0 p left m l u _ fits holds has (storage_lands space offset (size_of g f e) 0 most left _ m l u go le holds next)
    reference_set_run (local k x size) e most p left m l u go fits where_fits le holds has next =
        term_lands g code Local top lays well f e Unique (range_of k x) 0 p left m l u _ fits holds has (local_lands k x (size_of g f e) 0 most left _ m l u go where_fits le holds next)
    reference_set_run (number z) e most p left m l u go fits where_fits le holds has next =
        term_uses g code Local top lays well f e 0 p left m l u (λ v. go (state m l left)) fits holds has (λ v u' same lt reads. next.by left m l u' le (holds_after 0 m l u u' same holds))
    reference_set_run (memory space size pointer width) e most p left m l u go fits where_fits le holds has next =
        let before = term_before top g f 0 e in
        let a = term_operand top g f 0 e in
        let rest = memory_put top 1 space pointer width a in
        let len : p + length (before ++ rest) ≡ p + length before + length rest = omega (arith, length-append before rest) in
        term_uses g code Local top lays well f e 0 p left m l u _ fits holds (has_front g code p before rest has)
        (λ v u' same lt reads. memory_run 1 space pointer width a (size_of g f e).bytes v most left (p + length before) m l u' go where_fits (ap (λ (k : Size). k.bytes) (operand_size g code Local top lays well f e 0))
        (λ u'' same'. reads u'' (same_below _ _ u' u'' (omega arith) same')) le (holds_after 0 m l u u' same holds) (has_back g code p before rest has) (good_at most _ _ go len next))

    set_run : (a : Symbol) (e : Term) (most p left : ℕ) (m : Memory) (l : Locals) (u : Temporaries) (go : Rest) → TermFits Local g f e → SymbolFits Local g f a (size_of g f e).bytes → left ≤ most → Holds g.endian Local m l u
        → HasAt g code p (set_code top g f a e) → Good most (p + length (set_code top g f a e)) go
        → from g code left p m u ≡ with_final (value g f m l e) m (λ v. go (assigned g f a (size_of g f e).bytes v (state m l left)))
    set_run (s.bit_range space offset k low count) e most p left m l u go fits where_fits le holds has next =
        let before = term_before top g f 0 e in
        let a = term_operand top g f 0 e in
        let n = size_at k in
        let old = in_space space offset n in
        let rest = bits_put top 1 n old a (is_below e count) low count old in
        let loose = is_loose (is_below e count) n a low count in
        let y = load g m space offset n.bytes in
        let y_low : y < 256 ^ n.bytes = number_below g.endian _ n.bytes (λ i. holds.memory space _) in
        let size = ap (λ (k : Size). k.bytes) (operand_size g code Local top lays well f e 0) in
        let len : p + length (before ++ rest) ≡ p + length before + length rest = omega (arith, length-append before rest) in
        let put_there : ℕ → Final = λ z. go (state (stored g.endian g.sizes m space offset n.bytes z) l left) in
        term_uses g code Local top lays well f e 0 p left m l u (λ v. put_there (put_value loose n.bytes low count y v)) fits holds (has_front g code p before rest has)
        (λ v u' same lt reads. bits_put_lands g code well top 1 n old a (is_below e count) low count (In (record { 0 = space })) offset (p + length before) left m u' u' put_there v y refl
        (subst (λ w. w ≤ n.bytes) (sym size) where_fits.2) where_fits.0 (subst (λ w. v < 256 ^ w) (sym size) lt) y_low (λ u'' same'. reads u'' (same_below _ _ u' u'' (omega arith) same')) (λ u'' same'. refl)
        (same_refl _ u') (has_back g code p before rest has) (storage_lands space offset n 1 most left _ m l u' go le (holds_after 0 m l u u' same holds) (good_at most _ _ go len next)))
        ∙ with_known (value g f m l e) m (λ v. put_there (put_value loose n.bytes low count y v)) (λ v. put_there (with_bits low count y v))
        (λ v is. ap put_there (put_value_is loose n.bytes low count y v where_fits.0 y_low
        (λ few. below_value g f m l e count v (left_true (is_below e count) _ few) is)))
    set_run (s.register space offset k) e most p left m l u go fits where_fits le holds has next = reference_set_run (storage space offset (size_at k)) e most p left m l u go fits where_fits le holds has next
    set_run (s.local x) e most p left m l u go fits where_fits le holds has next = reference_set_run (local f.node x (f.size x)) e most p left m l u go fits where_fits le holds has next
    set_run (s.table i) e most p left m l u go fits where_fits le holds has next = reference_set_run (reference_at f.refs i) e most p left m l u go fits where_fits le holds has next
    set_run (s.attached i k) e most p left m l u go fits where_fits le holds has next = reference_set_run (reference_at f.refs i) e most p left m l u go fits where_fits le holds has next
    set_run (s.value i) e most p left m l u go fits where_fits le holds has next = reference_set_run (reference_at f.refs i) e most p left m l u go fits where_fits le holds has next
    set_run s.start e most p left m l u go fits where_fits le holds has next = reference_set_run (number g.start) e most p left m l u go fits where_fits le holds has next
    set_run s.next e most p left m l u go fits where_fits le holds has next = reference_set_run (number g.next) e most p left m l u go fits where_fits le holds has next
    set_run (s.integer z) e most p left m l u go fits where_fits le holds has next = reference_set_run (number (pos z)) e most p left m l u go fits where_fits le holds has next

    -- ---- bits that are assigned

    -- a value that is taken to have no bits above has some
    abbrev is_over : (loose : Bool) (count v : ℕ) → Bool
    is_over loose count v = loose && not (nat_lt v (2 ^ count))

    none_over : (loose : Bool) (count v : ℕ) → (loose ≡ true → v < 2 ^ count) → is_over loose count v ≡ false
    none_over false count v few = refl
    none_over true count v few =
        let less : v < 2 ^ count = few refl in
        let holds : nat_lt v (2 ^ count) ≡ true = grind (arith, nat_tests, less) in
        ap not holds

    over_by : (b : Bool) (n low count y v : ℕ) → nat_lt v (2 ^ count) ≡ b → low + count ≤ 8 * n → y < 256 ^ n → put_value true n low count y v ≡ put_value (not b) n low count y v
    over_by true n low count y v is fits hy = put_value_is true n low count y v fits hy (λ k. let less : v < 2 ^ count = grind (arith, nat_tests, is) in less) ∙ sym (plain_value n low count y v)
    over_by false n low count y v is fits hy = refl

    over_value : (loose : Bool) (n low count y v : ℕ) → low + count ≤ 8 * n → y < 256 ^ n → put_value loose n low count y v ≡ put_value (is_over loose count v) n low count y v
    over_value false n low count y v fits hy = refl
    over_value true n low count y v fits hy = over_by (nat_lt v (2 ^ count)) n low count y v refl fits hy

    -- nothing is said of the value
    put_run : (t : ℕ) (n : Size) (old v : Varnode) (low count : ℕ) (place : Place2) (offset p left : ℕ) (m : Memory) (u u' : Temporaries) (go : ℕ → Final) (x y : ℕ) → old.size ≡ n → v.size.bytes ≤ n.bytes → low + count ≤ 8 * n.bytes
        → x < 256 ^ v.size.bytes → y < 256 ^ n.bytes → Reads g code well top (top + t * 16) v m u' x → Reads g code well top (top + t * 16) old m u' y → Same (top + t * 16) u u' → HasAt g code p (bits_put top t n old v false low count (placed place offset n))
        → Lands g code left (p + length (bits_put top t n old v false low count (placed place offset n))) (top + t * 16) (placed place offset n) m u go → from g code left p m u' ≡ go (with_bits low count y x)
    put_run t n old v low count place offset p left m u u' go x y so sv fits hx hy reads_v reads_old same has lands =
        bits_put_lands g code well top t n old v false low count place offset p left m u u' go x y so sv fits hx hy reads_v reads_old same has lands ∙ ap go (plain_value n.bytes low count y x)

    -- the old value and the new bits are read
    reference_bits_run : (r : Reference) (n : Size) (old b : Varnode) (below : Bool) (low count x y most p left : ℕ) (m : Memory) (l : Locals) (u : Temporaries) (go : Rest) → ReferenceFits Local r n.bytes → old.size ≡ n → b.size.bytes ≤ n.bytes → low + count ≤ 8 * n.bytes
        → x < 256 ^ b.size.bytes → y < 256 ^ n.bytes → Reads g code well top (top + 2 * 16) b m u x → Reads g code well top (top + 2 * 16) old m u y → left ≤ most → Holds g.endian Local m l u
        → HasAt g code p (reference_bits top r n old b below low count) → Good most (p + length (reference_bits top r n old b below low count)) go
        → from g code left p m u ≡ go (put g r n.bytes (put_value (is_loose below n b low count) n.bytes low count y x) (state m l left))
    reference_bits_run (storage space offset size) n old b below low count x y most p left m l u go where_fits so sb fits hx hy rb ro le holds has next =
        bits_put_lands g code well top 2 n old b below low count (In (record { 0 = space })) offset p left m u u (λ v. go (state (stored g.endian g.sizes m space offset n.bytes v) l left)) x y so sb fits hx hy rb ro (same_refl _ u) has (storage_lands space offset n 2 most left _ m l u go le holds next)
    reference_bits_run (local k z size) n old b below low count x y most p left m l u go where_fits so sb fits hx hy rb ro le holds has next =
        bits_put_lands g code well top 2 n old b below low count Unique (range_of k z) p left m u u (λ v. go (state m (with_local k z v l) left)) x y so sb fits hx hy rb ro (same_refl _ u) has (local_lands k z n 2 most left _ m l u go where_fits le holds next)
    reference_bits_run (number z) n old b below low count x y most p left m l u go where_fits so sb fits hx hy rb ro le holds has next = nothing_run most left p m l u go le holds next
    reference_bits_run (memory space size pointer width) n old b below low count x y most p left m l u go where_fits so sb fits hx hy rb ro le holds has next =
        let ops = bits_put top 2 n old b below low count (at_temp top 2 n) in
        let rest = memory_put top 4 space pointer width (at_temp top 2 n) in
        let len : p + length (ops ++ rest) ≡ p + length ops + length rest = omega (arith, length-append ops rest) in
        bits_put_lands g code well top 2 n old b below low count Unique (top + 2 * 16) p left m u u (λ v. go (state (stored g.endian g.sizes m space (read g m l pointer width.bytes) n.bytes v) l left)) x y so sb fits hx hy rb ro (same_refl _ u) (has_front g code p ops rest has)
        (lands_of_uses g code left (p + length ops) (top + 2 * 16) n m u _ (λ v u' same lt reads. memory_run 4 space pointer width (at_temp top 2 n) n.bytes v most left (p + length ops) m l u' go where_fits refl
        (λ u'' same'. reads u'' (same_below _ _ u' u'' (omega arith) same')) le (holds_after 2 m l u u' same holds) (has_back g code p ops rest has) (good_at most _ _ go len next)))

    symbol_bits_run : (a : Symbol) (n : Size) (old b : Varnode) (below : Bool) (low count x y most p left : ℕ) (m : Memory) (l : Locals) (u : Temporaries) (go : Rest) → SymbolFits Local g f a n.bytes → old.size ≡ n → b.size.bytes ≤ n.bytes → low + count ≤ 8 * n.bytes
        → x < 256 ^ b.size.bytes → y < 256 ^ n.bytes → Reads g code well top (top + 2 * 16) b m u x → Reads g code well top (top + 2 * 16) old m u y → left ≤ most → Holds g.endian Local m l u
        → HasAt g code p (symbol_bits top g f a n old b below low count) → Good most (p + length (symbol_bits top g f a n old b below low count)) go
        → from g code left p m u ≡ go (assigned g f a n.bytes (put_value (is_loose below n b low count) n.bytes low count y x) (state m l left))
    symbol_bits_run (s.bit_range space offset k low' count') n old b below low count x y most p left m l u go where_fits so sb fits hx hy rb ro le holds has next =
        let ops = bits_put top 2 n old b below low count (at_temp top 2 n) in
        let reg = in_space space offset (size_at k) in
        let rest = bits_put top 4 (size_at k) reg (at_temp top 2 n) false low' count' reg in
        let len : p + length (ops ++ rest) ≡ p + length ops + length rest = omega (arith, length-append ops rest) in
        bits_put_lands g code well top 2 n old b below low count Unique (top + 2 * 16) p left m u u
        (λ v. go (state (stored g.endian g.sizes m space offset (size_at k).bytes (with_bits low' count' (load g m space offset (size_at k).bytes) v)) l left)) x y so sb fits hx hy rb ro (same_refl _ u) (has_front g code p ops rest has)
        (lands_of_uses g code left (p + length ops) (top + 2 * 16) n m u _ (λ v u' same lt reads.
        put_run 4 (size_at k) reg (at_temp top 2 n) low' count' (In (record { 0 = space })) offset (p + length ops) left m u' u' (λ z. go (state (stored g.endian g.sizes m space offset (size_at k).bytes z) l left)) v (load g m space offset (size_at k).bytes) refl
        where_fits.2 where_fits.0 lt (number_below g.endian _ (size_at k).bytes (λ i. holds.memory space _)) (λ u'' same'. reads u'' (same_below _ _ u' u'' (omega arith) same')) (λ u'' same'. refl)
        (same_refl _ u') (has_back g code p ops rest has) (storage_lands space offset (size_at k) 4 most left _ m l u' go le (holds_after 2 m l u u' same holds) (good_at most _ _ go len next))))
    symbol_bits_run (s.register space offset k) n old b below low count x y most p left m l u go where_fits so sb fits hx hy rb ro le holds has next = reference_bits_run (storage space offset (size_at k)) n old b below low count x y most p left m l u go where_fits so sb fits hx hy rb ro le holds has next
    symbol_bits_run (s.local z) n old b below low count x y most p left m l u go where_fits so sb fits hx hy rb ro le holds has next = reference_bits_run (local f.node z (f.size z)) n old b below low count x y most p left m l u go where_fits so sb fits hx hy rb ro le holds has next
    symbol_bits_run (s.table i) n old b below low count x y most p left m l u go where_fits so sb fits hx hy rb ro le holds has next = reference_bits_run (reference_at f.refs i) n old b below low count x y most p left m l u go where_fits so sb fits hx hy rb ro le holds has next
    symbol_bits_run (s.attached i k) n old b below low count x y most p left m l u go where_fits so sb fits hx hy rb ro le holds has next = reference_bits_run (reference_at f.refs i) n old b below low count x y most p left m l u go where_fits so sb fits hx hy rb ro le holds has next
    symbol_bits_run (s.value i) n old b below low count x y most p left m l u go where_fits so sb fits hx hy rb ro le holds has next = reference_bits_run (reference_at f.refs i) n old b below low count x y most p left m l u go where_fits so sb fits hx hy rb ro le holds has next
    symbol_bits_run s.start n old b below low count x y most p left m l u go where_fits so sb fits hx hy rb ro le holds has next = reference_bits_run (number g.start) n old b below low count x y most p left m l u go where_fits so sb fits hx hy rb ro le holds has next
    symbol_bits_run s.next n old b below low count x y most p left m l u go where_fits so sb fits hx hy rb ro le holds has next = reference_bits_run (number g.next) n old b below low count x y most p left m l u go where_fits so sb fits hx hy rb ro le holds has next
    symbol_bits_run (s.integer z) n old b below low count x y most p left m l u go where_fits so sb fits hx hy rb ro le holds has next = reference_bits_run (number (pos z)) n old b below low count x y most p left m l u go where_fits so sb fits hx hy rb ro le holds has next

    set_bits_run : (a : Symbol) (low count : ℕ) (e : Term) (most p left : ℕ) (m : Memory) (l : Locals) (u : Temporaries) (go : Rest) → TermFits Local g f e → SymbolFits Local g f a (symbol_size g f a).bytes → low + count ≤ 8 * (symbol_size g f a).bytes → (size_of g f e).bytes ≤ (symbol_size g f a).bytes
        → left ≤ most → Holds g.endian Local m l u → HasAt g code p (set_bits_code top g f a low count e) → Good most (p + length (set_bits_code top g f a low count e)) go
        → from g code left p m u ≡ with_final (value g f m l e) m (λ v. go (bits_assigned g f a low count (symbol_size g f a).bytes v (state m l left)))
    set_bits_run a low count e most p left m l u go fits where_fits inside narrower le holds has next =
        let n = symbol_size g f a in
        let ce = term_before top g f 0 e in
        let ca = symbol_before top g f 1 a n in
        let b = term_operand top g f 0 e in
        let old = symbol_operand top g f 1 a n in
        let rest = symbol_bits top g f a n old b (is_below e count) low count in
        let loose = is_loose (is_below e count) n b low count in
        let back = has_back g code p ce (ca ++ rest) has in
        let size = ap (λ (k : Size). k.bytes) (operand_size g code Local top lays well f e 0) in
        let len : p + length (ce ++ (ca ++ rest)) ≡ p + length ce + length ca + length rest = omega (arith, length-append ce (ca ++ rest), length-append ca rest) in
        let then_put : ℕ → Final = λ z. go (assigned g f a n.bytes z (state m l left)) in
        let put_over : (y v : ℕ) → ℕ = λ y v. put_value (is_over loose count v) n.bytes low count y v in
        term_uses g code Local top lays well f e 0 p left m l u (λ v. then_put (put_over (symbol_value g f m l a n.bytes) v)) fits holds (has_front g code p ce _ has)
        (λ v u1 same1 lt1 reads1.
        let holds1 = holds_after 0 m l u u1 same1 holds in
        symbol_uses g code Local top lays well f a n 1 (p + length ce) left m l u1 (λ y. then_put (put_over y v)) where_fits holds1 (has_front g code _ ca rest back)
        (λ y u2 same2 lt2 reads2.
        symbol_bits_run a n old b (is_below e count) low count v y most (p + length ce + length ca) left m l u2 go where_fits (symbol_operand_size g code Local top lays well f a n (top + 1 * 16)) (subst (λ w. w ≤ n.bytes) (sym size) narrower) inside
        (subst (λ w. v < 256 ^ w) (sym size) lt1) lt2 (λ u'' same'. reads1 u'' (same_below _ _ u1 u'' (omega arith) (same_trans _ _ u1 u2 u'' (omega arith) same2 same'))) (λ u'' same'. reads2 u'' (same_below _ _ u2 u'' (omega arith) same')) le (holds_after 1 m l u1 u2 same2 holds1)
        (has_back g code _ ca rest back) (good_at most _ _ go len next)
        ∙ ap then_put (over_value loose n.bytes low count y v inside lt2)))
        ∙ with_known (value g f m l e) m (λ v. then_put (put_over (symbol_value g f m l a n.bytes) v)) (λ v. then_put (with_bits low count (symbol_value g f m l a n.bytes) v))
        (λ v is. ap then_put (ap (λ q. put_value q n.bytes low count (symbol_value g f m l a n.bytes) v)
        (none_over loose count v (λ few. below_value g f m l e count v (left_true (is_below e count) _ few) is))
        ∙ plain_value n.bytes low count (symbol_value g f m l a n.bytes) v))

    -- ---- exits

    target_is : (r : Reference) (m : Memory) (l : Locals) → TargetFits Local r → target_address top g f r % 256 ^ slice_index g.sizes g.default ≡ pointed g m l r % 256 ^ slice_index g.sizes g.default
    target_is (number v) m l fits = refl
    target_is (memory space size (number v) width) m l fits = mod-mod (residue width.bytes v) (256 ^ slice_index g.sizes g.default)
    target_is (memory space size (storage z o n) width) m l fits = absurd fits
    target_is (memory space size (local k x n) width) m l fits = absurd fits
    target_is (memory space size (memory z n r w) width) m l fits = absurd fits
    target_is (storage space offset size) m l fits = absurd fits
    target_is (local k x size) m l fits = absurd fits

    value_exit : (v : ℕ) → v % 2 ^ 64 % 256 ^ slice_index g.sizes g.default ≡ v % 256 ^ slice_index g.sizes g.default
    value_exit v = low-wrap v 64 (slice_index g.sizes g.default) (omega (arith, narrow))

    -- a value is read by the operation that leaves the list
    exit_run : (e : Term) (o : Operation) (p left : ℕ) (m : Memory) (l : Locals) (u : Temporaries) → TermFits Local g f e → Holds g.endian Local m l u
        → HasAt g code p (term_before top g f 0 e ++ o ∷ []) → (At g code (p + length (term_before top g f 0 e)) (Indirect (term_operand top g f 0 e)))
        → from g code left p m u ≡ with_final (value g f m l e) m (λ v. leaves (v % 256 ^ slice_index g.sizes g.default) m)
    exit_run e o p left m l u fits holds has there =
        term_uses g code Local top lays well f e 0 p left m l u _ fits holds (has_front g code p (term_before top g f 0 e) (o ∷ []) has)
        (λ v w same lt reads. step g code (Indirect (term_operand top g f 0 e)) left (p + length (term_before top g f 0 e)) m w there
        ∙ ap (λ q. leaves (q % 2 ^ 64 % 256 ^ slice_index g.sizes g.default) m) (reads w (same_refl _ w)) ∙ ap (λ q. leaves q m) (value_exit v))

    -- ---- one section, whose first operation has a place; `leap` and `does_child` say what jumps to labels and operands do

    module _ (base : ℕ) (label_place : Label → ℕ) (lists : List (List Operation)) (leap : Label → Next) (does_child : ℕ → Next) (most : ℕ) (go : Rest)
        (within : (x : Label) → base + label_place x < 2147483648)
        (jumps_right : (x : Label) (left : ℕ) (m : Memory) (l : Locals) (u : Temporaries) → left ≤ most → Holds g.endian Local m l u → jumped g code left (base + label_place x) m u ≡ after (leap x (state m l left)) go)
        (child_right : (i p : ℕ) (onward : Rest) → HasAt g code p (child_code top g f lists i) → Good most (p + length (child_code top g f lists i)) onward → Good most p (λ st. after (does_child i st) onward)) where
      -- what the statements left do, and then the rest
      abbrev Does : List Step → Rest
      Does ss st = after (steps_run g f leap does_child ss st) go

      direct_run : (to : Direct) (p left : ℕ) (m : Memory) (l : Locals) (u : Temporaries) → DirectFits Local g f to → base + p < 2147483648 → left ≤ most → Holds g.endian Local m l u
          → at_target (direct top g f label_place p to).place (direct top g f label_place p to).offset (λ d. jumped g code left (place_at (base + p) d) m u) (λ x. final_ending g x m) ≡ after (goes g f leap to (state m l left)) go
      direct_run (s.to_label x) p left m l u fits lp le holds =
          ap (λ q. jumped g code left q m u) (target base p (label_place x) lp (within x)) ∙ jumps_right x left m l u le holds
      direct_run (s.to_place a) p left m l u fits lp le holds = ap (λ q. leaves q m) (target_is (meant g f a) m l fits)

      step_run : (a : Step) (ss : List Step) (p : ℕ) → StepFits Local g f a → HasAt g code (base + p) (step_code top g f label_place lists p a) → Good most (base + p + length (step_code top g f label_place lists p a)) (Does ss) → Good most (base + p) (Does (a ∷ ss))
      step_run (s.declare x n) ss p fits has next = good_at most _ _ (Does ss) (omega arith) next
      step_run (s.label x) ss p fits has next = good_at most _ _ (Does ss) (omega arith) next
      step_run (s.export what) ss p fits has next = good_at most _ _ (Does ss) (omega arith) next
      step_run (s.set a e) ss p fits has next = record {
        by = λ left m l u le holds. set_run a e most (base + p) left m l u (Does ss) fits.0 fits.1 le holds has next
            ∙ sym (after_value (value g f m l e) m (λ v. steps_run g f leap does_child ss (assigned g f a (size_of g f e).bytes v (state m l left))) go);
      }
      step_run (s.set_bits a low count e) ss p fits has next = record {
        by = λ left m l u le holds. set_bits_run a low count e most (base + p) left m l u (Does ss) fits.0 fits.1 fits.2 fits.3 le holds has next
            ∙ sym (after_value (value g f m l e) m (λ v. steps_run g f leap does_child ss (bits_assigned g f a low count (symbol_size g f a).bytes v (state m l left))) go);
      }
      step_run (s.store space n pointer x e) ss p fits has next =
          let ce = term_before top g f 0 e in
          let cq = term_before top g f 1 pointer in
          let a = term_operand top g f 0 e in
          let q = term_operand top g f 1 pointer in
          let z = space_of g space in
          let o = store_to z q a in
          let k = (size_of g f e).bytes in
          let back = has_back g code (base + p) ce (cq ++ o ∷ []) has in
          let size = ap (λ (k : Size). k.bytes) (operand_size g code Local top lays well f e 0) in
          let len : base + p + length (ce ++ (cq ++ o ∷ [])) ≡ base + p + length ce + length cq + 1 = omega (arith, length-append ce (cq ++ o ∷ []), length-append cq (o ∷ [])) in
          record {
            by = λ left m l u le holds.
                term_uses g code Local top lays well f e 0 (base + p) left m l u (λ v. with_final (value g f m l pointer) m (λ b. Does ss (put_bytes g z b k v (state m l left)))) fits.0 holds (has_front g code (base + p) ce _ has)
                (λ v w same lt reads.
                let holds1 = holds_after 0 m l u w same holds in
                term_uses g code Local top lays well f pointer 1 (base + p + length ce) left m l w (λ b. Does ss (put_bytes g z b k v (state m l left))) fits.1 holds1 (has_front g code _ cq _ back)
                (λ b w' same' lt' reads'.
                step g code (Store (amount z) q a) left (base + p + length ce + length cq) m w' (has_back g code _ cq _ back).0
                ∙ (good_at most _ _ (Does ss) len next).by left _ l w' le (holds_stored m l w' z (value_of g.endian g.sizes q m w') a.size.bytes (value_of g.endian g.sizes a m w') (holds_after 1 m l w w' same' holds1))
                ∙ ap (λ c. Does ss (put_bytes g z c a.size.bytes (value_of g.endian g.sizes a m w') (state m l left))) (reads' w' (same_refl _ w'))
                ∙ ap (λ c. Does ss (put_bytes g z b a.size.bytes c (state m l left))) (reads w' (same_below _ _ w w' (omega arith) same'))
                ∙ ap (λ c. Does ss (put_bytes g z b c v (state m l left))) size))
                ∙ with_same (value g f m l e) m _ _ (λ v. sym (after_value (value g f m l pointer) m (λ b. steps_run g f leap does_child ss (put_bytes g z b k v (state m l left))) go))
                ∙ sym (after_value (value g f m l e) m (λ v. with_value (value g f m l pointer) m (λ b. steps_run g f leap does_child ss (put_bytes g z b k v (state m l left)))) go);
          }
      step_run (s.run_user op es) ss p fits has next = record {
        by = λ left m l u le holds. terms_stop g code Local top lays well f (chain es) op (terms_operands top g f 0 (chain es)) 0 (base + p) left m l u fits holds has;
      }
      step_run (s.build i) ss p fits has next =
          let r = child_right i (base + p) (Does ss) has next in
          record { by = λ left m l u le holds. r.by left m l u le holds ∙ sym (after_then (does_child i (state m l left)) (steps_run g f leap does_child ss) go) }
      step_run (s.branch to) ss p fits has next =
          let len = has_len g code (base + p) (exit kind.Branch (direct top g f label_place p to) ∷ []) has in
          record { by = λ left m l u le holds. step g code (Branch (direct top g f label_place p to)) left (base + p) m u has.0 ∙ direct_run to p left m l u fits (omega arith) le holds }
      step_run (s.branch_if e to) ss p fits has next =
          let ce = term_before top g f 0 e in
          let a = term_operand top g f 0 e in
          let d = direct top g f label_place (p + length ce) to in
          let o = exit_if d a in
          let len : base + p + length (ce ++ o ∷ []) ≡ base + p + length ce + 1 = omega (arith, length-append ce (o ∷ [])) in
          let room = has_len g code (base + p) (ce ++ o ∷ []) has in
          let here : base + p + length ce ≡ base + (p + length ce) = omega arith in
          let under : base + (p + length ce) < 2147483648 = omega arith in
          record {
            by = λ left m l u le holds.
                term_uses g code Local top lays well f e 0 (base + p) left m l u (λ v. if v == 0 then Does ss (state m l left) else after (goes g f leap to (state m l left)) go) fits.0 holds (has_front g code (base + p) ce _ has)
                (λ v w same lt reads.
                let holds1 = holds_after 0 m l u w same holds in
                step g code (CBranch d a) left (base + p + length ce) m w (has_back g code (base + p) ce (o ∷ []) has).0
                ∙ ap (λ b. if value_of g.endian g.sizes a m w == 0 then b else at_target d.place d.offset (λ x. jumped g code left (place_at (base + p + length ce) x) m w) (λ x. final_ending g x m)) ((good_at most _ _ (Does ss) len next).by left m l w le holds1)
                ∙ ap (λ b. if value_of g.endian g.sizes a m w == 0 then Does ss (state m l left) else b) (ap (λ q. at_target d.place d.offset (λ x. jumped g code left (place_at q x) m w) (λ x. final_ending g x m)) here ∙ direct_run to (p + length ce) left m l w fits.1 under le holds1)
                ∙ ap (λ b. if b == 0 then Does ss (state m l left) else after (goes g f leap to (state m l left)) go) (reads w (same_refl _ w)))
                ∙ with_same (value g f m l e) m _ _ (λ v. sym (after_choice (v == 0) (steps_run g f leap does_child ss (state m l left)) (goes g f leap to (state m l left)) go))
                ∙ sym (after_value (value g f m l e) m (λ v. if v == 0 then steps_run g f leap does_child ss (state m l left) else goes g f leap to (state m l left)) go);
          }
      step_run (s.branch_to e) ss p fits has next = record {
        by = λ left m l u le holds. exit_run e (exit kind.BranchInd (term_operand top g f 0 e)) (base + p) left m l u fits holds has (has_back g code (base + p) (term_before top g f 0 e) _ has).0
            ∙ sym (after_value (value g f m l e) m (λ v. leaves_to g v m) go);
      }
      step_run (s.call a) ss p fits has next = record {
        by = λ left m l u le holds. step g code (Call (target_of top g f a)) left (base + p) m u has.0 ∙ ap (λ q. leaves q m) (target_is (meant g f a) m l fits);
      }
      step_run (s.call_to e) ss p fits has next = record {
        by = λ left m l u le holds. exit_run e (exit kind.CallInd (term_operand top g f 0 e)) (base + p) left m l u fits holds has (has_back g code (base + p) (term_before top g f 0 e) _ has).0
            ∙ sym (after_value (value g f m l e) m (λ v. leaves_to g v m) go);
      }
      step_run (s.return e) ss p fits has next = record {
        by = λ left m l u le holds. exit_run e (exit kind.Return (term_operand top g f 0 e)) (base + p) left m l u fits holds has (has_back g code (base + p) (term_before top g f 0 e) _ has).0
            ∙ sym (after_value (value g f m l e) m (λ v. leaves_to g v m) go);
      }

      pub steps_run_right : (ss : List Step) (p : ℕ) → StepsFit Local g f ss → HasAt g code (base + p) (steps_code top g f lists label_place p ss) → Good most (base + p + length (steps_code top g f lists label_place p ss)) go → Good most (base + p) (Does ss)
      steps_run_right [] p fits has next = good_at most _ _ go (omega arith) next
      steps_run_right (a ∷ ss) p fits has next =
          let cs = step_code top g f label_place lists p a in
          let q = p + step_length top g f lists a in
          let rest = steps_code top g f lists label_place q ss in
          let same = step_same top g f lists label_place p a in
          let here : base + p + length cs ≡ base + q = omega (arith, same) in
          let end : base + p + length (cs ++ rest) ≡ base + q + length rest = omega (arith, same, length-append cs rest) in
          let has' = subst (λ r. HasAt g code r rest) here (has_back g code (base + p) cs rest has) in
          let r = steps_run_right ss q fits.1 has' (good_at most _ _ go end next) in
          step_run a ss p fits.0 (has_front g code (base + p) cs rest has) (good_at most _ _ (Does ss) (sym here) r)

    -- ---- labels

    -- where a label leads: the statements behind it stand there, and end at the same place
    record AtLabel (base : ℕ) (label_place : Label → ℕ) (lists : List (List Operation)) (ss : List Step) (end q : ℕ) : Type 0 where
      pub has : HasAt g code (base + q) (steps_code top g f lists label_place q ss)
      pub ends_at : q + length (steps_code top g f lists label_place q ss) ≡ end
      pub fits : StepsFit Local g f ss

    -- a label has no operation, so what stands behind it stands where it does
    label_length : (lists : List (List Operation)) (a : Step) (x : Label) → is_label a x ≡ true → step_length top g f lists a ≡ 0
    label_length lists (s.label l) x e = refl
    label_length lists (s.declare y n) x e = refl
    label_length lists (s.export what) x e = refl
    label_length lists (s.set a t) x e = absurd (let no : ⊥ = cc in no)
    label_length lists (s.set_bits a low count t) x e = absurd (let no : ⊥ = cc in no)
    label_length lists (s.store space n pointer y t) x e = absurd (let no : ⊥ = cc in no)
    label_length lists (s.run_user op es) x e = absurd (let no : ⊥ = cc in no)
    label_length lists (s.build i) x e = absurd (let no : ⊥ = cc in no)
    label_length lists (s.branch to) x e = absurd (let no : ⊥ = cc in no)
    label_length lists (s.branch_if t to) x e = absurd (let no : ⊥ = cc in no)
    label_length lists (s.branch_to t) x e = absurd (let no : ⊥ = cc in no)
    label_length lists (s.call a) x e = absurd (let no : ⊥ = cc in no)
    label_length lists (s.call_to t) x e = absurd (let no : ⊥ = cc in no)
    label_length lists (s.return t) x e = absurd (let no : ⊥ = cc in no)

    at_label : (base : ℕ) (label_place : Label → ℕ) (lists : List (List Operation)) (x : Label) (ss : List Step) (p : ℕ) → StepsFit Local g f ss → HasAt g code (base + p) (steps_code top g f lists label_place p ss)
        → AtLabel base label_place lists (behind x ss) (p + length (steps_code top g f lists label_place p ss)) (label_at top g f lists x p ss)
    at_label base label_place lists x [] p fits has = record { has = has; ends_at = refl; fits = tt }
    at_label base label_place lists x (a ∷ ss) p fits has =
        let cs = step_code top g f label_place lists p a in
        let q = p + step_length top g f lists a in
        let rest = steps_code top g f lists label_place q ss in
        let same = step_same top g f lists label_place p a in
        let e : base + p + length cs ≡ base + q = omega (arith, same) in
        let d : q + length rest ≡ p + length (cs ++ rest) = omega (arith, same, length-append cs rest) in
        let has' = subst (λ r. HasAt g code r rest) e (has_back g code (base + p) cs rest has) in
        let here : AtLabel base label_place lists ss (p + length (cs ++ rest)) q = record { has = has'; ends_at = d; fits = fits.1 } in
        let there = subst (λ n. AtLabel base label_place lists (behind x ss) n (label_at top g f lists x q ss)) d (at_label base label_place lists x ss q fits.1 has') in
        picked (is_label a x) (λ t. let z = label_length lists a x t in let back : q ≡ p = omega (arith, z) in subst (λ r. AtLabel base label_place lists ss (p + length (cs ++ rest)) r) back here) there
      where
        picked : (b : Bool) → (b ≡ true → AtLabel base label_place lists ss (p + length (step_code top g f label_place lists p a ++ steps_code top g f lists label_place (p + step_length top g f lists a) ss)) p)
            → AtLabel base label_place lists (behind x ss) (p + length (step_code top g f label_place lists p a ++ steps_code top g f lists label_place (p + step_length top g f lists a) ss)) (label_at top g f lists x (p + step_length top g f lists a) ss)
            → AtLabel base label_place lists (if b then ss else behind x ss) (p + length (step_code top g f label_place lists p a ++ steps_code top g f lists label_place (p + step_length top g f lists a) ss)) (if b then p else label_at top g f lists x (p + step_length top g f lists a) ss)
        picked true h k = h refl
        picked false h k = k

    -- ---- a whole section: jumps are counted alike on both sides

    module _ (base : ℕ) (lists : List (List Operation)) (does_child : ℕ → Next) (body : List Step) (fits : StepsFit Local g f body) (has : HasAt g code base (section_code top g f lists body)) (limit : ℕ) (go : Rest)
        (child_right : (most i p : ℕ) (onward : Rest) → most ≤ limit → HasAt g code p (unwrap_or (slice_get lists i) []) → Good most (p + length (unwrap_or (slice_get lists i) [])) onward → Good most p (λ st. after (does_child i st) onward)) where
      abbrev labels : Label → ℕ
      labels x = label_at top g f lists x 0 body

      abbrev total : ℕ
      total = length (section_code top g f lists body)

      found : (x : Label) → AtLabel base labels lists (behind x body) (0 + total) (labels x)
      found x =
          let e : base ≡ base + 0 = omega arith in
          at_label base labels lists x body 0 fits (subst (λ r. HasAt g code r (section_code top g f lists body)) e has)

      within : (x : Label) → base + labels x < 2147483648
      within x =
          let there = found x in
          let room = has_len g code base (section_code top g f lists body) has in
          omega (arith, there.ends_at)

      body_runs : (bound most : ℕ) (ss : List Step) (p : ℕ) → most ≤ bound → most ≤ limit → StepsFit Local g f ss → HasAt g code (base + p) (steps_code top g f lists labels p ss) → p + length (steps_code top g f lists labels p ss) ≡ 0 + total
          → Good most (base + total) go → Good most (base + p) (λ st. after (section_runs g f bound does_child body ss st) go)
      unfolding section_runs
      body_runs zero most ss p le ll sf hs ends_at next =
          let len : base + total ≡ base + p + length (steps_code top g f lists labels p ss) = omega (arith, ends_at) in
          steps_run_right base labels lists (λ x st. mean.stops jumps_too_often st.memory) does_child most go within
          (λ x left m l u h holds. none left (base + labels x) m u (omega arith)) (λ i q onward. child_right most i q onward ll) ss p sf hs (good_at most _ _ go len next)
        where
          none : (left q : ℕ) (m : Memory) (u : Temporaries) → left ≤ 0 → jumped g code left q m u ≡ stops jumps_too_often m
          none zero q m u h = jumped_none g code q m u
          none (suc left) q m u h = absurd (omega arith)
      body_runs (suc bound) most ss p le ll sf hs ends_at next =
          let len : base + total ≡ base + p + length (steps_code top g f lists labels p ss) = omega (arith, ends_at) in
          steps_run_right base labels lists (λ x st. counted st.left st.memory st.locals (section_runs g f bound does_child body (behind x body))) does_child most go within
          (λ x left m l u h holds. taken x m l u left h holds (λ fewer less. body_runs bound fewer (behind x body) (labels x) (omega arith) (omega arith) (found x).fits (found x).has (found x).ends_at (good_below most fewer _ go (omega arith) next)))
          (λ i q onward. child_right most i q onward ll) ss p sf hs (good_at most _ _ go len next)
        where
          taken : (x : Label) (m : Memory) (l : Locals) (u : Temporaries) (left : ℕ) → left ≤ most → Holds g.endian Local m l u
              → ((fewer : ℕ) → fewer < most → Good fewer (base + labels x) (λ st. after (section_runs g f bound does_child body (behind x body) st) go))
              → jumped g code left (base + labels x) m u ≡ after (counted left m l (section_runs g f bound does_child body (behind x body))) go
          taken x m l u zero h holds onward = jumped_none g code (base + labels x) m u
          taken x m l u (suc left) h holds onward = jumped_some g code left (base + labels x) m u ∙ (onward left (omega arith)).by left m l u (omega arith) holds

      pub section_right : (bound most : ℕ) → most ≤ bound → most ≤ limit → Good most (base + total) go → Good most base (λ st. after (section_runs g f bound does_child body body st) go)
      section_right bound most le ll next =
          let e : base ≡ base + 0 = omega arith in
          good_at most _ _ (λ st. after (section_runs g f bound does_child body body st) go) (sym e)
          (body_runs bound most body 0 le ll fits (subst (λ r. HasAt g code r (section_code top g f lists body)) e has) refl next)
