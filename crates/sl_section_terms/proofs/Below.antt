-- Each size variable of a section is below the number of its size variables.
use Rattle.std.proofs.Common.{◌≡◌, ℕ, ◌+◌, ◌<◌, ◌≤◌, Bool, true, false, List, [], ◌∷◌, ◌++◌, Option, Some, None, option_map, option_and_then, unwrap_or, slice_get, refl, subst, arith, if◌then◌else◌}
use Rattle.std.specs.Prelude.{codes}
use Rattle.std.specs.Str.{bytes_eq}
use Rattle.sl_ast.specs.Trees.{Expression, Expressions, integer, named, paren, call, sized, dropped, bits, prefix, star, binary, no_more, with_more}
use Rattle.sl_section_flat.specs.Sections as s
use Rattle.sl_section_flat.specs.Sections.{Symbol, Term, Terms, Step, bounded, span_count}
use Rattle.sl_section_flat.specs.Chains.{chain}
use Rattle.sl_section_flat.specs.Numbered.{SymbolBelow, TermBelow, TermsBelow, AllBelow, DirectBelow, ExportBelow, StepBelow, StepsBelow}
use Rattle.sl_spec.specs.Named as lists
use Rattle.sl_spec.specs.Tables as tables
use Rattle.sl_spec.specs.Tables.{Name}
use Rattle.sl_spec.specs.declared.tables.Tables.{Tables}
use Rattle.sl_word.specs.declared.operation.Op1.{Op1}
use Rattle.sl_word.specs.declared.operation.Op2.{Op2}
use Rattle.sl_section_terms.specs.Entries.{Entry}
use Rattle.sl_section_terms.specs.Operators.{binary_function, unary_function}
use Rattle.sl_section_terms.specs.Scopes.{built_in, first_of, global_symbol, known_symbol, own_symbol, range_at, range_named, range_symbol, register_at, register_named, symbol_named, userop_named, with_symbol}
use Rattle.sl_section_terms.specs.Terms.{binary_term, called, dropped_of, dropped_or, inside_sized, integer_of, single_integer, sized_term, term_at, terms_at, unary_term, user_term, variables, variables_in}
use Rattle.sl_section_terms.proofs.TermLemmas.{drops_one}
use Rattle.sl_section_terms.specs.declared.names.Names.{Names}
use Rattle.sl_section_terms.specs.declared.reach.Reach.{Reach}

-- ---- a greater number

pub symbol_up : (n m : ℕ) (a : Symbol) → n ≤ m → SymbolBelow n a → SymbolBelow m a
symbol_up n m (s.local x) le h = omega arith
symbol_up n m (s.register p o k) le h = tt
symbol_up n m (s.bit_range p o k l c) le h = tt
symbol_up n m (s.table i) le h = tt
symbol_up n m (s.attached i k) le h = tt
symbol_up n m (s.value i) le h = tt
symbol_up n m s.start le h = tt
symbol_up n m s.next le h = tt
symbol_up n m (s.integer v) le h = tt

mutual
  pub term_up : (n m : ℕ) (t : Term) → n ≤ m → TermBelow n t → TermBelow m t
  term_up n m (s.number v x) le h = omega arith
  term_up n m (s.sized v k x) le h = omega arith
  term_up n m (s.name a x) le h = (symbol_up n m a le h.0, omega arith)
  term_up n m (s.paren t x) le h = (term_up n m t le h.0, omega arith)
  term_up n m (s.kept t k x) le h = (term_up n m t le h.0, omega arith)
  term_up n m (s.dropped t k x) le h = (term_up n m t le h.0, omega arith)
  term_up n m (s.bits t l c x) le h = (term_up n m t le h.0, omega arith)
  term_up n m (s.load p k t x) le h = (term_up n m t le h.0, omega arith)
  term_up n m (s.one f t x) le h = (term_up n m t le h.0, omega arith)
  term_up n m (s.two f o a b x) le h = ((term_up n m a le h.0.0, term_up n m b le h.0.1), omega arith)
  term_up n m (s.user u ts x) le h = (terms_up n m ts le h.0, omega arith)

  terms_up : (n m : ℕ) (ts : Terms) → n ≤ m → TermsBelow n ts → TermsBelow m ts
  terms_up n m s.no_terms le h = tt
  terms_up n m (s.then_term t ts) le h = (term_up n m t le h.0, terms_up n m ts le h.1)

pub all_up : (n m : ℕ) (ts : List Term) → n ≤ m → AllBelow n ts → AllBelow m ts
all_up n m [] le h = tt
all_up n m (t ∷ ts) le h = (term_up n m t le h.0, all_up n m ts le h.1)

chain_below : (n : ℕ) (ts : List Term) → AllBelow n ts → TermsBelow n (chain ts)
chain_below n [] h = tt
chain_below n (t ∷ ts) h = (h.0, chain_below n ts h.1)

pub direct_up : (n m : ℕ) (to : s.Direct) → n ≤ m → DirectBelow n to → DirectBelow m to
direct_up n m (s.to_label l) le h = tt
direct_up n m (s.to_place a) le h = symbol_up n m a le h

export_up : (n m : ℕ) (what : s.Export) → n ≤ m → ExportBelow n what → ExportBelow m what
export_up n m (s.exports a x) le h = (symbol_up n m a le h.0, omega arith)
export_up n m (s.exports_constant k t x) le h = (term_up n m t le h.0, omega arith)
export_up n m (s.exports_memory p k t x) le h = (term_up n m t le h.0, omega arith)

step_up : (n m : ℕ) (a : Step) → n ≤ m → StepBelow n a → StepBelow m a
step_up n m (s.declare x k) le h = omega arith
step_up n m (s.set a t) le h = (symbol_up n m a le h.0, term_up n m t le h.1)
step_up n m (s.set_bits a l c t) le h = (symbol_up n m a le h.0, term_up n m t le h.1)
step_up n m (s.store p k t x e) le h = ((term_up n m t le h.0.0, term_up n m e le h.0.1), omega arith)
step_up n m (s.run_user u ts) le h = all_up n m ts le h
step_up n m (s.build i) le h = tt
step_up n m (s.label l) le h = tt
step_up n m (s.branch to) le h = direct_up n m to le h
step_up n m (s.branch_if t to) le h = (term_up n m t le h.0, direct_up n m to le h.1)
step_up n m (s.branch_to t) le h = term_up n m t le h
step_up n m (s.call a) le h = symbol_up n m a le h
step_up n m (s.call_to t) le h = term_up n m t le h
step_up n m (s.return t) le h = term_up n m t le h
step_up n m (s.export what) le h = export_up n m what le h

pub steps_up : (n m : ℕ) (ss : List Step) → n ≤ m → StepsBelow n ss → StepsBelow m ss
steps_up n m [] le h = tt
steps_up n m (a ∷ ss) le h = (step_up n m a le h.0, steps_up n m ss le h.1)

pub steps_both : (n : ℕ) (a b : List Step) → StepsBelow n a → StepsBelow n b → StepsBelow n (a ++ b)
steps_both n [] b h k = k
steps_both n (x ∷ a) b h k = (h.0, steps_both n a b h.1 k)

-- ---- names

-- what each name stands for is below
abbrev pub EntriesBelow : ℕ → List Entry → Type 0
EntriesBelow n [] = Unit {0}
EntriesBelow n (e ∷ es) = SymbolBelow n e.symbol × EntriesBelow n es

pub entries_up : (n m : ℕ) (es : List Entry) → n ≤ m → EntriesBelow n es → EntriesBelow m es
entries_up n m [] le h = tt
entries_up n m (e ∷ es) le h = (symbol_up n m e.symbol le h.0, entries_up n m es le h.1)

entries_more : (n : ℕ) (es : List Entry) (e : Entry) → EntriesBelow n es → SymbolBelow n e.symbol → EntriesBelow n (es ++ e ∷ [])
entries_more n [] e h k = (k, tt)
entries_more n (x ∷ es) e h k = (h.0, entries_more n es e h.1 k)

entries_if : (n : ℕ) (b : Bool) (es fs : List Entry) → EntriesBelow n es → EntriesBelow n fs → EntriesBelow n (if b then es else fs)
entries_if n true es fs h k = h
entries_if n false es fs h k = k

pub with_symbol_below : (n : ℕ) (es : List Entry) (w : Name) (a : Symbol) → EntriesBelow n es → SymbolBelow n a → EntriesBelow n (with_symbol es w a)
with_symbol_below n es w a h k =
    entries_if n (lists.has_name (λ e. e.name) w es) es (es ++ record { name = w; symbol = a } ∷ []) h (entries_more n es (record { name = w; symbol = a }) h k)

-- what a name stands for is below, where it stands for something
abbrev pub OptBelow : ℕ → Option Symbol → Type 0
OptBelow n None = Unit {0}
OptBelow n (Some a) = SymbolBelow n a

opt_up : (n m : ℕ) (o : Option Symbol) → n ≤ m → OptBelow n o → OptBelow m o
opt_up n m None le h = tt
opt_up n m (Some a) le h = symbol_up n m a le h

opt_if : (n : ℕ) (b : Bool) (x y : Option Symbol) → OptBelow n x → OptBelow n y → OptBelow n (if b then x else y)
opt_if n true x y h k = h
opt_if n false x y h k = k

entry_if : (n : ℕ) (b : Bool) (e : Entry) (o : Option Entry) → SymbolBelow n e.symbol → OptBelow n (option_map (λ x. x.symbol) o) → OptBelow n (option_map (λ x. x.symbol) (if b then Some e else o))
entry_if n true e o h k = h
entry_if n false e o h k = k

own_below : (n : ℕ) (es : List Entry) (w : Name) → EntriesBelow n es → OptBelow n (own_symbol es w)
own_below n [] w h = tt
own_below n (e ∷ es) w h = entry_if n (bytes_eq w e.name) e (lists.named (λ x. x.name) w es) h.0 (own_below n es w h.1)

first_below : (n : ℕ) (a b : Option Symbol) → OptBelow n a → OptBelow n b → OptBelow n (first_of a b)
first_below n None b h k = k
first_below n (Some a) b h k = h

registers_below : (n : ℕ) (o : Option tables.Register) → OptBelow n (option_map (λ r. s.register r.space r.offset r.size) o)
registers_below n None = tt
registers_below n (Some r) = tt

register_below : (n : ℕ) (t : Tables) (k : Option ℕ) → OptBelow n (option_and_then (register_at t) k)
register_below n t None = tt
register_below n t (Some i) = registers_below n (slice_get t.registers i)

bits_below : (n : ℕ) (b : tables.BitRange) (o : Option tables.Register) → OptBelow n (option_map (λ r. s.bit_range r.space r.offset r.size b.low (span_count b.count)) o)
bits_below n b None = tt
bits_below n b (Some r) = tt

ranges_below : (n : ℕ) (t : Tables) (o : Option tables.BitRange) → OptBelow n (option_and_then (range_symbol t) o)
ranges_below n t None = tt
ranges_below n t (Some b) = bits_below n b (slice_get t.registers b.register)

range_below : (n : ℕ) (t : Tables) (k : Option ℕ) → OptBelow n (option_and_then (range_at t) k)
range_below n t None = tt
range_below n t (Some i) = ranges_below n t (slice_get t.bitranges i)

built_in_below : (n : ℕ) (w : Name) → OptBelow n (built_in w)
built_in_below n w =
    let after = opt_if n (bytes_eq w (codes "inst_next")) (Some s.next) None tt tt in
    opt_if n (bytes_eq w (codes "inst_start")) (Some s.start) (if bytes_eq w (codes "inst_next") then Some s.next else None) tt after

global_below : (n : ℕ) (t : Tables) (reach : Reach) (w : Name) → OptBelow n (global_symbol t reach w)
global_below n t reach w =
    first_below n (register_named t reach w) (first_of (range_named t reach w) (built_in w)) (register_below n t _)
    (first_below n (range_named t reach w) (built_in w) (range_below n t _) (built_in_below n w))

unwrap_below : (n : ℕ) (o : Option Symbol) → OptBelow n o → SymbolBelow n (unwrap_or o (s.integer 0))
unwrap_below n None h = tt
unwrap_below n (Some a) h = h

-- ---- expressions

module _ (t : Tables) (names : Names) where
  -- the names that are known stand for what is below
  abbrev pub ScopeBelow : ℕ → Type 0
  ScopeBelow n = EntriesBelow n names.own

  pub symbol_below : (n : ℕ) (w : Name) → ScopeBelow n → OptBelow n (symbol_named t names w)
  symbol_below n w h = first_below n (own_symbol names.own w) (global_symbol t names.reach w) (own_below n names.own w h) (global_below n t names.reach w)

  pub known_below : (n : ℕ) (w : Name) → ScopeBelow n → SymbolBelow n (known_symbol t names w)
  known_below n w h = unwrap_below n (symbol_named t names w) (symbol_below n w h)

  user_below : (n x : ℕ) (o : Option ℕ) (ts : List Term) → AllBelow n ts → x < n → TermBelow n (user_term o ts x)
  user_below n x None ts h lt = lt
  user_below n x (Some u) ts h lt = (chain_below n ts h, lt)

  unary_below : (n x : ℕ) (f : Option Op1) (o : Option ℕ) (a : Term) → TermBelow n a → x < n → TermBelow n (unary_term f o a x)
  unary_below n x None o a h lt = user_below n x o (a ∷ []) (h, tt) lt
  unary_below n x (Some f) o a h lt = (h, lt)

  binary_below : (n x : ℕ) (f : Option Op2) (o : Option ℕ) (a b : Term) → TermBelow n a → TermBelow n b → x < n → TermBelow n (binary_term f o a b x)
  binary_below n x None o a b h k lt = user_below n x o (a ∷ b ∷ []) (h, (k, tt)) lt
  binary_below n x (Some f) o a b h k lt = ((h, k), lt)

  called_below : (n x : ℕ) (w : Name) (ts : List Term) → AllBelow n ts → x < n → TermBelow n (called t names.reach w ts x)
  called_below n x w [] h lt = user_below n x (userop_named t names.reach w) [] h lt
  called_below n x w (a ∷ []) h lt = unary_below n x (unary_function w) (userop_named t names.reach w) a h.0 lt
  called_below n x w (a ∷ b ∷ []) h lt = binary_below n x (binary_function w) (userop_named t names.reach w) a b h.0 h.1.0 lt
  called_below n x w (a ∷ b ∷ d ∷ ts) h lt = user_below n x (userop_named t names.reach w) (a ∷ b ∷ d ∷ ts) h lt

  dropped_below : (i : ℕ) (es : Expressions) (o : Option Symbol) (d : Option (Symbol × ℕ)) (other : Term) → d ≡ dropped_of o (single_integer es) → OptBelow i o
      → TermBelow (i + (variables_in es + 1)) other → TermBelow (i + (variables_in es + 1)) (dropped_or d i other)
  dropped_below i es o None other is h k = k
  dropped_below i es o (Some d) other is h k =
      let one = drops_one o es d is in
      ((symbol_up i (i + (variables_in es + 1)) d.0 (omega arith) (dropped_symbol i o (single_integer es) d is h), omega arith), omega (arith, one))
    where
      dropped_symbol : (i : ℕ) (o : Option Symbol) (k : Option ℕ) (d : Symbol × ℕ) → Some d ≡ dropped_of o k → OptBelow i o → SymbolBelow i d.0
      dropped_symbol i None k d is h = absurd (let e : ⊥ = cc in e)
      dropped_symbol i (Some a) None d is h = absurd (let e : ⊥ = cc in e)
      dropped_symbol i (Some a) (Some k) d is h = subst (λ b. SymbolBelow i b) (let e : a ≡ d.0 = cc in e) h

  sized_below : (o : Option ℕ) (k : ℕ) (e : Term) (i v : ℕ) → TermBelow (i + v) e → TermBelow (i + (inside_sized o v + 1)) (sized_term o k e i (i + v))
  sized_below None k e i v h = (term_up (i + v) (i + (v + 1)) e (omega arith) h, omega arith)
  sized_below (Some w) k e i v h = omega arith

  mutual
    pub term_below : (e : Expression) (i : ℕ) → ScopeBelow i → TermBelow (i + variables e) (term_at t names i e)
    term_below (integer v) i h = omega arith
    term_below (named w) i h = (symbol_up i (i + 1) (known_symbol t names w) (omega arith) (known_below i w h), omega arith)
    term_below (paren e) i h = (term_up (i + variables e) (i + (variables e + 1)) (term_at t names i e) (omega arith) (term_below e i h), omega arith)
    term_below (call w es) i h =
        let n = i + (variables_in es + 1) in
        let all = all_up (i + variables_in es) n (terms_at t names i es) (omega arith) (terms_below es i h) in
        dropped_below i es (symbol_named t names w) (dropped_of (symbol_named t names w) (single_integer es)) _ refl (symbol_below i w h)
        (called_below n (i + variables_in es) w (terms_at t names i es) all (omega arith))
    term_below (sized e k) i h = sized_below (integer_of e) (bounded k) (term_at t names i e) i (variables e) (term_below e i h)
    term_below (dropped e k) i h = (term_up (i + variables e) (i + (variables e + 1)) (term_at t names i e) (omega arith) (term_below e i h), omega arith)
    term_below (bits e l c) i h = (term_up (i + variables e) (i + (variables e + 1)) (term_at t names i e) (omega arith) (term_below e i h), omega arith)
    term_below (prefix f e) i h = (term_up (i + variables e) (i + (variables e + 1)) (term_at t names i e) (omega arith) (term_below e i h), omega arith)
    term_below (star z k e) i h = (term_up (i + variables e) (i + (variables e + 1)) (term_at t names i e) (omega arith) (term_below e i h), omega arith)
    term_below (binary f a b) i h =
        let j = i + variables a in
        let n = i + (variables a + variables b + 1) in
        let first = term_up j n (term_at t names i a) (omega arith) (term_below a i h) in
        let second = term_up (j + variables b) n (term_at t names j b) (omega arith) (term_below b j (entries_up i j names.own (omega arith) h)) in
        ((first, second), omega arith)

    pub terms_below : (es : Expressions) (i : ℕ) → ScopeBelow i → AllBelow (i + variables_in es) (terms_at t names i es)
    terms_below no_more i h = tt
    terms_below (with_more e es) i h =
        let j = i + variables e in
        let n = i + (variables e + variables_in es) in
        let rest = terms_below es j (entries_up i j names.own (omega arith) h) in
        (term_up j n (term_at t names i e) (omega arith) (term_below e i h), all_up (j + variables_in es) n (terms_at t names j es) (omega arith) rest)
