-- A section builds each operand once at most: each name once, by rule 29, and the others by themselves.
use Rattle.std.proofs.Common.{◌≡◌, ℕ, suc, ◌+◌, ◌≤◌, ◌⊎◌, inl, inr, ◌&&◌, ◌||◌, Bool, true, false, List, [], ◌∷◌, ◌++◌, Option, Some, None, option_map, option_and_then, unwrap_or, fold, cond, slice_get, refl, sym, ap, ◌∙◌, subst, arith, if◌then◌else◌}
use Rattle.std.specs.Prelude.{⊤, codes, not}
use Rattle.std.specs.List.{AllByRecursion}
use Rattle.std.specs.Str.{bytes_eq}
use Rattle.std.proofs.lemmas.Bool.{false≢true}
use Rattle.std.proofs.lemmas.List.Folds.{list_any-append}
use Rattle.std.proofs.lemmas.Slice.Eq.{bytes_eq-Decides}
use Rattle.sl_ast.specs.Trees.{Expression, Left, left_name, left_bits, left_star, Statement, local, declare, assign, goto, branch, call_to, return, build, export, invoke, label}
use Rattle.sl_faithful_sections.proofs.QuietLemmas.{CallsKeep, IsMacro, calls_keep, is_quiet, none_built, taken_quiet}
use Rattle.sl_spec_registers.proofs.BoolLemmas.{and_parts, not_true, or_false}
use Rattle.sl_spec_registers.proofs.FreshLemmas.{differ_less}
use Rattle.sl_section_terms.specs.Entries.{Entry}
use Rattle.sl_section_resolve.specs.Macros.{Body}
use Rattle.sl_section_terms.specs.Scopes.{attached_size, bits_symbol, built_in, field_symbol, first_of, global_symbol, operand_symbol, own_symbol, range_at, range_named, register_at, register_named, register_symbol, symbol_named, with_operands, with_symbol}
use Rattle.sl_section_resolve.specs.Steps.{Calls, after, all_taken, assign_after, build_steps, calls_of, is_table, left_after, opening, section_steps, taken, unplaced, unplaced_one, with_built, with_name}
use Rattle.sl_section_terms.specs.declared.names.Names.{Names}
use Rattle.sl_section_terms.specs.declared.reach.Reach.{Reach}
use Rattle.sl_section_resolve.specs.declared.state.State.{State}
use Rattle.sl_spec_rules.specs.Gathered.{gathered}
use Rattle.sl_spec_rules.specs.Names.{are_distinct, differ_behind, is_among}
use Rattle.sl_section_flat.specs.Sections as s
use Rattle.sl_section_flat.specs.Sections.{Step, Symbol}
use Rattle.sl_section_rules.specs.SectionRules as rules
use Rattle.sl_spec.specs.Named.{has_name, named}
use Rattle.sl_spec.specs.Tables as tables
use Rattle.sl_spec.specs.Tables.{BitRange, Name, Register}
use Rattle.sl_spec.specs.declared.constructors.Means.{Means}
use Rattle.sl_spec.specs.declared.constructors.Means.TheVariants as means
use Rattle.sl_spec.specs.declared.tables.Tables.{Tables}
use Rattle.sl_faithful_formed.specs.Lengths.{AreDistinct, IsNone, built, step_built}

-- ---- lists of numbers

pub built_both : (a b : List Step) → built (a ++ b) ≡ built a ++ built b
built_both [] b = refl
built_both (x ∷ a) b =
    ap (λ (l : List ℕ). step_built x ++ l) (built_both a b) ∙ joined (step_built x) (built a) (built b)
  where
    joined : (x y z : List ℕ) → x ++ (y ++ z) ≡ (x ++ y) ++ z
    joined [] y z = refl
    joined (i ∷ x) y z = ap (λ (l : List ℕ). i ∷ l) (joined x y z)

none_both : (i : ℕ) (xs ys : List ℕ) → IsNone i xs → IsNone i ys → IsNone i (xs ++ ys)
none_both i [] ys h k = k
none_both i (x ∷ xs) ys h k = (h.0, none_both i xs ys h.1 k)

-- ---- names that are written once

same_bytes : (w v : Name) → w ≡ v → bytes_eq w v ≡ true
same_bytes w v is = (bytes_eq-Decides w v).1 is

once_by : (w : Name) (seen ws : List Name) → differ_behind (w ∷ seen) ws ≡ true → is_among ws w ≡ false
once_by w seen [] h = refl
once_by w seen (m ∷ ws) h =
    let p = and_parts (not (is_among (w ∷ seen) m)) (differ_behind (w ∷ seen ++ m ∷ []) ws) h in
    let apart = (or_false (bytes_eq m w) (is_among seen m) (not_true (is_among (w ∷ seen) m) p.0)).0 in
    by (bytes_eq w m) refl apart (once_by w (seen ++ m ∷ []) ws p.1)
  where
    by : (b : Bool) → bytes_eq w m ≡ b → bytes_eq m w ≡ false → is_among ws w ≡ false → (b || is_among ws w) ≡ false
    by false is apart rest = rest
    by true is apart rest = absurd (false≢true (sym apart ∙ same_bytes m w (sym ((bytes_eq-Decides w m).0 is))))

-- ---- names of a section or call

pub named_more : (own : List Entry) (e : Entry) (v : Name)
    → own_symbol (own ++ e ∷ []) v ≡ first_of (own_symbol own v) (if bytes_eq v e.name then Some e.symbol else None)
named_more [] e v = by (bytes_eq v e.name)
  where
    by : (b : Bool) → option_map (λ (e : Entry). e.symbol) (cond b (Some e) None) ≡ (if b then Some e.symbol else None)
    by true = refl
    by false = refl
named_more (x ∷ own) e v = by (bytes_eq v x.name) (named_more own e v)
  where
    by : (b : Bool)
        → own_symbol (own ++ e ∷ []) v ≡ first_of (own_symbol own v) (if bytes_eq v e.name then Some e.symbol else None)
        → option_map (λ (e : Entry). e.symbol) (cond b (Some x) (named (λ (e : Entry). e.name) v (own ++ e ∷ [])))
        ≡ first_of (option_map (λ (e : Entry). e.symbol) (cond b (Some x) (named (λ (e : Entry). e.name) v own)))
        (if bytes_eq v e.name then Some e.symbol else None)
    by true rest = refl
    by false rest = rest

some_own : (own : List Entry) (v : Name) → has_name (λ (e : Entry). e.name) v own ≡ true
    → (a : Symbol) × (own_symbol own v ≡ Some a)
some_own [] v h = absurd (let e : ⊥ = cc in e)
some_own (x ∷ own) v h = by (bytes_eq v x.name) h (some_own own v)
  where
    by : (b : Bool) → (b || has_name (λ (e : Entry). e.name) v own) ≡ true
        → (has_name (λ (e : Entry). e.name) v own ≡ true → (a : Symbol) × (own_symbol own v ≡ Some a))
        → (a : Symbol)
        × (option_map (λ (e : Entry). e.symbol) (cond b (Some x) (named (λ (e : Entry). e.name) v own)) ≡ Some a)
    by true h rest = (x.symbol, refl)
    by false h rest = rest h

first_none : (o : Option Symbol) → first_of o None ≡ o
first_none None = refl
first_none (Some a) = refl

-- what a name stands for once another is there
pub own_with : (own : List Entry) (w : Name) (a : Symbol) (v : Name)
    → own_symbol (with_symbol own w a) v ≡ first_of (own_symbol own v) (if bytes_eq v w then Some a else None)
own_with own w a v = by (has_name (λ (e : Entry). e.name) w own) refl
  where
    kept : (b : Bool) → bytes_eq v w ≡ b → has_name (λ (e : Entry). e.name) w own ≡ true
        → own_symbol own v ≡ first_of (own_symbol own v) (if b then Some a else None)
    kept false is there = sym (first_none (own_symbol own v))
    kept true is there =
        let o = some_own own v
        (ap (λ n. has_name (λ (e : Entry). e.name) n own) ((bytes_eq-Decides v w).0 is) ∙ there) in
        o.1 ∙ sym (ap (λ x. first_of x (Some a)) o.1)

    by : (b : Bool) → has_name (λ (e : Entry). e.name) w own ≡ b
        → own_symbol (if b then own else own ++ record { name = w; symbol = a } ∷ []) v ≡ first_of (own_symbol own v)
        (if bytes_eq v w then Some a else None)
    by true there = kept (bytes_eq v w) refl there
    by false there = named_more own (record { name = w; symbol = a }) v

-- ---- no global name is a table's

abbrev NoTable : Option Symbol → Type 0
NoTable (Some (s.table i)) = ⊥
NoTable _ = ⊤

no_table_first : (a b : Option Symbol) → NoTable a → NoTable b → NoTable (first_of a b)
no_table_first None b h k = k
no_table_first (Some a) b h k = h

module _ (t : Tables) (reach : Reach) where
  register_no_table : (o : Option ℕ) → NoTable (option_and_then (register_at t) o)
  register_no_table None = tt
  register_no_table (Some i) = by (slice_get t.registers i)
    where
      by : (o : Option Register) → NoTable (option_map register_symbol o)
      by None = tt
      by (Some r) = tt

  range_no_table : (o : Option ℕ) → NoTable (option_and_then (range_at t) o)
  range_no_table None = tt
  range_no_table (Some i) = by (slice_get t.bitranges i)
    where
      of_register : (b : BitRange) (o : Option Register) → NoTable (option_map (bits_symbol b) o)
      of_register b None = tt
      of_register b (Some r) = tt

      by : (o : Option BitRange)
          → NoTable (option_and_then (λ b. option_map (bits_symbol b) (slice_get t.registers b.register)) o)
      by None = tt
      by (Some b) = of_register b (slice_get t.registers b.register)

  built_in_no_table : (a b : Bool) → NoTable (if a then Some s.start else (if b then Some s.next else None))
  built_in_no_table true b = tt
  built_in_no_table false true = tt
  built_in_no_table false false = tt

  global_no_table : (w : Name) → NoTable (global_symbol t reach w)
  global_no_table w =
      no_table_first (register_named t reach w) (first_of (range_named t reach w) (built_in w)) (register_no_table _)
      (no_table_first (range_named t reach w) (built_in w) (range_no_table _)
      (built_in_no_table (bytes_eq w (codes "inst_start")) (bytes_eq w (codes "inst_next"))))

-- ---- names that stand for tables are those of their operands

module _ (t : Tables) (os : List tables.Operand) where
  abbrev pub name_at : ℕ → Option Name
  name_at i = option_map (λ (o : tables.Operand). o.name) (slice_get os i)

  abbrev NamesTable : Option Symbol → Name → Type 0
  NamesTable o w = (i : ℕ) → o ≡ Some (s.table i) → name_at i ≡ Some w

  abbrev NameTables : List Entry → Type 0
  NameTables own = (w : Name) → NamesTable (own_symbol own w) w

  -- with one name more
  one_more : (own : List Entry) (w : Name) (a : Symbol) → NamesTable (Some a) w → NameTables own
      → NameTables (with_symbol own w a)
  one_more own w a new old v =
      subst (λ (o : Option Symbol). NamesTable o v) (sym (own_with own w a v))
      (by (own_symbol own v) (bytes_eq v w) refl (old v))
    where
      by : (o : Option Symbol) (b : Bool) → bytes_eq v w ≡ b → NamesTable o v
          → NamesTable (first_of o (if b then Some a else None)) v
      by (Some x) b is h = h
      by None false is h = h
      by None true is h = subst (NamesTable (Some a)) (sym ((bytes_eq-Decides v w).0 is)) new

  one_local : (own : List Entry) (w : Name) (x : ℕ) → NameTables own → NameTables (with_symbol own w (s.local x))
  one_local own w x old = one_more own w (s.local x) (λ i is. absurd (let e : ⊥ = cc in e)) old

  -- the operands from number i on
  operand_names : (i : ℕ) (o : tables.Operand) (m : Means) → slice_get os i ≡ Some o
      → NamesTable (Some (operand_symbol t i m)) o.name
  operand_names i o (means.Field f) at = by (attached_size t f)
    where
      by : (size : Option ℕ) → NamesTable (Some (field_symbol i size)) o.name
      by None j is = absurd (let e : ⊥ = cc in e)
      by (Some n) j is = absurd (let e : ⊥ = cc in e)
  operand_names i o (means.Table b) at =
      λ j is. let e : i ≡ j = cc in ap name_at (sym e) ∙ ap (option_map (λ (o : tables.Operand). o.name)) at
  operand_names i o (means.Action k) at = λ j is. absurd (let e : ⊥ = cc in e)

  all_operands : (own : List Entry) (i : ℕ) (rest : List tables.Operand)
      → ((k : ℕ) (o : tables.Operand) → slice_get rest k ≡ Some o → slice_get os (i + k) ≡ Some o)
      → NameTables own → NameTables (with_operands t own i rest)
  all_operands own i [] each old = old
  all_operands own i (o ∷ rest) each old =
      let here : slice_get os i ≡ Some o = ap (slice_get os) (let e : i ≡ i + 0 = omega arith in e) ∙ each 0 o refl in
      all_operands (with_symbol own o.name (operand_symbol t i o.means)) (i + 1) rest
      (λ k p is. ap (slice_get os) (let e : i + 1 + k ≡ i + suc k = omega arith in e) ∙ each (suc k) p is)
      (one_more own o.name (operand_symbol t i o.means) (operand_names i o o.means here) old)

  no_names : NameTables []
  no_names w i is = absurd (let e : ⊥ = cc in e)

  opening_names : (reach : Reach) → NameTables (opening t reach os).names.own
  opening_names reach =
      all_operands [] 0 os (λ k o is. ap (slice_get os) (let e : 0 + k ≡ k = omega arith in e) ∙ is) no_names

  symbol_names : (names : Names) (w : Name) → NameTables names.own → NamesTable (symbol_named t names w) w
  symbol_names names w h =
      by (own_symbol names.own w) (global_symbol t names.reach w) (h w) (global_no_table t names.reach w)
    where
      by : (a b : Option Symbol) → NamesTable a w → NoTable b → NamesTable (first_of a b) w
      by (Some a) b own none = own
      by None b own none = λ i is. absurd (subst NoTable is none)

  -- ---- the names behind a statement

  assign_names : (st : State) (w : Name) (a : Option Symbol) (e : Expression) → NameTables st.names.own
      → NameTables (assign_after w st a e).names.own
  assign_names st w None e h = one_local st.names.own w st.next h
  assign_names st w (Some a) e h = h

  left_names : (st : State) (left : Left) (e : Expression) → NameTables st.names.own
      → NameTables (left_after t st left e).names.own
  left_names st (left_name w) e h = assign_names st w (symbol_named t st.names w) e h
  left_names st (left_bits w l c) e h = h
  left_names st (left_star form p) e h = h

  after_names : (c : Calls) → CallsKeep t c → (st : State) (x : Statement) → NameTables st.names.own
      → NameTables (after t c st x).names.own
  after_names c k st (local w size value) h = one_local st.names.own w st.next h
  after_names c k st (declare w n e) h = one_local st.names.own w st.next h
  after_names c k st (assign left e) h = left_names st left e h
  after_names c k st (goto to) h = h
  after_names c k st (branch e to) h = h
  after_names c k st (call_to to) h = h
  after_names c k st (return e) h = h
  after_names c k st (build w) h = h
  after_names c k st (export what) h = h
  after_names c k st (invoke w es) h = subst (λ (n : Names). NameTables n.own) (sym (k.names w es st)) h
  after_names c k st (label w) h = h

  -- ---- operands that are built by name

  abbrev is_named_in : List Name → Option Name → Bool
  is_named_in ws None = false
  is_named_in ws (Some w) = is_among ws w

  -- Each of the numbers is that of an operand of one of these names, or of none of them.
  abbrev AreNamed : (named : Bool) → List Name → List ℕ → Type 0
  AreNamed named ws [] = ⊤
  AreNamed named ws (i ∷ is) = (is_named_in ws (name_at i) ≡ named) × AreNamed named ws is

  named_more_by : (w : Name) (ws : List Name) (o : Option Name) → is_named_in ws o ≡ true
      → is_named_in (w ∷ ws) o ≡ true
  named_more_by w ws None h = absurd (false≢true h)
  named_more_by w ws (Some v) h = by (bytes_eq v w) h
    where
      by : (b : Bool) → is_among ws v ≡ true → (b || is_among ws v) ≡ true
      by true h = refl
      by false h = h

  more_named : (w : Name) (ws : List Name) (is : List ℕ) → AreNamed true ws is → AreNamed true (w ∷ ws) is
  more_named w ws [] h = tt
  more_named w ws (i ∷ is) h = (named_more_by w ws (name_at i) h.0, more_named w ws is h.1)

  -- it is none of them, where it isn't named as they are
  none_named : (i : ℕ) (b c : Bool) (ws : List Name) (is : List ℕ) → is_named_in ws (name_at i) ≡ b → (b ≡ c → ⊥)
      → AreNamed c ws is → IsNone i is
  none_named i b c ws [] own apart h = tt
  none_named i b c ws (j ∷ is) own apart h = (
    (λ same. apart
        (sym own ∙ ap (λ n. is_named_in ws (name_at n)) same ∙ h.0)),
    none_named i b c ws is own apart h.1,
  )

  -- It builds the operand of this name, or none.
  abbrev BuildsOne : Name → List ℕ → Type 0
  BuildsOne w [] = ⊤
  BuildsOne w (i ∷ []) = name_at i ≡ Some w
  BuildsOne w (i ∷ (j ∷ is)) = ⊥

  one_build : (w : Name) (o : Option Symbol) → NamesTable o w
      → BuildsOne w (built (build_steps (unwrap_or o (s.integer 0))))
  one_build w (Some (s.table i)) h = h i refl
  one_build w (Some (s.local x)) h = tt
  one_build w (Some (s.register p o k)) h = tt
  one_build w (Some (s.bit_range p o k l c)) h = tt
  one_build w (Some (s.attached i k)) h = tt
  one_build w (Some (s.value i)) h = tt
  one_build w (Some s.start) h = tt
  one_build w (Some s.next) h = tt
  one_build w (Some (s.integer v)) h = tt
  one_build w None h = tt

  -- What is built is named so, each once.
  pub record AreBuilt (ws : List Name) (is : List ℕ) : Type 0 where
    pub named : AreNamed true ws is
    pub once : AreDistinct is

  one_built_more : (w : Name) (ws : List Name) (is js : List ℕ) → BuildsOne w is → is_among ws w ≡ false
      → AreBuilt ws js → AreBuilt (w ∷ ws) (is ++ js)
  one_built_more w ws [] js one new are = record { named = more_named w ws js are.named; once = are.once }
  one_built_more w ws (i ∷ []) js one new are = record {
    named = (
      ap (is_named_in (w ∷ ws)) one ∙ ap (λ b. b || is_among ws w)
          (same_bytes w w refl),
      more_named w ws js are.named,
    );
    once = (none_named i false true ws js (ap (is_named_in ws) one ∙ new) false≢true are.named, are.once);
  }
  one_built_more w ws (i ∷ (j ∷ is)) js one new are = absurd one

  abbrev names_built : List Statement → List Name
  names_built xs = gathered rules.built xs

  -- A statement builds what it names, if it names anything.
  abbrev BuildsAs : List Name → List ℕ → Type 0
  BuildsAs [] is = is ≡ []
  BuildsAs (w ∷ []) is = BuildsOne w is
  BuildsAs (w ∷ (v ∷ ws)) is = ⊥

  quiet_builds : (c : Calls) → CallsKeep t c → (st : State) (x : Statement) → is_quiet x ≡ true
      → built (taken t c st x) ≡ []
  quiet_builds c k st x is = none_built (taken t c st x) (taken_quiet t c k st x is)

  taken_builds : (c : Calls) → CallsKeep t c → (st : State) (x : Statement) → NameTables st.names.own
      → BuildsAs (rules.built x) (built (taken t c st x))
  taken_builds c k st (build w) h = one_build w (symbol_named t st.names w) (symbol_names st.names w h)
  taken_builds c k st (export what) h = refl
  taken_builds c k st (local w size value) h = quiet_builds c k st (local w size value) refl
  taken_builds c k st (declare w n e) h = quiet_builds c k st (declare w n e) refl
  taken_builds c k st (assign left e) h = quiet_builds c k st (assign left e) refl
  taken_builds c k st (goto to) h = quiet_builds c k st (goto to) refl
  taken_builds c k st (branch e to) h = quiet_builds c k st (branch e to) refl
  taken_builds c k st (call_to to) h = quiet_builds c k st (call_to to) refl
  taken_builds c k st (return e) h = quiet_builds c k st (return e) refl
  taken_builds c k st (invoke w es) h = quiet_builds c k st (invoke w es) refl
  taken_builds c k st (label w) h = quiet_builds c k st (label w) refl

  one_distinct : (vs ws : List Name) (is : List ℕ) → BuildsAs vs is → are_distinct (vs ++ ws) ≡ true
      → are_distinct ws ≡ true
  one_distinct [] ws is one once = once
  one_distinct (v ∷ []) ws is one once = differ_less v [] ws once
  one_distinct (v ∷ (u ∷ vs)) ws is one once = absurd one

  one_joined : (vs ws : List Name) (is js : List ℕ) → BuildsAs vs is → are_distinct (vs ++ ws) ≡ true → AreBuilt ws js
      → AreBuilt (vs ++ ws) (is ++ js)
  one_joined [] ws is js one once are = subst (λ (l : List ℕ). AreBuilt ws (l ++ js)) (sym one) are
  one_joined (v ∷ []) ws is js one once are = one_built_more v ws is js one (once_by v [] ws once) are
  one_joined (v ∷ (u ∷ vs)) ws is js one once are = absurd one

  body_built : (c : Calls) → CallsKeep t c → (st : State) (xs : List Statement) → NameTables st.names.own
      → are_distinct (names_built xs) ≡ true
      → AreBuilt (names_built xs) (built (all_taken t c st xs))
  unfolding gathered
  body_built c k st [] names once = record { named = tt; once = tt }
  body_built c k st (x ∷ xs) names once =
      let here = taken_builds c k st x names in
      let rest = body_built c k (after t c st x) xs (after_names c k st x names)
      (one_distinct (rules.built x) (names_built xs) (built (taken t c st x)) here once) in
      subst (AreBuilt (names_built (x ∷ xs))) (sym (built_both (taken t c st x) (all_taken t c (after t c st x) xs)))
      (one_joined (rules.built x) (names_built xs) (built (taken t c st x))
      (built (all_taken t c (after t c st x) xs)) here once rest)

  -- ---- operands that no `build` names

  -- The numbers are so great at least.
  abbrev AreFrom : ℕ → List ℕ → Type 0
  AreFrom n [] = ⊤
  AreFrom n (i ∷ is) = (n ≤ i) × AreFrom n is

  from_less : (m n : ℕ) (is : List ℕ) → m ≤ n → AreFrom n is → AreFrom m is
  from_less m n [] le h = tt
  from_less m n (i ∷ is) le h = (omega (arith, le, h.0), from_less m n is le h.1)

  none_from : (i : ℕ) (is : List ℕ) → AreFrom (i + 1) is → IsNone i is
  none_from i [] h = tt
  none_from i (j ∷ is) h = ((λ same. let le = h.0 in let no : ⊥ = omega (arith, same, le) in no), none_from i is h.1)

  -- They aren't named so, each is there once, and none is below a number.
  record AreUnnamed (ws : List Name) (n : ℕ) (is : List ℕ) : Type 0 where
    pub from : AreFrom n is
    pub named : AreNamed false ws is
    pub once : AreDistinct is

  one_unplaced : (ws : List Name) (i : ℕ) (o : tables.Operand) (b c : Bool) (is : List ℕ) → slice_get os i ≡ Some o
      → is_among ws o.name ≡ c → AreUnnamed ws (i + 1) is
      → AreUnnamed ws i (built (if b && not c then s.build i ∷ [] else []) ++ is)
  one_unplaced ws i o false c is at there are =
      record { from = from_less i (i + 1) is (omega arith) are.from; named = are.named; once = are.once }
  one_unplaced ws i o true true is at there are =
      record { from = from_less i (i + 1) is (omega arith) are.from; named = are.named; once = are.once }
  one_unplaced ws i o true false is at there are = record {
    from = (omega arith, from_less i (i + 1) is (omega arith) are.from);
    named = (ap (is_named_in ws) (ap (option_map (λ (o : tables.Operand). o.name)) at) ∙ there, are.named);
    once = (none_from i is are.from, are.once);
  }

  unplaced_built : (ws : List Name) (i : ℕ) (rest : List tables.Operand)
      → ((k : ℕ) (o : tables.Operand) → slice_get rest k ≡ Some o → slice_get os (i + k) ≡ Some o)
      → AreUnnamed ws i (built (unplaced ws i rest))
  unplaced_built ws i [] each = record { from = tt; named = tt; once = tt }
  unplaced_built ws i (o ∷ rest) each =
      let here : slice_get os i ≡ Some o = ap (slice_get os) (let e : i ≡ i + 0 = omega arith in e) ∙ each 0 o refl in
      subst (AreUnnamed ws i) (sym (built_both (unplaced_one ws i o) (unplaced ws (i + 1) rest)))
      (one_unplaced ws i o (is_table o.means) (is_among ws o.name) (built (unplaced ws (i + 1) rest)) here refl
      (unplaced_built ws (i + 1) rest
      (λ k p is. ap (slice_get os) (let e : i + 1 + k ≡ i + suc k = omega arith in e) ∙ each (suc k) p is)))

  -- ---- both

  added_keeps : (ws : List Name) (w v : Name) → is_among ws v ≡ true → is_among (with_name ws w) v ≡ true
  added_keeps ws w v h = by (is_among ws w)
    where
      by : (b : Bool) → is_among (if b then ws else ws ++ w ∷ []) v ≡ true
      by true = h
      by false = list_any-append (λ n. bytes_eq v n) ws (w ∷ []) ∙ ap (λ b. b || (bytes_eq v w || false)) h

  added_has : (ws : List Name) (w v : Name) → bytes_eq v w ≡ true → is_among (with_name ws w) v ≡ true
  added_has ws w v h = by (is_among ws w) refl
    where
      last : (b : Bool) → (b || (true || false)) ≡ true
      last true = refl
      last false = refl

      by : (b : Bool) → is_among ws w ≡ b → is_among (if b then ws else ws ++ w ∷ []) v ≡ true
      by true there = ap (is_among ws) ((bytes_eq-Decides v w).0 h) ∙ there
      by false there =
          list_any-append (λ n. bytes_eq v n) ws (w ∷ []) ∙ ap (λ b. is_among ws v || (b || false)) h
          ∙ last (is_among ws v)

  one_keeps : (ws : List Name) (x : Statement) (v : Name) → is_among ws v ≡ true → is_among (with_built ws x) v ≡ true
  one_keeps ws (build w) v h = added_keeps ws w v h
  one_keeps ws _ v h = h

  all_keep : (ws : List Name) (xs : List Statement) (v : Name) → is_among ws v ≡ true
      → is_among (fold with_built ws xs) v ≡ true
  all_keep ws [] v h = h
  all_keep ws (x ∷ xs) v h = all_keep (with_built ws x) xs v (one_keeps ws x v h)

  -- the names of a statement, or those behind it
  one_has : (ws : List Name) (x : Statement) (xs : List Statement) (v : Name)
      → is_among (rules.built x ++ names_built xs) v ≡ true
      → (is_among (with_built ws x) v ≡ true) ⊎ (is_among (names_built xs) v ≡ true)
  one_has ws (build w) xs v h = by (bytes_eq v w) refl h
    where
      by : (b : Bool) → bytes_eq v w ≡ b → (b || is_among (names_built xs) v) ≡ true
          → (is_among (with_name ws w) v ≡ true) ⊎ (is_among (names_built xs) v ≡ true)
      by true is h = inl (added_has ws w v is)
      by false is h = inr h
  one_has ws _ xs v h = inr h

  all_have : (ws : List Name) (xs : List Statement) (v : Name) → is_among (names_built xs) v ≡ true
      → is_among (fold with_built ws xs) v ≡ true
  unfolding gathered
  all_have ws [] v h = absurd (false≢true h)
  all_have ws (x ∷ xs) v h = elim (one_has ws x xs v h) [
    | inl here ↦ all_keep (with_built ws x) xs v here
    | inr later ↦ all_have (with_built ws x) xs v later
  ]

  named_by : (xs : List Statement) (o : Option Name) → is_named_in (names_built xs) o ≡ true
      → is_named_in (fold with_built [] xs) o ≡ true
  named_by xs None h = h
  named_by xs (Some v) h = all_have [] xs v h

  all_named : (xs : List Statement) (is : List ℕ) → AreNamed true (names_built xs) is
      → AreNamed true (fold with_built [] xs) is
  all_named xs [] h = tt
  all_named xs (i ∷ is) h = (named_by xs (name_at i) h.0, all_named xs is h.1)

  -- those that are named differ from those that aren't
  distinct_both : (ws : List Name) (is js : List ℕ) → AreNamed false ws is → AreDistinct is → AreNamed true ws js
      → AreDistinct js → AreDistinct (is ++ js)
  distinct_both ws [] js un d named e = e
  distinct_both ws (i ∷ is) js un d named e = (
    none_both i is js d.0
        (none_named i false true ws js un.0 false≢true named),
    distinct_both ws is js un.1 d.1 named e,
  )

  -- a section
  pub section_built : (macros : List Body) (reach : Reach) (xs : List Statement) → AllByRecursion (IsMacro t) macros
      → are_distinct (names_built xs) ≡ true
      → AreDistinct (built (section_steps t macros reach os xs))
  section_built macros reach xs are once =
      let ws = fold with_built [] xs in
      let c = calls_of t macros reach.macros in
      let by_name = body_built c (calls_keep t macros are reach.macros) (opening t reach os) xs
      (opening_names reach) once in
      let others = unplaced_built ws 0 os (λ k o is. ap (slice_get os) (let e : 0 + k ≡ k = omega arith in e) ∙ is) in
      subst AreDistinct (sym (built_both (unplaced ws 0 os) (all_taken t c (opening t reach os) xs)))
      (distinct_both ws (built (unplaced ws 0 os))
      (built (all_taken t c (opening t reach os) xs)) others.named others.once
      (all_named xs (built (all_taken t c (opening t reach os) xs)) by_name.named) by_name.once)
