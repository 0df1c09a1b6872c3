-- What is exported can be handed on, by rule 30: names are of one kind by the tables so far and by all tables.
use Rattle.std.proofs.Common.{◌≡◌, ℕ, suc, ◌+◌, ◌<◌, ◌&&◌, Bool, true, false, List, [], ◌∷◌, ◌++◌, length, fold, slice_get, Option, Some, None, option_map, option_and_then, unwrap_or, refl, sym, ap, subst, ◌∙◌, arith, if◌then◌else◌}
use Rattle.std.specs.Prelude.{is_some, nat_lt, position}
use Rattle.std.specs.List.{AllByRecursion}
use Rattle.std.specs.Str.{bytes_eq}
use Rattle.std.proofs.lemmas.Bool.{false≢true}
use Rattle.std.proofs.lemmas.Bool.Decides.{nat_tests}
use Rattle.sl_ast.specs.Trees.{Exported, exports, exports_star, Left, left_name, left_bits, left_star, Expression, Operand, by_name, by_integer, StarForm, Statement, local, declare, assign, goto, branch, call_to, return, build, export, invoke, label}
use Rattle.sl_faithful_sections.proofs.BuildLemmas.{own_with}
use Rattle.sl_faithful_sections.proofs.ChangeLemmas.{Grown, RangesLie}
use Rattle.sl_faithful_sections.proofs.ListLemmas.{all_at, get_begins, index_begins}
use Rattle.sl_faithful_sections.proofs.QuietLemmas.{CallsKeep, IsMacro, bare_behind, calls_keep, first_behind, taken_silent, unplaced_silent}
use Rattle.sl_section_equations.specs.Equations.{is_bare, is_bare_symbol}
use Rattle.sl_section_exports.specs.Exports as text
use Rattle.sl_faithful_keeping.specs.Keeping.{first_export}
use Rattle.sl_faithful_keeping.specs.KeepingLaws.{ExportIsBare, ExportsAreBare}
use Rattle.sl_spec_registers.proofs.BoolLemmas.{and_parts}
use Rattle.sl_section_terms.specs.Entries.{Entry}
use Rattle.sl_section_resolve.specs.Macros.{Body}
use Rattle.sl_section_terms.specs.Scopes as flat
use Rattle.sl_section_terms.specs.Scopes.{attached_size, bits_symbol, built_in, first_of, global_symbol, if_below, known_symbol, own_symbol, range_at, range_named, range_symbol, reach_of, register_at, register_named, register_symbol, symbol_named, with_operands, with_symbol}
use Rattle.sl_section_resolve.specs.Steps.{Calls, after, all_taken, assign_after, calls_of, exported, is_const, left_after, opening, pointer_term, section_steps, size_or_1, taken, unplaced, with_built}
use Rattle.sl_section_terms.specs.declared.names.Names.{Names}
use Rattle.sl_section_terms.specs.declared.reach.Reach.{Reach}
use Rattle.sl_section_resolve.specs.declared.state.State.{State}
use Rattle.sl_section_flat.specs.Sections as s
use Rattle.sl_section_flat.specs.Sections.{Step, Symbol}
use Rattle.sl_section_rules.specs.Known as known
use Rattle.sl_section_rules.specs.Kinds.{is_handed_on, is_number, is_pointer, kind_by, kind_of}
use Rattle.sl_section_rules.specs.Scopes as rules
use Rattle.sl_section_rules.specs.Scopes.{scope_after, section_scope, with_operand}
use Rattle.sl_section_rules.specs.SectionRules.{each_holds, exports_well, hands_on, hands_on_star, pointer_kind}
use Rattle.sl_section_rules.specs.declared.kinds.Kind.{Kind}
use Rattle.sl_section_rules.specs.declared.kinds.Kind.TheVariants as kind
use Rattle.sl_section_rules.specs.declared.scopes.Scope.{Scope}
use Rattle.sl_spec.specs.Tables as tables
use Rattle.sl_spec.specs.Tables.{BitRange, Name, Register}
use Rattle.sl_spec.specs.declared.tables.Tables.{Tables}
use Rattle.sl_faithful_sections.specs.UseLaws.{NamesPlace}

-- what is made of an index below a number
same_below : {A : Type 0} (m : ℕ) (f g : ℕ → Option A) (o : Option ℕ) → ((i : ℕ) → i < m → f i ≡ g i)
    → option_and_then f (if_below m o) ≡ option_and_then g (if_below m o)
same_below m f g None same = refl
same_below {A = A} m f g (Some i) same = by (nat_lt i m) refl
  where
    by : (b : Bool) → nat_lt i m ≡ b
        → option_and_then f (if b then Some i else None) ≡ option_and_then g (if b then Some i else None)
    by true is = same i (grind (arith, nat_tests, is))
    by false is = refl

-- ---- names of the whole text

module _ (old t : Tables) (grown : Grown old t) (lie : RangesLie old) where
  register_same : (i : ℕ) → i < length old.registers → register_at t i ≡ register_at old i
  register_same i below = ap (option_map register_symbol) (get_begins old.registers t.registers i grown.registers below)

  range_of : (b : BitRange) → b.register < length old.registers → range_symbol t b ≡ range_symbol old b
  range_of b below =
      ap (option_map (bits_symbol b)) (get_begins old.registers t.registers b.register grown.registers below)

  range_same : (i : ℕ) → i < length old.bitranges → range_at t i ≡ range_at old i
  range_same i below =
      ap (option_and_then (range_symbol t)) (get_begins old.bitranges t.bitranges i grown.ranges below)
      ∙ by (slice_get old.bitranges i) refl
    where
      by : (o : Option BitRange) → slice_get old.bitranges i ≡ o
          → option_and_then (range_symbol t) o ≡ option_and_then (range_symbol old) o
      by None at = refl
      by (Some b) at =
          range_of b (all_at (λ (b : BitRange). b.register < length old.registers) old.bitranges i b lie at)

  register_named_same : (w : Name) → register_named old (reach_of old) w ≡ register_named t (reach_of old) w
  register_named_same w =
      let found = if_below (length old.registers) (position (λ (r : Register). bytes_eq w r.name) t.registers) in
      sym
      (same_below (length old.registers) (register_at t) (register_at old)
      (position (λ (r : Register). bytes_eq w r.name) t.registers) register_same
      ∙ ap (option_and_then (register_at old))
      (index_begins (λ (r : Register). bytes_eq w r.name) old.registers t.registers grown.registers))

  range_named_same : (w : Name) → range_named old (reach_of old) w ≡ range_named t (reach_of old) w
  range_named_same w =
      sym
      (same_below (length old.bitranges) (range_at t) (range_at old)
      (position (λ (b : BitRange). bytes_eq w b.name) t.bitranges) range_same
      ∙ ap (option_and_then (range_at old))
      (index_begins (λ (b : BitRange). bytes_eq w b.name) old.bitranges t.bitranges grown.ranges))

  -- a name that was known before is the same in the end
  pub global_same : (w : Name) → global_symbol old (reach_of old) w ≡ global_symbol t (reach_of old) w
  global_same w =
      ap (λ a. first_of a (first_of (range_named old (reach_of old) w) (built_in w))) (register_named_same w)
      ∙ ap (λ a. first_of (register_named t (reach_of old) w) (first_of a (built_in w))) (range_named_same w)

-- ---- kinds

abbrev pub kind_in : Option Symbol → Kind
kind_in o = kind_by false o

abbrev is_there : Kind → Bool
is_there kind.Nothing = false
is_there _ = true

some_there : (a : Symbol) → is_there (kind_in (Some a)) ≡ true
some_there (s.value i) = refl
some_there _ = refl

first_alike : (a b c d : Option Symbol) → kind_in a ≡ kind_in b → kind_in c ≡ kind_in d
    → kind_in (first_of a c) ≡ kind_in (first_of b d)
first_alike None None c d h k = k
first_alike (Some a) (Some b) c d h k = h
first_alike None (Some b) c d h k = absurd (false≢true (ap is_there h ∙ some_there b))
first_alike (Some a) None c d h k = absurd (false≢true (sym (ap is_there h) ∙ some_there a))

-- Names stand for things of one kind.
abbrev AreAlike : List Entry → List Entry → Type 0
AreAlike own other = (w : Name) → kind_in (own_symbol own w) ≡ kind_in (own_symbol other w)

with_alike : (own other : List Entry) (w : Name) (a b : Symbol) → kind_in (Some a) ≡ kind_in (Some b)
    → AreAlike own other → AreAlike (with_symbol own w a) (with_symbol other w b)
with_alike own other w a b same alike v =
    ap kind_in (own_with own w a v)
    ∙ first_alike (own_symbol own v) (own_symbol other v) (if bytes_eq v w then Some a else None)
    (if bytes_eq v w then Some b else None) (alike v) (by (bytes_eq v w))
    ∙ sym (ap kind_in (own_with other w b v))
  where
    by : (c : Bool) → kind_in (if c then Some a else None) ≡ kind_in (if c then Some b else None)
    by true = same
    by false = refl

-- what is handed on is a place, and a number stands by itself
place_of_kind : (o : Option Symbol) (x : ℕ) → is_handed_on (kind_in o) ≡ true
    → NamesPlace (s.exports (unwrap_or o (s.integer 0)) x)
place_of_kind None x h = absurd (false≢true h)
place_of_kind (Some (s.register p o n)) x h = tt
place_of_kind (Some (s.local y)) x h = tt
place_of_kind (Some (s.table i)) x h = tt
place_of_kind (Some (s.attached i n)) x h = tt
place_of_kind (Some (s.bit_range p o n l c)) x h = absurd (false≢true h)
place_of_kind (Some (s.value i)) x h = absurd (false≢true h)
place_of_kind (Some s.start) x h = absurd (false≢true h)
place_of_kind (Some s.next) x h = absurd (false≢true h)
place_of_kind (Some (s.integer v)) x h = absurd (false≢true h)

bare_of_kind : (o : Option Symbol) → is_number (kind_in o) ≡ true → is_bare_symbol (unwrap_or o (s.integer 0)) ≡ true
bare_of_kind None h = absurd (false≢true h)
bare_of_kind (Some (s.register p o n)) h = absurd (false≢true h)
bare_of_kind (Some (s.local y)) h = absurd (false≢true h)
bare_of_kind (Some (s.table i)) h = absurd (false≢true h)
bare_of_kind (Some (s.attached i n)) h = absurd (false≢true h)
bare_of_kind (Some (s.bit_range p o n l c)) h = absurd (false≢true h)
bare_of_kind (Some (s.value i)) h = refl
bare_of_kind (Some s.start) h = refl
bare_of_kind (Some s.next) h = refl
bare_of_kind (Some (s.integer v)) h = refl

-- ---- a section, by the tables before it and by those of the whole text

-- Operands are of one kind.
abbrev pub OperandsAlike : (attached : List Name) → Tables → List tables.Operand → Type 0
OperandsAlike attached t os = (k : ℕ) (o : tables.Operand) → slice_get os k ≡ Some o
    → (i : ℕ)
    → kind_in (Some (rules.operand_symbol attached o.name o.means)) ≡ kind_in (Some (flat.operand_symbol t i o.means))

module _ (old t : Tables) (reach : Reach)
    (globals : (w : Name) → global_symbol old reach w ≡ global_symbol t reach w) where
  -- The names that a rule knows are those of the flat section.
  record Agrees (scope : Scope) (st : State) : Type 0 where
    pub own : AreAlike scope.names.own st.names.own
    pub by_rules : scope.names.reach ≡ reach
    pub here : st.names.reach ≡ reach
    pub section : scope.in_macro ≡ false

  symbols_alike : (names other : Names) (w : Name) → AreAlike names.own other.own → names.reach ≡ reach
      → other.reach ≡ reach
      → kind_in (symbol_named old names w) ≡ kind_in (symbol_named t other w)
  symbols_alike names other w alike h k =
      first_alike (own_symbol names.own w) (own_symbol other.own w) (global_symbol old names.reach w)
      (global_symbol t other.reach w) (alike w)
      (ap kind_in (ap (λ r. global_symbol old r w) h ∙ globals w ∙ ap (λ r. global_symbol t r w) (sym k)))

  kinds_alike : (scope : Scope) (st : State) (w : Name) → Agrees scope st
      → kind_of old scope w ≡ kind_in (symbol_named t st.names w)
  kinds_alike scope st w agrees =
      ap (λ b. kind_by b (symbol_named old scope.names w)) agrees.section
      ∙ symbols_alike scope.names st.names w agrees.own agrees.by_rules agrees.here

  -- ---- the names behind a statement

  local_agrees : (scope : Scope) (st next : State) (w : Name) (x : ℕ)
      → next.names ≡ record st.names { own = with_symbol st.names.own w (s.local x) } → Agrees scope st
      → Agrees (record scope { names = known.with_new scope.names w }) next
  local_agrees scope st next w x is agrees = record {
    own = subst (λ (n : Names). AreAlike (with_symbol scope.names.own w (s.local 0)) n.own) (sym is)
        (with_alike scope.names.own st.names.own w (s.local 0) (s.local x) refl agrees.own);
    by_rules = agrees.by_rules;
    here = ap (λ (n : Names). n.reach) is ∙ agrees.here;
    section = agrees.section;
  }

  same_agrees : (scope : Scope) (st next : State) → next.names ≡ st.names → Agrees scope st → Agrees scope next
  same_agrees scope st next is agrees = record {
    own = subst (λ (n : Names). AreAlike scope.names.own n.own) (sym is) agrees.own;
    by_rules = agrees.by_rules;
    here = ap (λ (n : Names). n.reach) is ∙ agrees.here;
    section = agrees.section;
  }

  assign_agrees : (scope : Scope) (st : State) (w : Name) (e : Expression) (a b : Option Symbol)
      → kind_in a ≡ kind_in b → Agrees scope st
      → Agrees (record scope { names = if is_some a then scope.names else known.with_new scope.names w })
      (assign_after w st b e)
  assign_agrees scope st w e None None h agrees = local_agrees scope st (assign_after w st None e) w st.next refl agrees
  assign_agrees scope st w e (Some a) (Some b) h agrees =
      same_agrees scope st (assign_after w st (Some b) e) refl agrees
  assign_agrees scope st w e None (Some b) h agrees = absurd (false≢true (ap is_there h ∙ some_there b))
  assign_agrees scope st w e (Some a) None h agrees = absurd (false≢true (sym (ap is_there h) ∙ some_there a))

  left_agrees : (scope : Scope) (st : State) (left : Left) (e : Expression) → Agrees scope st
      → Agrees (record scope { names = known.left_after old scope.names left }) (left_after t st left e)
  left_agrees scope st (left_name w) e agrees =
      assign_agrees scope st w e (symbol_named old scope.names w) (symbol_named t st.names w)
      (symbols_alike scope.names st.names w agrees.own agrees.by_rules agrees.here) agrees
  left_agrees scope st (left_bits w l c) e agrees =
      same_agrees scope st (left_after t st (left_bits w l c) e) refl agrees
  left_agrees scope st (left_star form p) e agrees =
      same_agrees scope st (left_after t st (left_star form p) e) refl agrees

  after_agrees : (c : Calls) → CallsKeep t c → (scope : Scope) (st : State) (x : Statement) → Agrees scope st
      → Agrees (scope_after old scope x) (after t c st x)
  after_agrees c k scope st (local w size value) agrees =
      local_agrees scope st (after t c st (local w size value)) w st.next refl agrees
  after_agrees c k scope st (declare w n e) agrees =
      local_agrees scope st (after t c st (declare w n e)) w st.next refl agrees
  after_agrees c k scope st (assign left e) agrees = left_agrees scope st left e agrees
  after_agrees c k scope st (goto to) agrees = same_agrees scope st (after t c st (goto to)) refl agrees
  after_agrees c k scope st (branch e to) agrees = same_agrees scope st (after t c st (branch e to)) refl agrees
  after_agrees c k scope st (call_to to) agrees = same_agrees scope st (after t c st (call_to to)) refl agrees
  after_agrees c k scope st (return e) agrees = same_agrees scope st (after t c st (return e)) refl agrees
  after_agrees c k scope st (build w) agrees = agrees
  after_agrees c k scope st (export what) agrees = same_agrees scope st (after t c st (export what)) refl agrees
  after_agrees c k scope st (invoke w es) agrees = same_agrees scope st (c.after w es st) (k.names w es st) agrees
  after_agrees c k scope st (label w) agrees = agrees

  -- ---- exports

  -- It can be handed on.
  record IsWell (what : s.Export) : Type 0 where
    pub bare : ExportIsBare what
    pub place : NamesPlace what

  pointer_bare : (scope : Scope) (st : State) (p : Operand) → Agrees scope st
      → is_number (pointer_kind old scope p) ≡ true → is_bare (pointer_term t st p) ≡ true
  pointer_bare scope st (by_name w) agrees h =
      bare_of_kind (symbol_named t st.names w) (ap is_number (sym (kinds_alike scope st w agrees)) ∙ h)
  pointer_bare scope st (by_integer v) agrees h = refl

  -- what rule 30 asks of the pointer of a constant, or of a place
  abbrev asked : Scope → StarForm → Operand → (of_number : Bool) → Bool
  asked scope form p of_number = if of_number then is_number (pointer_kind old scope p)
      else known.reads old scope.names form.space && is_pointer (pointer_kind old scope p)

  star_well : (scope : Scope) (st : State) (form : StarForm) (p : Operand) → Agrees scope st
      → hands_on_star old scope form (pointer_kind old scope p) ≡ true
      → IsWell (exported t st (exports_star form p))
  star_well scope st form p agrees h =
      by (is_const form.space) (and_parts (is_some form.size) (asked scope form p (is_const form.space)) h).1
    where
      by : (b : Bool) → asked scope form p b ≡ true
          → IsWell (if b then s.exports_constant (size_or_1 form.size) (pointer_term t st p) (st.next + 1)
          else s.exports_memory (flat.space_named t st.names.reach form.space) (size_or_1 form.size)
          (pointer_term t st p) (st.next + 1))
      by true number = record { bare = pointer_bare scope st p agrees number; place = tt }
      by false pointer = record { bare = tt; place = tt }

  export_well : (scope : Scope) (st : State) (what : Exported) → Agrees scope st → hands_on old scope what ≡ true
      → IsWell (exported t st what)
  export_well scope st (exports w) agrees h = record {
    bare = tt;
    place = place_of_kind (symbol_named t st.names w) st.next
        (ap is_handed_on (sym (kinds_alike scope st w agrees)) ∙ h);
  }
  export_well scope st (exports_star form p) agrees h = star_well scope st form p agrees h

  -- What they export can be handed on.
  pub record AreWell (ss : List Step) : Type 0 where
    pub bare : ExportsAreBare ss
    pub place : (what : s.Export) → first_export ss ≡ Some what → NamesPlace what

  silent_well : (c : Calls) → CallsKeep t c → (st : State) (x : Statement) (rest : List Step)
      → text.is_export x ≡ false → AreWell rest → AreWell (taken t c st x ++ rest)
  silent_well c k st x rest is well = record {
    bare = bare_behind (taken t c st x) rest (taken_silent t c k st x is) well.bare;
    place = λ what e. well.place what (sym (first_behind (taken t c st x) rest (taken_silent t c k st x is)) ∙ e);
  }

  one_well : (c : Calls) → CallsKeep t c → (scope : Scope) (st : State) (x : Statement) (rest : List Step)
      → Agrees scope st → exports_well old scope x ≡ true → AreWell rest
      → AreWell (taken t c st x ++ rest)
  one_well c k scope st (export what) rest agrees h well =
      let e = export_well scope st what agrees h in
      record {
        bare = (e.bare, well.bare);
        place = λ own is. let same : exported t st what ≡ own = cc in subst NamesPlace same e.place;
      }
  one_well c k scope st (local w size value) rest agrees h well = silent_well c k st (local w size value) rest refl well
  one_well c k scope st (declare w n e) rest agrees h well = silent_well c k st (declare w n e) rest refl well
  one_well c k scope st (assign left e) rest agrees h well = silent_well c k st (assign left e) rest refl well
  one_well c k scope st (goto to) rest agrees h well = silent_well c k st (goto to) rest refl well
  one_well c k scope st (branch e to) rest agrees h well = silent_well c k st (branch e to) rest refl well
  one_well c k scope st (call_to to) rest agrees h well = silent_well c k st (call_to to) rest refl well
  one_well c k scope st (return e) rest agrees h well = silent_well c k st (return e) rest refl well
  one_well c k scope st (build w) rest agrees h well = silent_well c k st (build w) rest refl well
  one_well c k scope st (invoke w es) rest agrees h well = silent_well c k st (invoke w es) rest refl well
  one_well c k scope st (label w) rest agrees h well = silent_well c k st (label w) rest refl well

  body_well : (c : Calls) → CallsKeep t c → (scope : Scope) (st : State) (xs : List Statement) → Agrees scope st
      → each_holds old (exports_well old) scope xs ≡ true
      → AreWell (all_taken t c st xs)
  unfolding each_holds
  body_well c k scope st [] agrees h = record { bare = tt; place = λ what is. absurd (let e : ⊥ = cc in e) }
  body_well c k scope st (x ∷ xs) agrees h =
      let p = and_parts (exports_well old scope x) (each_holds old (exports_well old) (scope_after old scope x) xs) h in
      one_well c k scope st x (all_taken t c (after t c st x) xs) agrees p.0
      (body_well c k (scope_after old scope x) (after t c st x) xs (after_agrees c k scope st x agrees) p.1)

  -- ---- a section

  operands_alike : (attached : List Name) (own other : List Entry) (i : ℕ) (rest : List tables.Operand)
      → OperandsAlike attached t rest → AreAlike own other
      → AreAlike (fold (with_operand attached) own rest) (with_operands t other i rest)
  operands_alike attached own other i [] each alike = alike
  operands_alike attached own other i (o ∷ rest) each alike =
      operands_alike attached (with_operand attached own o) (with_symbol other o.name (flat.operand_symbol t i o.means))
      (i + 1) rest
      (λ k p is j. each (suc k) p is j)
      (with_alike own other o.name (rules.operand_symbol attached o.name o.means) (flat.operand_symbol t i o.means)
      (each 0 o refl i) alike)

  pub section_well : (macros : List Body) → AllByRecursion (IsMacro t) macros
      → (attached : List Name) (os : List tables.Operand) (xs : List Statement)
      → reach_of old ≡ reach → OperandsAlike attached t os
      → each_holds old (exports_well old) (section_scope attached old os) xs ≡ true
      → AreWell (section_steps t macros reach os xs)
  section_well macros are attached os xs same alike h =
      let c = calls_of t macros reach.macros in
      let before = unplaced (fold with_built [] xs) 0 os in
      let silent = unplaced_silent t (fold with_built [] xs) 0 os in
      let body = all_taken t c (opening t reach os) xs in
      let well = body_well c (calls_keep t macros are reach.macros) (section_scope attached old os)
      (opening t reach os) xs
      (record {
        own = operands_alike attached [] [] 0 os alike (λ w. refl);
        by_rules = same;
        here = refl;
        section = refl;
      }) h in
      record {
        bare = bare_behind before body silent well.bare;
        place = λ what is. well.place what (sym (first_behind before body silent) ∙ is);
      }
