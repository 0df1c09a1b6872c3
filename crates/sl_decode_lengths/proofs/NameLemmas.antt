-- The names of a pattern stand for what their places say, where a constructor keeps its rules.
use Rattle.std.proofs.Common.{◌≡◌, ℕ, zero, suc, ◌+◌, ◌<◌, ◌⊎◌, inl, inr, Bool, true, false, cond, ◌&&◌, ◌||◌, List, [], ◌∷◌, ◌++◌, map, filter, fold, length, Option, Some, None, Ok, refl, sym, ap, subst, ◌∙◌, arith, length-append}
use Rattle.std.specs.Prelude.{codes, if◌then◌else◌, nat_lt, not, position}
use Rattle.std.specs.List.{Contains, list_all, list_any, position_or_len}
use Rattle.std.specs.Str.{bytes_eq}
use Rattle.std.proofs.lemmas.Bool.{false≢true}
use Rattle.std.proofs.lemmas.Bool.Decides.{nat_tests}
use Rattle.std.proofs.lemmas.List.Elements.{Contains-append_left, Contains-append_right}
use Rattle.std.proofs.lemmas.List.Folds.{list_any-append}
use Rattle.std.proofs.lemmas.Option.{cond_some, same_Some}
use Rattle.std.proofs.lemmas.Slice.Eq.{bytes_eq-Decides}
use Rattle.sl_spec_actions.specs.ActionNames.{action_names, is_context_field, with_action, with_name}
use Rattle.sl_spec_actions.specs.ActionRules.{built_in_names, each_holds, has_new_left, is_global}
use Rattle.sl_ast.specs.Trees.{Action, Constructor, Pattern, bare, constraint, group, ellipsis, joined, set, global_set}
use Rattle.sl_ast.specs.Unfolding.{written}
use Rattle.sl_spec_constructors.proofs.MemberLemmas.{in_filter, in_map}
use Rattle.sl_spec_constructors.specs.ConstraintValues.{has_values}
use Rattle.sl_spec_constructors.specs.ConstructorRules.{are_few, is_allowed_there, is_known, is_of_root, may_begin, shows_operands}
use Rattle.sl_spec_constructors.specs.Operands.{action_operands, bare_names, bare_operand, is_epsilon, is_operand, meaning_by, operand_names, operands}
use Rattle.sl_spec_constructors.specs.Steps.{added, constructor_step, demands, operands_of, with_ctor}
use Rattle.sl_spec_constructors.specs.WholeText.{table_name}
use Rattle.sl_decode_meaning.specs.Kinds.{free_kind, kind_by, operand_kind}
use Rattle.sl_decode_meaning.specs.declared.kinds.Kind.TheVariants as k
use Rattle.sl_decode_lengths.specs.Naming.{Agrees, EachName, kind_of_field, kind_of_operand}
use Rattle.sl_spec_actions.specs.Parts.{Part, holds_table, is_behind, is_in_choice, is_table, parts, parts_of}
use Rattle.sl_spec_rules.specs.Demands.{first_broken, unless_broken}
use Rattle.sl_spec_rules.specs.Names.{is_among}
use Rattle.sl_spec.specs.Named.{has_name, index_named, is_named, named}
use Rattle.sl_spec.specs.Tables.{Field, Name, Operand, Table}
use Rattle.sl_spec.specs.declared.constructors.Means.TheVariants as means
use Rattle.sl_spec.specs.declared.tables.Tables.{Tables}

-- ---- what a name stands for, by the fields

-- The name has an operand, or is `epsilon`.
abbrev pub HasOperand : List Operand → Name → Type 0
HasOperand os name = ((o : Operand) × (named (λ o. o.name) name os ≡ Some o)) ⊎ (is_epsilon name ≡ true)

-- The name is a field's, and so is what its operand means.
abbrev pub IsField : List Field → List Operand → Name → Type 0
IsField fields os name = (id : ℕ) × (index_named (λ f. f.name) name fields ≡ Some id)
    × ((o : Operand) → named (λ o. o.name) name os ≡ Some o → o.means ≡ means.Field id)

abbrev pub Stands : List Field → List Operand → Bool → Name → Type 0
Stands fields os true name = HasOperand os name
Stands fields os false name = IsField fields os name

pub each_name : (P Q : Bool → Name → Type 0) → ((alone : Bool) (name : Name) → P alone name → Q alone name) → (p : Pattern) → EachName P p → EachName Q p
each_name P Q each (bare name) h = each true name h
each_name P Q each (constraint name relation e) h = each false name h
each_name P Q each (group p) h = each_name P Q each p h
each_name P Q each (ellipsis p) h = each_name P Q each p h
each_name P Q each (joined op p q) h = (each_name P Q each p h.0, each_name P Q each q h.1)

-- ---- behind more fields

prefix_first : {X : Type 0} (test : X → Bool) (xs ys : List X) → position_or_len test xs < length xs → position_or_len test (xs ++ ys) ≡ position_or_len test xs
prefix_first test [] ys inside = absurd (omega arith)
prefix_first test (x ∷ xs) ys inside = by (test x) inside (prefix_first test xs ys)
  where
    by : (b : Bool) → cond (not b) (1 + position_or_len test xs) 0 < suc (length xs) → (position_or_len test xs < length xs → position_or_len test (xs ++ ys) ≡ position_or_len test xs)
        → cond (not b) (1 + position_or_len test (xs ++ ys)) 0 ≡ cond (not b) (1 + position_or_len test xs) 0
    by true inside rest = refl
    by false inside rest = ap (λ n. 1 + n) (rest (omega (arith, inside)))

position_more : {X : Type 0} (test : X → Bool) (xs ys : List X) (id : ℕ) → position test xs ≡ Some id → position test (xs ++ ys) ≡ Some id
position_more test xs ys id is =
    let n = position_or_len test xs in
    let c = cond_some (nat_lt n (length xs)) n id is in
    let inside : n < length xs = below n (length xs) c.0 in
    let long : length (xs ++ ys) ≡ length xs + length ys = length-append xs ys in
    ap (λ (j : ℕ). cond (nat_lt j (length (xs ++ ys))) (Some j) None) (prefix_first test xs ys inside)
    ∙ ap (λ b. cond b (Some n) None) (within n (length (xs ++ ys)) (omega arith)) ∙ ap Some c.1
  where
    below : (a b : ℕ) → nat_lt a b ≡ true → a < b
    below a b h = grind (arith, nat_tests)

    within : (a b : ℕ) → a < b → nat_lt a b ≡ true
    within a b h = grind (arith, nat_tests)

pub stands_more : (fields more : List Field) (os : List Operand) (alone : Bool) (name : Name) → Stands fields os alone name → Stands (fields ++ more) os alone name
stands_more fields more os true name h = h
stands_more fields more os false name h = (h.0, position_more (is_named (λ f. f.name) name) fields more h.0 h.1, h.2)

-- ---- as the decode has it

module _ (t : Tables) (os : List Operand) (apart : index_named (λ f. f.name) (codes "epsilon") t.fields ≡ None) where
  bare_by : (name : Name) (found : Option Operand) → named (λ o. o.name) name os ≡ found → HasOperand os name
      → kind_by found (index_named (λ f. f.name) name t.fields) name ≡ kind_of_operand found
  bare_by name (Some o) is h = refl
  bare_by name None is (inl there) = absurd (let e : None ≡ Some there.0 = sym is ∙ there.1 in let f : ⊥ = cc in f)
  bare_by name None is (inr epsilon) =
      subst (λ (n : Name). kind_by None (index_named (λ f. f.name) n t.fields) n ≡ k.Nothing) (sym ((bytes_eq-Decides name (codes "epsilon")).0 epsilon))
      (ap (λ (o : Option ℕ). free_kind o (codes "epsilon")) apart)

  field_by : (name : Name) (id : ℕ) (found : Option Operand) → named (λ o. o.name) name os ≡ found → ((o : Operand) → named (λ o. o.name) name os ≡ Some o → o.means ≡ means.Field id)
      → kind_by found (Some id) name ≡ k.Field id
  field_by name id (Some o) is means_it = ap operand_kind (means_it o is)
  field_by name id None is means_it = refl

  pub stands_agrees : (alone : Bool) (name : Name) → Stands t.fields os alone name → Agrees t os alone name
  stands_agrees true name h = bare_by name (named (λ o. o.name) name os) refl h
  stands_agrees false name h =
      subst (λ (o : Option ℕ). kind_by (named (λ o. o.name) name os) o name ≡ kind_of_field o) (sym h.1)
      (field_by name h.0 (named (λ o. o.name) name os) refl h.2)

-- ---- operands by name

same_name : (name other : Name) → bytes_eq name other ≡ true → name ≡ other
same_name name other h = (bytes_eq-Decides name other).0 h

abbrev action_operand : ℕ → Name → Operand
action_operand j name = record { name = name; means = means.Action j }

named_action : (name : Name) (j : ℕ) (names : List Name) (o : Operand) → named (λ o. o.name) name (action_operands j names) ≡ Some o → is_among names name ≡ true
named_action name j [] o h = absurd (let e : ⊥ = cc in e)
named_action name j (n ∷ names) o h = by (bytes_eq name n) h (named_action name (j + 1) names o)
  where
    by : (b : Bool) → cond b (Some (action_operand j n)) (named (λ o. o.name) name (action_operands (j + 1) names)) ≡ Some o
        → (named (λ o. o.name) name (action_operands (j + 1) names) ≡ Some o → is_among names name ≡ true) → (b || is_among names name) ≡ true
    by true h rest = refl
    by false h rest = rest h

module _ (fields : List Field) (tables : List Table) (name : Name) (rest : List Operand) where
  abbrev those : List Name → List Operand
  those names = map (bare_operand fields tables) names ++ rest

  named_bare : (names : List Name) (o : Operand) → named (λ o. o.name) name (those names) ≡ Some o
      → (o ≡ bare_operand fields tables name) ⊎ (named (λ o. o.name) name rest ≡ Some o)
  named_bare [] o h = inr h
  named_bare (n ∷ names) o h = by (bytes_eq name n) refl h (named_bare names o)
    where
      by : (b : Bool) → bytes_eq name n ≡ b → cond b (Some (bare_operand fields tables n)) (named (λ o. o.name) name (those names)) ≡ Some o
          → (named (λ o. o.name) name (those names) ≡ Some o → (o ≡ bare_operand fields tables name) ⊎ (named (λ o. o.name) name rest ≡ Some o))
          → (o ≡ bare_operand fields tables name) ⊎ (named (λ o. o.name) name rest ≡ Some o)
      by true is h later = inl (sym (same_Some (bare_operand fields tables n) o h) ∙ ap (bare_operand fields tables) (sym (same_name name n is)))
      by false is h later = later h

  some_bare : (names : List Name) → is_among names name ≡ true → (o : Operand) × (named (λ o. o.name) name (those names) ≡ Some o)
  some_bare [] h = absurd (let e : ⊥ = cc in e)
  some_bare (n ∷ names) h = by (bytes_eq name n) h (some_bare names)
    where
      by : (b : Bool) → (b || is_among names name) ≡ true → (is_among names name ≡ true → (o : Operand) × (named (λ o. o.name) name (those names) ≡ Some o))
          → (o : Operand) × (cond b (Some (bare_operand fields tables n)) (named (λ o. o.name) name (those names)) ≡ Some o)
      by true h later = (bare_operand fields tables n, refl)
      by false h later = later h

-- ---- action names are no fields

or_first : (a b : Bool) → (a || b) ≡ false → a ≡ false
or_first true b h = h
or_first false b h = refl

or_last : (a b : Bool) → (a || b) ≡ false → b ≡ false
or_last true b h = absurd (let e : ⊥ = cc in e)
or_last false b h = h

seventh : (a b c d e f g h : Bool) → (a || (b || (c || (d || (e || (f || (g || h))))))) ≡ false → g ≡ false
seventh a b c d e f g h is =
    or_first g h (or_last f (g || h) (or_last e (f || (g || h)) (or_last d (e || (f || (g || h))) (or_last c (d || (e || (f || (g || h))))
    (or_last b (c || (d || (e || (f || (g || h))))) (or_last a (b || (c || (d || (e || (f || (g || h)))))) is))))))

and_first : (a b : Bool) → (a && b) ≡ true → a ≡ true
and_first true b h = refl
and_first false b h = h

and_last : (a b : Bool) → (a && b) ≡ true → b ≡ true
and_last true b h = h
and_last false b h = absurd (let e : ⊥ = cc in e)

not_not : (a : Bool) → not a ≡ true → a ≡ false
not_not true h = absurd (let e : ⊥ = cc in e)
not_not false h = refl

among_more : (names : List Name) (n name : Name) → is_among (names ++ n ∷ []) name ≡ true → (is_among names name ≡ true) ⊎ (name ≡ n)
among_more names n name h = by (is_among names name) (bytes_eq name n) refl (sym (list_any-append (λ m. bytes_eq name m) names (n ∷ [])) ∙ h)
  where
    by : (a b : Bool) → bytes_eq name n ≡ b → (a || (b || false)) ≡ true → (a ≡ true) ⊎ (name ≡ n)
    by true b is h = inl refl
    by false true is h = inr (same_name name n is)
    by false false is h = absurd (let e : ⊥ = cc in e)

module _ (all : List Table) (t : Tables) where
  abbrev IsNoField : Name → Type 0
  IsNoField name = has_name (λ f. f.name) name t.fields ≡ false

  no_field : (name : Name) → is_global all t name ≡ false → IsNoField name
  no_field name h = seventh
      (is_among built_in_names name) (has_name (λ s. s.name) name t.spaces) (has_name (λ r. r.name) name t.registers) (has_name (λ r. r.name) name t.bitranges)
      (has_name (λ u. u.name) name t.userops) (has_name (λ k. k.name) name t.tokens) (has_name (λ f. f.name) name t.fields)
      (has_name (λ m. m.name) name t.macros || has_name (λ b. b.name) name all) h

  new_left : (before : List Name) (n name : Name) (of_context : Bool) → (of_context || (not (is_global all t n) && not (is_among before n))) ≡ true
      → is_among (if of_context then before else with_name before n) name ≡ true → (is_among before name ≡ true) ⊎ IsNoField name
  new_left before n name true new among = inl among
  new_left before n name false new among = by (is_among before n) among
    where
      by : (there : Bool) → is_among (if there then before else before ++ n ∷ []) name ≡ true → (is_among before name ≡ true) ⊎ IsNoField name
      by true among = inl among
      by false among = elim (among_more before n name among) [
        | inl old ↦ inl old
        | inr same ↦ inr (subst IsNoField (sym same) (no_field n (not_not (is_global all t n) (and_first (not (is_global all t n)) (not (is_among before n)) new))))
      ]

  one_left : (before : List Name) (a : Action) (name : Name) → has_new_left all t before a ≡ true → is_among (with_action t before a) name ≡ true
      → (is_among before name ≡ true) ⊎ IsNoField name
  unfolding has_new_left
  one_left before (set n e) name new among = new_left before n name (is_context_field t n) new among
  one_left before (global_set at field) name new among = inl among

  lefts : (before : List Name) (as' : List Action) (name : Name) → each_holds t (has_new_left all t) before as' ≡ true
      → is_among (fold (with_action t) before as') name ≡ true → (is_among before name ≡ true) ⊎ IsNoField name
  unfolding each_holds
  lefts before [] name holds among = inl among
  lefts before (a ∷ as') name holds among =
      elim (lefts (with_action t before a) as' name (and_last (has_new_left all t before a) (each_holds t (has_new_left all t) (with_action t before a) as') holds) among) [
        | inl old ↦ one_left before a name (and_first (has_new_left all t before a) (each_holds t (has_new_left all t) (with_action t before a) as') holds) old
        | inr new ↦ inr new
      ]

  -- rule 21
  action_apart : (as' : List Action) (name : Name) → each_holds t (has_new_left all t) [] as' ≡ true → is_among (action_names t as') name ≡ true → IsNoField name
  action_apart as' name holds among = elim (lefts [] as' name holds among) [
    | inl none ↦ absurd (false≢true none)
    | inr new ↦ new
  ]

-- ---- the parts of a pattern

index_there : {X : Type 0} (test : X → Bool) (xs : List X) → list_any test xs ≡ true → (id : ℕ) × (position test xs ≡ Some id)
index_there {X = X} test xs h =
    let n = position_or_len test xs in
    (n, ap (λ b. cond b (Some n) None) (within n (length xs) (inside xs h)))
  where
    within : (a b : ℕ) → a < b → nat_lt a b ≡ true
    within a b h = grind (arith, nat_tests)

    by : (xs : List X) (b : Bool) → (b || list_any test xs) ≡ true → (list_any test xs ≡ true → position_or_len test xs < length xs) → cond (not b) (1 + position_or_len test xs) 0 < suc (length xs)
    by xs true h rest = omega arith
    by xs false h rest = let r = rest h in omega arith

    inside : (xs : List X) → list_any test xs ≡ true → position_or_len test xs < length xs
    inside [] h = absurd (false≢true h)
    inside (x ∷ xs) h = by xs (test x) h (inside xs)

any_member : {X : Type 0} (test : X → Bool) (xs : List X) (x : X) → Contains xs x → test x ≡ true → list_any test xs ≡ true
any_member test [] x c passes = absurd (omega (arith, c.1))
any_member test (y ∷ ys) x (zero, below, here) passes = ap (λ b. b || list_any test ys) (ap test here ∙ passes)
any_member test (y ∷ ys) x (suc k, below, here) passes = by (test y) (any_member test ys x (k, omega (arith, below), here) passes)
  where
    by : (b : Bool) → list_any test ys ≡ true → (b || list_any test ys) ≡ true
    by true h = refl
    by false h = h

all_member : {X : Type 0} (test : X → Bool) (xs : List X) (x : X) → Contains xs x → list_all test xs ≡ true → test x ≡ true
all_member test [] x c h = absurd (omega (arith, c.1))
all_member test (y ∷ ys) x (zero, below, here) h = ap test (sym here) ∙ and_first (test y) (list_all test ys) h
all_member test (y ∷ ys) x (suc k, below, here) h = all_member test ys x (k, omega (arith, below), here) (and_last (test y) (list_all test ys) h)

module _ (all : List Table) (t : Tables) (ps : List Part) (as' : List Action) where
  abbrev its : List Operand
  its = operands t.fields all (bare_names ps) (action_names t as')

  abbrev given : List Operand
  given = action_operands 0 (action_names t as')

  alone_stands : (p : Part) → Contains ps p → p.bare ≡ true → HasOperand its p.name
  alone_stands p c alone = by (is_epsilon p.name) refl
    where
      by : (b : Bool) → is_epsilon p.name ≡ b → HasOperand its p.name
      by true is = inr is
      by false is =
          let passes : is_operand p ≡ true = ap (λ b. b && not (is_epsilon p.name)) alone ∙ ap not is in
          let among = in_map (λ (q : Part). q.name) (filter is_operand ps) p (in_filter is_operand ps p passes c) in
          inl (some_bare t.fields all p.name given (bare_names ps) (any_member (λ n. bytes_eq p.name n) (bare_names ps) p.name among ((bytes_eq-Decides p.name p.name).1 refl)))

  means_field : (name : Name) (id : ℕ) → index_named (λ f. f.name) name t.fields ≡ Some id → has_name (λ f. f.name) name t.fields ≡ true
      → each_holds t (has_new_left all t) [] as' ≡ true → (o : Operand) → named (λ o. o.name) name its ≡ Some o → o.means ≡ means.Field id
  means_field name id is there new o h = elim (named_bare t.fields all name given (bare_names ps) o h) [
    | inl same ↦ ap (λ (o : Operand). o.means) same ∙ ap (λ (f : Option ℕ). meaning_by f (index_named (λ b. b.name) name all)) is
    | inr late ↦ absurd (false≢true (sym (action_apart all t as' name new (named_action name 0 (action_names t as') o late)) ∙ there))
  ]

  field_stands : (p : Part) → p.bare ≡ false → is_known t.fields all p ≡ true → each_holds t (has_new_left all t) [] as' ≡ true → IsField t.fields its p.name
  field_stands p alone known new =
      let there = by (has_name (λ f. f.name) p.name t.fields) p.bare (is_table all p.name || is_epsilon p.name) alone known in
      let i = index_there (is_named (λ f. f.name) p.name) t.fields there in
      (i.0, i.1, means_field p.name i.0 i.1 there new)
    where
      by : (a b c : Bool) → b ≡ false → (a || (b && c)) ≡ true → a ≡ true
      by true b c is h = refl
      by false true c is h = absurd (false≢true (sym is))
      by false false c is h = h

  part_stands : list_all (is_known t.fields all) ps ≡ true → each_holds t (has_new_left all t) [] as' ≡ true → (p : Part) → Contains ps p → Stands t.fields its p.bare p.name
  part_stands known new p c = by p.bare refl
    where
      by : (b : Bool) → p.bare ≡ b → Stands t.fields its b p.name
      by true is = alone_stands p c is
      by false is = field_stands p is (all_member (is_known t.fields all) ps p c known) new

by_parts : (P : Bool → Name → Type 0) (is_table : Name → Bool) (in_choice behind : Bool) (p : Pattern)
    → ((q : Part) → Contains (parts is_table in_choice behind p) q → P q.bare q.name) → EachName P p
unfolding parts
by_parts P is_table in_choice behind (bare name) each = each (record { name = name; bare = true; in_choice = in_choice; behind_table = behind }) (0, omega arith, refl)
by_parts P is_table in_choice behind (constraint name relation e) each =
    each (record { name = name; bare = false; in_choice = in_choice; behind_table = behind }) (0, omega arith, refl)
by_parts P is_table in_choice behind (group p) each = by_parts P is_table in_choice behind p each
by_parts P is_table in_choice behind (ellipsis p) each = by_parts P is_table in_choice behind p each
by_parts P is_table in_choice behind (joined op p q) each =
    let later = is_behind op behind (holds_table is_table p) in
    let left = parts is_table (is_in_choice op in_choice) behind p in
    let right = parts is_table (is_in_choice op in_choice) later q in (
      by_parts P is_table (is_in_choice op in_choice) behind p (λ part c. each part (Contains-append_left left right part c)),
      by_parts P is_table (is_in_choice op in_choice) later q (λ part c. each part (Contains-append_right left right part c)),
    )

-- ---- a constructor that is taken

unbroken : {A : Type 0} (broken : Option ℕ) (x y : A) → unless_broken broken x ≡ Ok y → broken ≡ None
unbroken None x y is = refl
unbroken (Some n) x y is = absurd (let e : ⊥ = cc in e)

holds_first : (b : Bool) (n : ℕ) (rest : Option ℕ) → cond b rest (Some n) ≡ None → (b ≡ true) × (rest ≡ None)
holds_first true n rest is = (refl, is)
holds_first false n rest is = absurd (let e : ⊥ = cc in e)

pub constructor_stands : (all : List Table) (t next : Tables) (item : ℕ) (c : Constructor) → constructor_step all t item c ≡ Ok next
    → EachName (Stands t.fields (operands_of all t (parts_of all c.pattern) (written c.actions))) c.pattern
constructor_stands all t next item c is =
    let ps = parts_of all c.pattern in
    let as' = written c.actions in
    let os = operands_of all t ps as' in
    let names = operand_names os in
    let rules = unbroken (first_broken (demands all t c ps names as')) (with_ctor t (table_name c) (added all item c os)) next is in
    let a = holds_first (may_begin t (table_name c)) 3 _ rules in
    let b = holds_first (shows_operands t names (is_of_root (table_name c)) c.display) 16 _ a.1 in
    let d = holds_first (list_all (is_known t.fields all) ps) 17 _ b.1 in
    let e = holds_first (are_few (bare_names ps) names) 18 _ d.1 in
    let f = holds_first (list_all is_allowed_there ps) 19 _ e.1 in
    let g = holds_first (has_values c.pattern) 20 _ f.1 in
    let h = holds_first (each_holds t (has_new_left all t) [] as') 21 _ g.1 in
    by_parts (Stands t.fields os) (is_table all) false false c.pattern (part_stands all t ps as' d.0 h.0)
