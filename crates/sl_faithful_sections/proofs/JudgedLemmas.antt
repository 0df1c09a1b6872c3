-- Of a text that keeps the rules, sections keep rules 26 to 31 by the tables before them, and macros rule 31.
use Rattle.std.proofs.Common.{◌≡◌, ℕ, zero, suc, ◌+◌, ◌-◌, Bool, true, false, List, [], ◌∷◌, ◌++◌, length, slice_get, Option, Some, None, Ok, refl, sym, ap, subst, ◌∙◌, append-nil, length-append, arith, if◌then◌else◌}
use Rattle.std.specs.List.{AllByRecursion, Contains}
use Rattle.std.proofs.lemmas.List.Sums.{fold-append}
use Rattle.sl_spec_actions.specs.ActionNames.{action_names}
use Rattle.sl_ast.specs.Trees.{Constructor, Item, Macro, constructor, block, define, attach_list, attach_one, macro}
use Rattle.sl_ast.specs.Unfolding.{Placed, unfolded}
use Rattle.sl_bind.proofs.GrowLemmas.{constructor_added, ctor_of}
use Rattle.sl_bind.proofs.WalkLemmas.{EachKeeps, constructors_last, is_plain, rules_of_macro, rules_of_section, taken_keeps, whole_text}
use Rattle.sl_bind.specs.Verdict.{last_operands, operands_in, taken, with_macro}
use Rattle.sl_faithful_sections.proofs.ChangeLemmas.{Changes, Grown, RangesLie, demand_at, grown_same, grown_then, reach_behind, taken_changes}
use Rattle.sl_faithful_sections.proofs.ListLemmas.{EachThree, all_both, three_each, three_more}
use Rattle.sl_faithful_sections.proofs.QuietLemmas.{IsMacro}
use Rattle.sl_spec_constructors.specs.ConstructorRules.{is_of_root}
use Rattle.sl_spec_constructors.specs.Operands.{action_operands, bare_names, meaning_by, operands}
use Rattle.sl_spec_constructors.specs.Steps.{constructor_step, operands_of, with_ctor}
use Rattle.sl_spec_constructors.specs.WholeText.{table_name}
use Rattle.sl_ast.specs.Unfolding.{written}
use Rattle.sl_spec_registers.proofs.BoolLemmas.{and_parts}
use Rattle.sl_spec_definitions.specs.Beginning.{no_tables}
use Rattle.sl_spec_definitions.specs.Items as items
use Rattle.sl_spec_definitions.specs.declared.known.Known.{Known}
use Rattle.sl_section_all.specs.Scopes.{Scopes, behind_item, behind_items, nothing_defined, with_body}
use Rattle.sl_spec_actions.specs.Parts.{parts_of}
use Rattle.sl_section_resolve.specs.Macros.{Body}
use Rattle.sl_section_terms.specs.Scopes.{reach_of}
use Rattle.sl_section_resolve.specs.Steps.{macro_name}
use Rattle.sl_section_terms.specs.declared.reach.Reach.{Reach}
use Rattle.sl_spec_rules.specs.Demands.{first_broken}
use Rattle.sl_section_forms.specs.Places.{is_macro_body}
use Rattle.sl_section_rules.specs.Macros.{Signature}
use Rattle.sl_section_rules.specs.Scopes.{macro_scope}
use Rattle.sl_section_rules.specs.SectionRules.{each_holds, has_calls, section_demands, statement_calls_well}
use Rattle.sl_section_rules.specs.WholeText.{Whole}
use Rattle.sl_spec.specs.Named.{has_name, index_named}
use Rattle.sl_spec.specs.Tables.{Ctor, Field, Name, Operand, Table}
use Rattle.sl_spec.specs.declared.constructors.Means.TheVariants as means
use Rattle.sl_spec.specs.ConstructorItems.{constructor_at, constructors_in}
use Rattle.sl_spec.specs.declared.tables.Tables.{Tables}

-- ---- constructors and macros that were taken

-- Rules 26 to 31 hold of the section, by the tables before it, which grew to those that are there.
pub record IsJudged (w : Whole) (t : Tables) (c : Ctor) (placed : Placed Constructor) (reach : Reach) : Type 0 where
  pub before : Tables
  pub macros : List Signature
  pub keeps : first_broken
      (section_demands w before macros c.operands (is_of_root (table_name placed.1)) placed.1.section) ≡ None
  pub reach_is : reach ≡ reach_of before
  pub lie : RangesLie before
  pub fields : (o : Operand) → Contains c.operands o → (id : ℕ) → o.means ≡ means.Field id
      → index_named (λ f. f.name) o.name before.fields ≡ Some id
  pub grown : Grown before t

-- These are the constructors and the macros that were taken.
pub record AreJudged (w : Whole) (cs : List (Placed Constructor)) (s : Scopes) (t : Tables) : Type 0 where
  pub reach : s.reach ≡ reach_of t
  pub lie : RangesLie t
  pub macros : AllByRecursion (IsMacro t) s.macros
  pub each : EachThree (IsJudged w t) t.constructors cs s.reaches

judged_more : (w : Whole) (old new : Tables) (c : Ctor) (placed : Placed Constructor) (reach : Reach) → Grown old new
    → IsJudged w old c placed reach → IsJudged w new c placed reach
judged_more w old new c placed reach grown is = record {
  before = is.before;
  macros = is.macros;
  keeps = is.keeps;
  reach_is = is.reach_is;
  lie = is.lie;
  fields = is.fields;
  grown = grown_then is.before old new is.grown grown;
}

-- with other tables, and no constructor more
no_constructor : (w : Whole) (cs : List (Placed Constructor)) (s next : Scopes) (old new : Tables) (reach : Reach)
    → Changes old new reach → next.reach ≡ reach
    → AllByRecursion (IsMacro new) next.macros → next.reaches ≡ s.reaches → AreJudged w cs s old
    → AreJudged w cs next new
no_constructor w cs s next old new reach changes behind macros same are = record {
  reach = behind ∙ sym changes.behind;
  lie = changes.ranges are.lie;
  macros = macros;
  each = subst (λ (rs : List Reach). EachThree (IsJudged w new) new.constructors cs rs) (sym same)
      (subst (λ (l : List Ctor). EachThree (IsJudged w new) l cs s.reaches) (sym changes.constructors)
      (three_each (IsJudged w old) (IsJudged w new) old.constructors cs s.reaches
      (λ c placed r h. judged_more w old new c placed r changes.grown h) are.each));
}

scopes_last : (done : List (Placed Item)) (n : ℕ) (item : Item)
    → behind_items nothing_defined (done ++ (n, item) ∷ []) ≡ behind_item (behind_items nothing_defined done) item
scopes_last done n item = fold-append (λ z (x : Placed Item). behind_item z x.1) nothing_defined done ((n, item) ∷ [])

-- the last of the constructors
last_of : (xs : List Ctor) (x : Ctor) → slice_get (xs ++ x ∷ []) (length (xs ++ x ∷ []) - 1) ≡ Some x
last_of xs x =
    ap (slice_get (xs ++ x ∷ []))
    (let long = length-append xs (x ∷ []) in let e : length (xs ++ x ∷ []) - 1 ≡ length xs = omega (arith, long) in e)
    ∙ at xs
  where
    at : (xs : List Ctor) → slice_get (xs ++ x ∷ []) (length xs) ≡ Some x
    at [] = refl
    at (y ∷ ys) = at ys

module _ (w : Whole) where
  abbrev Holds : List (Placed Item) → Tables → Type 0
  Holds done t = AreJudged w (constructors_in done) (behind_items nothing_defined done) t

  abbrev IsBehind : List (Placed Item) → ℕ → Item → Tables → Type 0
  IsBehind done n item t =
      AreJudged w (constructors_in done ++ constructor_at n item)
      (behind_item (behind_items nothing_defined done) item) t

  behind : (done : List (Placed Item)) (n : ℕ) (item : Item) (t : Tables) → IsBehind done n item t
      → Holds (done ++ (n, item) ∷ []) t
  behind done n item t are =
      subst (λ (s : Scopes). AreJudged w (constructors_in (done ++ (n, item) ∷ [])) s t) (sym (scopes_last done n item))
      (subst (λ (cs : List (Placed Constructor)). AreJudged w cs
      (behind_item (behind_items nothing_defined done) item) t) (sym (constructors_last done (n, item))) are)

  no_more : (cs : List (Placed Constructor)) (s : Scopes) (t : Tables) → AreJudged w cs s t → AreJudged w (cs ++ []) s t
  no_more cs s t are = subst (λ (l : List (Placed Constructor)). AreJudged w l s t) (sym (append-nil cs)) are

  -- a definition, an attached list or a block
  plain_judged : (done : List (Placed Item)) (n : ℕ) (item : Item) (k next : Known) → is_plain item ≡ true
      → items.taken k item ≡ Ok next → Holds done k.tables
      → IsBehind done n item next.tables
  plain_judged done n (define d) k next plain is are =
      let s = behind_items nothing_defined done in
      no_more (constructors_in done) (behind_item s (define d)) next.tables
      (no_constructor w (constructors_in done) s (behind_item s (define d)) k.tables next.tables _
      (taken_changes k next (define d) is)
      (ap (λ r. reach_behind r (define d)) are.reach) are.macros refl are)
  plain_judged done n (attach_list kind names members) k next plain is are =
      let s = behind_items nothing_defined done in
      no_more (constructors_in done) s next.tables
      (no_constructor w (constructors_in done) s s k.tables next.tables _
      (taken_changes k next (attach_list kind names members) is) are.reach are.macros refl are)
  plain_judged done n (attach_one kind names member) k next plain is are =
      let s = behind_items nothing_defined done in
      no_more (constructors_in done) s next.tables
      (no_constructor w (constructors_in done) s s k.tables next.tables _
      (taken_changes k next (attach_one kind names member) is) are.reach are.macros refl are)
  plain_judged done n (block h inside) k next plain is are =
      let s = behind_items nothing_defined done in
      no_more (constructors_in done) s next.tables
      (no_constructor w (constructors_in done) s s k.tables next.tables _
      (taken_changes k next (block h inside) is) are.reach are.macros refl are)
  plain_judged done n (macro m) k next plain is are = absurd (let e : ⊥ = cc in e)
  plain_judged done n (constructor c) k next plain is are = absurd (let e : ⊥ = cc in e)

  -- ---- macros

  macro_body : (t : Tables) (n : ℕ) (m : Macro) (ms : List Signature)
      → first_broken (rules_of_macro w t ms n m) ≡ None → is_macro_body m.body ≡ true
  macro_body t n m ms keeps =
      let u = with_macro t n m.name in
      let calls = has_calls u ms (macro_scope u m.parameters) m.body in
      (and_parts (is_macro_body m.body) (each_holds u (statement_calls_well u ms) (macro_scope u m.parameters) m.body)
      (demand_at (rules_of_macro w t ms n m) 6 (31, calls) refl keeps)).0

  body_added : (t : Tables) (ms : List Body) (m : Body) → IsMacro t m → AllByRecursion (IsMacro t) ms
      → AllByRecursion (IsMacro t) (with_body ms m)
  body_added t ms m here all = by (has_name macro_name (macro_name m) ms)
    where
      by : (b : Bool) → AllByRecursion (IsMacro t) (if b then ms else ms ++ m ∷ [])
      by true = all
      by false = all_both (IsMacro t) ms (m ∷ []) all (here, tt)

  macro_judged : (done : List (Placed Item)) (n : ℕ) (m : Macro) (ms : List Signature) (t : Tables)
      → first_broken (rules_of_macro w t ms n m) ≡ None → Holds done t
      → IsBehind done n (macro m) (with_macro t n m.name)
  macro_judged done n m ms t keeps are =
      let s = behind_items nothing_defined done in
      let new = with_macro t n m.name in
      let longer : reach_of new ≡ record (reach_of t) { macros = length t.macros + 1 } = ap
      (λ n. record (reach_of t) { macros = n }) (length-append t.macros (record { name = m.name; item = n } ∷ [])) in
      no_more (constructors_in done) (behind_item s (macro m)) new
      (no_constructor w (constructors_in done) s (behind_item s (macro m)) t new _
      (record { constructors = refl; grown = grown_same _ _ refl refl refl; behind = longer; ranges = λ h. h })
      (ap (λ (r : Reach). record r { macros = r.macros + 1 }) are.reach)
      (body_added new s.macros (record { of = m; reach = s.reach }) (macro_body t n m ms keeps) are.macros) refl are)

  -- ---- constructors

  bare_field : (fields : List Field) (all : List Table) (name : Name) (id : ℕ) (found : Option ℕ)
      → index_named (λ f. f.name) name fields ≡ found
      → meaning_by found (index_named (λ b. b.name) name all) ≡ means.Field id
      → index_named (λ f. f.name) name fields ≡ Some id
  bare_field fields all name id (Some k) at is = let e : k ≡ id = cc in at ∙ ap Some e
  bare_field fields all name id None at is = absurd (let e : ⊥ = cc in e)

  action_field : (k : ℕ) (names : List Name) (o : Operand) → Contains (action_operands k names) o → (id : ℕ)
      → o.means ≡ means.Field id → ⊥
  action_field k [] o h id is = let no : ⊥ = omega (arith, h.1) in no
  action_field k (name ∷ names) o (zero, inside, here) id is =
      let e : means.Action k ≡ means.Field id = ap (λ (o : Operand). o.means) here ∙ is in let no : ⊥ = cc in no
  action_field k (name ∷ names) o (suc i, inside, here) id is =
      action_field (k + 1) names o (i, omega (arith, inside), here) id is

  -- an operand that means a field has its name
  operand_fields : (t : Tables) (all : List Table) (bare given : List Name) (o : Operand)
      → Contains (operands t.fields all bare given) o → (id : ℕ) → o.means ≡ means.Field id
      → index_named (λ f. f.name) o.name t.fields ≡ Some id
  operand_fields t all [] given o h id is = absurd (action_field 0 given o h id is)
  operand_fields t all (name ∷ bare) given o (zero, inside, here) id is =
      ap (λ (o : Operand). index_named (λ (f : Field). f.name) o.name t.fields) (sym here)
      ∙ bare_field t.fields all name id (index_named (λ f. f.name) name t.fields) refl
      (ap (λ (o : Operand). o.means) here ∙ is)
  operand_fields t all (name ∷ bare) given o (suc i, inside, here) id is =
      operand_fields t all bare given o (i, omega (arith, inside), here) id is

  constructor_judged : (done : List (Placed Item)) (n : ℕ) (c : Constructor) (ms : List Signature) (t next : Tables)
      → constructor_step w.tables t n c ≡ Ok next
      → first_broken (rules_of_section w next ms c) ≡ None → Holds done t → IsBehind done n (constructor c) next
  constructor_judged done n c ms t next is keeps are =
      let ps = parts_of w.tables c.pattern in
      let os = operands_of w.tables t ps (written c.actions) in
      let its = ctor_of w.tables t n c in
      let s = behind_items nothing_defined done in
      let new = with_ctor t (table_name c) its in
      let same = constructor_added w.tables t next n c is in
      let grown : Grown t new = grown_same _ _ refl refl refl in
      let own : last_operands new ≡ os = ap operands_in (last_of t.constructors its) in
      let kept : first_broken (section_demands w new ms os (is_of_root (table_name c)) c.section) ≡ None =
      ap (λ (l : List Operand). first_broken (section_demands w new ms l (is_of_root (table_name c)) c.section))
      (sym own)
      ∙ ap (λ (u : Tables). first_broken (rules_of_section w u ms c)) same ∙ keeps in
      subst (AreJudged w (constructors_in done ++ (n, c) ∷ []) (behind_item s (constructor c))) same (record {
        reach = are.reach;
        lie = are.lie;
        macros = are.macros;
        each = three_more (IsJudged w new) t.constructors (constructors_in done) s.reaches its (n, c) s.reach
            (record {
              before = new;
              macros = ms;
              keeps = kept;
              reach_is = are.reach;
              lie = are.lie;
              fields = operand_fields t w.tables (bare_names ps) (action_names t (written c.actions));
              grown = grown_same new new refl refl refl;
            })
            (three_each (IsJudged w t) (IsJudged w new) t.constructors (constructors_in done) s.reaches
            (λ d placed r h. judged_more w t new d placed r grown h) are.each);
      })

  all_keep : (items : List (Placed Item)) → EachKeeps w items Holds
  all_keep items = record {
    plain = λ done n item k next plain is are. behind done n item next.tables
        (plain_judged done n item k next plain is are);
    macros = λ done n m ms t keeps are. behind done n (macro m) (with_macro t n m.name)
        (macro_judged done n m ms t keeps are);
    constructors = λ done rest n c ms t next parts is keeps are. behind done n (constructor c) next
        (constructor_judged done n c ms t next is keeps are);
  }

  none_judged : Holds [] no_tables
  unfolding constructors_in
  none_judged = record { reach = refl; lie = tt; macros = tt; each = tt }

-- ---- a text

pub taken_judged : (items : List Item) (t : Tables) → taken items ≡ Ok t
    → AreJudged (whole_text items) (constructors_in (unfolded items)) (behind_items nothing_defined (unfolded items)) t
taken_judged items t is =
    let w = whole_text items in
    taken_keeps items t is (λ done u. AreJudged w (constructors_in done) (behind_items nothing_defined done) u)
    (all_keep w (unfolded items)) (none_judged w)
