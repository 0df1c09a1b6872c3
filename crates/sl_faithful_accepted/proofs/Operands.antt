-- The tables that operands mean are tables of the text.
use Rattle.std.proofs.Common.{◌≡◌, ℕ, zero, suc, ◌<◌, List, [], ◌∷◌, ◌++◌, length, slice_get, Option, Some, None}
use Rattle.std.proofs.Common.{Ok, refl, sym, ap, subst, ◌∙◌, arith}
use Rattle.std.specs.Prelude.{Bool, true, false, ◌+◌, unwrap_or}
use Rattle.std.specs.List.{AllByRecursion}
use Rattle.std.proofs.lemmas.Bool.{false≢true}
use Rattle.std.proofs.lemmas.List.{length-map}
use Rattle.std.proofs.lemmas.List.Quantifiers.{position-Some}
use Rattle.sl_spec_actions.specs.ActionNames.{action_names}
use Rattle.sl_ast.specs.Trees.{Constructor, Item}
use Rattle.sl_ast.specs.Unfolding.{unfolded, written}
use Rattle.sl_bind.proofs.BoundLemmas.{is_whole, tables_listed}
use Rattle.sl_bind.proofs.GrowLemmas.{constructor_added, ctor_of}
use Rattle.sl_bind.proofs.WalkLemmas.{taken_keeps, whole_text}
use Rattle.sl_bind.specs.Verdict.{taken}
use Rattle.sl_faithful_sections.proofs.ChangeLemmas.{taken_changes}
use Rattle.sl_spec_constructors.proofs.TableLemmas.{each_is_added}
use Rattle.sl_spec_constructors.specs.Laws.{names_of}
use Rattle.sl_spec_constructors.specs.Operands.{action_operands, bare_names, bare_operand, meaning_by, operand_names}
use Rattle.sl_spec_constructors.specs.Operands.{operands}
use Rattle.sl_spec_constructors.specs.Steps.{added, constructor_step, demands, operands_of, with_ctor}
use Rattle.sl_spec_constructors.specs.WholeText.{all_tables, table_name}
use Rattle.sl_spec_actions.specs.Parts.{parts_of}
use Rattle.sl_spec_rules.specs.Names.{Name}
use Rattle.sl_spec.specs.Named.{index_named, is_named}
use Rattle.sl_spec.specs.Tables.{Ctor, Field, Operand, Table}
use Rattle.sl_spec.specs.ConstructorItems.{constructors_in}
use Rattle.sl_spec.specs.declared.constructors.Means.{Means}
use Rattle.sl_spec.specs.declared.constructors.Means.TheVariants as means
use Rattle.sl_spec.specs.declared.tables.Tables.{Tables}

-- ---- each member of a list

all_more : {X : Type 0} (P : X → Type 0) (xs : List X) (x : X) → AllByRecursion P xs → P x
    → AllByRecursion P (xs ++ x ∷ [])
all_more P [] x all one = (one, tt)
all_more P (y ∷ xs) x all one = (all.0, all_more P xs x all.1 one)

all_at : {X : Type 0} (P : X → Type 0) (xs : List X) (i : ℕ) (x : X) → slice_get xs i ≡ Some x → AllByRecursion P xs
    → P x
all_at P [] i x is all = absurd (let no : ⊥ = cc in no)
all_at P (y ∷ xs) zero x is all = let same : y ≡ x = cc in subst P same all.0
all_at P (y ∷ xs) (suc i) x is all = all_at P xs i x is all.1

-- ---- constructors that are added

-- The operands are those of bare names, by some fields and all tables, and of action names.
pub record IsAdded (all : List Table) (c : Ctor) : Type 0 where
  pub fields : List Field
  pub bare : List Name
  pub given : List Name
  pub are : c.operands ≡ operands fields all bare given

module _ (all : List Table) where
  step_adds : (t next : Tables) (n : ℕ) (c : Constructor) → constructor_step all t n c ≡ Ok next
      → AllByRecursion (IsAdded all) t.constructors → AllByRecursion (IsAdded all) next.constructors
  step_adds t next n c is are =
      subst (λ (u : Tables). AllByRecursion (IsAdded all) u.constructors) (constructor_added all t next n c is)
      (all_more (IsAdded all) t.constructors (ctor_of all t n c) are (record {
        fields = t.fields;
        bare = bare_names (parts_of all c.pattern);
        given = action_names t (written c.actions);
        are = refl;
      }))

taken_added : (items : List Item) (t : Tables) → taken items ≡ Ok t
    → AllByRecursion (IsAdded (whole_text items).tables) t.constructors
taken_added items t is =
    let all = (whole_text items).tables in
    taken_keeps items t is (λ done u. AllByRecursion (IsAdded all) u.constructors)
    (record {
      plain = λ done n item k next plain is' are.
          subst (AllByRecursion (IsAdded all)) (sym (taken_changes k next item is').constructors) are;
      macros = λ done n m ms t' keeps are. are;
      constructors = λ done rest n c ms t' next parts is' keeps are. step_adds all t' next n c is' are;
    }) tt

-- ---- the tables that operands mean

-- An operand that is a table is one of the first few.
abbrev IsLow : ℕ → Operand → Type 0
IsLow count o = (b : ℕ) → o.means ≡ means.Table b → b < count

abbrev table_in : Means → ℕ
table_in (means.Table b) = b
table_in (means.Field id) = 0
table_in (means.Action k) = 0

abbrev is_table : Means → Bool
is_table (means.Table b) = true
is_table (means.Field id) = false
is_table (means.Action k) = false

module _ (all : List Table) (some : 0 < length all) where
  index_low : (name : Name) (o : Option ℕ) → index_named (λ b. b.name) name all ≡ o → unwrap_or o 0 < length all
  index_low name None is = some
  index_low name (Some i) is =
      let h = position-Some (is_named (λ (b : Table). b.name) name) all i (record { name = []; constructors = [] })
      is in
      h.0

  meant_low : (name : Name) (field table : Option ℕ) → index_named (λ b. b.name) name all ≡ table → (b : ℕ)
      → meaning_by field table ≡ means.Table b → b < length all
  meant_low name (Some f) table is b e = absurd (false≢true (ap is_table e))
  meant_low name None table is b e = subst (λ k. k < length all) (ap table_in e) (index_low name table is)

  actions_low : (k : ℕ) (names : List Name) (i : ℕ) (o : Operand) → slice_get (action_operands k names) i ≡ Some o
      → IsLow (length all) o
  actions_low k [] i o is b e = absurd (let no : ⊥ = cc in no)
  actions_low k (n ∷ names) zero o is b e =
      let same : record { name = n; means = means.Action k } ≡ o = cc in
      absurd (false≢true (ap (λ (x : Operand). is_table x.means) same ∙ ap is_table e))
  actions_low k (n ∷ names) (suc i) o is b e = actions_low (k + 1) names i o is b e

  operands_low : (fields : List Field) (bare given : List Name) (i : ℕ) (o : Operand)
      → slice_get (operands fields all bare given) i ≡ Some o → IsLow (length all) o
  operands_low fields [] given i o is b e = actions_low 0 given i o is b e
  operands_low fields (n ∷ bare) given zero o is b e =
      let same : bare_operand fields all n ≡ o = cc in
      meant_low n (index_named (λ f. f.name) n fields) (index_named (λ b. b.name) n all) refl b
      (ap (λ (x : Operand). x.means) same ∙ e)
  operands_low fields (n ∷ bare) given (suc i) o is b e = operands_low fields bare given i o is b e

-- an operand that is a table is one of the text's
pub operands_below : (items : List Item) (t : Tables) → taken items ≡ Ok t
    → (number : ℕ) (c : Ctor) (i : ℕ) (o : Operand) (b : ℕ)
    → slice_get t.constructors number ≡ Some c → slice_get c.operands i ≡ Some o → o.means ≡ means.Table b
    → b < length t.tables
operands_below items t is number c i o b there at meant =
    let cs = constructors_in (unfolded items) in
    let all = all_tables cs in
    let one = all_at (IsAdded all) t.constructors number c there (taken_added items t is) in
    let names : names_of all ≡ names_of t.tables = each_is_added cs ∙ sym (is_whole items t is).are.names in
    let own = length-map all (λ (x : Table). x.name) in
    let theirs = length-map t.tables (λ (x : Table). x.name) in
    let same : length all ≡ length t.tables = omega (arith, own, theirs, ap length names) in
    let low = (tables_listed items t is).below number c there in
    subst (λ n. b < n) same
    (operands_low all (omega (arith, same, low)) one.fields one.bare one.given i o
    (ap (λ (os : List Operand). slice_get os i) (sym one.are) ∙ at) b meant)
