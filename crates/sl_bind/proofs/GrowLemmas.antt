-- What definitions and constructors add: a definition no table, no constructor, and fields under new names alone.
use Rattle.std.proofs.Common.{◌≡◌, ℕ, ◌≤◌, ◌&&◌, Bool, true, false, cond, ◌||◌, List, [], ◌∷◌, ◌++◌, length, map, Option, Some, None, Result, Ok, Err, refl, sym, ap, subst, ◌∙◌, append-nil}
use Rattle.std.specs.Prelude.{nat_le, not}
use Rattle.std.specs.List.{list_all}
use Rattle.std.specs.Str.{bytes_eq}
use Rattle.std.proofs.lemmas.Bool.{false≢true, leb-true}
use Rattle.std.proofs.lemmas.Slice.Eq.{bytes_eq-Decides}
use Rattle.sl_ast.specs.Trees as tree
use Rattle.sl_ast.specs.Trees.{Constructor}
use Rattle.sl_ast.specs.Unfolding.{written}
use Rattle.sl_spec_constructors.specs.Operands.{operand_names}
use Rattle.sl_spec_constructors.specs.Steps.{added, constructor_step, demands, operands_of, with_ctor}
use Rattle.sl_spec_constructors.specs.WholeText.{table_name}
use Rattle.sl_spec_definitions.specs.AttachRules.{attach_demands}
use Rattle.sl_spec_definitions.specs.Beginning.{begin, is_alignment, is_due, with_alignment, with_endian}
use Rattle.sl_spec_definitions.specs.FieldRules.{context_demands, field_names, field_of, token_demands}
use Rattle.sl_spec_definitions.specs.Items.{all_names, defined, taken, with_tables}
use Rattle.sl_spec_definitions.specs.declared.known.Known.{Known}
use Rattle.sl_spec_actions.specs.Parts.{parts_of}
use Rattle.sl_spec_registers.proofs.BoolLemmas.{and_parts, not_true, or_false}
use Rattle.sl_spec_registers.specs.NewNames.{are_new, is_defined, is_new, reserved_words}
use Rattle.sl_spec_registers.specs.RegisterRules.{bit_range_demands, register_demands}
use Rattle.sl_spec_registers.specs.SpaceRules.{space_demands}
use Rattle.sl_spec_rules.specs.Demands.{◌>>=◌, Demand, first_broken, judged, unless_broken}
use Rattle.sl_spec_rules.specs.Names.{Name, are_distinct, is_among}
use Rattle.sl_spec.specs.Named.{has_name}
use Rattle.sl_spec.specs.Tables.{Ctor, Field, Table}
use Rattle.sl_spec.specs.declared.tables.Tables.{Tables}

-- ---- results

-- What is there comes of what was there before.
abbrev pub ComesOf : {A B E : Type 0} → Result A E → (A → Result B E) → B → Type 0
ComesOf {A = A} r f y = (x : A) × (r ≡ Ok x) × (f x ≡ Ok y)

pub came_of : {A B E : Type 0} (r : Result A E) (f : A → Result B E) (y : B) → (r >>= f) ≡ Ok y → ComesOf r f y
came_of (Ok x) f y is = (x, refl, is)
came_of (Err e) f y is = absurd (cc)

unbroken : {A : Type 0} (broken : Option ℕ) (x y : A) → unless_broken broken x ≡ Ok y → (broken ≡ None) × (x ≡ y)
unbroken None x y is = (refl, cc)
unbroken (Some n) x y is = absurd (cc)

pub is_kept : {A : Type 0} (ds : List Demand) (x y : A) → judged ds x ≡ Ok y → (first_broken ds ≡ None) × (x ≡ y)
is_kept ds x y is = unbroken (first_broken ds) x y is

pub first_holds : (b : Bool) (n : ℕ) (rest : Option ℕ) → cond b rest (Some n) ≡ None → b ≡ true
first_holds true n rest is = refl
first_holds false n rest is = absurd (cc)

-- ---- what definitions leave

-- No table and no constructor was added, of the fields that were each has a new name, and an alignment
-- is at least 1.
pub record Grows (old new : Tables) : Type 0 where
  pub tables : new.tables ≡ old.tables
  pub constructors : new.constructors ≡ old.constructors
  pub more : List Field
  pub fields : new.fields ≡ old.fields ++ more
  pub fresh : (name : Name) → is_new old name ≡ false → has_name (λ f. f.name) name more ≡ false
  pub aligned : 1 ≤ old.alignment → 1 ≤ new.alignment

grows_as : (old next new : Tables) → next ≡ new → Grows old next → Grows old new
grows_as old next new same grows = subst (λ (t : Tables). Grows old t) same grows

-- where fields stay too
pub grows_by_none : (old next new : Tables) → next ≡ new → next.tables ≡ old.tables → next.constructors ≡ old.constructors → next.fields ≡ old.fields
    → (1 ≤ old.alignment → 1 ≤ next.alignment) → Grows old new
grows_by_none old next new same tables constructors fields aligned = grows_as old next new same (record {
  tables = tables;
  constructors = constructors;
  more = [];
  fields = fields ∙ sym (append-nil old.fields);
  fresh = λ name old. refl;
  aligned = aligned;
})

-- ---- new fields

or_last : (a b : Bool) → (a || b) ≡ false → b ≡ false
or_last a b is = (or_false a b is).1

last_fails : (a b c d e f g h : Bool) → not (a || (b || (c || (d || (e || (f || (g || h))))))) ≡ true → h ≡ false
last_fails a b c d e f g h is =
    or_last g h (or_last f (g || h) (or_last e (f || (g || h)) (or_last d (e || (f || (g || h))) (or_last c (d || (e || (f || (g || h))))
    (or_last b (c || (d || (e || (f || (g || h))))) (or_last a (b || (c || (d || (e || (f || (g || h)))))) (not_true _ is)))))))

no_table : (t : Tables) (name : Name) → is_new t name ≡ true → has_name (λ b. b.name) name t.tables ≡ false
no_table t name new = last_fails
    (has_name (λ s. s.name) name t.spaces) (has_name (λ r. r.name) name t.registers) (has_name (λ r. r.name) name t.bitranges)
    (has_name (λ u. u.name) name t.userops) (has_name (λ k. k.name) name t.tokens) (has_name (λ f. f.name) name t.fields)
    (has_name (λ m. m.name) name t.macros) (has_name (λ b. b.name) name t.tables)
    ((and_parts (not (is_among reserved_words name)) (not (is_defined t name)) new).1)

-- a table's name isn't new
pub table_stands : (t : Tables) (name : Name) → has_name (λ b. b.name) name t.tables ≡ true → is_new t name ≡ false
table_stands t name there = by (is_new t name) refl
  where
    by : (b : Bool) → is_new t name ≡ b → b ≡ false
    by false is = refl
    by true is = absurd (false≢true (sym (no_table t name is) ∙ there))

module _ (t : Tables) (token : Option ℕ) (name : Name) (old : is_new t name ≡ false) where
  other : (f : tree.Field) (b : Bool) → bytes_eq name f.name ≡ b → is_new t f.name ≡ true → b ≡ false
  other f false is new = refl
  other f true is new =
      let same : name ≡ f.name = (bytes_eq-Decides name f.name).0 is in
      absurd (false≢true (sym old ∙ ap (is_new t) same ∙ new))

  others : (fs : List tree.Field) → list_all (is_new t) (field_names fs) ≡ true → has_name (λ f. f.name) name (map (field_of token) fs) ≡ false
  others [] new = refl
  others (f ∷ fs) new =
      let p = and_parts (is_new t f.name) (list_all (is_new t) (field_names fs)) new in
      ap (λ b. b || has_name (λ f. f.name) name (map (field_of token) fs)) (other f (bytes_eq name f.name) refl p.0) ∙ others fs p.1

all_new : (t : Tables) (names : List Name) → are_new t names ≡ true → list_all (is_new t) names ≡ true
unfolding are_new
all_new t names new = (and_parts (list_all (is_new t) names) (are_distinct names) new).0

grows_by : (old next new : Tables) (token : Option ℕ) (fs : List tree.Field) → next ≡ new → next.tables ≡ old.tables → next.constructors ≡ old.constructors
    → next.fields ≡ old.fields ++ map (field_of token) fs → (1 ≤ old.alignment → 1 ≤ next.alignment)
    → list_all (is_new old) (field_names fs) ≡ true → Grows old new
grows_by old next new token fs same tables constructors fields aligned are = grows_as old next new same (record {
  tables = tables;
  constructors = constructors;
  more = map (field_of token) fs;
  fields = fields;
  fresh = λ name stands. others old token name stands fs are;
  aligned = aligned;
})

-- ---- definitions

abbrev pub known_in : Known → Result Known ℕ → Known
known_in k (Ok next) = next
known_in k (Err rule) = k

-- the tables are put
pub put : (k next : Known) (r : Result Tables ℕ) → with_tables k r ≡ Ok next → (t : Tables) × (r ≡ Ok t) × (t ≡ next.tables)
put k next r is =
    let c = came_of r (λ t. Ok (record k { tables = t })) next is in
    (c.0, c.1, ap (λ r. (known_in next r).tables) c.2)

pub put_judged : (k next : Known) (ds : List Demand) (t : Tables) → with_tables k (judged ds t) ≡ Ok next → (first_broken ds ≡ None) × (t ≡ next.tables)
put_judged k next ds t is =
    let p = put k next (judged ds t) is in
    let e = is_kept ds t p.0 p.1 in
    (e.0, e.1 ∙ p.2)

put_alone : (k next : Known) (ds : List Demand) (t : Tables) → with_tables k (judged ds t) ≡ Ok next
    → t.tables ≡ k.tables.tables → t.constructors ≡ k.tables.constructors → t.fields ≡ k.tables.fields
    → (1 ≤ k.tables.alignment → 1 ≤ t.alignment) → Grows k.tables next.tables
put_alone k next ds t is tables constructors fields aligned = grows_by_none k.tables t next.tables (put_judged k next ds t is).1 tables constructors fields aligned

-- rule 2
is_some : (stands : Bool) (n : ℕ) → is_alignment stands n ≡ true → 1 ≤ n
is_some stands n is =
    leb-true 1 n (and_parts (nat_le 1 n) (nat_le n 16) (and_parts (not stands) (nat_le 1 n && nat_le n 16) is).1).0

defined_grows : (k next : Known) (d : tree.Definition) → defined k d ≡ Ok next → Grows k.tables next.tables
defined_grows k next (tree.endian order) is =
    grows_by_none k.tables (with_endian k.tables order) next.tables (ap (λ r. (known_in next r).tables) is) refl refl refl (λ some. some)
defined_grows k next (tree.alignment n) is =
    let e = is_kept ((2, is_alignment k.alignment_stands n) ∷ []) (with_alignment k n) next is in
    grows_by_none k.tables (with_alignment k n).tables next.tables (ap (λ (k : Known). k.tables) e.1) refl refl refl
    (λ some. is_some k.alignment_stands n (first_holds (is_alignment k.alignment_stands n) 2 None e.0))
defined_grows k next (tree.space name given) is = put_alone k next (space_demands k.tables name given) _ is refl refl refl (λ some. some)
defined_grows k next (tree.bit_ranges first more) is = put_alone k next (bit_range_demands k.tables (first ∷ more)) _ is refl refl refl (λ some. some)
defined_grows k next (tree.pcode_ops names) is = put_alone k next ((3, are_new k.tables (all_names names)) ∷ []) _ is refl refl refl (λ some. some)
defined_grows k next (tree.registers place offset size names) is = put_alone k next (register_demands k.tables place offset size (all_names names)) _ is refl refl refl (λ some. some)
defined_grows k next (tree.token name bits order fs) is =
    let e = put_judged k next (token_demands k.tables name bits fs) _ is in
    let new = all_new k.tables (name ∷ field_names fs) (first_holds (are_new k.tables (name ∷ field_names fs)) 3 _ e.0) in
    grows_by k.tables _ next.tables (Some (length k.tables.tokens)) fs e.1 refl refl refl (λ some. some) (and_parts (is_new k.tables name) (list_all (is_new k.tables) (field_names fs)) new).1
defined_grows k next (tree.context register fs) is =
    let e = put_judged k next (context_demands k.tables register fs) _ is in
    grows_by k.tables _ next.tables None fs e.1 refl refl refl (λ some. some) (all_new k.tables (field_names fs) (first_holds (are_new k.tables (field_names fs)) 3 _ e.0))

-- a definition or an attached list; other items define nothing
pub item_grows : (k next : Known) (item : tree.Item) → taken k item ≡ Ok next → Grows k.tables next.tables
item_grows k next (tree.define d) is = defined_grows k next d is
item_grows k next (tree.attach_list kind names members) is = put_alone k next (attach_demands k.tables kind (all_names names) members) _ is refl refl refl (λ some. some)
item_grows k next (tree.attach_one kind names member) is = put_alone k next (attach_demands k.tables kind (all_names names) (member ∷ [])) _ is refl refl refl (λ some. some)
item_grows k next (tree.macro m) is = grows_by_none k.tables k.tables next.tables (ap (λ r. (known_in next r).tables) is) refl refl refl (λ some. some)
item_grows k next (tree.block h inside) is = grows_by_none k.tables k.tables next.tables (ap (λ r. (known_in next r).tables) is) refl refl refl (λ some. some)
item_grows k next (tree.constructor c) is = grows_by_none k.tables k.tables next.tables (ap (λ r. (known_in next r).tables) is) refl refl refl (λ some. some)

-- an item begins
pub begins_as : (k next : Known) (gives_endian : Bool) → begin k gives_endian ≡ Ok next → k.tables ≡ next.tables
begins_as k next gives_endian is = ap (λ (k : Known). k.tables) (is_kept ((1, is_due k.begun gives_endian) ∷ []) (record k { begun = true }) next is).1

-- ---- a constructor

-- a constructor as it is added
abbrev pub ctor_of : List Table → Tables → ℕ → Constructor → Ctor
ctor_of all t n c = added all n c (operands_of all t (parts_of all c.pattern) (written c.actions))

-- it is put, where its rules hold
pub constructor_added : (all : List Table) (t next : Tables) (n : ℕ) (c : Constructor) → constructor_step all t n c ≡ Ok next
    → with_ctor t (table_name c) (ctor_of all t n c) ≡ next
constructor_added all t next n c is =
    let ps = parts_of all c.pattern in
    let os = operands_of all t ps (written c.actions) in
    (is_kept (demands all t c ps (operand_names os) (written c.actions)) (with_ctor t (table_name c) (ctor_of all t n c)) next is).1
