-- The operands of a constructor that is taken are read in its pattern.
use Rattle.std.proofs.Common.{◌≡◌, ℕ, zero, suc, ◌+◌, inl, inr, Bool, true, false, cond, List, [], ◌∷◌, ◌++◌, map, filter, get_or, Option, Some, None, refl, sym, ap, subst, ◌∙◌}
use Rattle.std.specs.Prelude.{position, slice_get, ◌&&◌, not}
use Rattle.std.specs.List.{AllByRecursion}
use Rattle.std.specs.Str.{bytes_eq}
use Rattle.std.proofs.lemmas.List.Quantifiers.{position-Some}
use Rattle.std.proofs.lemmas.Option.{slice_get-get_or}
use Rattle.std.proofs.lemmas.Slice.Eq.{bytes_eq-Decides}
use Rattle.sl_spec_actions.specs.ActionNames.{action_names}
use Rattle.sl_ast.specs.Trees.{Constructor, Pattern, bare, constraint, group, ellipsis, joined}
use Rattle.sl_ast.specs.Unfolding.{Placed, written}
use Rattle.sl_spec_constructors.specs.Operands.{action_operands, bare_names, bare_operand, is_epsilon, is_operand, meaning_by}
use Rattle.sl_spec_constructors.specs.Steps.{added, operands_of}
use Rattle.sl_faithful_accepted.specs.Reading.{IsAlone, OperandsAreRead}
use Rattle.sl_spec_actions.specs.Parts.{Part, holds_table, is_behind, is_in_choice, parts, parts_of}
use Rattle.sl_spec.specs.Named.{index_named, is_named, named}
use Rattle.sl_spec.specs.Tables.{Ctor, Field, Name, Operand, Table}
use Rattle.sl_spec.specs.declared.constructors.Means.TheVariants as means
use Rattle.sl_spec.specs.declared.tables.Tables.{Tables}

-- ---- names that stand alone

-- A part that stands alone is one of the pattern.
abbrev IsPartOf : Pattern → Part → Type 0
IsPartOf p q = q.bare ≡ true → IsAlone q.name p

all_both : {X : Type 0} (P Q R : X → Type 0) → ((x : X) → P x → R x) → ((x : X) → Q x → R x) → (xs ys : List X)
    → AllByRecursion P xs → AllByRecursion Q ys → AllByRecursion R (xs ++ ys)
all_both P Q R left right [] [] h k = tt
all_both P Q R left right [] (y ∷ ys) h k = (right y k.0, all_both P Q R left right [] ys h k.1)
all_both P Q R left right (x ∷ xs) ys h k = (left x h.0, all_both P Q R left right xs ys h.1 k)

all_alone : (is_table : Name → Bool) (in_choice behind : Bool) (p : Pattern)
    → AllByRecursion (IsPartOf p) (parts is_table in_choice behind p)
unfolding parts
all_alone is_table in_choice behind (bare name) = ((λ alone. refl), tt)
all_alone is_table in_choice behind (constraint name relation e) = ((λ alone. absurd (let no : ⊥ = cc in no)), tt)
all_alone is_table in_choice behind (group p) = all_alone is_table in_choice behind p
all_alone is_table in_choice behind (ellipsis p) = all_alone is_table in_choice behind p
all_alone is_table in_choice behind (joined op p q) =
    let later = is_behind op behind (holds_table is_table p) in
    all_both (IsPartOf p) (IsPartOf q) (IsPartOf (joined op p q)) (λ part h alone. inl (h alone))
    (λ part h alone. inr (h alone))
    (parts is_table (is_in_choice op in_choice) behind p) (parts is_table (is_in_choice op in_choice) later q)
    (all_alone is_table (is_in_choice op in_choice) behind p) (all_alone is_table (is_in_choice op in_choice) later q)

module _ (p : Pattern) where
  abbrev AllAlone : List Name → Type 0
  AllAlone names = AllByRecursion (λ name. IsAlone name p) names

  names_alone : (ps : List Part) → AllByRecursion (IsPartOf p) ps → AllAlone (bare_names ps)
  names_alone [] h = tt
  names_alone (q ∷ ps) h = by q.bare (is_epsilon q.name) refl (names_alone ps h.1)
    where
      by : (alone empty : Bool) → q.bare ≡ alone → AllAlone (bare_names ps)
          → AllAlone
          (map (λ (q : Part). q.name) (cond (alone && not empty) (q ∷ filter is_operand ps) (filter is_operand ps)))
      by true false is rest = (h.0 is, rest)
      by true true is rest = rest
      by false empty is rest = rest

  -- ---- operands by name

  module _ (fields : List Field) (all : List Table) where
    abbrev bare_of : Name → Operand
    bare_of name = bare_operand fields all name

    no_field : (j : ℕ) (given : List Name) (k id : ℕ) (o : Operand) → slice_get (action_operands j given) k ≡ Some o
        → o.means ≡ means.Field id → ⊥
    no_field j [] k id o is field = let no : ⊥ = cc in no
    no_field j (name ∷ given) zero id o is field =
        let same : record { name = name; means = means.Action j } ≡ o = cc in
        let e : means.Action j ≡ means.Field id = ap (λ (o : Operand). o.means) same ∙ field in
        let no : ⊥ = cc in no
    no_field j (name ∷ given) (suc k) id o is field = no_field (j + 1) given k id o is field

    -- An operand of a name that stands alone, which is the first one of this name.
    record IsBare (os : List Operand) (o : Operand) : Type 0 where
      same : bare_of o.name ≡ o
      alone : IsAlone o.name p
      first : named (λ o. o.name) o.name os ≡ Some o

    module _ (given : List Name) where
      abbrev its : List Name → List Operand
      its names = map bare_of names ++ action_operands 0 given

      first_by : (name : Name) (names : List Name) (o : Operand) (b : Bool) → bytes_eq o.name name ≡ b
          → bare_of o.name ≡ o → named (λ o. o.name) o.name (its names) ≡ Some o
          → cond b (Some (bare_of name)) (named (λ o. o.name) o.name (its names)) ≡ Some o
      first_by name names o true is same later =
          ap (λ n. Some (bare_of n)) (sym ((bytes_eq-Decides o.name name).0 is)) ∙ ap Some same
      first_by name names o false is same later = later

      bare_at : (names : List Name) → AllAlone names → (k id : ℕ) (o : Operand) → slice_get (its names) k ≡ Some o
          → o.means ≡ means.Field id → IsBare (its names) o
      bare_at [] alone k id o is field = absurd (no_field 0 given k id o is field)
      bare_at (name ∷ names) alone zero id o is field =
          let here : bare_of name ≡ o = cc in
          subst (λ (o : Operand). IsBare (its (name ∷ names)) o) here (record {
            same = refl;
            alone = alone.0;
            first = ap (λ b. cond b (Some (bare_of name)) (named (λ o. o.name) name (its names)))
                ((bytes_eq-Decides name name).1 refl);
          })
      bare_at (name ∷ names) alone (suc k) id o is field =
          let later = bare_at names alone.1 k id o is field in
          record {
            same = later.same;
            alone = later.alone;
            first = first_by name names o
                (bytes_eq o.name name) refl later.same later.first;
          }

      field_index : (o : Operand) (id : ℕ) → bare_of o.name ≡ o → o.means ≡ means.Field id
          → index_named (λ f. f.name) o.name fields ≡ Some id
      field_index o id same field = by (index_named (λ f. f.name) o.name fields) (ap (λ (o : Operand). o.means) same
          ∙ field)
        where
          by : (found : Option ℕ) → meaning_by found (index_named (λ b. b.name) o.name all) ≡ means.Field id
              → found ≡ Some id
          by None is = absurd (let no : ⊥ = cc in no)
          by (Some i) is = let same : i ≡ id = cc in ap Some same

-- ---- a constructor

-- what has an index is there
there_at : {X : Type 0} (test : X → Bool) (xs : List X) (i : ℕ) → position test xs ≡ Some i
    → (x : X) × (slice_get xs i ≡ Some x)
there_at test [] i is = absurd (let no : ⊥ = cc in no)
there_at test (x ∷ xs) i is = let found =
    position-Some test (x ∷ xs) i x is in (get_or (x ∷ xs) i x, slice_get-get_or (x ∷ xs) i x found.0)

pub constructor_read : (all : List Table) (t : Tables) (item : ℕ) (c : Constructor)
    → OperandsAreRead t.fields (added all item c (operands_of all t (parts_of all c.pattern) (written c.actions)))
    (item, c)
constructor_read all t item c k id o is field =
    let ps = parts_of all c.pattern in
    let given = action_names t (written c.actions) in
    let it = bare_at c.pattern t.fields all given (bare_names ps)
    (names_alone c.pattern ps (all_alone _ false false c.pattern)) k id o is field in
    let index = field_index c.pattern t.fields all given o id it.same field in
    let f = there_at (is_named (λ (f : Field). f.name) o.name) t.fields id index in
    record { field = f.0; there = f.1; meant = it.first; alone = it.alone }

-- ---- behind more fields

get_more : {X : Type 0} (xs ys : List X) (k : ℕ) (x : X) → slice_get xs k ≡ Some x → slice_get (xs ++ ys) k ≡ Some x
get_more [] ys k x is = absurd (let no : ⊥ = cc in no)
get_more (y ∷ xs) ys zero x is = is
get_more (y ∷ xs) ys (suc k) x is = get_more xs ys k x is

pub read_more : (fields more : List Field) (c : Ctor) (placed : Placed Constructor) → OperandsAreRead fields c placed
    → OperandsAreRead (fields ++ more) c placed
read_more fields more c placed read k id o is field =
    let r = read k id o is field in
    record { field = r.field; there = get_more fields more id r.field r.there; meant = r.meant; alone = r.alone }
