-- What holds of the tables while definitions and constructors are taken one by one.
use Rattle.std.proofs.Common.{◌≡◌, ℕ, zero, suc, ◌⊎◌, inl, inr, Bool, true, false, ◌||◌, List, [], ◌∷◌, ◌++◌, length, map, fold, Option, Some, None, Ok, refl, sym, ap, subst, ◌∙◌}
use Rattle.std.specs.Prelude.{◌&&◌, codes, if◌then◌else◌, not, position, unwrap_or}
use Rattle.std.specs.List.{Contains, filter, list_any}
use Rattle.std.specs.Str.{bytes_eq}
use Rattle.std.proofs.lemmas.Bool.{false≢true}
use Rattle.std.proofs.lemmas.List.{map-append}
use Rattle.std.proofs.lemmas.List.Elements.{Contains-append_left}
use Rattle.std.proofs.lemmas.List.Folds.{list_any-append, list_any_at}
use Rattle.std.proofs.lemmas.List.Quantifiers.{position-Some}
use Rattle.std.proofs.lemmas.List.Sums.{fold-append}
use Rattle.std.proofs.lemmas.Slice.Eq.{bytes_eq-Decides}
use Rattle.sl_ast.specs.Trees.{Constructor}
use Rattle.sl_ast.specs.Unfolding.{Placed, written}
use Rattle.sl_spec_actions.specs.ActionNames.{action_names, with_name}
use Rattle.sl_bind.proofs.GrowLemmas.{Grows, ctor_of, first_holds, is_kept, table_stands}
use Rattle.sl_bind.proofs.ListedLemmas.{AreBegun, constructors_at, one_begun, same_index}
use Rattle.sl_bind.proofs.SideLemmas.{EachPair, pair_each, pair_more}
use Rattle.sl_spec_constructors.proofs.MemberLemmas.{in_filter, in_map}
use Rattle.sl_spec_constructors.proofs.TableLemmas.{names_with}
use Rattle.sl_spec_constructors.specs.ConstructorRules.{may_begin}
use Rattle.sl_spec_constructors.specs.Laws.{names_of}
use Rattle.sl_spec_constructors.specs.Listed.{MeansTable}
use Rattle.sl_spec_constructors.specs.Operands.{action_operands, bare_names, bare_operand, is_epsilon, is_operand, meaning_by, operand_names}
use Rattle.sl_spec_constructors.specs.Steps.{constructor_step, demands, operands_of, with_ctor}
use Rattle.sl_spec_constructors.specs.WholeText.{table_name}
use Rattle.sl_spec_definitions.specs.Beginning.{no_tables}
use Rattle.sl_spec_actions.specs.Parts.{Part, parts_of}
use Rattle.sl_spec_registers.proofs.BoolLemmas.{and_parts, not_true, or_false}
use Rattle.sl_spec_registers.proofs.FreshLemmas.{field_free}
use Rattle.sl_spec_registers.specs.NewNames.{is_defined, is_new, reserved_words}
use Rattle.sl_spec_rules.proofs.ListLemmas.{any_map}
use Rattle.sl_spec_rules.specs.Names.{Name, is_among}
use Rattle.sl_spec.specs.Named.{has_name, index_named}
use Rattle.sl_spec.specs.Tables.{Ctor, Field, Table}
use Rattle.sl_spec.specs.declared.tables.Tables.{Tables}

abbrev pub is_table : Tables → Name → Bool
is_table t name = has_name (λ b. b.name) name t.tables

abbrev pub is_field : List Field → Name → Bool
is_field fields name = has_name (λ f. f.name) name fields

-- the names of tables, as constructors add them
abbrev pub names_added : List (Placed Constructor) → List Name
names_added cs = fold with_name (codes "instruction" ∷ []) (map (λ c. table_name c.1) cs)

-- Each name that stands alone in a constructor's pattern, and is no field's, is an operand that means
-- a table.
abbrev pub HasOperands : List Table → List Field → Ctor → Placed Constructor → Type 0
HasOperands all fields c placed = (p : Part) → Contains (parts_of all placed.1.pattern) p → p.bare ≡ true
    → is_epsilon p.name ≡ false → is_field fields p.name ≡ false
    → MeansTable c.operands (unwrap_or (index_named (λ b. b.name) p.name all) 0)

-- These constructors were taken, and no other.
pub record AreTaken (all : List Table) (cs : List (Placed Constructor)) (t : Tables) : Type 0 where
  pub begun : AreBegun t.tables t.constructors
  pub names : names_of t.tables ≡ names_added cs
  pub apart : (name : Name) → is_table t name ≡ true → (is_field t.fields name ≡ false) × (is_epsilon name ≡ false)
  pub pairs : EachPair (HasOperands all t.fields) t.constructors cs

added_last : (cs : List (Placed Constructor)) (c : Placed Constructor) → names_added (cs ++ c ∷ []) ≡ with_name (names_added cs) (table_name c.1)
added_last cs c =
    let name : Placed Constructor → Name = λ c. table_name c.1 in
    ap (fold with_name (codes "instruction" ∷ [])) (map-append name cs (c ∷ [])) ∙ fold-append with_name (codes "instruction" ∷ []) (map name cs) (table_name c.1 ∷ [])

-- ---- the beginning

pub none_taken : (all : List Table) → AreTaken all [] no_tables
none_taken all = record {
  begun = record { numbers = none; behind = tt };
  names = refl;
  apart = λ name there. (refl, apart_by name (bytes_eq name (codes "instruction")) refl there);
  pairs = tt;
}
  where
    none : (k : ℕ) → constructors_at no_tables.tables k ≡ []
    none zero = refl
    none (suc k) = refl

    apart_by : (name : Name) (b : Bool) → bytes_eq name (codes "instruction") ≡ b → (b || false) ≡ true → is_epsilon name ≡ false
    apart_by name true is there = ap is_epsilon ((bytes_eq-Decides name (codes "instruction")).0 is)
    apart_by name false is there = absurd (cc)

-- ---- a definition

pub taken_grows : (all : List Table) (cs : List (Placed Constructor)) (old new : Tables) → Grows old new → AreTaken all cs old → AreTaken all cs new
taken_grows all cs old new grows are = record {
  begun = subst (λ (bs : List Table). AreBegun bs new.constructors) (sym grows.tables) (subst (AreBegun old.tables) (sym grows.constructors) are.begun);
  names = ap names_of grows.tables ∙ are.names;
  apart = λ name there.
      let before : is_table old name ≡ true = ap (λ (bs : List Table). has_name (λ b. b.name) name bs) (sym grows.tables) ∙ there in
      let a = are.apart name before in
      (more name ∙ ap (λ b. b || is_field grows.more name) a.0 ∙ grows.fresh name (table_stands old name before), a.1);
  pairs = subst (λ (ctors : List Ctor). EachPair (HasOperands all new.fields) ctors cs) (sym grows.constructors)
      (pair_each (HasOperands all old.fields) (HasOperands all new.fields) old.constructors cs
      (λ c placed has p among alone some none. has p among alone some ((or_false (is_field old.fields p.name) (is_field grows.more p.name) (sym (more p.name) ∙ none)).0)) are.pairs);
}
  where
    more : (name : Name) → is_field new.fields name ≡ (is_field old.fields name || is_field grows.more name)
    more name = ap (λ (fs : List Field). is_field fs name) grows.fields ∙ list_any-append (λ f. bytes_eq name f.name) old.fields grows.more

-- ---- names

-- what has an index is there
pub some_named : {X : Type 0} (p : X → Bool) (xs : List X) (i : ℕ) → position p xs ≡ Some i → list_any p xs ≡ true
some_named p [] i is = absurd (let e : ⊥ = cc in e)
some_named p (x ∷ xs) i is = let e = position-Some p (x ∷ xs) i x is in list_any_at p (x ∷ xs) i x e.0 e.1

none_named : {X : Type 0} (p : X → Bool) (xs : List X) → list_any p xs ≡ false → position p xs ≡ None
none_named p xs none = by (position p xs) refl
  where
    by : (o : Option ℕ) → position p xs ≡ o → o ≡ None
    by None is = refl
    by (Some i) is = absurd (false≢true (sym none ∙ some_named p xs i is))

among_by : (names : List Name) (new name : Name) (there : Bool) → is_among (if there then names else names ++ new ∷ []) name ≡ true
    → (is_among names name ≡ true) ⊎ (bytes_eq name new ≡ true)
among_by names new name true is = inl is
among_by names new name false is = or_by (is_among names name) (bytes_eq name new) (sym (list_any-append (λ n. bytes_eq name n) names (new ∷ [])) ∙ is)
  where
    or_by : (a b : Bool) → (a || (b || false)) ≡ true → (a ≡ true) ⊎ (b ≡ true)
    or_by true b h = inl refl
    or_by false true h = inr refl
    or_by false false h = absurd (cc)

pub as_names : (name : Name) (bs : List Table) → has_name (λ b. b.name) name bs ≡ is_among (names_of bs) name
as_names name bs = sym (any_map (λ n. bytes_eq name n) (λ (b : Table). b.name) bs)

no_epsilon : (name : Name) → is_among reserved_words name ≡ false → is_epsilon name ≡ false
unfolding reserved_words
no_epsilon name none = by (is_epsilon name) refl
  where
    by : (b : Bool) → is_epsilon name ≡ b → b ≡ false
    by false is = refl
    by true is = absurd (false≢true (sym none ∙ ap (is_among reserved_words) ((bytes_eq-Decides name (codes "epsilon")).0 is)))

-- ---- a constructor

module _ (all : List Table) (t : Tables) (item : ℕ) (c : Constructor) where
  abbrev its : Ctor
  its = ctor_of all t item c

  operand_there : (p : Part) → Contains (parts_of all c.pattern) p → is_operand p ≡ true → Contains its.operands (bare_operand t.fields all p.name)
  operand_there p among passes =
      let ps = parts_of all c.pattern in
      Contains-append_left (map (bare_operand t.fields all) (bare_names ps)) (action_operands 0 (action_names t (written c.actions))) (bare_operand t.fields all p.name)
      (in_map (bare_operand t.fields all) (bare_names ps) p.name (in_map (λ (q : Part). q.name) (filter is_operand ps) p (in_filter is_operand ps p passes among)))

  has_operands : HasOperands all t.fields its (item, c)
  has_operands p among alone some none = (
    bare_operand t.fields all p.name,
    operand_there p among (ap (λ b. b && not (is_epsilon p.name)) alone ∙ ap not some),
    ap (λ i. meaning_by i (index_named (λ b. b.name) p.name all)) (none_named (λ f. bytes_eq p.name f.name) t.fields none),
  )

  -- a table's name is no field's
  begins_apart : (name : Name) → may_begin t name ≡ true → (is_table t name ≡ true → (is_field t.fields name ≡ false) × (is_epsilon name ≡ false))
      → (is_field t.fields name ≡ false) × (is_epsilon name ≡ false)
  begins_apart name begins before = by (is_table t name) refl begins
    where
      by : (b : Bool) → is_table t name ≡ b → (b || is_new t name) ≡ true → (is_field t.fields name ≡ false) × (is_epsilon name ≡ false)
      by true is h = before is
      by false is h =
          let p = and_parts (not (is_among reserved_words name)) (not (is_defined t name)) h in
          (field_free t name (not_true (is_defined t name) p.1), no_epsilon name (not_true (is_among reserved_words name) p.0))

  module _ (cs : List (Placed Constructor)) (more : List Name) (front : names_of all ≡ with_name (names_of t.tables) (table_name c) ++ more)
      (begins : may_begin t (table_name c) ≡ true) (are : AreTaken all cs t) where
    apart_after : (name : Name) → is_table (with_ctor t (table_name c) its) name ≡ true → (is_field t.fields name ≡ false) × (is_epsilon name ≡ false)
    apart_after name there = by
        (among_by (names_of t.tables) (table_name c) name (is_among (names_of t.tables) (table_name c))
        (ap (λ (l : List Name). is_among l name) (sym (names_with (table_name c) (length t.constructors) t.tables)) ∙ sym (as_names name _) ∙ there))
      where
        by : (is_among (names_of t.tables) name ≡ true) ⊎ (bytes_eq name (table_name c) ≡ true) → (is_field t.fields name ≡ false) × (is_epsilon name ≡ false)
        by (inl old) = are.apart name (as_names name t.tables ∙ old)
        by (inr new) =
            let same : name ≡ table_name c = (bytes_eq-Decides name (table_name c)).0 new in
            subst (λ (n : Name). (is_field t.fields n ≡ false) × (is_epsilon n ≡ false)) (sym same) (begins_apart (table_name c) begins (are.apart (table_name c)))

    one_taken : AreTaken all (cs ++ (item, c) ∷ []) (with_ctor t (table_name c) its)
    one_taken = record {
      begun = one_begun t.tables t.constructors (table_name c) its (ap (λ o. unwrap_or o 0) (same_index (table_name c) all t.tables more front)) are.begun;
      names = names_with (table_name c) (length t.constructors) t.tables
          ∙ ap (λ (ns : List Name). with_name ns (table_name c)) are.names
          ∙ sym (added_last cs (item, c));
      apart = apart_after;
      pairs = pair_more (HasOperands all t.fields) t.constructors cs its (item, c) has_operands are.pairs;
    }

-- a constructor that is taken is one more, where its table is among all tables behind those that are there
pub constructor_taken : (all : List Table) (t next : Tables) (item : ℕ) (c : Constructor) (cs : List (Placed Constructor)) (more : List Name)
    → names_of all ≡ with_name (names_of t.tables) (table_name c) ++ more → constructor_step all t item c ≡ Ok next
    → AreTaken all cs t → AreTaken all (cs ++ (item, c) ∷ []) next
constructor_taken all t next item c cs more front is are =
    let ps = parts_of all c.pattern in
    let os = operands_of all t ps (written c.actions) in
    let k = is_kept (demands all t c ps (operand_names os) (written c.actions)) (with_ctor t (table_name c) (ctor_of all t item c)) next is in
    subst (AreTaken all (cs ++ (item, c) ∷ [])) k.1 (one_taken all t item c cs more front (first_holds (may_begin t (table_name c)) 3 _ k.0) are)
