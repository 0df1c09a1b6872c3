-- The operands of a text that are tables stand alone in the patterns.
use Rattle.std.proofs.Common.{◌≡◌, ℕ, zero, suc, ◌+◌, Bool, true, false, List, [], ◌∷◌, ◌++◌, map, filter, Some, Ok}
use Rattle.std.proofs.Common.{refl, sym, ap, subst, ◌∙◌, arith}
use Rattle.std.specs.Prelude.{cond, not, ◌&&◌}
use Rattle.std.specs.List.{AllByRecursion, Contains}
use Rattle.std.specs.Str.{bytes_eq}
use Rattle.std.proofs.lemmas.Slice.Eq.{bytes_eq-Decides}
use Rattle.sl_ast.specs.Trees.{Constructor, Item, Pattern}
use Rattle.sl_ast.specs.Unfolding.{Placed, unfolded, written}
use Rattle.sl_bind.proofs.GrowLemmas.{constructor_added, ctor_of, item_grows}
use Rattle.sl_bind.proofs.SideLemmas.{EachPair, pair_more}
use Rattle.sl_bind.proofs.WalkLemmas.{EachAdds, taken_adds, whole_text}
use Rattle.sl_bind.specs.Verdict.{taken}
use Rattle.sl_decode_meaning.specs.Places.{means_table, table_operands}
use Rattle.sl_gap_sure.proofs.PlaceLemmas.{HasAlone}
use Rattle.sl_spec.specs.ConstructorItems.{constructors_in}
use Rattle.sl_spec.specs.Named.{named}
use Rattle.sl_spec.specs.Tables.{Ctor, Field, Name, Operand, Table}
use Rattle.sl_spec.specs.declared.tables.Tables.{Tables}
use Rattle.sl_spec_actions.specs.ActionNames.{action_names}
use Rattle.sl_spec_actions.specs.Parts.{Part, is_table, parts_of}
use Rattle.sl_spec_constructors.specs.Operands.{action_operands, bare_names, bare_operand, is_epsilon, is_operand}
use Rattle.sl_spec_constructors.specs.Steps.{constructor_step, operands_of}

-- By the tables of the text, the operand's name stands alone in the pattern, and it is the first operand of this name.
pub record IsAlone (tables : List Table) (os : List Operand) (p : Pattern) (o : Operand) : Type 0 where
  pub alone : HasAlone (is_table tables) p o.name
  pub first : named (λ o. o.name) o.name os ≡ Some o

-- So is each operand that is a table.
abbrev pub TablesAlone : List Table → Ctor → Placed Constructor → Type 0
TablesAlone tables c placed = AllByRecursion (IsAlone tables c.operands placed.1.pattern) (table_operands c.operands)

-- ---- members

in_first : {X : Type 0} (x : X) (xs : List X) → Contains (x ∷ xs) x
in_first x xs = (0, omega arith, refl)

in_later : {X : Type 0} (y : X) (xs : List X) (x : X) → Contains xs x → Contains (y ∷ xs) x
in_later y xs x c = (suc c.0, omega (arith, c.1), c.2)

by_member : {X : Type 0} (P : X → Type 0) (xs : List X) → ((x : X) → Contains xs x → P x) → AllByRecursion P xs
by_member P [] each = tt
by_member P (x ∷ xs) each = (each x (in_first x xs), by_member P xs (λ y c. each y (in_later x xs y c)))

-- ---- names that stand alone

-- A part of this name stands alone among these.
abbrev IsBareIn : List Part → Name → Type 0
IsBareIn ps name = (q : Part) × Contains ps q × (q.bare ≡ true) × (q.name ≡ name)

bare_later : (p : Part) (ps : List Part) (name : Name) → IsBareIn ps name → IsBareIn (p ∷ ps) name
bare_later p ps name b = (b.0, in_later p ps b.0 b.1, b.2, b.3)

bare_among : (ps : List Part) (name : Name) → Contains (bare_names ps) name → IsBareIn ps name
bare_among [] name c = absurd (omega (arith, c.1))
bare_among (p ∷ ps) name c = by p.bare (is_epsilon p.name) refl c (λ among. bare_later p ps name (bare_among ps name among))
  where
    by : (alone empty : Bool) → p.bare ≡ alone
        → Contains (map (λ (q : Part). q.name) (cond (alone && not empty) (p ∷ filter is_operand ps) (filter is_operand ps))) name
        → (Contains (bare_names ps) name → IsBareIn (p ∷ ps) name) → IsBareIn (p ∷ ps) name
    by true false is (zero, below, here) later = (p, in_first p ps, is, here)
    by true false is (suc k, below, here) later = later (k, omega (arith, below), here)
    by true true is c later = later c
    by false empty is c later = later c

-- ---- operands by name

module _ (fields : List Field) (tables : List Table) where
  abbrev bare_of : Name → Operand
  bare_of name = bare_operand fields tables name

  first_bare : (rest : List Operand) (names : List Name) (name : Name) → Contains names name
      → named (λ o. o.name) name (map bare_of names ++ rest) ≡ Some (bare_of name)
  first_bare rest [] name c = absurd (omega (arith, c.1))
  first_bare rest (n ∷ names) name c = by (bytes_eq name n) refl c (first_bare rest names name)
    where
      by : (same : Bool) → bytes_eq name n ≡ same → Contains (n ∷ names) name
          → (Contains names name → named (λ o. o.name) name (map bare_of names ++ rest) ≡ Some (bare_of name))
          → cond same (Some (bare_of n)) (named (λ o. o.name) name (map bare_of names ++ rest)) ≡ Some (bare_of name)
      by true is c later = ap (λ (m : Name). Some (bare_of m)) (sym ((bytes_eq-Decides name n).0 is))
      by false is (zero, below, here) later = absurd (let e : true ≡ false = sym ((bytes_eq-Decides name n).1 (sym here)) ∙ is in let no : ⊥ = cc in no)
      by false is (suc k, below, here) later = later (k, omega (arith, below), here)

  no_table : (P : Operand → Type 0) (k : ℕ) (given : List Name) → AllByRecursion P (table_operands (action_operands k given))
  no_table P k [] = tt
  no_table P k (name ∷ given) = no_table P (k + 1) given

  only_tables : (P : Operand → Type 0) (given : List Name) (names : List Name) → AllByRecursion (λ name. P (bare_of name)) names
      → AllByRecursion P (table_operands (map bare_of names ++ action_operands 0 given))
  only_tables P given [] all = no_table P 0 given
  only_tables P given (name ∷ names) all = by (means_table (bare_of name).means) (only_tables P given names all.1)
    where
      by : (is : Bool) → AllByRecursion P (table_operands (map bare_of names ++ action_operands 0 given))
          → AllByRecursion P (cond is (bare_of name ∷ table_operands (map bare_of names ++ action_operands 0 given))
          (table_operands (map bare_of names ++ action_operands 0 given)))
      by true rest = (all.0, rest)
      by false rest = rest

-- ---- constructors

constructor_alone : (all : List Table) (t : Tables) (item : ℕ) (c : Constructor) → TablesAlone all (ctor_of all t item c) (item, c)
constructor_alone all t item c =
    let ps = parts_of all c.pattern in
    let given = action_names t (written c.actions) in
    let os = operands_of all t ps (written c.actions) in
    only_tables t.fields all (IsAlone all os c.pattern) given (bare_names ps)
    (by_member (λ (name : Name). IsAlone all os c.pattern (bare_operand t.fields all name)) (bare_names ps) (λ name among. record {
      alone = bare_among ps name among;
      first = first_bare t.fields all (action_operands 0 given) (bare_names ps) name among;
    }))

-- So it is in all constructors that were taken.
record AreAlone (tables : List Table) (cs : List (Placed Constructor)) (t : Tables) : Type 0 where
  pub pairs : EachPair (TablesAlone tables) t.constructors cs

step_alone : (all : List Table) (cs : List (Placed Constructor)) (t next : Tables) (item : ℕ) (c : Constructor) → constructor_step all t item c ≡ Ok next
    → AreAlone all cs t → AreAlone all (cs ++ (item, c) ∷ []) next
step_alone all cs t next item c is are = subst (AreAlone all (cs ++ (item, c) ∷ [])) (constructor_added all t next item c is) (record {
  pairs = pair_more (TablesAlone all) t.constructors cs (ctor_of all t item c) (item, c) (constructor_alone all t item c) are.pairs;
})

each_alone : (items : List Item) → EachAdds (whole_text items) (unfolded items) (AreAlone (whole_text items).tables)
each_alone items = record {
  plain = λ cs k next item is are. record {
    pairs = subst (λ (ctors : List Ctor). EachPair (TablesAlone (whole_text items).tables) ctors cs) (sym (item_grows k next item is).constructors) are.pairs;
  };
  macros = λ cs t n name are. record { pairs = are.pairs };
  constructors = λ done rest n c t next parts is are. step_alone (whole_text items).tables (constructors_in done) t next n c is are;
}

pub taken_alone : (items : List Item) (t : Tables) → taken items ≡ Ok t
    → EachPair (TablesAlone (whole_text items).tables) t.constructors (constructors_in (unfolded items))
taken_alone items t is = (taken_adds items t is (AreAlone (whole_text items).tables) (each_alone items) (record { pairs = tt })).pairs
