-- The names of tables, as constructors add them.
use Rattle.std.proofs.Common.{◌≡◌, ◌||◌, ℕ, Bool, true, false, List, [], ◌∷◌, ◌++◌, map, fold, Option, Some, None, Ok, refl, sym, ap, ◌∙◌}
use Rattle.std.specs.Prelude.{if◌then◌else◌, codes}
use Rattle.std.specs.Str.{bytes_eq}
use Rattle.std.proofs.lemmas.List.{map_push}
use Rattle.sl_ast.specs.Trees.{Constructor}
use Rattle.sl_ast.specs.Unfolding.{Placed}
use Rattle.sl_spec_rules.specs.Demands.{unless_broken}
use Rattle.sl_spec_rules.specs.Names.{Name, is_among}
use Rattle.sl_spec_rules.proofs.ListLemmas.{any_map}
use Rattle.sl_spec.specs.Begun.{with_constructor, with_number}
use Rattle.sl_spec.specs.Named.{has_name}
use Rattle.sl_spec.specs.Tables.{Table}
use Rattle.sl_spec.specs.declared.tables.Tables.{Tables}
use Rattle.sl_spec_actions.specs.ActionNames.{with_name}
use Rattle.sl_spec_constructors.specs.Laws.{AddsEachTable, AddsItsTable, names_of}
use Rattle.sl_spec_constructors.specs.WholeText.{bare_table, table_name, with_table}

module _ (name : Name) (n : ℕ) where
  first_stays : (m : Name) (ns : List Name) (there : Bool) → m ∷ (if there then ns else ns ++ name ∷ []) ≡ (if there then m ∷ ns else m ∷ (ns ++ name ∷ []))
  first_stays m ns true = refl
  first_stays m ns false = refl

  names_by : (b : Table) (bs : List Table) (same : Bool) → names_of (with_constructor bs name n) ≡ with_name (names_of bs) name
      → names_of (if same then with_number b n ∷ bs else b ∷ with_constructor bs name n)
      ≡ (if (same || is_among (names_of bs) name) then b.name ∷ names_of bs else b.name ∷ (names_of bs ++ name ∷ []))
  names_by b bs true rest = refl
  names_by b bs false rest = ap (λ (ns : List Name). b.name ∷ ns) rest ∙ first_stays b.name (names_of bs) (is_among (names_of bs) name)

  pub names_with : (bs : List Table) → names_of (with_constructor bs name n) ≡ with_name (names_of bs) name
  names_with [] = refl
  names_with (b ∷ bs) = names_by b bs (bytes_eq name b.name) (names_with bs)

table_by : (bs : List Table) (name : Name) (there : Bool) → names_of (if there then bs else bs ++ bare_table name ∷ []) ≡ (if there then names_of bs else names_of bs ++ name ∷ [])
table_by bs name true = refl
table_by bs name false = map_push (λ (b : Table). b.name) bs (bare_table name)

names_table : (bs : List Table) (name : Name) → names_of (with_table bs name) ≡ with_name (names_of bs) name
names_table bs name =
    table_by bs name (has_name (λ b. b.name) name bs)
    ∙ ap (λ there. if there then names_of bs else names_of bs ++ name ∷ []) (sym (any_map (λ m. bytes_eq name m) (λ (b : Table). b.name) bs))

names_all : (bs : List Table) (names : List Name) → names_of (fold with_table bs names) ≡ fold with_name (names_of bs) names
names_all bs [] = refl
names_all bs (name ∷ names) = names_all (with_table bs name) names ∙ ap (λ (ns : List Name). fold with_name ns names) (names_table bs name)

pub each_is_added : AddsEachTable
each_is_added cs = names_all (bare_table (codes "instruction") ∷ []) (map (λ (c : Placed Constructor). table_name c.1) cs)

taken : (broken : Option ℕ) (t next : Tables) → unless_broken broken t ≡ Ok next → t ≡ next
taken None t next is = cc
taken (Some n) t next is = absurd (cc)

pub its_is_added : AddsItsTable
its_is_added all t next item c is =
    ap (λ (u : Tables). names_of u.tables) (sym (taken _ _ next is)) ∙ names_with (table_name c) _ t.tables
