-- The tables of a text are those of its constructors, taken one by one.
use Rattle.std.proofs.Common.{◌≡◌, ℕ, List, [], ◌∷◌, ◌++◌, map, fold, Ok, refl, sym, ap, ◌∙◌, append_assoc, append-nil}
use Rattle.std.specs.Prelude.{codes, if◌then◌else◌, Bool, true, false}
use Rattle.std.proofs.lemmas.List.{map-append}
use Rattle.std.proofs.lemmas.List.Sums.{fold-append}
use Rattle.sl_ast.specs.Trees.{Constructor, Item, constructor}
use Rattle.sl_ast.specs.Unfolding.{Placed, unfolded}
use Rattle.sl_spec_actions.specs.ActionNames.{with_name}
use Rattle.sl_bind.proofs.GrowLemmas.{grows_by_none, item_grows}
use Rattle.sl_bind.proofs.TakenLemmas.{AreTaken, constructor_taken, names_added, none_taken, taken_grows}
use Rattle.sl_bind.proofs.WalkLemmas.{EachAdds, constructors_around, taken_adds, whole_text}
use Rattle.sl_bind.specs.Verdict.{taken, with_macro}
use Rattle.sl_spec_constructors.proofs.TableLemmas.{each_is_added}
use Rattle.sl_spec_constructors.specs.Laws.{names_of}
use Rattle.sl_spec_constructors.specs.Steps.{constructor_step}
use Rattle.sl_spec_constructors.specs.WholeText.{all_tables, table_name}
use Rattle.sl_spec_rules.specs.Names.{Name, is_among}
use Rattle.sl_spec.specs.Tables.{Table}
use Rattle.sl_spec.specs.ConstructorItems.{constructors_in}
use Rattle.sl_spec.specs.declared.tables.Tables.{Tables}

-- ---- the names of tables are a front of those of all tables

front_by : (ns names : List Name) (name : Name) (there : Bool) → (more : List Name) × (fold with_name (if there then ns else ns ++ name ∷ []) names ≡ (if there then ns else ns ++ name ∷ []) ++ more)
    → (more : List Name) × (fold with_name (if there then ns else ns ++ name ∷ []) names ≡ ns ++ more)
front_by ns names name true rest = rest
front_by ns names name false rest = (name ∷ rest.0, rest.1 ∙ append_assoc ns (name ∷ []) rest.0)

front : (ns names : List Name) → (more : List Name) × (fold with_name ns names ≡ ns ++ more)
front ns [] = ([], sym (append-nil ns))
front ns (name ∷ names) = front_by ns names name (is_among ns name) (front (with_name ns name) names)

all_begin : (cs ds : List (Placed Constructor)) (c : Placed Constructor) → (more : List Name) × (names_of (all_tables (cs ++ c ∷ ds)) ≡ with_name (names_added cs) (table_name c.1) ++ more)
all_begin cs ds c =
    let name : Placed Constructor → Name = λ c. table_name c.1 in
    let f = front (with_name (names_added cs) (table_name c.1)) (map name ds) in (
      f.0,
      each_is_added (cs ++ c ∷ ds)
          ∙ ap (fold with_name (codes "instruction" ∷ [])) (map-append name cs (c ∷ ds))
          ∙ fold-append with_name (codes "instruction" ∷ []) (map name cs) (table_name c.1 ∷ map name ds)
          ∙ f.1,
    )

-- ---- all items

module _ (items : List Item) where
  abbrev all : List Table
  all = all_tables (constructors_in (unfolded items))

  -- one constructor more
  one_taken : (done rest : List (Placed Item)) (n : ℕ) (c : Constructor) (t next : Tables)
      → unfolded items ≡ done ++ (n, constructor c) ∷ rest → constructor_step all t n c ≡ Ok next
      → AreTaken all (constructors_in done) t → AreTaken all (constructors_in done ++ (n, c) ∷ []) next
  one_taken done rest n c t next parts is are =
      let f = all_begin (constructors_in done) (constructors_in rest) (n, c) in
      let begins : names_of all ≡ with_name (names_of t.tables) (table_name c) ++ f.0 =
      ap (λ (l : List (Placed Constructor)). names_of (all_tables l)) (ap constructors_in parts ∙ constructors_around done rest n c) ∙ f.1
      ∙ ap (λ (ns : List Name). with_name ns (table_name c) ++ f.0) (sym are.names) in
      constructor_taken all t next n c (constructors_in done) f.0 begins is are

  each_taken : EachAdds (whole_text items) (unfolded items) (AreTaken all)
  each_taken = record {
    plain = λ cs k next item is are. taken_grows all cs k.tables next.tables (item_grows k next item is) are;
    macros = λ cs t n name are.
        taken_grows all cs t (with_macro t n name) (grows_by_none t (with_macro t n name) (with_macro t n name) refl refl refl refl (λ some. some)) are;
    constructors = one_taken;
  }

  pub all_taken : (t : Tables) → taken items ≡ Ok t → AreTaken all (constructors_in (unfolded items)) t
  all_taken t is = taken_adds items t is (AreTaken all) each_taken (none_taken all)
