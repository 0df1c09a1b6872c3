-- The tables behind all constructors of a text: they are listed, and patterns name operands.
use Rattle.std.proofs.Common.{◌≡◌, ℕ, false, List, slice_get, Some, refl, sym, ap, subst, ◌∙◌}
use Rattle.std.specs.Prelude.{unwrap_or}
use Rattle.std.specs.List.{Contains}
use Rattle.std.specs.Str.{bytes_eq}
use Rattle.sl_ast.specs.Trees.{Constructor}
use Rattle.sl_ast.specs.Unfolding.{Placed}
use Rattle.sl_bind.proofs.ListedLemmas.{all_listed, index_by_names}
use Rattle.sl_bind.proofs.SideLemmas.{pair_at, pair_long}
use Rattle.sl_bind.proofs.TakenLemmas.{AreTaken, HasOperands, as_names, some_named}
use Rattle.sl_spec_constructors.proofs.TableLemmas.{each_is_added}
use Rattle.sl_spec_constructors.specs.Laws.{names_of}
use Rattle.sl_spec_constructors.specs.Listed.{AreListed, MeansTable, NameOperands}
use Rattle.sl_spec_constructors.specs.WholeText.{all_tables}
use Rattle.sl_spec_actions.specs.Parts.{Part, is_table, parts, parts_of}
use Rattle.sl_spec_rules.specs.Names.{Name, is_among}
use Rattle.sl_spec.specs.Named.{index_named}
use Rattle.sl_spec.specs.Tables.{Ctor, Table}
use Rattle.sl_spec.specs.declared.tables.Tables.{Tables}

module _ (cs : List (Placed Constructor)) (t : Tables) (are : AreTaken (all_tables cs) cs t) where
  abbrev all : List Table
  all = all_tables cs

  same_names : names_of all ≡ names_of t.tables
  same_names = each_is_added cs ∙ sym are.names

  -- with a constructor of the first table
  pub are_listed : (i : ℕ) (first : Ctor) → slice_get t.constructors i ≡ Some first → first.table ≡ 0 → AreListed t cs
  are_listed i first there is = all_listed t cs i first are.begun (pair_long (HasOperands all t.fields) t.constructors cs are.pairs) there is

  same_table : (name : Name) → is_table all name ≡ is_table t.tables name
  same_table name = as_names name all ∙ ap (λ (ns : List Name). is_among ns name) same_names ∙ sym (as_names name t.tables)

  same_index : (name : Name) → index_named (λ b. b.name) name all ≡ index_named (λ b. b.name) name t.tables
  same_index name = index_by_names name all (names_of t.tables) same_names ∙ sym (index_by_names name t.tables (names_of t.tables) refl)

  pub name_operands : NameOperands t cs
  name_operands i c at p stands table named =
      let placed = stands.placed in
      let same_parts : parts_of t.tables placed.1.pattern ≡ parts_of all placed.1.pattern =
      λ j. parts (λ name. sym (same_table name) j) false false placed.1.pattern in
      let apart = are.apart p.name (some_named (λ b. bytes_eq p.name b.name) t.tables table named) in
      let has = pair_at (HasOperands all t.fields) t.constructors cs i c placed at stands.placed_is are.pairs in
      subst (λ (k : ℕ). MeansTable c.operands k) (ap (λ o. unwrap_or o 0) (same_index p.name ∙ named))
      (has p (subst (λ (ps : List Part). Contains ps p) same_parts stands.among) stands.alone apart.1 apart.0)
