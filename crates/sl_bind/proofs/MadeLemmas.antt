-- What was made of blocks, constructor by constructor.
use Rattle.std.proofs.Common.{◌≡◌, ℕ, ◌<◌, false, List, [], ◌∷◌, ◌++◌, length, get_or, Ok, sym, subst, ◌∙◌, arith}
use Rattle.sl_ast.specs.Trees.{Constructor, constructor}
use Rattle.sl_bind.proofs.GrowLemmas.{begins_as, came_of, constructor_added, is_kept, put}
use Rattle.sl_bind.proofs.WalkLemmas.{put_known, rules_of_section, unplaced}
use Rattle.sl_bind.specs.Steps.{IsMadeForAll}
use Rattle.sl_bind.specs.Verdict.{item_step, placed_step, section_step, with_constructor_of, with_known}
use Rattle.sl_bind.specs.declared.items.Progress.{Progress}
use Rattle.sl_spec_constructors.specs.Made.{IsMadeAnyway, IsMadeFor, StaysMade}
use Rattle.sl_spec_actions.proofs.AlikeLemmas.{right_with}
use Rattle.sl_spec_constructors.specs.Steps.{constructor_step, with_ctor}
use Rattle.sl_spec_constructors.specs.WholeText.{table_name}
use Rattle.sl_spec_rules.specs.Names.{Name}
use Rattle.sl_spec.specs.Begun.{with_constructor}
use Rattle.sl_spec_constructors.specs.declared.made.MadeOfBlocks.{MadeOfBlocks}
use Rattle.sl_spec_definitions.specs.Beginning.{begin}
use Rattle.sl_spec_definitions.specs.Items.{with_tables}
use Rattle.sl_spec_definitions.specs.declared.known.Known.{Known}
use Rattle.sl_section_rules.specs.WholeText.{Whole}
use Rattle.sl_spec.specs.Numbers.{AreNumbered, AreNumberedBelow}
use Rattle.sl_spec.specs.Tables.{Ctor, Table}
use Rattle.sl_spec.specs.declared.tables.Tables.{Tables}
use Rattle.sl_spec.specs.declared.unfolded.Unfolded.{Unfolded}
use Rattle.sl_spec.proofs.MadeLemmas.{told_round}
use Rattle.sl_spec.proofs.NumberLemmas.{none_numbered, numbers_all, numbers_more}

-- the constructors of an item, numbered behind nothing
pub fresh_numbered : (n next : ℕ) (old new : List Unfolded) → old ≡ [] → (AreNumberedBelow n [] old → AreNumberedBelow next [] new) → AreNumbered new
fresh_numbered n next old new none numbered =
    numbers_all next [] new (numbered (subst (AreNumberedBelow n []) (sym none) (numbers_more 0 [] [] n (omega arith) none_numbered)))

-- ---- constructors one by one

module _ (tables : List Table) (t : Tables) (us : List Unfolded) where
  pub none_made : (made : MadeOfBlocks) → IsMadeAnyway made → AreNumbered us → IsMadeForAll tables t us made
  none_made made right numbered = (numbered.0, numbered.1, right tables t numbered.0)

  module _ (i : ℕ) (u : Unfolded) (below : i < length us) (at : u ≡ get_or us i u) (now : MadeOfBlocks) where
    pub made_for_one : IsMadeForAll tables t us now → IsMadeFor tables t u.heads.items now
    made_for_one made = (made.0, told_round made.0 us i u below at made.1, made.2)

    pub made_behind_one : (new : MadeOfBlocks) → StaysMade tables t u.heads.items now new → IsMadeForAll tables t us now → IsMadeForAll tables t us new
    made_behind_one new kept made = (made.0, made.1, kept made.0 (told_round made.0 us i u below at made.1) made.2)

-- ---- a constructor defines nothing else

ctor_right : (tables : List Table) (t : Tables) (name : Name) (c : Ctor) (us : List Unfolded) (made : MadeOfBlocks) → IsMadeForAll tables t us made → IsMadeForAll tables (with_ctor t name c) us made
ctor_right tables t name c us made right = (
  right.0,
  right.1,
  record {
    facts = right.2.facts;
    actions = right_with tables t (with_constructor t.tables name (length t.constructors)) (t.constructors ++ c ∷ []) right.0 made.actions right.2.actions;
  },
)

module _ (all : List Table) (us : List Unfolded) (made : MadeOfBlocks) where
  abbrev IsMadeBy : Tables → Type 0
  IsMadeBy t = IsMadeForAll all t us made

  added_right : (k next : Known) (n : ℕ) (c : Constructor) → with_constructor_of all k n c ≡ Ok next → IsMadeBy k.tables → IsMadeBy next.tables
  added_right k next n c is right =
      let b = came_of (begin k false) (λ b. with_tables b (constructor_step all b.tables n c)) next is in
      let q = put b.0 next (constructor_step all b.0.tables n c) b.2 in
      let begun = subst IsMadeBy (begins_as k b.0 false b.1) right in
      subst IsMadeBy (constructor_added all b.0.tables q.0 n c q.1 ∙ q.2) (ctor_right all b.0.tables (table_name c) _ us made begun)

module _ (w : Whole) (p next : Progress) (n : ℕ) (c : Constructor) where
  -- so what was made of blocks before it is right behind it
  pub right_behind : (us : List Unfolded) (made : MadeOfBlocks) → placed_step w p (n, constructor c) ≡ Ok next
      → IsMadeForAll w.tables p.known.tables us made → IsMadeForAll w.tables next.known.tables us made
  right_behind us made is right =
      let more = with_constructor_of w.tables p.known n c in
      let s = came_of (with_known p more) (section_step w c) next (unplaced n (item_step w p (n, constructor c)) next is) in
      let k = put_known p s.0 more s.1 in
      let added = added_right w.tables us made p.known k.0 n c k.1 right in
      subst (λ (x : Progress). IsMadeForAll w.tables x.known.tables us made) (is_kept (rules_of_section w s.0.known.tables s.0.macros c) s.0 next s.2).1
      (subst (λ (l : Known). IsMadeForAll w.tables l.tables us made) k.2 added)
