-- Holes of constructors by the sets of tables.
use Rattle.std.proofs.Common.{◌≡◌, ◌↔◌, ℕ, ◌≤◌, inl, inr, List, [], length, Option, Some, None, sym, ap, subst, ◌∙◌, arith}
use Rattle.std.specs.Prelude.{slice_get}
use Rattle.std.proofs.lemmas.Bool.{cases_eq}
use Rattle.std.proofs.lemmas.Option.{get_or_from_slice_get, same_Some, slice_get_within}
use Rattle.sl_ast.specs.Trees.{Constructor}
use Rattle.sl_ast.specs.Unfolding.{Placed}
use Rattle.sl_conflict.specs.Ambiguity.{IsOf}
use Rattle.sl_conflict.specs.Kept.{IsPaired}
use Rattle.sl_conflict.specs.Soundness.{has_in, numbers}
use Rattle.sl_conflict.specs.declared.table_sets.TableSets.{TableSets}
use Rattle.sl_cube.specs.Points.{InRange, IsInSome}
use Rattle.sl_cube.specs.declared.Cube.{Cube}
use Rattle.sl_cube.specs.declared.Point.{Point}
use Rattle.sl_cube_sets.specs.Sets.{HasAt, IsChoice, IsLeastWhere}
use Rattle.sl_cube_sets.specs.Unions.{has_set}
use Rattle.sl_cube_sets.specs.declared.CubeSet.{CubeSet}
use Rattle.sl_gap.specs.Findings.{AreKept, AreMatched, TellsPoints}
use Rattle.sl_gap.specs.Holes.{HasHole, IsHole}
use Rattle.sl_gap_holes.specs.HolePoints as points
use Rattle.sl_gap_holes.specs.HolePoints.{IsHoleAt}
use Rattle.sl_gap_holes.specs.declared.holes.HolePoints.{HolePoints}
use Rattle.sl_gap_tables.proofs.SetLemmas.{choice_up, chosen_down, set_at, unmatched_down, unmatched_up}
use Rattle.sl_gap_tables.specs.Gaps.{IsChosen}
use Rattle.sl_gap_tables.specs.Tables.{HasSome}
use Rattle.sl_spec.specs.Tables.{Ctor}
use Rattle.sl_spec.specs.declared.tables.Tables.{Tables}

least_where : (A B : Point → Type 0) → ((p : Point) → A p → B p) → ((p : Point) → B p → A p) → (p : Point) → IsLeastWhere A p → IsLeastWhere B p
least_where A B to from p h = record { in_range = h.in_range; here = to p h.here; least = λ q range b. h.least q range (from q b) }

module _ (t : Tables) (cs : List (Placed Constructor)) (kept : List TableSets) (are : AreKept t cs kept) where
  paired_at : (table : ℕ) (k : TableSets) → slice_get kept table ≡ Some k → IsPaired k
  paired_at table k e = subst IsPaired (get_or_from_slice_get kept table k k e) (are.paired table k (slice_get_within kept table k e))

  pub matched_some : (table : ℕ) (k : TableSets) → slice_get kept table ≡ Some k → (cubes : List Cube) → ((p : Point) → IsInSome cubes p ↔ HasSome k p)
      → AreMatched t cs table cubes
  matched_some table k there cubes same = λ q range. (
    λ out. unmatched_up t cs kept are.sets table k there (paired_at table k there) q range (λ i has. out ((same q).1 (i, has))),
    λ gap some.
        let h = (same q).0 some in
        unmatched_down t cs kept are.sets table k there (paired_at table k there) q range gap h.0 h.1,
  )

  -- a table that isn't there has no constructor
  pub none_of : (table number : ℕ) → length kept ≤ table → IsOf t.constructors table number → ⊥
  none_of table number past own =
      let below = are.listed.below number own.ctor own.ctor_is in
      omega (arith, below, own.of_table, past, are.sets.counted)

  pub matched_none : (table : ℕ) → length kept ≤ table → AreMatched t cs table []
  matched_none table past = λ q range. (
    λ out i has. none_of table has.0 past has.2.0,
    λ gap some. omega (arith, some.2),
  )

  module _ (table : ℕ) (k : TableSets) (there : slice_get kept table ≡ Some k) (number : ℕ) (own : IsOf t.constructors table number) where
    pub no_index : ((i : ℕ) → slice_get k.ctors.items i ≡ Some number → ⊥) → ⊥
    no_index none = let a = are.sets.all table k number there own in none a.0 a.1

    module _ (set : ℕ) (set_is : slice_get k.ctors.items set ≡ Some number) where
      -- a constructor that is chosen is so by its set at each of its places
      choice_here : (p : Point) → InRange p → IsChosen t cs number p → IsChoice has_set k.sets.items p set
      choice_here p range c =
          let same_ctor : c.is_of.ctor ≡ own.ctor = same_Some c.is_of.ctor own.ctor (sym c.is_of.ctor_is ∙ own.ctor_is) in
          let same_table : c.table ≡ table = sym c.is_of.of_table ∙ ap (λ (x : Ctor). x.table) same_ctor ∙ own.of_table in
          let choice = subst (λ (n : ℕ). IsChoice (has_in t cs n) (numbers t) p number) same_table c.choice in
          let d = chosen_down t cs kept are.sets table k there (paired_at table k there) p range number choice in
          let mine = set_at t cs kept are.sets table k there (paired_at table k there) set number set_is in
          let other = set_at t cs kept are.sets table k there (paired_at table k there) d.place number d.ctor_is in
          let at_other = d.choice.has_point in
          let in_other = subst (λ (x : CubeSet). has_set x p) (same_Some at_other.0 other.set (sym at_other.1 ∙ other.set_is)) at_other.2 in
          let has : HasAt has_set k.sets.items p set = (mine.set, mine.set_is, (mine.union p range).1 ((other.union p range).0 in_other)) in
          elim (cases_eq d.place set) [
            | inl same ↦ subst (λ (i : ℕ). IsChoice has_set k.sets.items p i) same d.choice
            | inr differ ↦
                let b = d.choice.below set has (λ e. differ (sym e)) in
                let inner = same_Some b.inner other.set (sym b.inner_is ∙ other.set_is) in
                let outer = same_Some b.outer mine.set (sym b.outer_is ∙ mine.set_is) in
                absurd (b.not_around (λ q at inside.
                subst (λ (x : CubeSet). has_set x q) (sym inner) ((other.union q at).1 ((mine.union q at).0 (subst (λ (x : CubeSet). has_set x q) outer inside)))))
          ]

      module _ (operand place : ℕ) (cubes : List Cube) (matched : AreMatched t cs operand cubes) where
        hole_up : (p q : Point) → IsHoleAt k set cubes place p q → IsHole t cs number operand place p q
        hole_up p q h = record {
          chosen = record {
            table = table;
            is_of = own;
            choice = choice_up t cs kept are.sets table k there (paired_at table k there) p h.parent_range set number set_is h.choice;
          };
          follows = h.follows;
          gap = (matched q h.child_range).0 h.unmatched;
          parent_range = h.parent_range;
          child_range = h.child_range;
        }

        hole_down : (p q : Point) → IsHole t cs number operand place p q → IsHoleAt k set cubes place p q
        hole_down p q h = record {
          choice = choice_here p h.parent_range h.chosen;
          follows = h.follows;
          unmatched = (matched q h.child_range).1 h.gap;
          parent_range = h.parent_range;
          child_range = h.child_range;
        }

        pub points_told : (found : Option HolePoints) → points.TellsHole k set cubes place found → TellsPoints t cs number operand place found
        points_told None none = λ p q h. none p q (hole_down p q h)
        points_told (Some h) told = (
          least_where (points.HasHole k set cubes place) (HasHole t cs number operand place) (λ p x. (x.0, hole_up p x.0 x.1)) (λ p x. (x.0, hole_down p x.0 x.1)) h.parent told.0,
          least_where (IsHoleAt k set cubes place h.parent) (IsHole t cs number operand place h.parent) (hole_up h.parent) (hole_down h.parent) h.child told.1,
        )

  pub no_table : (table number operand place : ℕ) → length kept ≤ table → IsOf t.constructors table number → TellsPoints t cs number operand place None
  no_table table number operand place past own = λ p q h. none_of table number past own
