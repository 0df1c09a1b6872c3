-- The first entry of a leaf that has the point holds what the point picks.
use Rattle.std.proofs.Common.{◌≡◌, get_or, ℕ, ◌<◌, ◌≤◌, List, length, Some, None, arith, sym, ◌∙◌, ap, refl, inl, inr, subst}
use Rattle.std.specs.Prelude.{Contains}
use Rattle.std.specs.List.{HoldsAt}
use Rattle.std.proofs.lemmas.Bool.{cases_eq, cases_lt}
use Rattle.std.proofs.lemmas.List.{get_or_default}
use Rattle.std.proofs.lemmas.Option.{slice_get_read, slice_get_within}
use Rattle.sl_cube.specs.declared.Point.{Point}
use Rattle.sl_cube.specs.Points.{IsIn}
use Rattle.sl_cube_sets.specs.declared.CubeSet.{CubeSet}
use Rattle.sl_cube_sets.specs.Sets.{IsSettledAt}
use Rattle.sl_cube_sets.specs.Unions.{has_set, IsBelow}
use Rattle.sl_cube_sets.specs.Settled.{IsBest, Matches, HasBestAt}
use Rattle.sl_cube_sets.proofs.WithinLemmas.{below_irrefl}
use Rattle.sl_choose.specs.Order.{NotAbove}
use Rattle.sl_choose.specs.declared.Entry.{Entry}
use Rattle.sl_choose.specs.Trees.{IsLeafOf}
use Rattle.sl_choose.specs.Choosers.{AreEntriesOf, FirstHas, IsFirst, HoldsPick}

pub first_none : (leaf : List Entry) (p : Point) (n : ℕ) → length leaf ≤ n → ((k : ℕ) → k < n → HoldsAt (λ (e : Entry). IsIn p e.cube → ⊥) leaf k) → IsFirst leaf p None
first_none leaf p n all f = λ e h.
    let lt : h.0 < n = omega (arith, h.1) in
    subst (λ (x : Entry). IsIn p x.cube → ⊥) h.2 (f h.0 lt e)

-- The entries' cubes are those of the sets.
record AreCubesOf (sets : List CubeSet) (entries : List Entry) : Type 0 where
  given : (e : Entry) (p : Point) → Contains entries e → IsIn p e.cube → Matches sets p e.set
  all : (i : ℕ) (p : Point) → Matches sets p i → (e : Entry) × Contains entries e × (e.set ≡ i) × IsIn p e.cube

cubes_of : (ctors : List ℕ) (sets : List CubeSet) (entries : List Entry) → length ctors ≡ length sets → AreEntriesOf ctors sets entries → AreCubesOf sets entries
cubes_of ctors sets entries same are = record {
  given = λ e p there inside.
      let g = (are e).0 there in
      (g.union, g.union_is, (g.has.0, e.cube, g.has.1, g.has.2, inside));
  all = λ i p m.
      let within : i < length sets = slice_get_within sets i m.0 m.1 in
      let below : i < length ctors = omega (arith, within, same) in
      let e : Entry = record { ctor = get_or ctors i 0; set = i; cube = m.2.1 } in (
        e,
        (are e).1 (record {
          ctor_is = slice_get_read ctors (length ctors) i (get_or ctors i 0) refl below (get_or_default ctors i 0 (get_or ctors i 0) below);
          union = m.0;
          union_is = m.1;
          has = (m.2.0, m.2.2, m.2.3);
        }),
        refl,
        m.2.4,
      );
}

read_at : (leaf : List Entry) (k : ℕ) (d e : Entry) → k < length leaf → get_or leaf k e ≡ e → get_or leaf k d ≡ e
read_at leaf k d e below is = get_or_default leaf k d e below ∙ is

same_set : (leaf : List Entry) (k l : ℕ) (x y : Entry) (b : ℕ) → k < length leaf → k ≡ l → get_or leaf k x ≡ x → y ≡ get_or leaf l y → x.set ≡ b → b ≡ y.set
same_set leaf k l x y b below e at is f = sym f ∙ ap (λ (z : Entry). z.set) (sym at ∙ get_or_default leaf k x y below ∙ ap (λ (n : ℕ). get_or leaf n y) e ∙ sym is)

pick_some : (sets : List CubeSet) (entries leaf : List Entry) (p : Point) (e : Entry) → AreCubesOf sets entries → IsLeafOf sets entries p leaf → HasBestAt sets p
    → FirstHas leaf p e → IsBest (IsBelow sets) (Matches sets p) e.set
pick_some sets entries leaf p e a l settled f =
    let there : Matches sets p e.set = a.given e p (l.among e (f.place, f.within, sym f.entry_is)) f.has in
    let best = settled e.set there in
    let found = a.all best.0 p best.1.there in
    let stands = l.all found.0 found.1 found.3 in
    let same : e.set ≡ best.0 = elim (cases_eq e.set best.0) [
      | inl eq ↦ eq
      | inr ne ↦
          let below : IsBelow sets best.0 e.set = best.1.below e.set there ne in
          let lower : IsBelow sets found.0.set e.set = subst (λ (x : ℕ). IsBelow sets x e.set) (sym found.2) below in
          absurd (elim (cases_lt f.place stands.0) [
            | inl after ↦ (subst (λ (x : Entry). NotAbove sets x found.0) (sym f.entry_is)
                (subst (λ (x : Entry). NotAbove sets (get_or leaf f.place e) x) (read_at leaf stands.0 e found.0 stands.1 stands.2) (l.in_order f.place stands.0 e after stands.1))) lower
            | inr before ↦ elim (cases_eq stands.0 f.place) [
              | inl eq ↦ below_irrefl sets e.set (subst (λ (x : ℕ). IsBelow sets x e.set) (same_set leaf stands.0 f.place found.0 e best.0 stands.1 eq stands.2 f.entry_is found.2) below)
              | inr other ↦
                  let lt : stands.0 < f.place = omega arith in
                  (subst (λ (x : Entry). IsIn p x.cube → ⊥) stands.2 (f.none_before stands.0 lt found.0)) found.3
            ]
          ])
    ] in
    subst (λ (x : ℕ). IsBest (IsBelow sets) (Matches sets p) x) (sym same) best.1

best_there : (sets : List CubeSet) (p : Point) → IsSettledAt has_set sets p → HasBestAt sets p
best_there sets p s = λ j there. let choice = s j there in (choice.0, record { there = choice.1.has_point; below = choice.1.below })

pub holds_pick : (ctors : List ℕ) (sets : List CubeSet) (entries leaf : List Entry) (p : Point) → AreEntriesOf ctors sets entries → IsLeafOf sets entries p leaf
    → length ctors ≡ length sets → IsSettledAt has_set sets p → HoldsPick ctors sets leaf p
holds_pick ctors sets entries leaf p are l same settled None f = λ i m.
    let found = (cubes_of ctors sets entries same are).all i p m in
    f found.0 (l.all found.0 found.1 found.3) found.3
holds_pick ctors sets entries leaf p are l same settled (Some e) f =
    let best = pick_some sets entries leaf p e (cubes_of ctors sets entries same are) l (best_there sets p settled) f in
    (e.set, ((are e).0 (l.among e (f.place, f.within, sym f.entry_is))).ctor_is, record { has_point = best.there; below = best.below })
