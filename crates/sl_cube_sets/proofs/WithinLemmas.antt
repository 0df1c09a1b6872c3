-- Unions of cubes within one another, and the order that this gives to the sets of a table.
use Rattle.std.proofs.Common.{◌≡◌, ◌↔◌, ℕ, ◌+◌, ◌<◌, ◌≤◌, List, length, get_or, below_more, Some, Bool, true, false, IsTrue, arith, sym, ◌∙◌, refl, subst}
use Rattle.std.specs.Prelude.{slice_get}
use mathlib.Core.Bool.{not}
use Rattle.std.proofs.lemmas.Bool.{false≢true}
use Rattle.std.specs.List.{HoldsAt}
use Rattle.std.proofs.lemmas.List.Elements.{at_read}
use Rattle.std.proofs.lemmas.Option.{same_Some}
use Rattle.sl_cube.specs.declared.Cube.{Cube}
use Rattle.sl_cube.specs.declared.Point.{Point}
use Rattle.sl_cube.specs.Points.{InRange, IsIn, IsInSome}
use Rattle.sl_cube.specs.Cubes.{Covers}
use Rattle.sl_cube_sets.specs.declared.CubeSet.{CubeSet}
use Rattle.sl_cube_sets.specs.Sets.{IsWithin, LiesBelow}
use Rattle.sl_cube_sets.specs.Unions.{AreWithin, IsBelow, has_set}

-- Each point of the first n cubes is in some other.
abbrev pub FirstWithin : List Cube → List Cube → ℕ → Type 0
FirstWithin inner outer n = (k : ℕ) → k < n → HoldsAt (λ c. (p : Point) → InRange p → IsIn p c → IsInSome outer p) inner k

pub first_none : (inner outer : List Cube) → FirstWithin inner outer 0
first_none inner outer = λ k below. absurd (omega arith)

pub first_more : (inner outer : List Cube) (n : ℕ) (cube : Cube) → n < length inner → cube ≡ get_or inner n cube → Covers outer cube → FirstWithin inner outer n
    → FirstWithin inner outer (n + 1)
first_more inner outer n cube below is h f = below_more (λ k. HoldsAt (λ c. (p : Point) → InRange p → IsIn p c → IsInSome outer p) inner k) n f
    (at_read inner (λ c. (p : Point) → InRange p → IsIn p c → IsInSome outer p) n cube below is h)

pub first_all : (inner outer : List Cube) (n : ℕ) → length inner ≤ n → FirstWithin inner outer n → AreWithin inner outer
first_all inner outer n all f = λ p range h.
    let lt : h.0 < n = omega (arith, h.2) in
    (subst (λ (c : Cube). (p : Point) → InRange p → IsIn p c → IsInSome outer p) h.3 (f h.0 lt h.1)) p range h.4

pub covers_one : (inner outer : List Cube) (n : ℕ) (cube : Cube) → n < length inner → cube ≡ get_or inner n cube → AreWithin inner outer → Covers outer cube
covers_one inner outer n cube below is within = λ p range inside. within p range (n, cube, below, sym is, inside)

-- ---- an order

same_some : (a b : CubeSet) → Some a ≡ Some b → a ≡ b
same_some a b e = cc

pub below_irrefl : (sets : List CubeSet) (i : ℕ) → IsBelow sets i i → ⊥
below_irrefl sets i h =
    let e : h.inner ≡ h.outer = same_some h.inner h.outer (sym h.inner_is ∙ h.outer_is) in
    h.not_around (subst (λ (x : CubeSet). AreWithin x.cubes.items h.inner.cubes.items) e (λ p range inside. inside))

module _ {X : Type 0} (has : X → Point → Type 0) (xs : List X) where
  pub lies_trans : (i j k : ℕ) → LiesBelow has xs i j → LiesBelow has xs j k → LiesBelow has xs i k
  lies_trans i j k f g =
      let e : g.inner ≡ f.outer = same_Some g.inner f.outer (sym g.inner_is ∙ f.outer_is) in
      let over : IsWithin has f.outer g.outer = subst (λ (x : X). IsWithin has x g.outer) e g.within in
      record {
        inner = f.inner;
        outer = g.outer;
        inner_is = f.inner_is;
        outer_is = g.outer_is;
        within = λ p range inside. over p range (f.within p range inside);
        not_around = λ back. f.not_around (λ p range inside. back p range (over p range inside));
      }

pub below_trans : (sets : List CubeSet) (i j k : ℕ) → IsBelow sets i j → IsBelow sets j k → IsBelow sets i k
below_trans sets = lies_trans has_set sets

-- ---- what the test answers

into_outer : (sets : List CubeSet) (j : ℕ) (high : CubeSet) (cubes : List Cube) (x : CubeSet) → slice_get sets j ≡ Some high → slice_get sets j ≡ Some x
    → AreWithin cubes x.cubes.items → AreWithin cubes high.cubes.items
into_outer sets j high cubes x at is w = subst (λ (y : CubeSet). AreWithin cubes y.cubes.items) (same_some x high (sym is ∙ at)) w

into_inner : (sets : List CubeSet) (i : ℕ) (low : CubeSet) (cubes : List Cube) (x : CubeSet) → slice_get sets i ≡ Some low → slice_get sets i ≡ Some x
    → AreWithin x.cubes.items cubes → AreWithin low.cubes.items cubes
into_inner sets i low cubes x at is w = subst (λ (y : CubeSet). AreWithin y.cubes.items cubes) (same_some x low (sym is ∙ at)) w

pub below_then : (sets : List CubeSet) (i j : ℕ) (low high : CubeSet) (back : Bool) → slice_get sets i ≡ Some low → slice_get sets j ≡ Some high
    → AreWithin low.cubes.items high.cubes.items → IsTrue back ↔ AreWithin high.cubes.items low.cubes.items → IsTrue (not back) ↔ IsBelow sets i j
below_then sets i j low high true li hi w iff = (
  λ t. absurd (false≢true t),
  λ b. absurd (b.not_around (into_inner sets j b.outer b.inner.cubes.items high b.outer_is hi (into_outer sets i b.inner high.cubes.items low b.inner_is li (iff.0 refl)))),
)
below_then sets i j low high false li hi w iff = (
  λ t. record { inner = low; outer = high; inner_is = li; outer_is = hi; within = w; not_around = λ back. false≢true (iff.1 back) },
  λ b. refl,
)

pub below_else : (sets : List CubeSet) (i j : ℕ) (low high : CubeSet) → slice_get sets i ≡ Some low → slice_get sets j ≡ Some high
    → (AreWithin low.cubes.items high.cubes.items → ⊥) → IsTrue false ↔ IsBelow sets i j
below_else sets i j low high li hi out = (
  λ t. absurd (false≢true t),
  λ b. absurd (out (into_inner sets i low high.cubes.items b.inner li b.inner_is (into_outer sets j high b.inner.cubes.items b.outer hi b.outer_is b.within))),
)
