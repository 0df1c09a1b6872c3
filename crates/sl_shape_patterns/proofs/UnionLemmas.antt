-- The union of a pattern's cubes from those of its parts.
use Rattle.std.proofs.Common.{◌≡◌, ◌↔◌, ℕ, ◌*◌, ◌%◌, ◌^◌, ◌≤◌, List, [], ap, sym, ◌∙◌, subst, arith, inl, inr}
use Rattle.std.proofs.Math.Nat.{mod-lt}
use Rattle.std.proofs.lemmas.Nat.{pow_pos}
use Rattle.std.proofs.lemmas.Nat.Bits.{same_from_bits_below}
use Rattle.std.proofs.lemmas.Bool.{cases_lt}
use Rattle.sl_ast.specs.Trees as t
use Rattle.sl_ast.specs.declared.patterns.Relation.{Relation}
use Rattle.sl_ast.specs.declared.patterns.PatternOp.{PatternOp}
use Rattle.sl_ast.specs.declared.patterns.PatternOp.TheVariants.{And, Then, Or}
use Rattle.sl_shape_constraints.proofs.SetLemmas.{adds_none, adds_same, union_of}
use Rattle.sl_shape_constraints.proofs.ShiftLemmas.{seen_range, seen_up}
use Rattle.sl_shape_constraints.specs.Places.{IsSeenIn, seen}
use Rattle.sl_shape_constraints.specs.Sets.{Adds, IsCubeOf, IsNowhere, IsUnionOf}
use Rattle.sl_cube.specs.Points.{IsInSome}
use Rattle.sl_cube.specs.declared.Cube.{Cube}
use Rattle.sl_cube.specs.declared.Point.{Point}
use Rattle.sl_shape_patterns.specs.Patterns.{IfHolds, JoinedHolds, NameHolds, PatternHolds, Reading, constraint_of, right_place, told}

-- ---- what holds of points as they are seen from a place

pub union_nowhere : (P : Point → Type 0) (place : ℕ) (cubes : List Cube) → cubes ≡ [] → IsNowhere P
    → IsUnionOf (λ p. P (seen place p)) cubes
union_nowhere P place cubes e none =
    subst (λ (xs : List Cube). IsUnionOf (λ p. P (seen place p)) xs) (sym e)
    (union_of [] (λ p. P (seen place p)) (adds_none [] (λ p. P (seen place p)) (λ p range holds. none (seen place p) (seen_range place p range) holds)))

pub union_added : (P : Point → Type 0) (old new : List Cube) → old ≡ [] → Adds old P new → IsUnionOf P new
union_added P old new e adds = union_of new P (subst (λ (xs : List Cube). Adds xs P new) e adds)

pub union_moved : (P : Point → Type 0) (place : ℕ) (cube : Cube) (old new : List Cube) → old ≡ [] → IsCubeOf P cube
    → Adds old (IsSeenIn place cube) new → IsUnionOf (λ p. P (seen place p)) new
union_moved P place cube old new e is adds = union_added (λ p. P (seen place p)) old new e
    (adds_same old new (IsSeenIn place cube) (λ p. P (seen place p))
    (λ p range inside. (is (seen place p) (seen_range place p range)).0 inside)
    (λ p range holds. (is (seen place p) (seen_range place p range)).1 holds) adds)

far : (n m x : ℕ) → 16 ≤ n → 16 ≤ m → x * 2 ^ (8 * n) % 2 ^ 128 ≡ x * 2 ^ (8 * m) % 2 ^ 128
far n m x a b = same_from_bits_below 128 _ _ (mod-lt (x * 2 ^ (8 * n)) (pow_pos 128)) (mod-lt (x * 2 ^ (8 * m)) (pow_pos 128))
    (λ i lt. (seen_up n x).low i lt (omega arith) ∙ sym ((seen_up m x).low i lt (omega arith)))

-- all places from 16 on are one
pub seen_same : (place at : ℕ) (q : Point) → place ≡ told at → seen place q ≡ seen at q
seen_same place at q e = ap (λ (b : ℕ). record { bytes = b; context = q.context }) (elim (cases_lt at 16) [
  | inl near ↦ let same : place ≡ at = omega (arith, e, near) in ap (λ (n : ℕ). q.bytes * 2 ^ (8 * n) % 2 ^ 128) same
  | inr wide ↦ far place at q.bytes (omega (arith, e, wide)) wide
])

union_seen : (P : Point → Type 0) (place at : ℕ) (cubes : List Cube) → place ≡ told at
    → IsUnionOf (λ q. P (seen place q)) cubes → IsUnionOf (λ q. P (seen at q)) cubes
union_seen P place at cubes e u = λ q range. subst (λ (s : Point). IsInSome cubes q ↔ P s) (seen_same place at q e) (u q range)

-- ---- two sides

pub joined_same : (op : PatternOp) (A B C D : Type 0) → (A ↔ C) → (B ↔ D) → JoinedHolds op A B ↔ JoinedHolds op C D
joined_same And A B C D f g = (λ x. (f.0 x.0, g.0 x.1), λ x. (f.1 x.0, g.1 x.1))
joined_same Then A B C D f g = (λ x. (f.0 x.0, g.0 x.1), λ x. (f.1 x.0, g.1 x.1))
joined_same Or A B C D f g = (
  λ x. elim x [ inl a ↦ inl (f.0 a) | inr b ↦ inr (g.0 b) ],
  λ x. elim x [ inl a ↦ inl (f.1 a) | inr b ↦ inr (g.1 b) ],
)

union_joined : (op : PatternOp) (cubes left right : List Cube) (P Q : Point → Type 0) → IsUnionOf P left → IsUnionOf Q right
    → IsUnionOf (λ q. JoinedHolds op (IsInSome left q) (IsInSome right q)) cubes → IsUnionOf (λ q. JoinedHolds op (P q) (Q q)) cubes
union_joined op cubes left right P Q l r all = λ q range.
    let same = joined_same op (IsInSome left q) (IsInSome right q) (P q) (Q q) (l q range) (r q range) in
    (λ h. same.0 ((all q range).0 h), λ h. (all q range).1 (same.1 h))

-- ---- one level of a pattern

module _ (r : Reading) where
  pub union_name : (name : t.Name) (place at : ℕ) (cubes : List Cube) → place ≡ told at
      → IsUnionOf (λ q. NameHolds r name (seen place q)) cubes → IsUnionOf (PatternHolds r (t.bare name) at) cubes
  unfolding PatternHolds
  union_name name place at cubes e u = union_seen (NameHolds r name) place at cubes e u

  pub union_constraint : (name : t.Name) (relation : Relation) (x : t.Expression) (place at : ℕ) (cubes : List Cube) → place ≡ told at
      → IsUnionOf (λ q. IfHolds (constraint_of r.tables name relation x) (seen place q)) cubes
      → IsUnionOf (PatternHolds r (t.constraint name relation x) at) cubes
  unfolding PatternHolds
  union_constraint name relation x place at cubes e u = union_seen (IfHolds (constraint_of r.tables name relation x)) place at cubes e u

  pub union_group : (x : t.Pattern) (at : ℕ) (cubes : List Cube) → IsUnionOf (PatternHolds r x at) cubes → IsUnionOf (PatternHolds r (t.group x) at) cubes
  unfolding PatternHolds
  union_group x at cubes u = u

  pub union_ellipsis : (x : t.Pattern) (at : ℕ) (cubes : List Cube) → IsUnionOf (PatternHolds r x at) cubes → IsUnionOf (PatternHolds r (t.ellipsis x) at) cubes
  unfolding PatternHolds
  union_ellipsis x at cubes u = u

  pub union_both : (op : PatternOp) (x y : t.Pattern) (at : ℕ) (cubes left right : List Cube) → IsUnionOf (PatternHolds r x at) left
      → IsUnionOf (PatternHolds r y (right_place op at (r.bytes x))) right
      → IsUnionOf (λ q. JoinedHolds op (IsInSome left q) (IsInSome right q)) cubes → IsUnionOf (PatternHolds r (t.joined op x y) at) cubes
  unfolding PatternHolds
  union_both op x y at cubes left right u v all =
      union_joined op cubes left right (PatternHolds r x at) (PatternHolds r y (right_place op at (r.bytes x))) u v all

  pub union_in_block : (x y : t.Pattern) (cubes left right : List Cube) → IsUnionOf (PatternHolds r x 0) left → IsUnionOf (PatternHolds r y 0) right
      → IsUnionOf (λ q. IsInSome left q × IsInSome right q) cubes → IsUnionOf (PatternHolds r (t.joined And (t.group x) (t.group y)) 0) cubes
  union_in_block x y cubes left right u v all =
      union_both And (t.group x) (t.group y) 0 cubes left right (union_group x 0 left u) (union_group y 0 right v) all
