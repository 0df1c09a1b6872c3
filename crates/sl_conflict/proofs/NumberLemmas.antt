-- The constructors as their numbers: where each number has the points of the constructor's set, the numbers have in each table the points of the rows.
use Rattle.std.proofs.Common.{◌≡◌, ℕ, zero, suc, ◌+◌, List, [], ◌∷◌, length, Some, refl, sym, ap, ◌∙◌, subst, arith}
use Rattle.std.specs.Prelude.{slice_get}
use Rattle.std.specs.List.{range_with_len}
use Rattle.std.proofs.lemmas.List.FromFn.{length-range_with_len}
use Rattle.std.proofs.lemmas.Option.{same_Some}
use Rattle.sl_cube.specs.declared.Point.{Point}
use Rattle.sl_cube_sets.specs.Unions.{has_set}
use Rattle.sl_cube_sets.specs.declared.CubeSet.{CubeSet}
use Rattle.sl_cube_sets.proofs.AlikeLemmas.{Alike, AreAlike, alike_each}
use Rattle.sl_spec.specs.Tables.{Ctor}
use Rattle.sl_conflict.specs.Ambiguity.{IsOf, has_in}
use Rattle.sl_conflict.specs.Rows.{Row, rows, rows_from}
use Rattle.sl_conflict.proofs.AmbiguityLemmas.{of_one}
use Rattle.sl_conflict.proofs.RowLemmas.{row_is_of}

-- a number in a row of numbers
number_at : (a n i x : ℕ) → slice_get (range_with_len a n) i ≡ Some x → x ≡ a + i
number_at a zero i x e = absurd cc
number_at a (suc n) zero x e = sym (same_Some a x e) ∙ omega arith
number_at a (suc n) (suc i) x e = number_at (a + 1) n i x e ∙ omega arith

rows_long : (n : ℕ) (ctors : List Ctor) (sets : List CubeSet) → length sets ≡ length ctors → length (rows_from n ctors sets) ≡ length ctors
rows_long n [] sets long = refl
rows_long n (c ∷ ctors) [] long = absurd (omega (arith, long))
rows_long n (c ∷ ctors) (s ∷ sets) long = ap (λ (k : ℕ). suc k) (rows_long (suc n) ctors sets (omega (arith, long)))

set_at : (n : ℕ) (ctors : List Ctor) (sets : List CubeSet) (i : ℕ) (r : Row) → slice_get (rows_from n ctors sets) i ≡ Some r → slice_get sets i ≡ Some r.set
set_at n [] sets i r e = absurd cc
set_at n (c ∷ ctors) [] i r e = absurd cc
set_at n (c ∷ ctors) (s ∷ sets) zero r e = ap (λ (x : Row). Some x.set) (same_Some (record { number = n; table = c.table; set = s }) r e)
set_at n (c ∷ ctors) (s ∷ sets) (suc i) r e = set_at (suc n) ctors sets i r e

-- For whatever is meant by a constructor's having a point.
module _ (ctors : List Ctor) (has : ℕ → Point → Type 0) where
  -- The number is of a constructor of the table, and that has the point.
  abbrev pub has_of : ℕ → ℕ → Point → Type 0
  has_of table i p = IsOf ctors table i × has i p

  -- A number that has a point in a table is of a constructor of it.
  pub numbers_are_of : (table i x : ℕ) (p : Point) → slice_get (range_with_len 0 (length ctors)) i ≡ Some x → has_of table x p → IsOf ctors table i
  numbers_are_of table i x p e h =
      let same : x ≡ i = number_at 0 (length ctors) i x e ∙ omega arith in
      subst (λ (k : ℕ). IsOf ctors table k) same h.0

  number_alike : (table i : ℕ) (r : Row) → IsOf ctors r.table i → Alike has_set has r.set i → Alike (has_in table) (has_of table) r i
  number_alike table i r is alike = λ p range. (
    λ h. (subst (λ (t : ℕ). IsOf ctors t i) h.0 is, (alike p range).0 h.1),
    λ h. (of_one ctors r.table table i is h.0, (alike p range).1 h.1),
  )

  -- The rows and the numbers have the same points in each table.
  pub rows_alike : (sets : List CubeSet) → length sets ≡ length ctors
      → ((i : ℕ) (s : CubeSet) → slice_get sets i ≡ Some s → Alike has_set has s i)
      → (table : ℕ) → AreAlike (has_in table) (has_of table) (rows ctors sets) (range_with_len 0 (length ctors))
  unfolding rows
  rows_alike sets long each table =
      alike_each (has_in table) (has_of table) (rows ctors sets) (range_with_len 0 (length ctors))
      (rows_long 0 ctors sets long ∙ sym (length-range_with_len 0 (length ctors))) (λ i r x at number.
      let same : i ≡ x = sym (number_at 0 (length ctors) i x number ∙ omega arith) in
      subst (λ (k : ℕ). Alike (has_in table) (has_of table) r k) same
      (number_alike table i r (row_is_of ctors sets i r at) (each i r.set (set_at 0 ctors sets i r at))))
