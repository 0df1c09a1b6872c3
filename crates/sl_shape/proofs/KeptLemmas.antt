-- What was made of the patterns of blocks stays right while further tables are known.
use Rattle.std.proofs.Common.{◌≡◌, ◌≢◌, ℕ, zero, suc, ◌⊎◌, inl, inr, Bool, true, false, List, [], ◌∷◌, get_or, set, Option, Some, None, refl, sym, ap, ◌∙◌, subst, arith}
use Rattle.std.specs.List.{AllByRecursion}
use Rattle.sl_ast.specs.Trees.{Constructor, Head, Pattern}
use Rattle.sl_ast.specs.Unfolding as u
use Rattle.sl_ast.specs.Views.{head_of}
use Rattle.sl_cube.specs.declared.Cube.{Cube}
use Rattle.sl_shape_patterns.specs.Heads.{AreHeadCubes, IsElsewhere, IsHeadCount, IsHeadWindow, KeepsOthers}
use Rattle.sl_shape_patterns.specs.Patterns.{hull_at}
use Rattle.sl_shape_patterns.specs.Windows.{PatternConstrains}
use Rattle.sl_shape_patterns.proofs.OneHull.{alike_same}
use Rattle.sl_shape.specs.Below.{shapes_in}
use Rattle.sl_shape.specs.Extents.{extent_bytes, extent_of}
use Rattle.sl_shape.specs.Faults.{ShapeTells}
use Rattle.sl_shape.specs.HeadsMade.{AreMarked, AreOfMarked, AreRight, AreSameBut, IsHeadShape, IsMarked, by_extents}
use Rattle.sl_shape.specs.PatternShapes.{Shapes, shape_of}
use Rattle.sl_shape.specs.Tables.{named_by, tables_named}
use Rattle.sl_shape.specs.declared.below.Below.{Below}
use Rattle.sl_shape.specs.declared.below.HeadsMade.{HeadsMade}
use Rattle.sl_shape.specs.declared.below.TokenLists.{TokenLists}
use Rattle.sl_shape.proofs.AlikeLemmas.{AreAlike, constrains_alike, end_same, holds_alike}
use Rattle.sl_shape.proofs.BelowLemmas.{gets_same}
use Rattle.sl_shape.proofs.CarryLemmas.{Agree, alike_extents, all_each, all_left, all_right, shape_same, sound_same}
use Rattle.sl_shape.proofs.HeadLemmas.{shown}
use Rattle.sl_shape.proofs.NamedLemmas.{names_in_block}
use Rattle.sl_spec.specs.Numbers.{AreMade, AreTold, is_number}
use Rattle.sl_spec.specs.Unfolded.{heads_of, under}
use Rattle.sl_spec.specs.declared.tables.Tables.{Tables}
use Rattle.sl_spec.specs.declared.unfolded.Around.{Around}

same_number : (k n : ℕ) → is_number k n ≡ true → k ≡ n
same_number k n e = grind arith

-- ---- what was made of other blocks

module _ (G : Head → Type 0) (head_at : ℕ → Head) where
  -- The number is that of none of the blocks, or tells a head of which the same holds as of theirs.
  elsewhere_or : (n : ℕ) (blocks : List Around) → AreTold head_at blocks → AllByRecursion (λ a. G (head_of a.head.now)) blocks → IsElsewhere n blocks ⊎ G (head_at n)
  elsewhere_or n [] told each = inl tt
  elsewhere_or n (a ∷ rest) told each = by (is_number a.number n) refl (elsewhere_or n rest told.1 each.1)
    where
      by : (b : Bool) → is_number a.number n ≡ b → IsElsewhere n rest ⊎ G (head_at n) → IsElsewhere n (a ∷ rest) ⊎ G (head_at n)
      by true e inside = inr (subst (λ (k : ℕ). G (head_at k)) (same_number a.number n e) (subst G (sym told.0) each.0))
      by false e inside = elim inside [ inl apart ↦ inl (e, apart) | inr here ↦ inr here ]

  pub others_of : {V : Type 0} (blocks : List Around) (old new : List (ℕ × V)) → KeepsOthers blocks old new → AreTold head_at blocks
      → AllByRecursion (λ a. G (head_of a.head.now)) blocks → AreMade (λ h v. G h) head_at old → AreMade (λ h v. G h) head_at new
  others_of blocks old new kept told each was n v found = elim (elsewhere_or n blocks told each) [
    | inl apart ↦ was n v (sym (kept n apart) ∙ found)
    | inr here ↦ here
  ]

-- ---- marks

pub marked_here : (marks : List Bool) (table : ℕ) → IsMarked (set marks table true) table
marked_here [] table = refl
marked_here (m ∷ marks) zero = refl
marked_here (m ∷ marks) (suc table) = marked_here marks table

pub marked_still : (marks : List Bool) (table w : ℕ) → IsMarked marks w → IsMarked (set marks table true) w
marked_still [] table w e = refl
marked_still (m ∷ marks) zero zero e = refl
marked_still (m ∷ marks) zero (suc w) e = e
marked_still (m ∷ marks) (suc table) zero e = e
marked_still (m ∷ marks) (suc table) (suc w) e = marked_still marks table w e

module _ (t : Tables) (marks : List Bool) where
  pub marked_more : (more : List Bool) → ((w : ℕ) → IsMarked marks w → IsMarked more w) → {V : Type 0} (head_at : ℕ → Head) (made : List (ℕ × V))
      → AreOfMarked t marks head_at made → AreOfMarked t more head_at made
  marked_more more still head_at made right n v found = all_each (IsMarked marks) (IsMarked more) still (named_by t (head_at n).pattern) (right n v found)

  both_marked : (o : Option Pattern) (q : Pattern) → AreMarked t marks (Some (u.under o q)) → AreMarked t marks o × AreMarked t marks (Some q)
  both_marked None q m = (tt, m)
  both_marked (Some p) q m =
      let parts = subst (λ (l : List ℕ). AllByRecursion (IsMarked marks) l) (names_in_block t p q) m in
      (all_left (IsMarked marks) (tables_named t p) (tables_named t q) parts, all_right (IsMarked marks) (tables_named t p) (tables_named t q) parts)

  heads_marked : (blocks : List Around) (own : Constructor) → AreMarked t marks (Some (under (heads_of blocks) own).pattern)
      → AllByRecursion (λ a. AreMarked t marks (head_of a.head.now).pattern) blocks
  heads_marked [] own m = tt
  heads_marked (a ∷ rest) own m =
      let parts = both_marked (head_of a.head.now).pattern (under (heads_of rest) own).pattern m in
      (parts.0, heads_marked rest own parts.1)

  -- What was made anew is of the blocks round a constructor whose names are marked.
  pub made_marked : (blocks : List Around) (own : Constructor) → AreMarked t marks (Some (under (heads_of blocks) own).pattern) → {V : Type 0} (head_at : ℕ → Head)
      → AreTold head_at blocks → (old new : List (ℕ × V)) → KeepsOthers blocks old new → AreOfMarked t marks head_at old → AreOfMarked t marks head_at new
  made_marked blocks own m head_at told old new kept was =
      others_of (λ h. AreMarked t marks h.pattern) head_at blocks old new kept told (heads_marked blocks own m) was

-- ---- a table that is put

module _ (b next : Below) (l : TokenLists) (table : ℕ) (same : AreSameBut table b next l) (head_at : ℕ → Head) (made : HeadsMade)
    (apart : get_or made.marks.items table true ≡ false) (right : AreRight b l head_at made) where
  abbrev t : Tables
  t = b.tables.now

  abbrev s : Shapes
  s = shapes_in b l

  abbrev r : Shapes
  r = shapes_in next l

  abbrev h : List (Option Cube)
  h = b.hulls.now

  abbrev k : List (Option Cube)
  k = next.hulls.now

  abbrev marks : List Bool
  marks = made.marks.items

  agree : (w : ℕ) → IsMarked marks w → Agree t s r h k w
  agree w marked =
      let other : w ≢ table = λ e. let f : true ≡ false = sym marked ∙ ap (λ n. get_or marks n true) e ∙ apart in absurd (cc f) in
      record { shape = same.shapes w other; hull = alike_same (hull_at h w) (hull_at k w) (same.hulls w other) }

  agree_all : (x : Head) (p : Pattern) → x.pattern ≡ Some p → AreMarked t marks x.pattern → AllByRecursion (Agree t s r h k) (tables_named t p)
  agree_all x p is marked = all_each (IsMarked marks) (Agree t s r h k) agree (tables_named t p) (subst (λ (o : Option Pattern). AreMarked t marks o) is marked)

  alike : (p : Pattern) → AllByRecursion (Agree t s r h k) (tables_named t p) → AreAlike t (λ q. extent_bytes (extent_of t s q)) (λ q. extent_bytes (extent_of t r q)) h k p
  alike p all = alike_extents t s r h k p all

  shapes_put : AreMade (IsHeadShape next l) head_at made.shapes
  shapes_put n v found p is =
      let i = right.shapes n v found p is in
      let all = agree_all (head_at n) p is (right.shapes_marked n v found) in
      record {
        want = i.want;
        gets = gets_same next l r i.want v i.gets.there i.gets.is (shown next l same.there);
        shape = subst (λ (u : Tables). shape_of u r p ≡ Some i.want) same.tables (sym (shape_same t s r h k p all) ∙ i.shape);
        sound = subst (λ (u : Tables). ShapeTells u r k p None) same.tables (sound_same t s r h k p all i.sound);
      }

  windows_put : AreMade (IsHeadWindow (by_extents t r k)) head_at made.windows
  windows_put n v found p is =
      let w = right.windows n v found p is in
      let all = agree_all (head_at n) p is (right.windows_marked n v found) in
      let looks = constrains_alike t (λ q. extent_bytes (extent_of t s q)) (λ q. extent_bytes (extent_of t r q)) h k p (alike p all) 0 in
      (w.0, end_same (PatternConstrains (by_extents t s h) p 0) (PatternConstrains (by_extents t r k) p 0) looks w.0 w.1, w.2)

  sets_put : AreMade (AreHeadCubes (by_extents t r k)) head_at made.sets
  sets_put n v found p is = (
    λ x range.
        let here = (right.sets n v found p is).0 x range in
        let all = agree_all (head_at n) p is (right.sets_marked n v found) in
        let holds = holds_alike t (λ q. extent_bytes (extent_of t s q)) (λ q. extent_bytes (extent_of t r q)) h k p (alike p all) 0 x range in
        (λ i. holds.0 (here.0 i), λ w. here.1 (holds.1 w)),
    (right.sets n v found p is).1,
  )

  marks_put : {V : Type 0} (xs : List (ℕ × V)) → AreOfMarked t marks head_at xs → AreOfMarked next.tables.now marks head_at xs
  marks_put xs m = subst (λ (u : Tables). AreOfMarked u marks head_at xs) same.tables m

  -- Putting a table that no head names keeps what was made of them.
  pub right_put : AreRight next l head_at made
  right_put = record {
    there = same.there;
    counts = subst (λ (u : Tables). AreMade (IsHeadCount u) head_at made.counts) same.tables right.counts;
    shapes = shapes_put;
    windows = subst (λ (u : Tables). AreMade (IsHeadWindow (by_extents u r k)) head_at made.windows) same.tables windows_put;
    sets = subst (λ (u : Tables). AreMade (AreHeadCubes (by_extents u r k)) head_at made.sets) same.tables sets_put;
    shapes_marked = marks_put made.shapes right.shapes_marked;
    windows_marked = marks_put made.windows right.windows_marked;
    sets_marked = marks_put made.sets right.sets_marked;
  }
